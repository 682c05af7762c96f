-- `network::see::next_packet`: an arm for each stage. Assumes nothing.
use Rattle.network.specs.declared.see.Stage.TheVariants as stage
use mathlib.Core.Path.{◌≡◌}
use Rattle.network.specs.Translated.{next_packet}
use borrow.Author.Rules.{rules}
use Rattle.network.proofs.see.next_packet.Statement.{statement}
use Rattle.network.proofs.see.next_packet.Tie as tie

returns : tie.Need-returns-in-First
unfolding next_packet
returns c =
    let e : c.args.k ≡ stage.First = cc in
    rw (e, c.stage_if.ensures, c.and-in-First.ensures)

returns-2 : tie.Need-returns-in-Asked
unfolding next_packet
returns-2 c =
    let e : c.args.k ≡ stage.Asked = cc in
    rw (e, c.stage_if-in-Asked.ensures, c.stage_if-answers.ensures, c.and.ensures)

returns-3 : tie.Need-returns-in-Started
unfolding next_packet
returns-3 c =
    let e : c.args.k ≡ stage.Started = cc in
    rw (e, c.stage_if-in-Started-2.ensures, c.stage_if-in-Started.ensures)

returns-4 : tie.Need-returns-in-Whole
unfolding next_packet
returns-4 c =
    let e : c.args.k ≡ stage.Whole = cc in
    rw (e, c.stage_if-answers.ensures, c.and.ensures)

returns-5 : tie.Need-returns-in-Answered
unfolding next_packet
returns-5 c =
    let e : c.args.k ≡ stage.Answered = cc in
    rw (e)

returns-6 : tie.Need-returns-in-Not
unfolding next_packet
returns-6 c =
    let e : c.args.k ≡ stage.Not = cc in
    rw (e)

pub next_packet_spec : {M : Type 1} → statement M
next_packet_spec =
    tie.close
    (tie.spec
    (λ c κs. search rules)
    (λ c κs. search rules)
    (λ c. search rules)
    (λ c κs. search rules)
    (λ c κs. search rules)
    (λ c. search rules)
    (λ c κs. search rules)
    (λ c. search rules)
    (λ c κs. search rules)
    (λ c κs. search rules)
    (λ c. search rules)
    (λ c. search rules)
    (λ c. search rules)
    returns
    returns-2
    returns-3
    returns-4
    returns-5
    returns-6)
