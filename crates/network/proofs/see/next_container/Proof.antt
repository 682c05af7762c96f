-- `network::see::next_container`: an arm for each stage. Assumes nothing.
use Rattle.network.specs.declared.see.Stage.TheVariants as stage
use mathlib.Core.Path.{◌≡◌}
use Rattle.network.specs.Translated.{next_container}
use borrow.Author.Rules.{rules}
use Rattle.network.proofs.see.next_container.Statement.{statement}
use Rattle.network.proofs.see.next_container.Tie as tie

returns : tie.Need-returns-in-First
unfolding next_container
returns c =
    let e : c.args.k ≡ stage.First = cc in
    rw (e, c.stage_if.ensures, c.and-in-First.ensures, c.five_whole-in-First.ensures)

returns-2 : tie.Need-returns-in-Asked
unfolding next_container
returns-2 c =
    let e : c.args.k ≡ stage.Asked = cc in
    rw (e, c.stage_if-in-Asked.ensures, c.and-in-Asked.ensures, c.stage_if-answers.ensures, c.and.ensures, c.five_whole.ensures)

returns-3 : tie.Need-returns-in-Started
unfolding next_container
returns-3 c =
    let e : c.args.k ≡ stage.Started = cc in
    rw (e)

returns-4 : tie.Need-returns-in-Whole
unfolding next_container
returns-4 c =
    let e : c.args.k ≡ stage.Whole = cc in
    rw (e, c.stage_if-answers.ensures, c.and.ensures, c.five_whole.ensures)

returns-5 : tie.Need-returns-in-Answered
unfolding next_container
returns-5 c =
    let e : c.args.k ≡ stage.Answered = cc in
    rw (e)

returns-6 : tie.Need-returns-in-Not
unfolding next_container
returns-6 c =
    let e : c.args.k ≡ stage.Not = cc in
    rw (e)

pub next_container_spec : {M : Type 1} → statement M
next_container_spec =
    tie.close
    (tie.spec
    (λ c κs. search rules)
    (λ c κs. search rules)
    (λ c κs. search rules)
    (λ c. search rules)
    (λ c κs. search rules)
    (λ c κs. search rules)
    (λ c κs. search rules)
    (λ c. search rules)
    (λ c κs. search rules)
    (λ c κs. search rules)
    (λ c. search rules)
    (λ c. search rules)
    (λ c. search rules)
    (λ c. search rules)
    returns
    returns-2
    returns-3
    returns-4
    returns-5
    returns-6)
