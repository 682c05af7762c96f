-- `panel::member::is_member`: a list of numbers as a row of words, any other a step at a time. Assumes nothing.
use Rattle.std.proofs.Common.{◌≡◌, ℕ, Bool, true, sym, refl, ◌∙◌, rules}
use Rattle.panel.specs.Words.{plain_width, Plain, laid_out}
use Rattle.panel.proofs.Rows.{Numbers, numbers, width_small, Laid, laid, in_row}
use Rattle.panel.proofs.member.is_member.Statement.{statement}
use Rattle.panel.proofs.member.is_member.Tie as tie

-- what the test says of the type and of the bytes
tested : (t : ℕ) {w n first size own : ℕ} {r : Bool} → w ≡ plain_width t → r ≡ laid_out w n first size own → r ≡ true → Laid w n first size own × Numbers t w × Plain w
tested t {w} {n} {first} {size} {own} e f g =
    let l = laid w n first size own (sym f ∙ g) in
    let k = numbers t (λ z. l.some (e ∙ z)) in
    (l, rw e k.0, rw e k.1)

holds-requires : tie.Need-holds-requires
holds-requires c κs =
    let a = c.args in
    let l = tested c.args.code c.plain_width-w.ensures c.laid_out.ensures c.if-laid_out.true in
    (l.2, l.0.there, l.0.wide)

returns : tie.Need-returns-then-laid_out
returns c =
    let a = c.args in
    let l = tested a.code c.plain_width-w.ensures c.laid_out.ensures c.if-laid_out.true in
    record { finds = λ vs v y g. c.holds.ensures ∙ sym (in_row l.1 a.description.now a.chosen.now v g a.count a.first vs (a.description, refl, y) l.0.there) }

pub is_member_spec : {M : Type 1} → statement M
is_member_spec =
    tie.close
    (tie.spec
    (λ c κs. search rules)
    (λ c κs. rw c.plain_width-w.ensures (width_small c.args.code))
    holds-requires
    returns
    (λ c κs. search rules)
    (λ c. search rules))
