use Rattle.std.proofs.lemmas.Result.{err_from_is_err_and}
use Rattle.std.proofs.Common.{◌≡◌, ℕ, List, [], ◌∷◌}
use Rattle.layout.specs.Answer.{Told, Answer, got, refused}
use Rattle.layout.specs.Written.{says, Wrote}
use Rattle.layout.proofs.laws.Writing.{refusal}
use Rattle.abi.specs.Recorded.{counted}
use Rattle.abi.proofs.recorded.give_records.Goals as goal

count-given : {x : Answer ℕ} {k n : ℕ} {old new : List ℕ} {answer : Answer (Unit {0})} → got k n ≡ x → Wrote (says (k ∷ [])) old answer new → Wrote (counted x) old answer new
count-given e w = rw (← e) w

count_refused : {x : Answer ℕ} {t : Told} {old : List ℕ} → refused t ≡ x → Wrote (counted x) old (refused t) old
count_refused e = refusal (rw (← e))

pub returns-in_err-n : goal.returns-in_err-n
returns-in_err-n c =
    let p = err_from_is_err_and c.from_residual.result c.from_residual.ensures.1 in
    rw (p.1, p.2) (count_refused c.in_err-n.ensures)

pub returns : goal.returns
returns c = count-given c.in_ok-n.ensures c.give.ensures
