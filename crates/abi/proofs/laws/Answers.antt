-- What is given, by what was read: a reading as its row of numbers, a refusal as it is. And rows that stand inside rows.
-- Assumes nothing.
use Rattle.std.proofs.Common.{◌≡◌, ℕ, zero, suc, Bool, true, false, List, [], ◌∷◌, length, get_or, sym, refl, ap, suc-ne-zero}
use native.Mathlib.Nat.{suc_inj}
use Rattle.layout.specs.Answer.{Told, Answer, got, refused, after}
use Rattle.layout.specs.Written.{says, Wrote}
use Rattle.layout.proofs.laws.Numbers.{zero_one}
use Rattle.layout.proofs.laws.Writing.{refusal}
use Rattle.session.specs.Payloads.{filling}
use Rattle.recording.specs.Content.{Content}
use Rattle.recording.specs.Content as content
use Rattle.wire.specs.Description.{Form}
use Rattle.wire.specs.Description as form
use Rattle.abi.specs.Answered.{given}
use Rattle.wire.specs.Layout.{int, nat, pair, storage}
use Rattle.wire.specs.Places.{Located, number_is, items, units, empty, row_at}
use Rattle.abi.specs.Rows.{form_row, content_row, value_row, end_of, storage_answer}

module _ {A : Type 0} (row : A → List ℕ) {x : Answer A} {old : List ℕ} where
  pub row_given : {a : A} {n : ℕ} {ns new : List ℕ} {answer : Answer (Unit {0})} → got a n ≡ x → ns ≡ n ∷ row a → Wrote (says ns) old answer new → Wrote (given row x) old answer new
  row_given e f w = rw (← e, ← f) w

  pub row_refused : {t : Told} → refused t ≡ x → Wrote (given row x) old (refused t) old
  row_refused e = refusal (rw (← e))

-- a storage record that was read and ends where it may; one that does not; and none
module _ (s : List ℕ) where
  pub storage-ends : (fills : Bool) {ls : List Located} {n end : ℕ} → got ls n ≡ row_at storage s 0 → got tt end ≡ end_of fills s n → got ls end ≡ storage_answer fills s
  unfolding filling after
  storage-ends true e f = rw (← e, ← f)
  storage-ends false e f = cc (e, f)

  pub storage-trailed : (fills : Bool) {ls : List Located} {n : ℕ} {t : Told} → got ls n ≡ row_at storage s 0 → refused t ≡ end_of fills s n → refused t ≡ storage_answer fills s
  unfolding filling after
  storage-trailed true e f = rw (← e, ← f)
  storage-trailed false e f = zero_one (cc f)

  pub storage_refused : (fills : Bool) {t : Told} → refused t ≡ row_at storage s 0 → refused t ≡ storage_answer fills s
  unfolding filling after
  storage_refused true e = rw (← e)
  storage_refused false e = e

abbrev tabulate : ℕ → (ℕ → ℕ) → List ℕ
tabulate zero f = []
tabulate (suc n) f = f 0 ∷ tabulate n (λ i. f (suc i))

-- a row of n numbers, one by one
pub spread : (n : ℕ) (l : List ℕ) → length l ≡ n → tabulate n (λ i. get_or l i 0) ≡ l
spread zero [] e = refl
spread (suc n) [] e = absurd (suc-ne-zero n (sym e))
spread zero (x ∷ l) e = absurd (suc-ne-zero (length l) e)
spread (suc n) (x ∷ l) e = ap (λ (k : List ℕ). x ∷ k) (spread n l (suc_inj e))

pub form-long : (f : Form) → length (form_row f) ≡ 7
form-long form.absent = refl
form-long (form.range a b c) = refl
form-long (form.list p n) = refl

pub content-long : (x : Content) → length (content_row x) ≡ 5
content-long content.note = refl
content-long (content.holds x) = refl

pub value-long : (l : Located) → length (value_row l) ≡ 3
value-long (number_is (int z)) = refl
value-long (number_is (nat n)) = refl
value-long (number_is (pair h l)) = refl
value-long (items p) = refl
value-long (units p) = refl
value-long empty = refl
