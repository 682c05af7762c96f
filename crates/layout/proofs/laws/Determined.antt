-- Two answers that a promise allows are the same: one shape for readers and for writers.
-- Assumes nothing.
use Rattle.layout.specs.Answer.{says_count}
use Rattle.std.specs.Prelude.{Ok, Err}
use Rattle.std.specs.declared.result.Result.{Result}
use Rattle.layout.specs.declared.Refusal.{Refusal}
use mathlib.Core.Path.{◌≡◌, ap, sym, ◌∙◌}
use mathlib.Core.List.{List}
use Prim.Native.Nat.{ℕ}
use Rattle.layout.specs.Answer.{Answer}
use Rattle.layout.specs.Written.{Said, Wrote, Put}
use Rattle.layout.proofs.laws.Numbers.{zero_one}

-- what an answer says determines it
abbrev pub Tells : {R A : Type 0} → (R → A) → Type 0
Tells {R} says = (x y : R) → says x ≡ says y → x ≡ y

-- what can be had back from what it says is determined by it
pub retracts : {R A : Type 0} {says : R → A} (back : A → R) → ((r : R) → back (says r) ≡ r) → Tells says
retracts back h x y e = sym (h x) ∙ ap back e ∙ h y

pub reads_one : {R A : Type 0} {says : R → A} → Tells says → (what : A) (x y : R) → says x ≡ what → says y ≡ what → x ≡ y
reads_one tells what x y h k = tells x y (h ∙ sym k)

writes_one : {R : Type 0} {says : R → Answer (Unit {0})} → Tells says → (s : Said) (old new new' : List ℕ) (x y : R)
    → Wrote s old (says x) new → Wrote s old (says y) new' → (x ≡ y) × (new ≡ new')
writes_one tells s old new new' x y p q = (tells x y (p.answers ∙ sym q.answers), p.leaves ∙ sym q.leaves)

-- a step of a writer that is total
pub one_put : {old new new' bs : List ℕ} {at next next' : ℕ} → Put old at bs new next → Put old at bs new' next' → (new ≡ new') × (next ≡ next')
one_put p q = (p.bytes ∙ sym q.bytes, p.place ∙ sym q.place)

-- every writer's answer
pub tells_written : Tells says_count
tells_written (Ok n) (Ok m) e = cc
tells_written (Ok n) (Err u) e = zero_one (cc)
tells_written (Err t) (Ok m) e = zero_one (cc)
tells_written (Err t) (Err u) e = cc

-- and how many there are
pub tells_checked : Tells says_count
tells_checked (Ok n) (Ok m) e = cc
tells_checked (Ok n) (Err t) e = zero_one (cc)
tells_checked (Err t) (Ok n) e = zero_one (cc)
tells_checked (Err t) (Err u) e = cc

pub one_written : (s : Said) (old new new' : List ℕ) (x y : (Result ℕ Refusal)) → Wrote s old (says_count x) new → Wrote s old (says_count y) new' → (x ≡ y) × (new ≡ new')
one_written = writes_one tells_written
