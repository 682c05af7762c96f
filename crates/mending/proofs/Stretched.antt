-- Laws of a stretch: none or one, and what is stored of it.
-- Assumes nothing.
use Rattle.std.proofs.Common.{◌≡◌, ℕ, zero, suc, ◌+◌, ◌-◌, ◌<◌, ltb, leb, List, [], ◌∷◌, length, set, sym, refl, ap, ◌∙◌, arith, lt-ltb, le-leb}
use Rattle.layout.specs.Written.{Put}
use Rattle.layout.proofs.laws.Writing.{start, byte, end}
use Rattle.mending.specs.Mended.{part, stretch}

pub stretch_none : (place : ℕ) {n : ℕ} → n ≡ 0 → stretch place n ≡ []
stretch_none place e = rw e

pub stretch_one : (place n : ℕ) → 0 < n → stretch place n ≡ part (place - n) n ∷ []
stretch_one place n h = rw (lt-ltb 0 n h)

-- one number is stored
pub put_one : (out : List ℕ) (at x : ℕ) → Put out at (x ∷ []) (set out at x) (at + 1)
put_one out at x = end refl (byte refl start)

pub first_slot : (left : ℕ) → ltb 0 left ≡ leb 1 left
first_slot zero = refl
first_slot (suc n) = lt-ltb 0 (suc n) (omega arith) ∙ sym (le-leb 1 (suc n) (omega arith))

pub one_slot : (place n : ℕ) → 0 < n → length (stretch place n) ≡ 1
one_slot place n h = ap length (stretch_one place n h)
