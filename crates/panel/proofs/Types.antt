-- What a type code says: UNDEF alone is read as nothing, and 0x0001 to 0x0008 are integers of 8 to 64 bits.
-- Assumes nothing.
use Rattle.std.proofs.Common.{◌≡◌, ℕ, zero, suc, ◌<◌, ◌≤◌, Bool, true, false, leb, List, refl, arith, lit≤, le-leb}
use borrow.Author.Tests.{lt-leb}
use Rattle.layout.specs.Answer.{Answer, got, refused, means}
use Rattle.layout.proofs.laws.Numbers.{zero_one}
use Rattle.wire.specs.Layout.{sint, uint, width, Shape, one, many, string, undef, shape}
use Rattle.wire.specs.Places.{num_at, array_at, text_at, Located, shape_at}
use Rattle.panel.specs.Panel.{is_undef, integral}
use Rattle.panel.specs.Words.{is_nothing}

abbrev pub nothing_in : Answer Located → Bool
nothing_in (got l n) = is_nothing l
nothing_in (refused t) = false

named : {A : Type 0} (f : A → Located) (x : Answer A) → ((a : A) → is_nothing (f a) ≡ false) → nothing_in (means f x) ≡ false
unfolding means
named f (got a n) h = h a
named f (refused t) h = refl

pub undef_alone : (x : Shape) (s : List ℕ) (at : ℕ) → nothing_in (shape_at x s at) ≡ is_undef x
unfolding shape_at
undef_alone (one k) s at = named _ (num_at (width k) s at) λ n. refl
undef_alone (many k) s at = named _ (array_at (width k) s at) λ p. refl
undef_alone string s at = named _ (text_at s at) λ p. refl
undef_alone undef s at = refl

-- an integer of 8 to 64 bits, signed or not
pub data Small : Shape → Type 0 where
  signed : (w : ℕ) → w ≤ 8 → Small (one (sint w))
  unsigned : (w : ℕ) → w ≤ 8 → Small (one (uint w))

over : (t : ℕ) → 8 < t → integral t ≡ true → ⊥
over t h e = let f : leb 1 t ≡ true = le-leb 1 t (omega arith) in let g : leb t 8 ≡ false = lt-leb t 8 h in zero_one (cc)

pub small : (t : ℕ) → integral t ≡ true → Small (shape t)
small zero e = zero_one (cc)
small (suc zero) e = signed 1 (lit≤ tt)
small (suc (suc zero)) e = unsigned 1 (lit≤ tt)
small (suc (suc (suc zero))) e = signed 2 (lit≤ tt)
small (suc (suc (suc (suc zero)))) e = unsigned 2 (lit≤ tt)
small (suc (suc (suc (suc (suc zero))))) e = signed 4 (lit≤ tt)
small (suc (suc (suc (suc (suc (suc zero)))))) e = unsigned 4 (lit≤ tt)
small (suc (suc (suc (suc (suc (suc (suc zero))))))) e = signed 8 (lit≤ tt)
small (suc (suc (suc (suc (suc (suc (suc (suc zero)))))))) e = unsigned 8 (lit≤ tt)
small (suc (suc (suc (suc (suc (suc (suc (suc (suc n))))))))) e = absurd (over (suc (suc (suc (suc (suc (suc (suc (suc (suc n))))))))) (omega arith) e)
