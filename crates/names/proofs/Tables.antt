-- The rule of each table, proved at all of its entries by one test that is computed: an entry's start and length are those of the
-- paper's name with the names before it end to end, it lies within the name bytes, and it is not long.
-- Assumes nothing.
use mathlib.Core.Path.{◌≡◌, refl}
use mathlib.Core.Bool.{Bool, true, false}
use mathlib.Core.List.{List, [], ◌∷◌}
use Prim.Native.Nat.{ℕ, zero, suc, ◌+◌, ◌≤◌, ◌<◌}
use Prim.Native.String.{String}
use native.Mathlib.Omega.{arith}
use native.Mathlib.Nat.{not-suc-le-zero}
use borrow.Author.Tests.{eqb-true, eqb-false}
use lib.Dec.{T, eqb, leb, eqb→eq, leb→le}
use lib.ListN.{length, get_or}
use Rattle.names.specs.Names.{responses, commands, joined, place_at}

-- ── the tables of the code ──

unfoldable pub response_starts : List ℕ
response_starts = 0 ∷ 9 ∷ 11 ∷ 23 ∷ 37 ∷ 57 ∷ 78 ∷ 99 ∷ 117 ∷ 133 ∷ 152 ∷ 174 ∷ 197 ∷ 206 ∷ 226 ∷ 239 ∷ 251 ∷ 269 ∷ 283 ∷ 298 ∷ 315 ∷ 347 ∷ 364 ∷ 381 ∷ 398 ∷ 422 ∷ 432 ∷ 451 ∷ 474 ∷ 496 ∷ 512 ∷ 530 ∷ 550 ∷ []

unfoldable pub response_lengths : List ℕ
response_lengths = 9 ∷ 2 ∷ 12 ∷ 14 ∷ 20 ∷ 21 ∷ 21 ∷ 18 ∷ 16 ∷ 19 ∷ 22 ∷ 23 ∷ 9 ∷ 20 ∷ 13 ∷ 12 ∷ 18 ∷ 14 ∷ 15 ∷ 17 ∷ 32 ∷ 17 ∷ 17 ∷ 17 ∷ 24 ∷ 10 ∷ 19 ∷ 23 ∷ 22 ∷ 16 ∷ 18 ∷ 20 ∷ 37 ∷ []

unfoldable pub command_starts : List ℕ
command_starts = 587 ∷ 596 ∷ 609 ∷ 620 ∷ 632 ∷ 645 ∷ 659 ∷ 672 ∷ 688 ∷ 701 ∷ 710 ∷ 718 ∷ 730 ∷ 744 ∷ 754 ∷ 769 ∷ 780 ∷ 791 ∷ 799 ∷ 818 ∷ 827 ∷ 844 ∷ 862 ∷ 880 ∷ 900 ∷ 920 ∷ 930 ∷ 940 ∷ 956 ∷ []

unfoldable pub command_lengths : List ℕ
command_lengths = 9 ∷ 13 ∷ 11 ∷ 12 ∷ 13 ∷ 14 ∷ 13 ∷ 16 ∷ 13 ∷ 9 ∷ 8 ∷ 12 ∷ 14 ∷ 10 ∷ 15 ∷ 11 ∷ 11 ∷ 8 ∷ 19 ∷ 9 ∷ 17 ∷ 18 ∷ 18 ∷ 20 ∷ 20 ∷ 10 ∷ 10 ∷ 16 ∷ 19 ∷ []

-- ── a test at each number below n ──

both : Bool → Bool → Bool
both true b = b
both false b = false

apart : (a b : Bool) → T (both a b) → T a × T b
unfolding both
apart true b t = (tt, t)
apart false b t = absurd t

below : (ℕ → Bool) → ℕ → Bool
below test zero = true
below test (suc n) = both (test n) (below test n)

each : (test : ℕ → Bool) (n : ℕ) → T (below test n) → (k : ℕ) → k < n → T (test k)
unfolding below
each test zero t k h = absurd (not-suc-le-zero h)
each test (suc n) t k h = go (eqb k n) refl (each test n (apart (test n) (below test n) t).1 k)
  where
    go : (b : Bool) → eqb k n ≡ b → (k < n → T (test k)) → T (test k)
    go true e f = rw (eqb-true k n e) (apart (test n) (below test n) t).0
    go false e f = f (omega (arith, eqb-false k n e))

-- ── the rule ──

pub record Ruled (first : ℕ) (names : List String) (starts lengths : List ℕ) (k : ℕ) : Type 0 where
  pub start : get_or starts k 0 ≡ (place_at first names k).0
  pub len : get_or lengths k 0 ≡ (place_at first names k).1
  pub inside : get_or starts k 0 + get_or lengths k 0 ≤ 975
  pub short : get_or lengths k 0 ≤ 37

ruled? : ℕ → List String → List ℕ → List ℕ → ℕ → Bool
ruled? first names starts lengths k =
    let a = get_or starts k 0 in
    let n = get_or lengths k 0 in
    let p = place_at first names k in
    both (both (eqb a p.0) (eqb n p.1)) (both (leb (a + n) 975) (leb n 37))

-- tested, an entry keeps the rule
kept : (first : ℕ) (names : List String) (starts lengths : List ℕ) (k : ℕ) → T (ruled? first names starts lengths k) → Ruled first names starts lengths k
unfolding ruled?
kept first names starts lengths k t =
    let a = get_or starts k 0 in
    let n = get_or lengths k 0 in
    let p = place_at first names k in
    let u = apart (both (eqb a p.0) (eqb n p.1)) (both (leb (a + n) 975) (leb n 37)) t in
    let v = apart (eqb a p.0) (eqb n p.1) u.0 in
    let w = apart (leb (a + n) 975) (leb n 37) u.1 in
    record { start = eqb→eq a p.0 v.0; len = eqb→eq n p.1 v.1; inside = leb→le (a + n) 975 w.0; short = leb→le n 37 w.1 }

pub response_ruled : (k : ℕ) → k < 33 → Ruled 0 responses response_starts response_lengths k
unfolding responses response_starts response_lengths below both ruled?
response_ruled k h = kept 0 responses response_starts response_lengths k (each (ruled? 0 responses response_starts response_lengths) 33 tt k h)

pub command_ruled : (k : ℕ) → k < 29 → Ruled (length (joined responses)) commands command_starts command_lengths k
unfolding responses commands command_starts command_lengths below both ruled?
command_ruled k h = kept (length (joined responses)) commands command_starts command_lengths k (each (ruled? (length (joined responses)) commands command_starts command_lengths) 29 tt k h)
