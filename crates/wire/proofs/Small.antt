-- Units that are small. Below the surrogates they pair; below 0x80 their UTF-8 is themselves, also where others follow.
-- Assumes nothing.
use mathlib.Core.Path.{◌≡◌, refl, sym, ap, ◌∙◌}
use mathlib.Core.Bool.{true, false}
use mathlib.Core.List.{List, [], ◌∷◌, ◌++◌, append-nil}
use Prim.Native.Nat.{ℕ, suc, ◌+◌, ◌*◌, ◌/◌, ◌≤◌, ◌<◌}
use native.Mathlib.Numerals.{add-one}
use native.Mathlib.Omega.{arith}
use borrow.Author.Tests.{ne_eqb}
use lib.ListN.{length, take, drop, get_or}
use Rattle.layout.specs.Bytes.{number, cells}
use Rattle.layout.proofs.laws.Reading.{number_front}
use Rattle.wire.specs.Layout.{high, pairs}
use Rattle.wire.specs.Utf8.{points, encoded_all, utf8, NoneAbove}
use Rattle.wire.proofs.Spelled.{length_cells}
use Rattle.wire.proofs.laws.Points.{one_is, utf8_alone}

-- ── one by one ──

pub unit_is : (s : List ℕ) (o : ℕ) → o + 1 < length s → number (take 2 (drop o s)) ≡ get_or s o 0 + 256 * get_or s (o + 1) 0
unfolding number
unit_is s o h = rw (number_front s o 1 (omega arith), number_front s (suc o) 0 (omega arith), add-one) (omega arith)

pub above_more : {m k : ℕ} (us : List ℕ) → m ≤ k → NoneAbove m us → NoneAbove k us
above_more [] h a = tt
above_more (u ∷ us) h a = (omega arith, above_more us h a.1)

-- ── they pair ──

pub small_pairs : (p m : ℕ) (us : List ℕ) → high p ≡ false → m < 0xD800 → NoneAbove m us → true ≡ pairs p us
unfolding pairs
small_pairs p m [] hp h a = rw hp
small_pairs p m (u ∷ us) hp h a =
    rw (hp, ne_eqb (u / 1024) 55 (λ e. omega arith)) (small_pairs u m us (ne_eqb (u / 1024) 54 (λ e. omega arith)) h a.1)

-- ── below 0x80 they are their own UTF-8 ──

-- where they stand first
pub ascii_before : (block us : List ℕ) → NoneAbove 0x7F block → utf8 (block ++ us) ≡ block ++ utf8 us
ascii_before [] us a = refl
ascii_before (u ∷ block) us a = utf8_alone u (block ++ us) (λ e. omega arith) ∙ rw (one_is u (omega arith), ascii_before block us a.1)

pub ascii_utf8 : (us : List ℕ) → NoneAbove 0x7F us → utf8 us ≡ us
unfolding utf8 encoded_all points
ascii_utf8 us a = ap utf8 (sym (append-nil us)) ∙ ascii_before us [] a ∙ append-nil us

pub ascii_long : (n : ℕ) (s : List ℕ) → NoneAbove 0x7F (cells 2 n s) → length (utf8 (cells 2 n s)) ≡ n
ascii_long n s a = ap length (ascii_utf8 (cells 2 n s) a) ∙ length_cells 2 n s
