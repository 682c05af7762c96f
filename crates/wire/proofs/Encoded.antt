-- A code point's bytes are those of its bit pattern, and no others; so a string's are, from its units. And the rows at the limits, computed.
-- Assumes nothing.
use mathlib.Core.Path.{◌≡◌, refl, ap, sym, ◌∙◌, subst}
use mathlib.Core.Bool.{Bool, true, false, not}
use mathlib.Core.Logic.{◌↔◌, ◌⊎◌, inl, inr}
use mathlib.Core.List.{List, [], ◌∷◌, ◌++◌}
use Prim.Native.Nat.{ℕ, ◌/◌, ◌%◌, ◌≤◌, ◌<◌, zero, suc}
use native.Mathlib.Omega.{arith}
use borrow.Author.Tests.{ltb-true, ltb-false, eqb-true, eqb-false, ne_eqb}
use lib.Dec.{ltb}
use Rattle.layout.specs.Answer.{pick, got}
use Rattle.layout.specs.Bytes.{Bytes}
use Rattle.layout.specs.Grammar.{loose, empty, Number, num, both, lead, such, as', Repeat}
use Rattle.layout.proofs.laws.Make.{tested}
use Rattle.layout.proofs.laws.Meets.{sound_at, complete_at}
use Rattle.layout.proofs.laws.Numbers.{zero_one}
use Rattle.layout.proofs.laws.Reading.{meant, unmeant}
use Rattle.wire.specs.Layout.{high, low, pairs, paired, Text}
use Rattle.wire.specs.Places.{text_at, items_in}
use Rattle.wire.specs.Utf8.{pair_point, points, encoded, encoded_all, utf8, utf8_at}
use Rattle.wire.specs.Patterns.{Utf8, one_byte, two_bytes, three_bytes, four_bytes, Utf8All, no_point, point, Utf16, no_unit, unit, pair, Units16, Spelt8, Reads8}
use Rattle.wire.proofs.laws.Formats.{text_format}
use Rattle.wire.proofs.laws.Located.{texts}
use Rattle.wire.proofs.laws.Points.{points_alone, points_pair, one_is, two_is, three_is, four_is}

-- ── a code point ──

module _ (c : ℕ) (within : c ≤ 0x10FFFF) where
  encoded_so : Utf8 c (encoded c)
  encoded_so = go (ltb c 0x80) refl (ltb c 0x800) refl (ltb c 0x10000) refl
    where
      go : (x : Bool) → ltb c 0x80 ≡ x → (y : Bool) → ltb c 0x800 ≡ y → (z : Bool) → ltb c 0x10000 ≡ z → Utf8 c (encoded c)
      go true e y f z g = let h = ltb-true c 0x80 e in rw (one_is c h) (one_byte (omega arith))
      go false e true f z g =
          let l = ltb-false c 0x80 e in
          let h = ltb-true c 0x800 f in
          rw (two_is c l h) (two_bytes (c / 64) (c % 64) (omega arith) (omega arith) (omega arith) l (omega arith))
      go false e false f true g =
          let l = ltb-false c 0x800 f in
          let h = ltb-true c 0x10000 g in
          rw (three_is c l h) (three_bytes (c / 4096) (c / 64 % 64) (c % 64) (omega arith) (omega arith) (omega arith) (omega arith) l (omega arith))
      go false e false f false g =
          let l = ltb-false c 0x10000 g in
          rw (four_is c l) (four_bytes (c / 262144) (c / 4096 % 64) (c / 64 % 64) (c % 64) (omega arith) (omega arith) (omega arith) (omega arith) (omega arith) l within)

pub encoded_is : (c : ℕ) (w : List ℕ) → Utf8 c w → encoded c ≡ w
encoded_is c w (one_byte h) = one_is c (omega arith)
encoded_is c w (two_bytes x y a b e l h) =
    let i : c / 64 ≡ x = omega arith in
    let j : c % 64 ≡ y = omega arith in
    two_is c l (omega arith) ∙ rw (i, j)
encoded_is c w (three_bytes x y z a b d e l h) =
    let i : c / 4096 ≡ x = omega arith in
    let j : c / 64 % 64 ≡ y = omega arith in
    let k : c % 64 ≡ z = omega arith in
    three_is c l (omega arith) ∙ rw (i, j, k)
encoded_is c w (four_bytes x y z v a b d f e l h) =
    let i : c / 262144 ≡ x = omega arith in
    let j : c / 4096 % 64 ≡ y = omega arith in
    let k : c / 64 % 64 ≡ z = omega arith in
    let m : c % 64 ≡ v = omega arith in
    four_is c l ∙ rw (i, j, k, m)

-- exactly those bytes
pub encoded_exact : (c : ℕ) → c ≤ 0x10FFFF → (w : List ℕ) → encoded c ≡ w ↔ Utf8 c w
encoded_exact c h w = (λ e. subst (Utf8 c) e (encoded_so c h), encoded_is c w)

-- ── at the limits, computed ──

pub at_limits :
    (encoded 0x7F ≡ 0x7F ∷ []) × (encoded 0x80 ≡ 0xC2 ∷ 0x80 ∷ []) × (encoded 0x7FF ≡ 0xDF ∷ 0xBF ∷ []) × (encoded 0x800 ≡ 0xE0 ∷ 0xA0 ∷ 0x80 ∷ []) ×
    (encoded 0xFFFF ≡ 0xEF ∷ 0xBF ∷ 0xBF ∷ []) × (encoded 0x10000 ≡ 0xF0 ∷ 0x90 ∷ 0x80 ∷ 0x80 ∷ []) × (encoded 0x10FFFF ≡ 0xF4 ∷ 0x8F ∷ 0xBF ∷ 0xBF ∷ [])
unfolding encoded
at_limits = (refl, refl, refl, refl, refl, refl, refl)

-- ── a string ──

points_empty : points [] ≡ []
unfolding points
points_empty = refl

-- what pairing says of the next unit
next_alone : (p u : ℕ) (us : List ℕ) → high p ≡ false → pairs p (u ∷ us) ≡ true → (low u ≡ false) × (pairs u us ≡ true)
unfolding pairs
next_alone p u us e h = go (high p) e (low u) refl h
  where
    go : (a : Bool) → a ≡ false → (b : Bool) → low u ≡ b → pick (pick a b (not b)) (pairs u us) false ≡ true → (low u ≡ false) × (pairs u us ≡ true)
    go true e b f h = zero_one (cc)
    go false e true f h = zero_one (cc)
    go false e false f h = (f, h)

next_low : (p u : ℕ) (us : List ℕ) → high p ≡ true → pairs p (u ∷ us) ≡ true → (low u ≡ true) × (pairs u us ≡ true)
unfolding pairs
next_low p u us e h = go (high p) e (low u) refl h
  where
    go : (a : Bool) → a ≡ true → (b : Bool) → low u ≡ b → pick (pick a b (not b)) (pairs u us) false ≡ true → (low u ≡ true) × (pairs u us ≡ true)
    go false e b f h = zero_one (cc)
    go true e false f h = zero_one (cc)
    go true e true f h = (f, h)

never_last : (p : ℕ) → high p ≡ true → pairs p [] ≡ true → ⊥
unfolding pairs
never_last p e h = go (high p) e h
  where
    go : (a : Bool) → a ≡ true → not a ≡ true → ⊥
    go true e h = zero_one (cc)
    go false e h = zero_one (cc)

no_half : (u : ℕ) → high u ≡ false → low u ≡ false → (u < 0xD800) ⊎ (0xDFFF < u)
no_half u e f = go (ltb u 0xD800) refl
  where
    go : (b : Bool) → ltb u 0xD800 ≡ b → (u < 0xD800) ⊎ (0xDFFF < u)
    go true g = inl (ltb-true u 0xD800 g)
    go false g = inr (omega (arith, ltb-false u 0xD800 g, eqb-false (u / 1024) 54 e, eqb-false (u / 1024) 55 f))

low_not_high : (v : ℕ) → low v ≡ true → high v ≡ false
low_not_high v e = ne_eqb (v / 1024) 54 (λ f. omega (arith, eqb-true (v / 1024) 55 e))

-- units that pair, after one that is no high half
points_so : (p : ℕ) (us : List ℕ) → high p ≡ false → Units16 us → pairs p us ≡ true → Utf16 us (points us)
points_so p [] e s h = subst (Utf16 []) (sym points_empty) no_unit
points_so p (u ∷ []) e s h =
    let a = next_alone p u [] e h in
    let b : high u ≡ false = not_high (high u) refl a.1 in
    subst (Utf16 (u ∷ [])) (sym (points_alone u [] (eqb-false (u / 1024) 54 b) ∙ ap (λ l. u ∷ l) points_empty)) (unit (no_half u b a.0) no_unit)
  where
    not_high : (b : Bool) → high u ≡ b → pairs u [] ≡ true → high u ≡ false
    not_high true f g = absurd (never_last u f g)
    not_high false f g = f
points_so p (u ∷ v ∷ us) e s h =
    let a = next_alone p u (v ∷ us) e h in
    go (high u) refl a.0 a.1 (λ f g. points_so v us f s.1.1 g) (λ f g. points_so u (v ∷ us) f s.1 g)
  where
    go : (b : Bool) → high u ≡ b → low u ≡ false → pairs u (v ∷ us) ≡ true → (high v ≡ false → pairs v us ≡ true → Utf16 us (points us)) → (high u ≡ false → pairs u (v ∷ us) ≡ true → Utf16 (v ∷ us) (points (v ∷ us))) →
        Utf16 (u ∷ v ∷ us) (points (u ∷ v ∷ us))
    go true f l g two one =
        let c = next_low u v us f g in
        let i = eqb-true (u / 1024) 54 f in
        let j = eqb-true (v / 1024) 55 c.0 in
        subst (Utf16 (u ∷ v ∷ us)) (sym (points_pair u v us i))
        (pair (u % 1024) (v % 1024) (omega arith) (omega arith) (omega (arith, i)) (omega (arith, j)) (omega arith) (two (low_not_high v c.0) c.1))
    go false f l g two one = subst (Utf16 (u ∷ v ∷ us)) (sym (points_alone u (v ∷ us) (eqb-false (u / 1024) 54 f))) (unit (no_half u f l) (one f g))

points_is : (us cs : List ℕ) → Utf16 us cs → points us ≡ cs
points_is us cs no_unit = points_empty
points_is us cs (unit {u} {us = vs} {cs = ds} h r) = points_alone u vs (λ e. apart h e) ∙ ap (λ l. u ∷ l) (points_is vs ds r)
  where
    apart : (u < 0xD800) ⊎ (0xDFFF < u) → u / 1024 ≡ 54 → ⊥
    apart (inl h) e = omega arith
    apart (inr h) e = omega arith
points_is us cs (pair {u} {v} {c} {us = vs} {cs = ds} x y a b e f g r) =
    let i : u / 1024 ≡ 54 = omega arith in
    let is : pair_point u v ≡ c = omega arith in
    points_pair u v vs i ∙ ap (λ n. n ∷ points vs) is ∙ ap (λ l. c ∷ l) (points_is vs ds r)

abbrev InRange : List ℕ → Type 0
InRange [] = Unit {0}
InRange (c ∷ cs) = (c ≤ 0x10FFFF) × InRange cs

in-range : (us cs : List ℕ) → Units16 us → Utf16 us cs → InRange cs
in-range us cs s no_unit = tt
in-range us cs s (unit {us = vs} {cs = ds} h r) = (omega (arith, s.0), in-range vs ds s.1 r)
in-range us cs s (pair {us = vs} {cs = ds} x y a b e f g r) = (omega arith, in-range vs ds s.1.1 r)

all_so : (cs : List ℕ) → InRange cs → Utf8All cs (encoded_all cs)
unfolding encoded_all
all_so [] h = no_point
all_so (c ∷ cs) h = point (encoded_so c h.0) (all_so cs h.1)

all_is : (cs w : List ℕ) → Utf8All cs w → encoded_all cs ≡ w
unfolding encoded_all
all_is cs w no_point = refl
all_is cs w (point {c} {cs = ds} {u} {v} g r) = ap (λ l. l ++ encoded_all ds) (encoded_is c u g) ∙ ap (λ l. u ++ l) (all_is ds v r)

-- units that pair, and their bytes
pub utf8_exact : (us : List ℕ) → Units16 us → paired us ≡ true → (w : List ℕ) → utf8 us ≡ w ↔ Spelt8 us w
unfolding utf8
utf8_exact us s h w = (
  λ e. let units = points_so 0 us refl s h in record { points = points us; units = units; bytes = subst (Utf8All (points us)) e (all_so (points us) (in-range us (points us) s units)) },
  λ x. ap encoded_all (points_is us x.points x.units) ∙ all_is x.points w x.bytes,
)

-- ── of the functions' own answers ──

units_small : (n : ℕ) (w us : List ℕ) → Repeat n (Number 2) loose w us → Units16 us
units_small zero w us empty = tt
units_small (suc n) w us (as' (both {v = v} {b = b} (num h) r)) = (h, units_small n v b r)

pub text_pairs : (w us : List ℕ) → Text loose w us → Units16 us × (paired us ≡ true)
unfolding pairs
text_pairs w us (lead {a = zero} g e empty) = (tt, refl)
text_pairs w us (lead {a = suc n} g e (such p (as' (both {u = x} {a = a} r q)))) = (units_small n x a r, tested (paired a) p)

-- the bytes w, and n as the place after the string, exactly where a string stands there, up to n, and they are its UTF-8
pub utf8_says : (s : List ℕ) → Bytes s → (at : ℕ) (w : List ℕ) (n : ℕ) → utf8_at s at ≡ got w n ↔ Reads8 s at w n
unfolding utf8_at
utf8_says s h at w n = (
  λ e.
      let a = unmeant (λ p. utf8 (items_in 2 s p)) (text_at s at) e in
      let b = sound_at text_format (items_in 2 s) (texts.agrees s at) h a.1 in
      let c = text_pairs b.0 (items_in 2 s a.0) b.2 in
      record { word = b.0; units = items_in 2 s a.0; there = b.1; is = b.2; bytes = (utf8_exact (items_in 2 s a.0) c.0 c.1 w).0 a.2 },
  λ x.
      let a = complete_at text_format (items_in 2 s) (texts.agrees s at) x.there x.is in
      let c = text_pairs x.word x.units x.is in
      sym (meant (λ p. utf8 (items_in 2 s p)) (sym a.1)) ∙ ap (λ us. got (utf8 us) n) a.2 ∙ ap (λ v. got v n) ((utf8_exact x.units c.0 c.1 w).1 x.bytes),
)
