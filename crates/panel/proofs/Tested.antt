-- The test that is computed of a form and a value holds exactly where `Allowed` does: a range over the integers, a list by its members.
-- Assumes nothing.
use Rattle.std.proofs.Common.{◌≡◌, ℕ, zero, suc, ◌*◌, ◌/◌, ◌%◌, Bool, true, false, T, leb, ◌↔◌, List, [], ◌∷◌, ℤ, pos, negsuc, ◌+ℤ◌, ◌-ℤ◌, nat_abs, ◌≤ℤ◌, sym, refl, ap, ◌∙◌, subst, div-add-mod', arith, lt-ltb, eq-eqb, eqb-true, leb-true}
use mathlib.Core.List.{Memᴰ}
use mathlib.Core.Option.{Option, some, none}
use native.Mathlib.Nat.{mul-mod_left}
use lib.IntN.{+ℤ_comm, -ℤ-+ℤ_cancel, +ℤ-neg_ℤ_cancel}
use lib.Signed.{le_z}
use Rattle.layout.specs.Answer.{pick}
use Rattle.layout.proofs.laws.Make.{tested}
use Rattle.layout.proofs.laws.Numbers.{zero_one}
use Rattle.wire.specs.Layout.{int, nat, pair, Val, num, nums, str, nil, Form, range, list, no_form}
use Rattle.panel.specs.Allowed.{Integer, signed, unsigned, Stepped, steps, lowest, highest, Ranged, Allowed, every, member, between}
use Rattle.panel.specs.Test.{val_discrete, decided, is_member, same_z, on_step, in_range, integer, given, allows}
use Rattle.panel.specs.Words.{whole_range}
use Rattle.panel.proofs.Members.{decided_yes}
use Rattle.panel.proofs.Spans.{whole, Fit, gap, word_range}

-- ── tests as facts ──

holds : {b : Bool} → b ≡ true → T b
holds e = subst T (sym e) tt

three : (x y z : Bool) → pick x (pick y z false) false ≡ true → (x ≡ true) × (y ≡ true) × (z ≡ true)
three true true z e = (refl, refl, e)
three true false z e = zero_one (cc)
three false y z e = zero_one (cc)

-- ── a range over the integers ──

same_is : (x y : ℤ) → same_z x y ≡ true → x ≡ y
same_is (pos m) (pos n) e = ap pos (eqb-true m n e)
same_is (pos m) (negsuc n) e = zero_one (cc)
same_is (negsuc m) (pos n) e = zero_one (cc)
same_is (negsuc m) (negsuc n) e = ap negsuc (eqb-true m n e)

is_same : (x : ℤ) → same_z x x ≡ true
is_same (pos n) = eq-eqb n n refl
is_same (negsuc n) = eq-eqb n n refl

module _ (low high : ℤ) where
  at-end : (v step : ℤ) → step ≤ℤ pos 0 → pick (same_z v low) true (same_z v high) ≡ true → Stepped low high step v
  at-end v step h e = go (same_z v low) refl e
    where
      go : (b : Bool) → same_z v low ≡ b → pick b true (same_z v high) ≡ true → Stepped low high step v
      go true f e = subst (Stepped low high step) (sym (same_is v low f)) (lowest h)
      go false f e = subst (Stepped low high step) (sym (same_is v high e)) (highest h)

  -- what is above the minimum, and back
  above_low : (v : ℤ) (d : ℕ) → v -ℤ low ≡ pos d → v ≡ low +ℤ pos d
  above_low v d e = sym (-ℤ-+ℤ_cancel v low) ∙ ap (λ (z : ℤ). z +ℤ low) e ∙ +ℤ_comm (pos d) low

  from_low : (v : ℤ) (d : ℕ) → v ≡ low +ℤ pos d → v -ℤ low ≡ pos d
  from_low v d e = ap (λ (z : ℤ). z -ℤ low) (e ∙ +ℤ_comm low (pos d)) ∙ +ℤ-neg_ℤ_cancel (pos d) low

  on-step : (step v : ℤ) → le_z low v ≡ true → on_step low high step v ≡ true → Stepped low high step v
  unfolding on_step
  on-step (pos zero) v h e = at-end v (pos zero) (record { le = tt }) e
  on-step (negsuc n) v h e = at-end v (negsuc n) (record { le = tt }) e
  on-step (pos (suc n)) v h e =
      let g = gap low v h in
      let d = g.0 in
      let none : d % suc n ≡ 0 = rw g.1 at (eqb-true (nat_abs (v -ℤ low) % suc n) 0 e) in
      let whole : d / suc n * suc n ≡ d = omega (arith, div-add-mod' d (suc n)) in
      steps {v = v} (d / suc n) (record { lt = holds (lt-ltb 0 (suc n) (omega arith)) }) (rw whole (above_low v d g.1))

  is_high : (b : Bool) → pick b true (same_z high high) ≡ true
  is_high true = refl
  is_high false = is_same high

  step_tested : (step v : ℤ) → Stepped low high step v → on_step low high step v ≡ true
  unfolding on_step
  step_tested (pos zero) v (steps k h e) = absurd h.lt
  step_tested (negsuc n) v (steps k h e) = absurd h.lt
  step_tested (pos (suc n)) v (steps k h e) =
      let is : nat_abs (v -ℤ low) ≡ k * suc n = ap nat_abs (from_low v (k * suc n) e) in
      rw is (eq-eqb (k * suc n % suc n) 0 (mul-mod_left k (suc n)))
  step_tested (pos zero) v (lowest h) = rw (is_same low)
  step_tested (negsuc n) v (lowest h) = rw (is_same low)
  step_tested (pos (suc n)) v (lowest h) = absurd (omega (arith, leb-true (suc n) 0 (tested (leb (suc n) 0) h.le)))
  step_tested (pos zero) v (highest h) = is_high (same_z high low)
  step_tested (negsuc n) v (highest h) = is_high (same_z high low)
  step_tested (pos (suc n)) v (highest h) = absurd (omega (arith, leb-true (suc n) 0 (tested (leb (suc n) 0) h.le)))

  pub range_exactly : (step v : ℤ) → (in_range low high step v ≡ true) ↔ Ranged low high step v
  unfolding in_range
  range_exactly step v = (
    λ e.
        let a = three (le_z low v) (le_z v high) (on_step low high step v) e in
        record { above = record { le = holds a.0 }; below = record { le = holds a.1 }; stepped = on-step step v a.0 a.2 },
    λ r. rw (tested (le_z low v) r.above.le, tested (le_z v high) r.below.le) (step_tested step v r.stepped),
  )

-- and so by the words that the code has, of integers that one type has: a span modulo 2^64, and a remainder
pub words_exactly : (b : Bool) (low high step v : ℤ) → Fit b low → Fit b high → Fit b v → (whole_range (whole low) (whole high) (whole step) (whole v) ≡ true) ↔ Ranged low high step v
words_exactly b low high step v l h k = let e = word_range b low high v l h k step in (λ f. (range_exactly low high step v).0 (sym e ∙ f), λ r. e ∙ (range_exactly low high step v).1 r)

-- ── a list ──

pub list_exactly : (v : Val) (vs : List Val) → (is_member v vs ≡ true) ↔ Memᴰ v vs
unfolding is_member
list_exactly v [] = (λ e. zero_one (cc), λ m. absurd (none m))
  where
    none : Memᴰ v [] → ⊥
    none m = elim m [ ]
list_exactly v (w ∷ ws) = (forth (val_discrete v w) (list_exactly v ws), back (list_exactly v ws))
  where
    forth : (d : Dec (v ≡ w)) → (is_member v ws ≡ true) ↔ Memᴰ v ws → pick (decided d) true (is_member v ws) ≡ true → Memᴰ v (w ∷ ws)
    forth (yes p) later e = Memᴰ.head p
    forth (no f) later e = Memᴰ.tail (later.0 e)

    back : (is_member v ws ≡ true) ↔ Memᴰ v ws → Memᴰ v (w ∷ ws) → pick (decided (val_discrete v w)) true (is_member v ws) ≡ true
    back later (Memᴰ.head p) = rw (decided_yes (val_discrete v w) p)
    back later (Memᴰ.tail m) = go (decided (val_discrete v w)) (later.1 m)
      where
        go : (b : Bool) → is_member v ws ≡ true → pick b true (is_member v ws) ≡ true
        go true e = refl
        go false e = e

-- ── every form ──

integer_is : (v : Val) (z : ℤ) → integer v ≡ some z → Integer v z
integer_is (num (int y)) z e = let f : z ≡ y = cc in rw f signed
integer_is (num (nat n)) z e = let f : z ≡ pos n = cc in rw f unsigned
integer_is (num (pair h l)) z e = zero_one (cc)
integer_is (nums ns) z e = zero_one (cc)
integer_is (str us) z e = zero_one (cc)
integer_is nil z e = zero_one (cc)

is_integer : (v : Val) (z : ℤ) → Integer v z → integer v ≡ some z
is_integer v z signed = refl
is_integer v z unsigned = refl

there : (o : Option ℤ) (f : ℤ → Bool) → given o f ≡ true → (z : ℤ) × (o ≡ some z) × (f z ≡ true)
there (some z) f e = (z, refl, e)
there none f e = zero_one (cc)

pub allows_exactly : (f : Form) (v : Val) → (allows f v ≡ true) ↔ Allowed f v
unfolding allows
allows_exactly no_form v = (λ e. every, λ a. refl)
allows_exactly (list vs) v = (λ e. member ((list_exactly v vs).0 e), back)
  where
    back : Allowed (list vs) v → is_member v vs ≡ true
    back (member m) = (list_exactly v vs).1 m
allows_exactly (range a b c) v = (
  λ e.
      let x = there (integer a) _ e in
      let y = there (integer b) _ x.2 in
      let z = there (integer c) _ y.2 in
      let w = there (integer v) _ z.2 in
      between (integer_is a x.0 x.1) (integer_is b y.0 y.1) (integer_is c z.0 z.1) (integer_is v w.0 w.1) ((range_exactly x.0 y.0 z.0 w.0).0 w.2),
  back,
)
  where
    back : Allowed (range a b c) v → given (integer a) (λ low. given (integer b) λ high. given (integer c) λ step. given (integer v) λ z. in_range low high step z) ≡ true
    back (between {low} {high} {step} {z} i j k l r) = rw (is_integer a low i, is_integer b high j, is_integer c step k, is_integer v z l) ((range_exactly low high step z).1 r)
