-- The one byte: a description by the book is the crate's with a byte more behind the fifth, whichever byte; some bytes fit both layouts and are read
-- otherwise by each, so that nothing may guess; and the book's tidy word is one byte shorter.
-- Assumes nothing.
use mathlib.Core.Path.{◌≡◌, refl, ap, ◌∙◌}
use mathlib.Core.Bool.{Bool, true, false}
use mathlib.Core.List.{List, [], ◌∷◌}
use mathlib.Core.Option.{Option, some, none}
use Prim.Native.Nat.{ℕ, suc, ◌≤◌}
use native.Mathlib.Nat.{add-zero, suc-sub-suc}
use native.Mathlib.Omega.{arith}
use lib.Dec.{eqb}
use lib.ListN.{length}
use Rattle.layout.specs.Answer.{Answer, got, pick, after, means, span_at, field_at}
use Rattle.layout.specs.Bytes.{bytes, number}
use Rattle.layout.proofs.laws.Reading.{field_there}
use Rattle.wire.specs.Layout.{Reading}
use Rattle.wire.specs.Codecs.{property}
use Rattle.wire.specs.Description.{PropInfo}
use Rattle.wire.specs.Description as form
use Rattle.wire.specs.OneByte.{with_byte, slot_on, form_on, info_on, answer_on}
use Rattle.wire.specs.Places.{num_at}
use Rattle.wire.specs.Property.{between, values_at, range_at, list_at, form_at, enable_at, property_at}
use Rattle.wire.specs.declared.property.Slot.{Slot}
use Rattle.wire.proofs.Onward.{Same, On, on, stopped, on_after, numbered_on, values_on}

-- ── from the sixth byte on ──

module _ (t : ℕ) (s s' : List ℕ) where
  slots : (n at : ℕ) → Same s s' at → On slot_on s s' (values_at t n s at) (values_at t n s' (suc at))
  unfolding values_at
  slots n at e = on_after _ _ ((values_on t n).goes s s' at e) λ _ next e. rw (suc-sub-suc next at) (on (between at next) next e)

  ranges : (at : ℕ) → Same s s' at → On form_on s s' (range_at t s at) (range_at t s' (suc at))
  unfolding range_at
  ranges at e = on_after _ _ (slots 1 at e) λ low a e. on_after _ _ (slots 1 a e) λ high b e. on_after _ _ (slots 1 b e) λ step next e. on (form.range low high step) next e

  lists : (at : ℕ) → Same s s' at → On form_on s s' (list_at t s at) (list_at t s' (suc at))
  unfolding list_at
  lists at e = on_after _ _ ((numbered_on 2).goes s s' at e) λ n start e. on_after _ _ (slots n start e) λ bs next e. on (form.list bs n) next e

  forms : (at : ℕ) → Same s s' at → On form_on s s' (form_at t s at) (form_at t s' (suc at))
  unfolding form_at
  forms at e = on_after _ _ ((numbered_on 1).goes s s' at e) λ b p e. go b p e (eqb b 1) (eqb b 2)
    where
      go : (b p : ℕ) → Same s s' p → (x y : Bool) → On form_on s s' (pick x (range_at t s p) (pick y (list_at t s p) (got form.absent p))) (pick x (range_at t s' (suc p)) (pick y (list_at t s' (suc p)) (got form.absent (suc p))))
      go b p e true y = ranges p e
      go b p e false true = lists p e
      go b p e false false = on form.absent p e

-- ── the first five ──

answered : (b : ℕ) {s s' : List ℕ} {x x' : Answer PropInfo} → On (info_on b) s s' x x' → x' ≡ answer_on b x
answered b (on a n e) = refl
answered b (stopped t) = refl

five : (b a₀ a₁ a₂ a₃ a₄ : ℕ) (r : List ℕ) → property_at true (a₀ ∷ a₁ ∷ a₂ ∷ a₃ ∷ a₄ ∷ b ∷ r) 0 ≡ answer_on b (property_at false (a₀ ∷ a₁ ∷ a₂ ∷ a₃ ∷ a₄ ∷ r) 0)
unfolding property_at enable_at after number
five b a₀ a₁ a₂ a₃ a₄ r =
    let s = a₀ ∷ a₁ ∷ a₂ ∷ a₃ ∷ a₄ ∷ r in
    let s' = a₀ ∷ a₁ ∷ a₂ ∷ a₃ ∷ a₄ ∷ b ∷ r in
    let t = number (a₂ ∷ a₃ ∷ []) in
    let sixth : num_at 1 s' 5 ≡ got b 6 = field_there 1 number s' 5 (omega arith) ∙ ap (λ n. got n 6) (add-zero b) in
    rw (field_there 2 number s 0 (omega arith), field_there 2 number s 2 (omega arith), field_there 1 number s 4 (omega arith), field_there 2 number s' 0 (omega arith), field_there 2 number s' 2 (omega arith), field_there 1 number s' 4 (omega arith), sixth)
    (answered b (on_after _ _ (slots t s s' 1 5 refl) λ default e same. on_after _ _ (slots t s s' 1 e same) λ current f same. on_after _ _ (forms t s s' f same) λ shape n same. on _ n same))

pub one_byte : (b : ℕ) (s : List ℕ) → 5 ≤ length s → property_at true (with_byte b s) 0 ≡ answer_on b (property_at false s 0)
one_byte b (a₀ ∷ a₁ ∷ a₂ ∷ a₃ ∷ a₄ ∷ r) h = five b a₀ a₁ a₂ a₃ a₄ r
one_byte b [] h = let z : ⊥ = omega arith in absurd z
one_byte b (a₀ ∷ []) h = let z : ⊥ = omega arith in absurd z
one_byte b (a₀ ∷ a₁ ∷ []) h = let z : ⊥ = omega arith in absurd z
one_byte b (a₀ ∷ a₁ ∷ a₂ ∷ []) h = let z : ⊥ = omega arith in absurd z
one_byte b (a₀ ∷ a₁ ∷ a₂ ∷ a₃ ∷ []) h = let z : ⊥ = omega arith in absurd z

-- ── some bytes fit both ──

abbrev pub either : List ℕ
either = 0x01 ∷ 0x50 ∷ 0x02 ∷ 0x00 ∷ 0x00 ∷ 0x01 ∷ 0x64 ∷ 0x00 ∷ 0x00 ∷ []

abbrev at_one : ℕ → Slot
at_one n = record { start = n; len = 1 }

pub fits_the_crate : property_at true either 0 ≡ got (record { property_code = 0x5001; data_type = 2; get_set = 0; is_enable = some 1; factory_default = at_one 6; current = at_one 7; form = form.absent }) 9
unfolding after means span_at field_at number values_at form_at enable_at property_at
fits_the_crate = refl

pub fits_the_book : property_at false either 0 ≡ got (record { property_code = 0x5001; data_type = 2; get_set = 0; is_enable = none; factory_default = at_one 5; current = at_one 6; form = form.absent }) 8
unfolding after means span_at field_at number values_at form_at enable_at property_at
fits_the_book = refl

-- ── the tidy word ──

-- a reading's parts with this for enable
abbrev enabled : Option ℕ → Reading → Reading
enabled e r = record { code = r.code; type = r.type; getset = r.getset; enable = e; default = r.default; current = r.current; form = r.form }

pub one_shorter : (b : ℕ) (r : Reading) → length ((property true).write (enabled (some b) r)) ≡ suc (length ((property false).write (enabled none r)))
unfolding bytes
one_shorter b r = refl
