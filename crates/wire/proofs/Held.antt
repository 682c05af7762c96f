-- The demand of a property's description, as Anywhere states it, settles every part: in whatever answer meets it, each part is as a whole a word with the
-- reading's own value. So no reader whose parts are too short, too long or of another number meets it.
-- Assumes nothing.
use mathlib.Core.Path.{◌≡◌, refl}
use mathlib.Core.Bool.{Bool, true, false}
use mathlib.Core.List.{List, [], ◌∷◌}
use Prim.Native.Nat.{ℕ, zero, suc, ◌-◌, ◌≤◌, ◌+◌}
use native.Mathlib.Omega.{arith}
use borrow.Author.Tests.{eqb-true}
use lib.Dec.{eqb}
use lib.ListN.{length, take, drop, length-take, length-drop}
use lib.Seq.{take-take}
use Rattle.layout.specs.Answer.{Answer, got, refused, pick}
use Rattle.layout.specs.Bytes.{Bytes}
use Rattle.layout.specs.Codec.{Codec}
use Rattle.layout.specs.Format.{Format}
use Rattle.layout.specs.Grammar.{loose, Grammar, empty, both, lead, as', Repeat}
use Rattle.layout.specs.Placed.{Inside}
use Rattle.layout.proofs.laws.Make.{repeat_format}
use Rattle.layout.proofs.laws.Numbers.{Bytes-take, Bytes-drop, zero_one}
use Rattle.layout.proofs.laws.Words.{fits, part_there}
use Rattle.layout.proofs.laws.Meets.{read_word, lies_got}
use Rattle.wire.specs.Description.{PropInfo}
use Rattle.wire.specs.declared.property.Slot.{Slot}
use Rattle.wire.specs.Description as placed
use Rattle.wire.specs.Layout.{Val, Shape, one, many, string, undef, shape, Shaped, Value, Form, range, list, no_form, Formed, Reading, Property}
use Rattle.wire.specs.Anywhere.{ExactAt}
use Rattle.wire.specs.Property.{bytes_of, filling, none_of, slot_in, values_in, form_in, property_in, property_at}
use Rattle.wire.specs.Worded.{Worded, WordedForm, a_range, a_list, absent, WordedProperty}
use Rattle.wire.proofs.laws.Exactly.{exact_at}
use Rattle.wire.proofs.Described.{property_parts, form_parts, properties}
use Rattle.wire.proofs.laws.Formats.{value_format, property_format}

-- ── words in their places ──

-- what is read at a place is a word from there up to the place after it
pub worded : {R : Type 0} {G : Grammar R} {F : Codec R} → Format G F → (s : List ℕ) → Bytes s → (at : ℕ) → at ≤ length s → (r : R) (n : ℕ) → F.read s at ≡ got r n
    → Worded G s (record { start = at; len = n - at }) r × (at ≤ n) × (n ≤ length s)
worded f s h at k r n e =
    let (w, st, g) = read_word f h e in
    let l : n - at ≡ length w = omega (arith, st.till) in
    let ends : n ≤ length s = omega (arith, fits st, st.till) in
    let is : take (n - at) (drop at s) ≡ w = rw l st.is in
    (record { within = omega (arith, st.till); reads = rw is g }, omega (arith, st.till), ends)

-- and a part that is a word is read at its start, up to its end
pub read_back : {R : Type 0} {G : Grammar R} {F : Codec R} → Format G F → {s : List ℕ} {p : Slot} {r : R} → Worded G s p r → F.read s p.start ≡ got r (p.start + p.len)
read_back f {s} {p} w = f.complete (part_there s p.start p.len (omega (arith, w.within))) w.reads

-- ── what a reading's values are ──

abbrev Spelled : {R : Type 0} → Grammar R → R → Type 0
Spelled G r = (w : List ℕ) × G loose w r

-- no value of a type is what stands for none
some_value : (x : Shape) (w : List ℕ) (v : Val) → Shaped x loose w v → v ≡ none_of x → ⊥
some_value (one k) w v (as' g) e = zero_one (cc)
some_value (many k) w v (as' g) e = zero_one (cc)
some_value string w v (as' g) e = zero_one (cc)
some_value undef w v empty e = zero_one (cc)

some_values : (t n : ℕ) (w : List ℕ) (vs : List Val) → Repeat n (Value t) loose w vs → vs ≡ none_of (shape t) ∷ [] → ⊥
some_values t zero w vs empty e = zero_one (cc)
some_values t (suc n) w vs (as' (both {u} {a} g h)) e = some_value (shape t) u a g (cc)

data FormSpelled (t : ℕ) : Form → Type 0 where
  of_range : {x y z : Val} → Spelled (Value t) x → Spelled (Value t) y → Spelled (Value t) z → FormSpelled t (range x y z)
  of_list : (n : ℕ) {vs : List Val} → Spelled (Repeat n (Value t)) vs → FormSpelled t (list vs)
  of_none : FormSpelled t no_form

form_spelled : (t n : ℕ) (w : List ℕ) (f : Form) → Formed t n loose w f → FormSpelled t f
form_spelled t zero w f empty = of_none
form_spelled t (suc zero) w f (as' (both {u} {v} g (both {u = u'} {v = v'} h i))) = of_range (u, g) (u', h) (v', i)
form_spelled t (suc (suc zero)) w f (as' (lead {v} {a} g e h)) = of_list a (v, h)
form_spelled t (suc (suc (suc n))) w f empty = of_none

record ReadingSpelled (r : Reading) : Type 0 where
  default : Spelled (Value r.type) r.default
  current : Spelled (Value r.type) r.current
  form : FormSpelled r.type r.form

reading_spelled : (there : Bool) (w : List ℕ) (r : Reading) → Property there loose w r → ReadingSpelled r
reading_spelled there w r (as' (both g1 (both {a = t} g2 (both g3 (both g4 (both {u = u5} g5 (both {u = u6} g6 (lead {v = v7} {a = b7} {r = f7} g7 e7 h7)))))))) =
    record { default = (u5, g5); current = (u6, g6); form = form_spelled t b7 v7 f7 h7 }

-- ── so its parts fill ──

module _ (s : List ℕ) (h : Bytes s) where
  module _ {R : Type 0} {G : Grammar R} {F : Codec R} (f : Format G F) (p : Slot) (from : p.start ≤ length s) (other : R) where
    pinned : (filling p.len other (F.read (bytes_of s p) 0) ≡ other → ⊥) → Worded G s p (filling p.len other (F.read (bytes_of s p) 0))
    pinned some = go (F.read (bytes_of s p) 0) refl some
      where
        full : (r : R) (m : ℕ) → F.read (bytes_of s p) 0 ≡ got r m → (b : Bool) → eqb m p.len ≡ b → (pick b r other ≡ other → ⊥) → Worded G s p (pick b r other)
        full r m e true k some =
            let w = worded f (bytes_of s p) (Bytes-take p.len (drop p.start s) (Bytes-drop p.start s h)) 0 (omega arith) r m e in
            let size : m - 0 ≡ p.len = omega (arith, eqb-true m p.len k) in
            let all : take p.len (bytes_of s p) ≡ bytes_of s p = take-take p.len p.len (drop p.start s) (omega arith) in
            record {
              within = omega (arith, w.2, eqb-true m p.len k, length-take p.len (drop p.start s), length-drop p.start s);
              reads = rw (size, all) at w.0.reads;
            }
        full r m e false k some = absurd (some refl)

        go : (x : Answer R) → F.read (bytes_of s p) 0 ≡ x → (filling p.len other x ≡ other → ⊥) → Worded G s p (filling p.len other x)
        go (got r m) e some = full r m e (eqb m p.len) refl some
        go (refused t) e some = absurd (some refl)

  slot_pinned : (t : ℕ) (p : Slot) → p.start ≤ length s → Spelled (Value t) (slot_in t s p) → Worded (Value t) s p (slot_in t s p)
  slot_pinned t p from w = pinned (value_format t) p from (none_of (shape t)) (some_value (shape t) w.0 (slot_in t s p) w.1)

  values_pinned : (t n m : ℕ) (p : Slot) → p.start ≤ length s → Spelled (Repeat m (Value t)) (values_in t s p n) → Worded (Repeat n (Value t)) s p (values_in t s p n)
  values_pinned t n m p from w = pinned (repeat_format n (value_format t)) p from (none_of (shape t) ∷ []) (some_values t m w.0 (values_in t s p n) w.1)

  module _ (at n : ℕ) (within : n ≤ length s) where
    form_pinned : (t : ℕ) (f : placed.Form) → Inside at n (form_parts f) → FormSpelled t (form_in t s f) → WordedForm t s f (form_in t s f)
    form_pinned t (placed.range a b c) i (of_range u v w) = a_range (slot_pinned t a (omega arith) u) (slot_pinned t b (omega arith) v) (slot_pinned t c (omega arith) w)
    form_pinned t (placed.list p k) i (of_list m w) = a_list (values_pinned t k m p (omega arith) w)
    form_pinned t placed.absent i of_none = absent

  pub settled : (there : Bool) (at : ℕ) → at ≤ length s → (y : Answer PropInfo) → ExactAt (Property there) (property_in s) property_parts s at y
      → (x : PropInfo) (n : ℕ) → y ≡ got x n → WordedProperty s x (property_in s x)
  settled there at from y k x n e =
      let (far, a) = k.accepts x n e in
      let w = reading_spelled there (take (n - at) (drop at s)) (property_in s x) a.reads in
      let i = (lies_got k.inside e).1 in
      let within : n ≤ length s = omega (arith, a.within, length-drop at s) in
      record {
        code = refl;
        type = refl;
        getset = refl;
        enable = refl;
        default = slot_pinned x.data_type x.factory_default (omega arith) w.default;
        current = slot_pinned x.data_type x.current (omega arith) w.current;
        form = form_pinned at n within x.data_type x.form i.3.3 w.form;
      }

  -- and so are those of the description that is read
  pub held : (there : Bool) (x : PropInfo) (n : ℕ) → property_at there s 0 ≡ got x n → WordedProperty s x (property_in s x)
  held there x n e = settled there 0 (omega arith) (property_at there s 0) (exact_at (property_format there) (properties there) s h 0 (property_at there s 0) refl) x n e
