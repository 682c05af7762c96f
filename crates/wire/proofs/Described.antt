-- A property's description: the code's reader of places answers, by its meaning, as the layout's own, and every part lies within.
-- Assumes nothing.
use mathlib.Core.Option.{Option, some, none}
use mathlib.Core.Bool.{Bool, true, false}
use mathlib.Core.Path.{◌≡◌, refl, ap, sym, ◌∙◌}
use mathlib.Core.List.{List, [], ◌∷◌}
use Prim.Native.Nat.{ℕ, zero, suc, ◌+◌, ◌-◌, ◌≤◌}
use native.Mathlib.Omega.{arith}
use borrow.Author.Tests.{ne_eqb, eq-eqb}
use lib.Dec.{eqb}
use lib.ListN.{replicate}
use Rattle.layout.specs.Answer.{Answer, got, refused, after, means, pick}
use Rattle.layout.specs.Codec.{Codec, numbered, ◌and◌, cons_write, repeated, through}
use Rattle.layout.specs.Placed.{Inside, Placed, Lies, lies, nowhere}
use Rattle.layout.proofs.laws.Local.{repeated_local, alone}
use Rattle.layout.proofs.laws.Meets.{lies_got, lies_after}
use Rattle.layout.proofs.laws.Reading.{unmeant, means_means, means_same}
use Rattle.layout.proofs.laws.Numbers.{zero_one}
use Rattle.wire.specs.Description.{PropInfo}
use Rattle.wire.specs.declared.property.Slot.{Slot}
use Rattle.wire.specs.Description as placed
use Rattle.wire.specs.Layout.{Val, shape, Form, range, list, reading}
use Rattle.wire.specs.Codecs.{value, row, three, listed, formed, form, property, enable}
use Rattle.wire.specs.Places.{num_at, Located, value_at, shape_in, shape_parts}
use Rattle.wire.specs.Property.{between, slot_at, values_at, range_at, list_at, form_at, property_at, slot_in, values_in, form_in, property_in, enable_at}
use Rattle.wire.specs.Tidy.{row_word, types}
use Rattle.wire.proofs.laws.Located.{values, num_lies}
use Rattle.wire.proofs.Locals.{value_local}
use Rattle.wire.proofs.RowWords.{types_one}

-- ── what was measured of values, as places ──

-- a row of one type is that many values of it
row_repeat : (n t : ℕ) → row (replicate n t) ≡ repeated n (value t)
row_repeat zero t = refl
row_repeat (suc n) t = ap (λ (X : Codec (List Val)). through (λ x. x.0 ∷ x.1) (value t and λ _. X) (λ xs. cons_write (value t).write (λ ys. X.write ys) xs)) (row_repeat n t)

pub row_values : (t n : ℕ) (s : List ℕ) (at : ℕ) → row_word (types (t ∷ []) n) s at ≡ means (repeated n (value t)).write ((repeated n (value t)).read s at)
unfolding row_word
row_values t n s at = rw (types_one t n) (ap (λ (X : Codec (List Val)). means X.write (X.read s at)) (row_repeat n t))

-- ── the meaning of places ──

-- one part more of a reading whose parts before it are in hd
and_link : {L X A B R : Type 0} (F : Codec A) (K : A → Codec B) (s : List ℕ) (p : ℕ) (hd : A × B → R) (g : X → R) (m : L → A) (k : L → ℕ → Answer X) (x : Answer L)
    → means m x ≡ F.read s p → ((l : L) (q : ℕ) → means g (k l q) ≡ means (λ b. hd (m l, b)) ((K (m l)).read s q)) → means g (after x k) ≡ means hd ((F and K).read s p)
unfolding after means
and_link {L} {X} {A} {B} {R} F K s p hd g m k x e f = rw (← e) (go x)
  where
    go : (x : Answer L) → means g (after x k) ≡ means hd (after (means m x) λ a n. means (λ b. (a, b)) ((K a).read s n))
    go (got l q) = f l q ∙ sym (means_means hd (λ b. (m l, b)) ((K (m l)).read s q))
    go (refused t) = refl

end_link : {L X A R : Type 0} (F : Codec A) (s : List ℕ) (p : ℕ) (hd : A → R) (g : X → R) (m : L → A) (k : L → ℕ → Answer X) (x : Answer L)
    → means m x ≡ F.read s p → ((l : L) (q : ℕ) → means g (k l q) ≡ got (hd (m l)) q) → means g (after x k) ≡ means hd (F.read s p)
unfolding after means
end_link {L} F s p hd g m k x e f = rw (← e) (go x)
  where
    go : (x : Answer L) → means g (after x k) ≡ means hd (means m x)
    go (got l q) = f l q
    go (refused t) = refl

-- what is read at a place is what the bytes from there up to the place after it mean
pub slot-in : (t : ℕ) (s : List ℕ) (at : ℕ) (v : Val) (n : ℕ) → (value t).read s at ≡ got v n → slot_in t s (between at n) ≡ v
slot-in t s at v n e = rw ((alone (value_local t) s at v n e).1, eq-eqb (n - at) (n - at) refl)

pub values-in : (t m : ℕ) (s : List ℕ) (at : ℕ) (vs : List Val) (n : ℕ) → (repeated m (value t)).read s at ≡ got vs n → values_in t s (between at n) m ≡ vs
values-in t m s at vs n e = rw ((alone (repeated_local m (value_local t)) s at vs n e).1, eq-eqb (n - at) (n - at) refl)

slot_means : (t : ℕ) (s : List ℕ) (p : ℕ) → means (slot_in t s) (slot_at t s p) ≡ (value t).read s p
unfolding values_at after means
slot_means t s p = go ((value t).read s p) refl
  where
    go : (x : Answer Val) → (value t).read s p ≡ x → means (slot_in t s) (after (means (λ (v : Val × List Val). v.0 ∷ v.1) (after x λ a n. means (λ (b : List Val). (a, b)) (got [] n))) λ _ n. got (between p n) n) ≡ x
    go (got v n) e = ap (λ u. got u n) (slot-in t s p v n e)
    go (refused u) e = refl

range_means : (t : ℕ) (s : List ℕ) (p : ℕ) → means (form_in t s) (range_at t s p) ≡ means (λ x. range x.0 x.1.0 x.1.1) ((three t).read s p)
unfolding range_at means
range_means t s p =
    and_link (value t) (λ _. value t and λ _. value t) s p _ _ (slot_in t s) _ _ (slot_means t s p) λ low a.
    and_link (value t) (λ _. value t) s a _ _ (slot_in t s) _ _ (slot_means t s a) λ high b.
    end_link (value t) s b _ _ (slot_in t s) _ _ (slot_means t s b) λ step next. refl

list_means : (t : ℕ) (s : List ℕ) (p : ℕ) → means (form_in t s) (list_at t s p) ≡ means list ((listed t).read s p)
unfolding list_at values_at after means
list_means t s p = go (num_at 2 s p)
  where
    inner : (n start : ℕ) (x : Answer (List Val)) → (repeated n (value t)).read s start ≡ x
        → means (form_in t s) (after (after x λ _ next. got (between start next) next) λ bytes next. got (placed.list bytes n) next) ≡ means list x
    inner n start (got vs m) e = ap (λ us. got (list us) m) (values-in t n s start vs m e)
    inner n start (refused u) e = refl

    go : (x : Answer ℕ) → means (form_in t s) (after x λ n start. after (after ((repeated n (value t)).read s start) λ _ next. got (between start next) next) λ bytes next. got (placed.list bytes n) next)
        ≡ means list (after x λ n m. (repeated n (value t)).read s m)
    go (got n start) = inner n start ((repeated n (value t)).read s start) refl
    go (refused u) = refl

form_means : (t : ℕ) (s : List ℕ) (p : ℕ) → means (form_in t s) (form_at t s p) ≡ (form t).read s p
unfolding form_at after means
form_means t s p = go (num_at 1 s p)
  where
    by : (b q : ℕ) → means (form_in t s) (pick (eqb b 1) (range_at t s q) (pick (eqb b 2) (list_at t s q) (got placed.absent q))) ≡ (formed t b).read s q
    by zero q = refl
    by (suc zero) q = range_means t s q
    by (suc (suc zero)) q = list_means t s q
    by (suc (suc (suc n))) q = rw (ne_eqb (suc (suc (suc n))) 1 (λ e. omega arith), ne_eqb (suc (suc (suc n))) 2 (λ e. omega arith))

    go : (x : Answer ℕ) → means (form_in t s) (after x λ b q. pick (eqb b 1) (range_at t s q) (pick (eqb b 2) (list_at t s q) (got placed.absent q))) ≡ after x (λ b q. (formed t b).read s q)
    go (got b q) = by b q
    go (refused u) = refl

-- what is left of a description after each of its fields
abbrev from_current : ℕ → Codec (Val × Form)
from_current t = value t and λ _. form t

abbrev from_default : ℕ → Codec (Val × (Val × Form))
from_default t = value t and λ _. from_current t

abbrev from_enable : Bool → ℕ → Codec (Option ℕ × (Val × (Val × Form)))
from_enable there t = enable there and λ _. from_default t

abbrev from_getset : Bool → ℕ → Codec (ℕ × (Option ℕ × (Val × (Val × Form))))
from_getset there t = numbered 1 and λ _. from_enable there t

enable_means : (there : Bool) (s : List ℕ) (p : ℕ) → means (λ e. e) (enable_at there s p) ≡ (enable there).read s p
unfolding enable_at after means
enable_means true s p = go (num_at 1 s p)
  where
    go : (x : Answer ℕ) → means (λ e. e) (after x λ n next. got (some n) next) ≡ means some x
    go (got n next) = refl
    go (refused t) = refl
enable_means false s p = refl

property_agrees : (there : Bool) (s : List ℕ) (at : ℕ) → means (property_in s) (property_at there s at) ≡ (property there).read s at
unfolding property_at means
property_agrees there s at =
    and_link (numbered 2) (λ _. numbered 2 and from_getset there) s at reading _ (λ n. n) _ _ (means_same (num_at 2 s at)) λ c a.
    and_link (numbered 2) (from_getset there) s a _ _ (λ n. n) _ _ (means_same (num_at 2 s a)) λ t b.
    and_link (numbered 1) (λ _. from_enable there t) s b _ _ (λ n. n) _ _ (means_same (num_at 1 s b)) λ g d.
    and_link (enable there) (λ _. from_default t) s d _ _ (λ e. e) _ _ (enable_means there s d) λ e f.
    and_link (value t) (λ _. from_current t) s f _ _ (slot_in t s) _ _ (slot_means t s f) λ x h.
    and_link (value t) (λ _. form t) s h _ _ (slot_in t s) _ _ (slot_means t s h) λ y i.
    end_link (form t) s i _ _ (form_in t s) _ _ (form_means t s i) λ w next. refl

-- ── every part lies within ──

-- values end no earlier than they begin
value_from : (t : ℕ) (s : List ℕ) (at : ℕ) (v : Val) (n : ℕ) → (value t).read s at ≡ got v n → at ≤ n
unfolding means
value_from t s at v n e = go (value_at t s at) ((values t).inside s at) ((values t).agrees s at ∙ e)
  where
    go : (x : Answer Located) → Lies (shape_parts (shape t)) at x → means (shape_in (shape t) s) x ≡ got v n → at ≤ n
    go (got l m) (lies l' m' h i) e = let f : m ≡ n = cc in omega arith
    go (refused u) nowhere e = zero_one (cc)

-- a value that is read, by its place: what it means, and that its parts lie within
pub located_is : (t : ℕ) (s : List ℕ) (at : ℕ) (v : Val) (n : ℕ) → (value t).read s at ≡ got v n
    → (l : Located) × (value_at t s at ≡ got l n) × (shape_in (shape t) s l ≡ v) × Inside at n (shape_parts (shape t) l)
located_is t s at v n e =
    let (l, read, is) = unmeant (shape_in (shape t) s) (value_at t s at) ((values t).agrees s at ∙ e) in
    (l, read, is, (lies_got ((values t).inside s at) read).1)

pub located_from : (t : ℕ) (s : List ℕ) (at : ℕ) (l : Located) (n : ℕ) → got l n ≡ value_at t s at → at ≤ n
located_from t s at l n e = (lies_got ((values t).inside s at) (sym e)).0

pub values_from : (t m : ℕ) (s : List ℕ) (at : ℕ) (vs : List Val) (n : ℕ) → (repeated m (value t)).read s at ≡ got vs n → at ≤ n
unfolding means after
values_from t zero s at vs n e = let f : at ≡ n = cc in omega arith
values_from t (suc m) s at vs n e = first ((value t).read s at) (λ v q. value_from t s at v q) (λ q ws. values_from t m s q ws n) e
  where
    rest : (v : Val) (q : ℕ) (x : Answer (List Val)) → at ≤ q → ((ws : List Val) → x ≡ got ws n → q ≤ n) → means (λ (y : Val × List Val). y.0 ∷ y.1) (means (λ b. (v, b)) x) ≡ got vs n → at ≤ n
    rest v q (got ws k) h f e = let g : q ≤ n = f ws (ap (got ws) (cc)) in omega arith
    rest v q (refused u) h f e = zero_one (cc)

    first : (x : Answer Val) → ((v : Val) (q : ℕ) → x ≡ got v q → at ≤ q) → ((q : ℕ) (ws : List Val) → (repeated m (value t)).read s q ≡ got ws n → q ≤ n)
        → means (λ (y : Val × List Val). y.0 ∷ y.1) (after x λ a q. means (λ b. (a, b)) ((repeated m (value t)).read s q)) ≡ got vs n → at ≤ n
    first (got v q) h f e = rest v q ((repeated m (value t)).read s q) (h v q refl) (f q) e
    first (refused u) h f e = zero_one (cc)

-- what lies within from a place on lies within from an earlier one
inside_from : (a b n : ℕ) (ps : List (ℕ × ℕ)) → b ≤ a → Inside a n ps → Inside b n ps
inside_from a b n [] h i = tt
inside_from a b n (p ∷ ps) h i = (omega arith, i.1, i.2, inside_from a b n ps h i.3)

abbrev pub extent : Slot → ℕ × ℕ
extent p = (p.start, p.start + p.len)

values_lie : (t m : ℕ) (s : List ℕ) (at : ℕ) → Lies (λ p. extent p ∷ []) at (values_at t m s at)
unfolding values_at after
values_lie t m s at = go ((repeated m (value t)).read s at) (values_from t m s at)
  where
    go : (x : Answer (List Val)) → ((vs : List Val) (n : ℕ) → x ≡ got vs n → at ≤ n) → Lies (λ p. extent p ∷ []) at (after x λ _ n. got (between at n) n)
    go (got vs n) f = let h = f vs n refl in lies (between at n) n h (omega arith, omega arith, omega arith, tt)
    go (refused u) f = nowhere

abbrev pub form_parts : placed.Form → List (ℕ × ℕ)
form_parts (placed.range a b c) = extent a ∷ extent b ∷ extent c ∷ []
form_parts (placed.list p n) = extent p ∷ []
form_parts placed.absent = []

form_lies : (t : ℕ) (s : List ℕ) (at : ℕ) → Lies form_parts at (form_at t s at)
unfolding form_at range_at list_at
form_lies t s at = lies_after _ (num_lies 1 s at) λ b p h _. by b p h
  where
    ranges : (p : ℕ) → at ≤ p → Lies form_parts at (range_at t s p)
    ranges p h =
        lies_after _ (values_lie t 1 s p) λ _ a i k.
        lies_after _ (values_lie t 1 s a) λ _ b j l.
        lies_after _ (values_lie t 1 s b) λ _ next m o.
        lies _ next (omega arith) (omega arith, omega arith, omega arith, (omega arith, omega arith, omega arith, (omega arith, omega arith, omega arith, tt)))

    lists : (p : ℕ) → at ≤ p → Lies form_parts at (list_at t s p)
    lists p h =
        lies_after _ (num_lies 2 s p) λ n q i _.
        lies_after _ (values_lie t n s q) λ _ next j k.
        lies _ next (omega arith) (omega arith, omega arith, omega arith, tt)

    by : (b p : ℕ) → at ≤ p → Lies form_parts at (pick (eqb b 1) (range_at t s p) (pick (eqb b 2) (list_at t s p) (got placed.absent p)))
    by zero p h = lies placed.absent p h tt
    by (suc zero) p h = ranges p h
    by (suc (suc zero)) p h = lists p h
    by (suc (suc (suc n))) p h = rw (ne_eqb (suc (suc (suc n))) 1 (λ e. omega arith), ne_eqb (suc (suc (suc n))) 2 (λ e. omega arith)) (lies placed.absent p h tt)

-- the parts of a description
abbrev pub property_parts : PropInfo → List (ℕ × ℕ)
property_parts x = extent x.factory_default ∷ extent x.current ∷ form_parts x.form

enable_lies : (there : Bool) (s : List ℕ) (at : ℕ) → Lies (λ _. []) at (enable_at there s at)
unfolding enable_at
enable_lies true s at = lies_after _ (num_lies 1 s at) λ v n h _. lies (some v) n h tt
enable_lies false s at = lies none at (omega arith) tt

pub properties : (there : Bool) → Placed property_in property_parts (property_at there) (property there).read
unfolding property_at
properties there = record {
  agrees = property_agrees there;
  inside = λ s at.
      lies_after _ (num_lies 2 s at) λ _ a h0 _.
      lies_after _ (num_lies 2 s a) λ t b h1 _.
      lies_after _ (num_lies 1 s b) λ _ c h2 _.
      lies_after _ (enable_lies there s c) λ _ d h3 _.
      lies_after _ (values_lie t 1 s d) λ _ e h4 k4.
      lies_after _ (values_lie t 1 s e) λ _ f h5 k5.
      lies_after _ (form_lies t s f) λ w next h6 k6.
      lies _ next (omega arith) (omega arith, omega arith, omega arith, (omega arith, omega arith, omega arith, inside_from f at next (form_parts w) (omega arith) k6));
}
