-- A description's tidy word, part by part: the writer's word of its reading is made of the tidy words of its values.
-- Assumes nothing.
use mathlib.Core.Option.{some, none}
use mathlib.Core.Bool.{Bool, true, false}
use mathlib.Core.Path.{◌≡◌, refl, ap, sym, ◌∙◌}
use mathlib.Core.List.{List, [], ◌∷◌, ◌++◌, append_assoc, append-nil}
use Prim.Native.Nat.{ℕ, zero, suc, ◌+◌, ◌-◌, ◌≤◌}
use native.Mathlib.Omega.{arith}
use lib.ListN.{length, length-append}
use Rattle.layout.specs.Answer.{Told, Answer, got, refused, after, means, pick}
use Rattle.layout.specs.Bytes.{Bytes, bytes}
use Rattle.layout.specs.Codec.{Codec, repeated}
use Rattle.layout.specs.Grammar.{loose, empty, ◌then◌, lead, as', Counted}
use Rattle.layout.specs.Written.{says, no, said_of, tidied, took, spelling}
use Rattle.layout.proofs.laws.Accepted.{Accepts, accepted, accepts_any, accepts_after}
use Rattle.layout.proofs.laws.Make.{num_size}
use Rattle.layout.proofs.laws.Numbers.{length_bytes, zero_one}
use Rattle.layout.proofs.laws.Tidied.{Shrinks, nothing_shrinks, number_shrinks, then_shrinks, as_shrinks, count_shrinks, shrunk}
use borrow.Author.Tests.{ne_eqb}
use lib.Dec.{eqb}
use Rattle.wire.specs.Description.{PropInfo}
use Rattle.wire.specs.Description as placed
use Rattle.wire.specs.Layout.{Val, shape, Row, Form, Formed, form_byte, FormOf, reading, Fields, Property, Value, Enable}
use Rattle.wire.specs.Codecs.{value, row, three, listed, formed, form, fields, property, enable, enable_write}
use Rattle.wire.specs.Places.{num_at}
use Rattle.wire.specs.Property.{between, slot_at, values_at, range_at, list_at, form_at, property_at, slot_in, values_in, form_in, property_in, enable_at}
use Rattle.wire.specs.Tidy.{row_word, types}
use Rattle.wire.specs.TidyProperty.{values_word, header_word, range_word, list_word, form_word, property_word, Taken, WellForm, Well}
use Rattle.wire.proofs.Described.{row_values, slot-in, values-in, properties}
use Rattle.wire.proofs.laws.Formats.{row_format, property_format}
use Rattle.wire.proofs.ValueLaws.{shaped_shrinks}

-- ── the sizes ──

pub header_size : (x : PropInfo) → length (header_word x) ≡ 5 + length (enable_write x.is_enable)
unfolding header_word bytes
header_size x = simp length-append

pub range_size : (t : ℕ) (s : List ℕ) (a b c : ℕ) → length (range_word t s a b c) ≡ 1 + length (values_word t 1 s a) + length (values_word t 1 s b) + length (values_word t 1 s c)
unfolding range_word bytes
range_size t s a b c = simp length-append

pub list_size : (t : ℕ) (s : List ℕ) (at n : ℕ) → length (list_word t s at n) ≡ 3 + length (values_word t n s at)
unfolding list_word bytes
list_size t s at n = simp length-append

module _ (s : List ℕ) (x : PropInfo) where
  abbrev pub type : ℕ
  type = x.data_type

  abbrev pub in_parts : List ℕ
  in_parts = header_word x ++ values_word type 1 s x.factory_default.start ++ values_word type 1 s x.current.start ++ form_word type s x.form

  pub property-word : property_word s x ≡ in_parts
  unfolding property_word
  property-word = refl

  pub parts_size : length in_parts ≡ 5 + length (enable_write x.is_enable) + length (values_word type 1 s x.factory_default.start) + length (values_word type 1 s x.current.start) + length (form_word type s x.form)
  parts_size = simp (length-append, header_size x)

-- ── what was read of a description was read ──

values_taken : (t m : ℕ) (s : List ℕ) (at : ℕ) → Accepts (λ p _. Taken t m s p.start) (values_at t m s at)
unfolding values_at means after
values_taken t m s at = go ((repeated m (value t)).read s at) (ap took (row_values t m s at))
  where
    go : (x : Answer (List Val)) → took (row_word (types (t ∷ []) m) s at) ≡ took (means (repeated m (value t)).write x) → Accepts (λ p _. Taken t m s p.start) (after x λ _ n. got (between at n) n)
    go (got vs n) e = e
    go (refused u) e = tt

form_well : (t : ℕ) (s : List ℕ) (at : ℕ) → Accepts (λ f _. WellForm t s f) (form_at t s at)
unfolding form_at range_at list_at
form_well t s at = accepts_after _ _ (num_at 1 s at) _ (accepts_any (num_at 1 s at)) λ b p _. by b p
  where
    by : (b p : ℕ) → Accepts (λ f _. WellForm t s f) (pick (eqb b 1) (range_at t s p) (pick (eqb b 2) (list_at t s p) (got placed.absent p)))
    by zero p = tt
    by (suc zero) p = accepts_after _ _ (values_at t 1 s p) _ (values_taken t 1 s p) λ x a h. accepts_after _ _ (values_at t 1 s a) _ (values_taken t 1 s a) λ y b i. accepts_after _ _ (values_at t 1 s b) _ (values_taken t 1 s b) λ z n j. (h, i, j)
    by (suc (suc zero)) p = accepts_after _ _ (num_at 2 s p) _ (accepts_any (num_at 2 s p)) λ n q _. accepts_after _ _ (values_at t n s q) _ (values_taken t n s q) λ y m h. h
    by (suc (suc (suc n))) p = rw (ne_eqb (suc (suc (suc n))) 1 (λ e. omega arith), ne_eqb (suc (suc (suc n))) 2 (λ e. omega arith)) (tt)

property_well : (there : Bool) (s : List ℕ) (at : ℕ) → Accepts (λ x _. Well s x) (property_at there s at)
unfolding property_at
property_well there s at =
    accepts_after _ _ (num_at 2 s at) _ (accepts_any (num_at 2 s at)) λ _ a _.
    accepts_after _ _ (num_at 2 s a) _ (accepts_any (num_at 2 s a)) λ t b _.
    accepts_after _ _ (num_at 1 s b) _ (accepts_any (num_at 1 s b)) λ _ c _.
    accepts_after _ _ (enable_at there s c) _ (accepts_any (enable_at there s c)) λ _ d _.
    accepts_after _ _ (values_at t 1 s d) _ (values_taken t 1 s d) λ _ e h.
    accepts_after _ _ (values_at t 1 s e) _ (values_taken t 1 s e) λ _ f i.
    accepts_after _ _ (form_at t s f) _ (form_well t s f) λ _ n j.
    (record { default = h; current = i; form = j })

pub well_read : (there : Bool) (s : List ℕ) (at : ℕ) (x : PropInfo) (n : ℕ) → got x n ≡ property_at there s at → Well s x
well_read there s at x n e = accepted (λ x _. Well s x) (property_well there s at) e

-- ── and its tidy word is made of the tidy words of its values ──

slot_word : (t : ℕ) (s : List ℕ) (at : ℕ) → Accepts (λ p _. (value t).write (slot_in t s p) ≡ values_word t 1 s p.start) (slot_at t s at)
unfolding values_at means after
slot_word t s at = go ((value t).read s at) refl (ap spelling (row_values t 1 s at))
  where
    go : (x : Answer Val) → (value t).read s at ≡ x
        → values_word t 1 s at ≡ spelling (means (repeated 1 (value t)).write (means (λ (v : Val × List Val). v.0 ∷ v.1) (after x λ a n. means (λ (b : List Val). (a, b)) (got [] n))))
        → Accepts (λ p _. (value t).write (slot_in t s p) ≡ values_word t 1 s p.start) (after (means (λ (v : Val × List Val). v.0 ∷ v.1) (after x λ a n. means (λ (b : List Val). (a, b)) (got [] n))) λ _ n. got (between at n) n)
    go (got v n) e w = (ap (value t).write (slot-in t s at v n e) ∙ sym (w ∙ append-nil ((value t).write v)))
    go (refused u) e w = tt

repeated_length : (m : ℕ) (F : Codec Val) (s : List ℕ) (at : ℕ) (vs : List Val) (n : ℕ) → (repeated m F).read s at ≡ got vs n → length vs ≡ m
unfolding means after
repeated_length zero F s at vs n e = let f : [] ≡ vs = cc in ap length (sym f)
repeated_length (suc m) F s at vs n e = first (F.read s at) (λ q ws k. repeated_length m F s q ws k) e
  where
    rest : (v : Val) (x : Answer (List Val)) → ((ws : List Val) (k : ℕ) → x ≡ got ws k → length ws ≡ m) → means (λ (y : Val × List Val). y.0 ∷ y.1) (means (λ b. (v, b)) x) ≡ got vs n → length vs ≡ suc m
    rest v (got ws k) f e = let g : v ∷ ws ≡ vs = cc in ap length (sym g) ∙ ap suc (f ws k refl)
    rest v (refused u) f e = zero_one (cc)

    first : (x : Answer Val) → ((q : ℕ) (ws : List Val) (k : ℕ) → (repeated m F).read s q ≡ got ws k → length ws ≡ m)
        → means (λ (y : Val × List Val). y.0 ∷ y.1) (after x λ a q. means (λ b. (a, b)) ((repeated m F).read s q)) ≡ got vs n → length vs ≡ suc m
    first (got v q) f e = rest v ((repeated m F).read s q) (f q) e
    first (refused u) f e = zero_one (cc)

list-word : (t n : ℕ) (s : List ℕ) (at : ℕ) → Accepts (λ p _. (listed t).write (values_in t s p n) ≡ bytes 2 n ++ values_word t n s p.start) (values_at t n s at)
unfolding values_at means after
list-word t n s at = go ((repeated n (value t)).read s at) refl (ap spelling (row_values t n s at))
  where
    go : (x : Answer (List Val)) → (repeated n (value t)).read s at ≡ x → values_word t n s at ≡ spelling (means (repeated n (value t)).write x)
        → Accepts (λ p _. (listed t).write (values_in t s p n) ≡ bytes 2 n ++ values_word t n s p.start) (after x λ _ m. got (between at m) m)
    go (got vs m) e w = (ap (listed t).write (values-in t n s at vs m e) ∙ rw (repeated_length n (value t) s at vs m e, w))
    go (refused u) e w = tt

form-word : (t : ℕ) (s : List ℕ) (at : ℕ) → Accepts (λ f _. (form t).write (form_in t s f) ≡ form_word t s f) (form_at t s at)
unfolding form_at range_at list_at form_word range_word list_word
form-word t s at = accepts_after _ _ (num_at 1 s at) _ (accepts_any (num_at 1 s at)) λ b p _. by b p
  where
    by : (b p : ℕ) → Accepts (λ f _. (form t).write (form_in t s f) ≡ form_word t s f) (pick (eqb b 1) (range_at t s p) (pick (eqb b 2) (list_at t s p) (got placed.absent p)))
    by zero p = (append-nil (bytes 1 0))
    by (suc zero) p = accepts_after _ _ (slot_at t s p) _ (slot_word t s p) λ x a h. accepts_after _ _ (slot_at t s a) _ (slot_word t s a) λ y b i. accepts_after _ _ (slot_at t s b) _ (slot_word t s b) λ z n j. (rw (h, i, j) (simp append_assoc))
    by (suc (suc zero)) p = accepts_after _ _ (num_at 2 s p) _ (accepts_any (num_at 2 s p)) λ n q _. accepts_after _ _ (values_at t n s q) _ (list-word t n s q) λ y m h. (rw h (simp append_assoc))
    by (suc (suc (suc n))) p = rw (ne_eqb (suc (suc (suc n))) 1 (λ e. omega arith), ne_eqb (suc (suc (suc n))) 2 (λ e. omega arith)) ((append-nil (bytes 1 0)))

enable_word : (there : Bool) (s : List ℕ) (at : ℕ) → Accepts (λ e _. (enable there).write e ≡ enable_write e) (enable_at there s at)
unfolding enable_at
enable_word true s at = accepts_after _ _ (num_at 1 s at) _ (accepts_any (num_at 1 s at)) λ v n _. refl
enable_word false s at = refl

words : (there : Bool) (s : List ℕ) (at : ℕ) → Accepts (λ x _. (property there).write (property_in s x) ≡ property_word s x) (property_at there s at)
unfolding property_at property_word header_word
words there s at =
    accepts_after _ _ (num_at 2 s at) _ (accepts_any (num_at 2 s at)) λ _ a _.
    accepts_after _ _ (num_at 2 s a) _ (accepts_any (num_at 2 s a)) λ t b _.
    accepts_after _ _ (num_at 1 s b) _ (accepts_any (num_at 1 s b)) λ _ c _.
    accepts_after _ _ (enable_at there s c) _ (enable_word there s c) λ _ d g.
    accepts_after _ _ (slot_at t s d) _ (slot_word t s d) λ _ e h.
    accepts_after _ _ (slot_at t s e) _ (slot_word t s e) λ _ f i.
    accepts_after _ _ (form_at t s f) _ (form-word t s f) λ _ n j.
    (rw (g, h, i, j) (simp append_assoc))

word_read : (there : Bool) (s : List ℕ) (x : PropInfo) (n : ℕ) → got x n ≡ property_at there s 0 → means (property there).write ((property there).read s 0) ≡ got (property_word s x) n
unfolding means
word_read there s x n e = rw (← (properties there).agrees s 0, ← e) (ap (λ w. got w n) (accepted (λ x _. (property there).write (property_in s x) ≡ property_word s x) (words there s 0) e))

-- what the tidy writer has to say of it
pub said_property : (there : Bool) (s : List ℕ) (x : PropInfo) (n : ℕ) → got x n ≡ property_at there s 0 → tidied (property there) s ≡ says (property_word s x)
unfolding said_of
said_property there s x n e = ap said_of (word_read there s x n e)

pub said_no_property : (there : Bool) (s : List ℕ) (t : Told) → refused t ≡ property_at there s 0 → tidied (property there) s ≡ no t
unfolding means said_of
said_no_property there s t e = rw (← (properties there).agrees s 0, ← e)

-- ── tidy rows are no longer than what was read ──

row_shrinks : (ts : List ℕ) → Shrinks (Row ts) (row ts)
row_shrinks [] = nothing_shrinks []
row_shrinks (t ∷ ts) = as_shrinks _ _ (then_shrinks (shaped_shrinks (shape t)) λ _. row_shrinks ts) λ a. refl

pub row_bound : (ts s : List ℕ) → Bytes s → (at t n : ℕ) → got t n ≡ means length (row_word ts s at) → t ≤ length s - at
unfolding row_word
row_bound ts s h at t n e = let k = shrunk (row_format ts) (row_shrinks ts) s h at t n e in omega arith

-- ── and so is a tidy description ──

three_shrinks : (t : ℕ) → Shrinks (Value t then λ _. Value t then λ _. Value t) (three t)
three_shrinks t = then_shrinks (shaped_shrinks (shape t)) λ _. then_shrinks (shaped_shrinks (shape t)) λ _. shaped_shrinks (shape t)

listed_shrinks : (t : ℕ) → Shrinks (Counted 2 (Value t)) (listed t)
listed_shrinks t = count_shrinks 2 (shaped_shrinks (shape t))

formed_shrinks : (t n : ℕ) (w : List ℕ) (f : Form) → Formed t n loose w f → length ((formed t (form_byte f)).write f) ≤ length w
formed_shrinks t zero w f empty = omega arith
formed_shrinks t (suc zero) w f (as' {a} g) = (three_shrinks t).small w a g
formed_shrinks t (suc (suc zero)) w f (as' {a} g) = (listed_shrinks t).small w a g
formed_shrinks t (suc (suc (suc n))) w f empty = omega arith

form_shrinks : (t : ℕ) → Shrinks (FormOf t) (form t)
form_shrinks t = record { small = go }
  where
    go : (w : List ℕ) (f : Form) → FormOf t loose w f → length ((form t).write f) ≤ length w
    go w f (lead {u} {v} {a} g e h) =
        omega (arith, length-append u v, length-append (bytes 1 (form_byte f)) ((formed t (form_byte f)).write f), length_bytes 1 (form_byte f), (num_size 1 u a g).0, formed_shrinks t a v f h)

enable_shrinks : (there : Bool) → Shrinks (Enable there) (enable there)
enable_shrinks true = as_shrinks some _ (number_shrinks 1) λ a. refl
enable_shrinks false = nothing_shrinks none

fields_shrinks : (there : Bool) → Shrinks (Fields there) (fields there)
fields_shrinks there =
    then_shrinks (number_shrinks 2) λ _.
    then_shrinks (number_shrinks 2) λ t.
    then_shrinks (number_shrinks 1) λ _.
    then_shrinks (enable_shrinks there) λ _.
    then_shrinks (shaped_shrinks (shape t)) λ _.
    then_shrinks (shaped_shrinks (shape t)) λ _.
    form_shrinks t

property_shrinks : (there : Bool) → Shrinks (Property there) (property there)
property_shrinks there = as_shrinks reading _ (fields_shrinks there) λ a. refl

pub property_bound : (there : Bool) (s : List ℕ) → Bytes s → (x : PropInfo) (n : ℕ) → got x n ≡ property_at there s 0 → length (property_word s x) ≤ length s
unfolding means
property_bound there s h x n e =
    let k = shrunk (property_format there) (property_shrinks there) s h 0 (length (property_word s x)) n (sym (ap (means length) (word_read there s x n e))) in
    omega arith
