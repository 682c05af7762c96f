-- Each codec of the byte layer is faithful to its layout: one line for each way that the layout is made. And what is no string has one word of each value.
-- Assumes nothing.
use mathlib.Core.Option.{Option, some, none}
use mathlib.Core.Path.{◌≡◌, refl, ap, sym, subst}
use mathlib.Core.Bool.{Bool, true, false}
use mathlib.Core.List.{List, [], ◌∷◌, map}
use Prim.Native.Nat.{ℕ, zero, suc, ◌+◌, ◌-◌, ◌^◌, ◌<◌}
use native.Mathlib.Omega.{arith}
use borrow.Author.Tests.{ne_eqb}
use lib.IntN.{pos, negsuc}
use lib.Dec.{ltb}
use lib.ListN.{length, get_or}
use Rattle.layout.specs.Answer.{pick, bad_text}
use Rattle.layout.specs.Bytes.{bytes}
use Rattle.layout.specs.Grammar.{loose, empty, Number, num, ◌then◌, both, lead, such, as', Repeat, Spare, Counted}
use Rattle.layout.specs.Format.{Format}
use Rattle.layout.proofs.laws.Make.{nothing_format, number_format, then_format, lead_format, such_format, as_format, field_format, repeat_format, repeat_length, spare_format, cells_format, count_format}
use Rattle.layout.proofs.laws.Single.{Single, single_empty, single_number, single_as, single_counted}
use Rattle.layout.proofs.laws.Numbers.{zero_one}
use Rattle.wire.specs.Layout.{signed, Kind, sint, uint, wide, width, kinds, meaning, paired, Units, text_count, Text, Shape, one, many, string, undef, shape_or, shape, Val, Shaped, Value, Row, Form, list, no_form, Formed, form_byte, FormOf, reading, Fields, Property, Enable}
use Rattle.wire.specs.Codecs.{unsigned, number_of, all_units, units, text, array, shaped, value, row, three, listed, form_write, formed, form, fields, property, enable}

-- ── the number that a meaning is of ──

unsigned_signed : (full n : ℕ) → n < full → unsigned full (signed full n) ≡ n
unfolding signed
unsigned_signed full n h = go (ltb (n + n) full)
  where
    go : (b : Bool) → unsigned full (pick b (pos n) (negsuc (full - suc n))) ≡ n
    go true = refl
    go false = omega arith

number_back : (k : Kind) (w : List ℕ) (n : ℕ) → Number (width k) loose w n → number_of k (meaning k n) ≡ n
number_back (sint k) w n (num h) = unsigned_signed (256 ^ k) n h
number_back (uint k) w n (num h) = refl
number_back wide w n (num h) = omega arith

numbers_back : (k : Kind) (m : ℕ) (w ns : List ℕ) → Repeat m (Number (width k)) loose w ns → map (number_of k) (map (meaning k) ns) ≡ ns
numbers_back k zero w ns empty = refl
numbers_back k (suc m) w ns (as' (both {u} {v} {a} {b} g h)) = cc (number_back k u a g, numbers_back k m v b h)

-- ── strings ──

pub all_units_format : (n : ℕ) → Format (Repeat n (Number 2) then λ _. Spare 2) (all_units n)
all_units_format n = then_format (cells_format 2 n) λ _. spare_format 2

units_format : (n : ℕ) → Format (Units n) (units n)
units_format zero = nothing_format []
units_format (suc n) = such_format bad_text paired (as_format _ (all_units_format n) _ λ w x g. refl)

units_length : (n : ℕ) (w us : List ℕ) → Units (suc n) loose w us → length us ≡ n
units_length n w us (such p (as' (both {u} {a} g h))) = repeat_length (Number 2) loose n u a g

text_home : (n : ℕ) (u v us : List ℕ) → Number 1 loose u n → Units n loose v us → ((w : List ℕ) × Number 1 loose w (text_count us)) × ((w : List ℕ) × Units (text_count us) loose w us)
text_home zero u v us g empty = ((u, g), (v, empty))
text_home (suc n) u v us g h = go us (units_length n v us h) h
  where
    go : (us : List ℕ) → length us ≡ n → Units (suc n) loose v us → ((w : List ℕ) × Number 1 loose w (text_count us)) × ((w : List ℕ) × Units (text_count us) loose w us)
    go [] e h = ((bytes 1 0, num {n = 0} (omega arith)), ([], empty))
    go (x ∷ us) e h = subst (λ m. ((w : List ℕ) × Number 1 loose w (suc m)) × ((w : List ℕ) × Units (suc m) loose w (x ∷ us))) (sym e) ((u, g), (v, h))

pub text_format : Format Text text
text_format = field_format (lead_format (number_format 1) text_count units_format text_home)

-- ── values ──

pub array_format : (w : ℕ) → Format (Counted 4 (Number w)) (array w)
array_format w = field_format (count_format 4 (cells_format w))

array_back : (k : Kind) (w ns : List ℕ) → Counted 4 (Number (width k)) loose w ns → map (number_of k) (map (meaning k) ns) ≡ ns
array_back k w ns (lead {v} {a} g e h) = numbers_back k a v ns h

pub shape_format : (x : Shape) → Format (Shaped x) (shaped x)
shape_format (one k) = as_format _ (number_format (width k)) _ λ w n g. ap (bytes (width k)) (number_back k w n g)
shape_format (many k) = as_format _ (array_format (width k)) _ λ w ns g. ap (array (width k)).write (array_back k w ns g)
shape_format string = as_format _ text_format _ λ w a g. refl
shape_format undef = nothing_format _

pub value_format : (t : ℕ) → Format (Value t) (value t)
value_format t = shape_format (shape t)

-- ── what is no string has one word ──

pub not_string : (t : ℕ) → (t ≡ 0xFFFF → ⊥) → shape t ≡ string → ⊥
not_string t h = rw (ne_eqb t 0xFFFF h) (go (get_or kinds t none) (get_or kinds (t - 0x4000) none))
  where
    go : (a b : Option Kind) → shape_or one a (shape_or many b undef) ≡ string → ⊥
    go (some k) b e = zero_one (cc)
    go none (some k) e = zero_one (cc)
    go none none e = zero_one (cc)

pub shaped_single : (x : Shape) → (x ≡ string → ⊥) → Single (Shaped x)
shaped_single (one k) h = single_as _ (single_number (width k))
shaped_single (many k) h = single_as _ (single_counted 4 (single_number (width k)))
shaped_single string h = absurd (h refl)
shaped_single undef h = single_empty _

-- so it is tidy
pub value_single : (t : ℕ) → (t ≡ 0xFFFF → ⊥) → Single (Value t)
value_single t h = shaped_single (shape t) (not_string t h)

-- and is what is written of its value
pub own_word : (t : ℕ) → (t ≡ 0xFFFF → ⊥) → (w : List ℕ) (v : Val) → Value t loose w v → w ≡ (value t).write v
own_word t h w v g = (value_format t).one (value_single t h w v g)

-- ── records ──

pub row_format : (ts : List ℕ) → Format (Row ts) (row ts)
row_format [] = nothing_format []
row_format (t ∷ ts) = as_format _ (then_format (value_format t) λ _. row_format ts) _ λ w a g. refl

-- ── a property's description ──

three_format : (t : ℕ) → Format (Value t then λ _. Value t then λ _. Value t) (three t)
three_format t = then_format (value_format t) λ _. then_format (value_format t) λ _. value_format t

listed_format : (t : ℕ) → Format (Counted 2 (Value t)) (listed t)
listed_format t = count_format 2 λ n. repeat_format n (value_format t)

formed_format : (t n : ℕ) → Format (Formed t n) (formed t n)
formed_format t zero = nothing_format no_form
formed_format t (suc zero) = as_format _ (three_format t) (form_write t) λ w x g. refl
formed_format t (suc (suc zero)) = as_format list (listed_format t) (form_write t) λ w x g. refl
formed_format t (suc (suc (suc n))) = nothing_format no_form

form_home : (t n : ℕ) (u v : List ℕ) (r : Form) → Number 1 loose u n → Formed t n loose v r → ((w : List ℕ) × Number 1 loose w (form_byte r)) × ((w : List ℕ) × Formed t (form_byte r) loose w r)
form_home t zero u v r g empty = ((bytes 1 0, num {n = 0} (omega arith)), ([], empty))
form_home t (suc zero) u v r g (as' {a} h) = ((bytes 1 1, num {n = 1} (omega arith)), (v, as' {a = a} h))
form_home t (suc (suc zero)) u v r g (as' {a} h) = ((bytes 1 2, num {n = 2} (omega arith)), (v, as' {a = a} h))
form_home t (suc (suc (suc n))) u v r g empty = ((bytes 1 0, num {n = 0} (omega arith)), ([], empty))

form_format : (t : ℕ) → Format (FormOf t) (form t)
form_format t = lead_format (number_format 1) form_byte (formed_format t) (form_home t)

pub enable_format : (there : Bool) → Format (Enable there) (enable there)
enable_format true = as_format some (number_format 1) _ λ w x g. refl
enable_format false = nothing_format none

fields_format : (there : Bool) → Format (Fields there) (fields there)
fields_format there =
    then_format (number_format 2) λ code.
    then_format (number_format 2) λ type.
    then_format (number_format 1) λ getset.
    then_format (enable_format there) λ enabled.
    then_format (value_format type) λ default.
    then_format (value_format type) λ current.
    form_format type

pub property_format : (there : Bool) → Format (Property there) (property there)
property_format there = as_format reading (fields_format there) _ λ w x g. refl
