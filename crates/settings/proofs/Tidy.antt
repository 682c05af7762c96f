-- A string is tidy exactly where its count is not 1 and its last unit is 0. Its bytes are the count, the units before the last, and the last; of these the test looks at the count
-- and the last unit, and the rest of a word is the same whether it is tidy or not. What is no string has one word.
-- Assumes nothing.
use mathlib.Core.Path.{◌≡◌, refl, ap, sym, ◌∙◌, subst}
use mathlib.Core.Bool.{Bool, true, false}
use mathlib.Core.List.{List, [], ◌∷◌, ◌++◌}
use Prim.Native.Nat.{ℕ, zero, suc, ◌+◌, ◌-◌, ◌*◌, ◌/◌, ◌%◌, ◌^◌, ◌<◌}
use native.Mathlib.Omega.{arith}
use borrow.Author.Tests.{eqb-true, eqb-false, ne_eqb, lt-leb}
use lib.Dec.{eqb}
use lib.ListN.{length, length-append}
use lib.Seq.{get_or-append_seam, get_or-append-add}
use Rattle.layout.specs.Answer.{pick}
use Rattle.layout.specs.Bytes.{bytes}
use Rattle.layout.specs.Grammar as grammar
use Rattle.layout.specs.Grammar.{loose, tidy, empty, Number, lead, such, as', both, Repeat}
use Rattle.layout.proofs.laws.Make.{cells_size, repeat_length, repeat_format, number_format}
use Rattle.layout.proofs.laws.Single.{single_number, single_repeat}
use Rattle.layout.proofs.laws.Numbers.{zero_one}
use Rattle.wire.specs.Layout.{text_count, Text, STR, string, Val, Shaped, Value}
use Rattle.wire.proofs.laws.Formats.{value_single}
use Rattle.settings.specs.Entry.{tidy_text}

-- what the test comes to, of a string of suc m units, the last of them l
module _ (m l : ℕ) (x : List ℕ) (few : suc m < 256 ^ 1) (size : length x ≡ m * 2) where
  text_test : tidy_text (bytes 1 (suc m) ++ (x ++ (bytes 2 l ++ []))) ≡ pick (eqb (suc m) 1) false (pick (eqb (l % 256) 0) (eqb (l / 256 % 256) 0) false)
  unfolding tidy_text bytes
  text_test =
      let y = l % 256 ∷ l / 256 % 256 ∷ [] in
      let count : suc m % 256 ≡ suc m = omega (arith, few) in
      let long : length (suc m % 256 ∷ (x ++ y)) ≡ suc (length x + 2) = ap suc (length-append x y) in
      let one : suc (length x + 2) - 2 ≡ suc (length x) = omega arith in
      let two : suc (length x + 2) - 1 ≡ suc (length x + 1) = omega arith in
      rw (long, lt-leb (suc (length x + 2)) 1 (omega arith), count, one, two, get_or-append_seam x (l % 256) (l / 256 % 256 ∷ []) 0, get_or-append-add x y 1 0)

single_units : (m : ℕ) (w us : List ℕ) → Repeat m (Number 2) loose w us → Repeat m (Number 2) tidy w us
single_units m w us g = single_repeat (Number 2) m (single_number 2) w us g

units_loose : (m : ℕ) (w us : List ℕ) → Repeat m (Number 2) tidy w us → Repeat m (Number 2) loose w us
units_loose m w us g = (repeat_format m (number_format 2)).inside g

pub text_tidy : (w us : List ℕ) → Text loose w us → tidy_text w ≡ true → Text tidy w us
text_tidy w us (lead {a = zero} (grammar.num f) e empty) t = lead {a = zero} (grammar.num f) refl empty
text_tidy w us (lead {a = suc m} (grammar.num f) e (such p (as' (both {u = x} {a} q (lead {a = l} (grammar.num small) tt empty))))) t =
    go (eqb (suc m) 1) refl (eqb (l % 256) 0) refl (eqb (l / 256 % 256) 0) refl (sym (text_test m l x f (cells_size 2 m x a q).0) ∙ t)
  where
    some : (us : List ℕ) → length us ≡ m → (suc m ≡ 1 → ⊥) → suc m ≡ text_count us
    some [] e n = absurd (n (ap suc (sym e)))
    some (u ∷ us) e n = ap suc (sym e)

    go : (b : Bool) → eqb (suc m) 1 ≡ b → (c : Bool) → eqb (l % 256) 0 ≡ c → (d : Bool) → eqb (l / 256 % 256) 0 ≡ d → pick b false (pick c d false) ≡ true → Text tidy w us
    go false i true j true k h =
        let none : l ≡ 0 = omega (arith, eqb-true (l % 256) 0 j, eqb-true (l / 256 % 256) 0 k, small) in
        lead {a = suc m} (grammar.num f) (some a (repeat_length (Number 2) loose m x a q) (eqb-false (suc m) 1 i)) (such p (as' (both (single_units m x a q) (lead {a = l} (grammar.num small) none empty))))
    go true i c j d k h = zero_one (cc)
    go false i false j d k h = zero_one (cc)
    go false i true j false k h = zero_one (cc)

text_short : tidy_text (bytes 1 0 ++ []) ≡ true
unfolding tidy_text bytes
text_short = refl

pub tidy-text : (w us : List ℕ) → Text tidy w us → tidy_text w ≡ true
tidy-text w us (lead {a = zero} (grammar.num f) e empty) = text_short
tidy-text w us (lead {a = suc m} (grammar.num f) e (such p (as' (both {u = x} {a} q (lead {a = l} (grammar.num small) none empty))))) =
    text_test m l x f (cells_size 2 m x a (units_loose m x a q)).0 ∙ rw (ne_eqb (suc m) 1 (two a e (repeat_length (Number 2) tidy m x a q)), none)
  where
    two : (us : List ℕ) → suc m ≡ text_count us → length us ≡ m → suc m ≡ 1 → ⊥
    two [] e n o = omega (arith, e)
    two (u ∷ us) e n o = omega (arith, n)

-- ── a value ──

abbrev pub value_test : ℕ → List ℕ → Bool
value_test t w = pick (eqb t STR) (tidy_text w) true

string_tidy : (w : List ℕ) (v : Val) → Shaped string loose w v → tidy_text w ≡ true → Shaped string tidy w v
string_tidy w v (as' {a = us} g) t = as' (text_tidy w us g t)

tidy_string : (w : List ℕ) (v : Val) → Shaped string tidy w v → tidy_text w ≡ true
tidy_string w v (as' {a = us} g) = tidy-text w us g

pub value-tidy : (t : ℕ) (w : List ℕ) (v : Val) → Value t loose w v → value_test t w ≡ true → Value t tidy w v
value-tidy t w v g e = go (eqb t STR) refl e
  where
    go : (b : Bool) → eqb t STR ≡ b → pick b (tidy_text w) true ≡ true → Value t tidy w v
    go true i e =
        let is : t ≡ STR = eqb-true t STR i in
        subst (λ n. Value n tidy w v) (sym is) (string_tidy w v (subst (λ n. Value n loose w v) is g) e)
    go false i e = value_single t (eqb-false t STR i) w v g

pub tidy_value : (t : ℕ) (w : List ℕ) (v : Val) → Value t tidy w v → value_test t w ≡ true
tidy_value t w v g = go (eqb t STR) refl
  where
    go : (b : Bool) → eqb t STR ≡ b → pick b (tidy_text w) true ≡ true
    go true i = tidy_string w v (subst (λ n. Value n tidy w v) (eqb-true t STR i) g)
    go false i = refl
