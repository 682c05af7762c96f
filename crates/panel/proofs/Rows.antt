-- A list of numbers of one width is a row of words: each step finds the next word, for its bytes are there; and two words of a width are the same
-- exactly where their numbers are. So the chosen value is a member exactly where its number is in the row.
-- Assumes nothing.
use Rattle.std.proofs.Common.{◌≡◌, ℕ, zero, suc, ◌+◌, ◌-◌, ◌*◌, ◌^◌, ◌<◌, ◌≤◌, Bool, true, false, eqb, leb, List, [], ◌∷◌, length, take, drop, sym, refl, ap, ◌∙◌, subst, arith, lit≤, drop-drop, ne_eqb, eqb-true, leb-true}
use borrow.Author.Tests.{eqb-false, lt-leb}
use Rattle.layout.specs.Answer.{got, pick, after, means, field_at}
use Rattle.layout.specs.Bytes.{bytes, number, cells}
use Rattle.layout.specs.Grammar.{loose, num, as'}
use Rattle.layout.proofs.laws.Make.{span_there}
use Rattle.layout.proofs.laws.Numbers.{number_bytes, zero_one}
use Rattle.wire.specs.Codecs.{value}
use Rattle.wire.specs.Layout.{signed, Kind, sint, uint, wide, width, meaning, one, shape, Shaped, Val, Value}
use Rattle.wire.specs.List.{step_at, says_step}
use Rattle.wire.specs.Places.{number_is, shape_at}
use Rattle.wire.specs.Says.{located}
use Rattle.std.specs.declared.option.Option.TheVariants.{Some, None}
use Rattle.wire.specs.declared.list.Step.{Step}
use Rattle.wire.specs.declared.value.Value as declared
use Rattle.wire.specs.declared.value.Value.TheVariants as values
use Rattle.wire.proofs.laws.Formats.{own_word}
use Rattle.panel.specs.Test.{is_member}
use Rattle.panel.specs.Words.{plain_width, Plain, one_byte, two_bytes, four_bytes, eight_bytes, is_in, laid_out, core_of}
use Rattle.panel.proofs.Members.{Here, Turn, turn, over, same_core, member_here, member_later}

-- ── the types ──

pub data Numbers (t : ℕ) (w : ℕ) : Type 0 where
  below : shape t ≡ one (sint w) → Numbers t w
  above : shape t ≡ one (uint w) → Numbers t w

none_above : (t : ℕ) → 8 < t → plain_width t ≡ 0
unfolding plain_width
none_above t h = rw (ne_eqb t 0 (λ e. omega arith), lt-leb t 2 (omega arith), lt-leb t 4 (omega arith), lt-leb t 6 (omega arith), lt-leb t 8 h)

pub numbers : (t : ℕ) → (plain_width t ≡ 0 → ⊥) → Numbers t (plain_width t) × Plain (plain_width t)
unfolding plain_width
numbers zero h = absurd (h refl)
numbers (suc zero) h = (below refl, one_byte)
numbers (suc (suc zero)) h = (above refl, one_byte)
numbers (suc (suc (suc zero))) h = (below refl, two_bytes)
numbers (suc (suc (suc (suc zero)))) h = (above refl, two_bytes)
numbers (suc (suc (suc (suc (suc zero))))) h = (below refl, four_bytes)
numbers (suc (suc (suc (suc (suc (suc zero)))))) h = (above refl, four_bytes)
numbers (suc (suc (suc (suc (suc (suc (suc zero))))))) h = (below refl, eight_bytes)
numbers (suc (suc (suc (suc (suc (suc (suc (suc zero)))))))) h = (above refl, eight_bytes)
numbers (suc (suc (suc (suc (suc (suc (suc (suc (suc n))))))))) h = absurd (h (none_above (suc (suc (suc (suc (suc (suc (suc (suc (suc n))))))))) (omega arith)))

pub width_small : (t : ℕ) → plain_width t ≤ 8
unfolding plain_width
width_small t = go (eqb t 0) (leb t 2) (leb t 4) (leb t 6) (leb t 8)
  where
    go : (a b c d e : Bool) → pick a 0 (pick b 1 (pick c 2 (pick d 4 (pick e 8 0)))) ≤ 8
    go true b c d e = lit≤ tt
    go false true c d e = lit≤ tt
    go false false true d e = lit≤ tt
    go false false false true e = lit≤ tt
    go false false false false true = lit≤ tt
    go false false false false false = lit≤ tt

no_string : {t w : ℕ} → Numbers t w → t ≡ 0xFFFF → ⊥
no_string (below e) f = let z : shape 0xFFFF ≡ one (sint _) = rw f at e in zero_one (cc)
no_string (above e) f = let z : shape 0xFFFF ≡ one (uint _) = rw f at e in zero_one (cc)

-- what was tested
pub record Laid (w n first size own : ℕ) : Type 0 where
  pub some : w ≡ 0 → ⊥
  pub wide : own ≡ w
  pub there : n * w ≤ size - first

pub laid : (w n first size own : ℕ) → laid_out w n first size own ≡ true → Laid w n first size own
unfolding laid_out
laid w n first size own e = go (eqb w 0) refl (eqb own w) refl e
  where
    go : (a : Bool) → eqb w 0 ≡ a → (b : Bool) → eqb own w ≡ b → pick a false (pick b (leb (n * w) (size - first)) false) ≡ true → Laid w n first size own
    go true f b g h = zero_one (cc)
    go false f true g h = record { some = eqb-false w 0 f; wide = eqb-true own w g; there = leb-true (n * w) (size - first) h }
    go false f false g h = zero_one (cc)

-- ── a step ──

abbrev value_of : Kind → ℕ → declared.Value
value_of (sint k) n = values.Int (signed (256 ^ k) n)
value_of (uint k) n = values.Nat n
value_of wide n = values.Undef

reads : (k : Kind) (s : List ℕ) (at : ℕ) → width k ≤ length s - at → shape_at (one k) s at ≡ got (number_is (meaning k (number (take (width k) (drop at s))))) (at + width k)
unfolding shape_at means field_at after
reads k s at h = rw (span_there at (width k) s at h)

own_bytes : (k : Kind) (u : List ℕ) (v : Val) → Shaped (one k) loose u v → u ≡ bytes (width k) (number u)
own_bytes k u v (as' (num {n} h)) = ap (bytes (width k)) (sym (number_bytes (width k) n h))

module _ (t : ℕ) (k : Kind) (is : shape t ≡ one k) (same : (n : ℕ) → located (value_of k n) ≡ number_is (meaning k n)) (s : List ℕ) where
  one_turn : (at m : ℕ) (vs : List Val) → Here t s at (suc m) vs → width k ≤ length s - at → Turn t s at vs (at + width k) m
  unfolding step_at
  one_turn at m vs h room =
      let n = number (take (width k) (drop at s)) in
      let less : suc m - 1 ≡ m = omega arith in
      let q : Step = record { value = value_of k n; at = at + width k; left = m } in
      let p : says_step (Some q) ≡ step_at s t at (suc m) 0 = rw (ne_eqb (suc m) 0 (λ e. omega arith), is, reads k s at room, less, same n) in
      turn t s at (suc m) vs h (Some q) p (located (value_of k n)) (at + width k) m refl

  none_left : (at : ℕ) (vs : List Val) → Here t s at 0 vs → vs ≡ []
  unfolding step_at
  none_left at vs h = over t s at 0 vs h None refl refl

  -- a word of the type is that of its number
  own : (u : List ℕ) (v : Val) → Value t loose u v → u ≡ bytes (width k) (number u)
  own u v g = own_bytes k u v (subst (λ x. Shaped x loose u v) is g)

  module _ (other : t ≡ 0xFFFF → ⊥) (chosen : List ℕ) (v : Val) (g : Value t loose chosen v) where
    one_more : (u : List ℕ) (x : Val) (xs : List Val) → Value t loose u x → (b : Bool) → eqb (number u) (number chosen) ≡ b → (rest : Bool) → is_member v xs ≡ rest → is_member v (x ∷ xs) ≡ pick b true rest
    one_more u x xs h true e rest f =
        let n : number u ≡ number chosen = eqb-true (number u) (number chosen) e in
        let word : u ≡ chosen = own u x h ∙ ap (bytes (width k)) n ∙ sym (own chosen v g) in
        member_here v x xs (sym ((same_core t u chosen x v h g).0 (ap (core_of t) word)))
    one_more u x xs h false e rest f =
        member_later v x xs (λ z. eqb-false (number u) (number chosen) e (ap number (own_word t other u x h ∙ ap (value t).write (sym z) ∙ sym (own_word t other chosen v g)))) ∙ f

    members : (n at : ℕ) (vs : List Val) → Here t s at n vs → n * width k ≤ length s - at → is_member v vs ≡ is_in (number chosen) (cells (width k) n (drop at s))
    unfolding is_member is_in cells
    members zero at vs h room = ap (is_member v) (none_left at vs h)
    members (suc n) at vs h room =
        let c = one_turn at n vs h (omega (arith, room)) in
        let size : at + width k - at ≡ width k = omega arith in
        let word : Value t loose (take (width k) (drop at s)) c.first = rw size at c.word.reads in
        let later = members n (at + width k) c.others c.here (omega (arith, room)) in
        ap (is_member v) c.is
        ∙ one_more (take (width k) (drop at s)) c.first c.others word (eqb (number (take (width k) (drop at s))) (number chosen)) refl (is_member v c.others) refl
        ∙ ap (λ r. pick (eqb (number (take (width k) (drop at s))) (number chosen)) true r) (later ∙ ap (λ l. is_in (number chosen) (cells (width k) n l)) (sym (drop-drop (width k) at s)))

pub in_row : {t w : ℕ} → Numbers t w → (s chosen : List ℕ) (v : Val) → Value t loose chosen v → (n at : ℕ) (vs : List Val) → Here t s at n vs → n * w ≤ length s - at → is_member v vs ≡ is_in (number chosen) (cells w n (drop at s))
in_row {t} {w} (below e) s chosen v g = members t (sint w) e (λ n. refl) s (no_string (below e)) chosen v g
in_row {t} {w} (above e) s chosen v g = members t (uint w) e (λ n. refl) s (no_string (above e)) chosen v g
