-- Rows of values, a value at a time: what is measured of them, and their words.
-- Assumes nothing.
use mathlib.Core.Path.{◌≡◌, refl, ap, sym, ◌∙◌}
use mathlib.Core.Bool.{Bool, true, false}
use mathlib.Core.List.{List, [], ◌∷◌, ◌++◌, append-nil}
use Prim.Native.Nat.{ℕ, zero, suc, ◌+◌, ◌-◌, ◌≤◌, ◌<◌}
use native.Mathlib.Nat.{add_assoc, add-zero, zero-add}
use native.Mathlib.Numerals.{add-one}
use native.Mathlib.Omega.{arith}
use borrow.Author.Tests.{ltb-true, ltb-false}
use lib.Dec.{ltb}
use lib.ListN.{length, take, drop, get_or, replicate, length-append, length-replicate, get_or-replicate, drop_of_length-le, get_or-append}
use lib.Seq.{drop-cons, get_or-take, get_or-append-add, length-take-le, take-append_seam}
use Rattle.layout.specs.Answer.{Told, Answer, got, refused, pick, after, means}
use Rattle.layout.specs.Written.{says, said_of, tidied, took, spelling}
use Rattle.layout.proofs.laws.Tidied.{measured, unmeasured, took_more}
use Rattle.wire.specs.Layout.{Val}
use Rattle.wire.specs.Codecs.{value, row}
use Rattle.wire.specs.Tidy.{shape_word, value_word, row_word, types}

-- ── the types of a row ──

pub length_types : (codes : List ℕ) (n : ℕ) → length (types codes n) ≡ n
unfolding types
length_types codes n =
    length-take-le n (codes ++ replicate n (get_or codes 0 0)) (omega (arith, length-append codes (replicate n (get_or codes 0 0)), length-replicate n (get_or codes 0 0)))

pub types_at : (codes : List ℕ) (n i : ℕ) → i < n → pick (ltb i (length codes)) (get_or codes i 0) (get_or codes 0 0) ≡ get_or (types codes n) i 0
unfolding types
types_at codes n i h = go (ltb i (length codes)) refl ∙ sym (get_or-take n (codes ++ replicate n (get_or codes 0 0)) i 0 h)
  where
    go : (b : Bool) → ltb i (length codes) ≡ b → pick b (get_or codes i 0) (get_or codes 0 0) ≡ get_or (codes ++ replicate n (get_or codes 0 0)) i 0
    go true e = sym (get_or-append codes (replicate n (get_or codes 0 0)) 0 i (ltb-true _ _ e))
    go false e =
        let split : i ≡ length codes + (i - length codes) = omega (arith, ltb-false i (length codes) e) in
        sym (ap (λ k. get_or (codes ++ replicate n (get_or codes 0 0)) k 0) split ∙ get_or-append-add codes (replicate n (get_or codes 0 0)) (i - length codes) 0
        ∙ get_or-replicate n (i - length codes) (get_or codes 0 0) 0 (omega arith))

pub types_all : (codes : List ℕ) → types codes (length codes) ≡ codes
unfolding types
types_all codes = take-append_seam codes (replicate (length codes) (get_or codes 0 0))

pub types_one : (t n : ℕ) → types (t ∷ []) n ≡ replicate n t
unfolding types
types_one t n = ap (λ m. take m (replicate (suc n) t)) (sym (length-replicate n t)) ∙ go n
  where
    again : (m : ℕ) → take m (replicate (suc m) t) ≡ replicate m t
    again zero = refl
    again (suc m) = ap (λ l. t ∷ l) (again m)

    go : (m : ℕ) → take (length (replicate m t)) (replicate (suc m) t) ≡ replicate m t
    go m = rw (length-replicate m t) (again m)

-- ── rows ──

row-word : (t : ℕ) (ts s : List ℕ) (at : ℕ) → row_word (t ∷ ts) s at ≡ after (value_word t s at) (λ bs p. means (λ cs. bs ++ cs) (row_word ts s p))
unfolding row_word shape_word means after
row-word t ts s at = go ((value t).read s at)
  where
    rest : (v : Val) (y : Answer (List Val)) → means (row (t ∷ ts)).write (means (λ (x : Val × List Val). x.0 ∷ x.1) (means (λ b. (v, b)) y))
        ≡ means (λ cs. (value t).write v ++ cs) (means (row ts).write y)
    rest v (got vs q) = refl
    rest v (refused u) = refl

    go : (x : Answer Val) → means (row (t ∷ ts)).write (means (λ (x : Val × List Val). x.0 ∷ x.1) (after x λ a n. means (λ b. (a, b)) ((row ts).read s n)))
        ≡ after (means (value t).write x) (λ bs p. means (λ cs. bs ++ cs) (means (row ts).write ((row ts).read s p)))
    go (got v n) = rest v ((row ts).read s n)
    go (refused u) = refl

-- a row of one value is that value
pub row_single : (t : ℕ) (s : List ℕ) → said_of (row_word (t ∷ []) s 0) ≡ tidied (value t) s
unfolding row_word shape_word means after said_of
row_single t s = go ((value t).read s 0)
  where
    go : (x : Answer Val) → said_of (means (row (t ∷ [])).write (means (λ (x : Val × List Val). x.0 ∷ x.1) (after x λ a n. means (λ b. (a, b)) ((row []).read s n)))) ≡ said_of (means (value t).write x)
    go (got v n) = ap says (append-nil _)
    go (refused u) = refl

pub row_none : (ks s : List ℕ) (i at : ℕ) → length ks ≤ i → row_word (drop i ks) s at ≡ got [] at
unfolding row_word means
row_none ks s i at h = rw (drop_of_length-le ks h)

module _ (ks s : List ℕ) (i at c : ℕ) (h : i < length ks) (is : c ≡ get_or ks i 0) where
  row_cons : row_word (drop i ks) s at ≡ after (value_word c s at) (λ bs p. means (λ cs. bs ++ cs) (row_word (drop (i + 1) ks) s p))
  row_cons = rw (add-one, drop-cons ks i 0 h, ← is) (row-word c (drop (suc i) ks) s at)

  -- a value that cannot be read
  pub row_bad : (t : Told) → refused t ≡ means length (value_word c s at) → row_word (drop i ks) s at ≡ refused t
  unfolding after
  row_bad t e = row_cons ∙ rw (unmeasured (value_word c s at) t e)

  -- a value that was read
  row_more : (t n : ℕ) → got t n ≡ means length (value_word c s at)
      → row_word (drop i ks) s at ≡ means (λ cs. spelling (value_word c s at) ++ cs) (row_word (drop (i + 1) ks) s n)
  unfolding after
  row_more t n e = row_cons ∙ ap (λ (x : Answer (List ℕ)). after x (λ bs p. means (λ cs. bs ++ cs) (row_word (drop (i + 1) ks) s p))) (measured (value_word c s at) t n e).0

  -- the lengths so far
  pub sum_bad : (need : ℕ) (t : Told) → refused t ≡ means length (value_word c s at) → refused t ≡ means (λ l. need + l) (means length (row_word (drop i ks) s at))
  unfolding means
  sum_bad need t e = rw (row_bad t e)

  pub sum_more : (need t n : ℕ) → got t n ≡ means length (value_word c s at)
      → means (λ l. need + t + l) (means length (row_word (drop (i + 1) ks) s n)) ≡ means (λ l. need + l) (means length (row_word (drop i ks) s at))
  unfolding means
  sum_more need t n e = rw (row_more t n e, (measured (value_word c s at) t n e).1) (go (spelling (value_word c s at)) (row_word (drop (i + 1) ks) s n))
    where
      go : (bs : List ℕ) (y : Answer (List ℕ)) → means (λ l. need + length bs + l) (means length y) ≡ means (λ l. need + l) (means length (means (λ cs. bs ++ cs) y))
      go bs (got cs m) = rw (length-append, add_assoc)
      go bs (refused u) = refl

pub sum_none : (ks s : List ℕ) (i at need : ℕ) → length ks ≤ i → got need at ≡ means (λ l. need + l) (means length (row_word (drop i ks) s at))
unfolding means
sum_none ks s i at need h = rw (row_none ks s i at h, add-zero)

pub sum_start : (ks s : List ℕ) (at : ℕ) → means (λ l. 0 + l) (means length (row_word ks s at)) ≡ means length (row_word ks s at)
unfolding means
sum_start ks s at = go (row_word ks s at)
  where
    go : (y : Answer (List ℕ)) → means (λ l. 0 + l) (means length y) ≡ means length y
    go (got bs n) = rw zero-add
    go (refused t) = refl

-- ── the word of a row that was read, a value at a time ──

module _ (ks s : List ℕ) (i at c : ℕ) (h : i < length ks) (is : c ≡ get_or ks i 0) (w : took (row_word (drop i ks) s at) ≡ true) (t n : ℕ) (e : got t n ≡ means length (value_word c s at)) where
  pub value_took : took (value_word c s at) ≡ true
  value_took = ap took (measured (value_word c s at) t n e).0

  pub value_size : t ≡ length (spelling (value_word c s at))
  value_size = (measured (value_word c s at) t n e).1

  pub row_rest : (took (row_word (drop (i + 1) ks) s n) ≡ true) × (spelling (row_word (drop i ks) s at) ≡ spelling (value_word c s at) ++ spelling (row_word (drop (i + 1) ks) s n))
  row_rest =
      let more = took_more (spelling (value_word c s at)) (row_word (drop (i + 1) ks) s n) (rw (row_more ks s i at c h is t n e) at w) in
      (more.0, rw (row_more ks s i at c h is t n e) more.1)
