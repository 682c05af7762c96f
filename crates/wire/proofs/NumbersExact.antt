-- All integers of a row, of the function's own answer: `r` is any answer, and `new` any memory, that the promise of `list_numbers` allows. Where n integers
-- of a type of 8 to 64 bits stand from a place on, their words are given, and only there; 12 is told exactly for any other type, and 1 of the first
-- integer that is cut.
-- Assumes nothing.
use Rattle.layout.specs.Answer.{says_count}
use Rattle.std.specs.declared.result.Result.{Result}
use Rattle.layout.specs.declared.Refusal.{Refusal}
use mathlib.Core.Path.{◌≡◌, refl, sym, ap, subst, ◌∙◌}
use mathlib.Core.Bool.{Bool, true, false}
use mathlib.Core.List.{List, [], ◌∷◌, ◌++◌, map}
use mathlib.Core.Logic.{◌↔◌}
use Prim.Native.Nat.{ℕ, zero, suc, ◌+◌, ◌-◌, ◌*◌, ◌/◌, ◌^◌, ◌≤◌, ◌<◌}
use native.Mathlib.Omega.{arith}
use borrow.Author.Tests.{eqb-true, eqb-false, leb-true, leb-false, lt-leb}
use lib.Dec.{leb, eqb, lit≤}
use lib.IntN.{ℤ, pos, negsuc}
use lib.ListN.{length, drop, get_or, length-map}
use Rattle.layout.specs.Answer.{Told, Answer, got, refused, bare, end_at, pick, means, span_at}
use Rattle.layout.specs.Bytes.{Bytes, cells}
use Rattle.layout.specs.Codec.{repeated}
use Rattle.layout.specs.Format.{Stands}
use Rattle.layout.specs.Grammar.{loose, Repeat}
use Rattle.layout.specs.Refusals.{PLACE, ROOM}
use Rattle.layout.specs.Written.{said_of, Wrote, answer_of, left_of}
use Rattle.layout.proofs.laws.Make.{Spanned, there, short, spanned, span_there, repeat_format}
use Rattle.layout.proofs.laws.Meets.{read_word}
use Rattle.layout.proofs.laws.Numbers.{zero_one}
use Rattle.layout.proofs.laws.Reading.{unmeant}
use Rattle.layout.proofs.laws.Words.{part_there}
use Rattle.layout.proofs.laws.Writing.{wrote_so}
use Rattle.wire.specs.Codecs.{unsigned, value}
use Rattle.wire.specs.Description.{PropInfo}
use Rattle.wire.specs.Description as placed
use Rattle.wire.specs.Layout.{Kind, sint, uint, width, int, meaning, one, shape, Val, num, nil, Value, Form, list}
use Rattle.wire.specs.Numbers.{PlainType, int8, uint8, int16, uint16, int32, uint32, int64, uint64, Word, above, below, plain, Words, none, more, word_of, numbers_in, numbers_at}
use Rattle.wire.specs.Places.{array_at, items_in}
use Rattle.wire.specs.Property.{bytes_of, passed_at, property_at, property_in}
use Rattle.wire.specs.Worded.{Worded, WordedForm, a_range, a_list, absent}
use Rattle.wire.specs.declared.Part.{Part}
use Rattle.wire.specs.declared.property.Slot.{Slot}
use Rattle.wire.proofs.Agrees.{array_ranged}
use Rattle.wire.proofs.Held.{held}
use Rattle.wire.proofs.NumberWords.{values_read, numbers_none, numbers_other, numbers_read}
use Rattle.wire.proofs.Passed.{passed_numbers}
use Rattle.wire.proofs.Spelled.{length_cells}
use Rattle.wire.proofs.laws.Formats.{value_format}

-- ── the types ──

pub record Typed (t : ℕ) (k : Kind) : Type 0 where
  pub is : shape t ≡ one k
  pub some : t ≡ 0 → ⊥
  pub few : t ≤ 8
  pub wide : 0 < width k
  pub words : (m : ℕ) → Word (num (meaning k m)) (word_of (num (meaning k m)))

signed_word : (z : ℤ) → Word (num (int z)) (unsigned (2 ^ 64) z)
signed_word (pos n) = above
signed_word (negsuc m) = below

typed : {t : ℕ} {k : Kind} → PlainType t k → Typed t k
typed int8 = record { is = refl; some = λ e. omega arith; few = lit≤ tt; wide = lit≤ tt; words = λ m. signed_word _ }
typed uint8 = record { is = refl; some = λ e. omega arith; few = lit≤ tt; wide = lit≤ tt; words = λ m. plain }
typed int16 = record { is = refl; some = λ e. omega arith; few = lit≤ tt; wide = lit≤ tt; words = λ m. signed_word _ }
typed uint16 = record { is = refl; some = λ e. omega arith; few = lit≤ tt; wide = lit≤ tt; words = λ m. plain }
typed int32 = record { is = refl; some = λ e. omega arith; few = lit≤ tt; wide = lit≤ tt; words = λ m. signed_word _ }
typed uint32 = record { is = refl; some = λ e. omega arith; few = lit≤ tt; wide = lit≤ tt; words = λ m. plain }
typed int64 = record { is = refl; some = λ e. omega arith; few = lit≤ tt; wide = lit≤ tt; words = λ m. signed_word _ }
typed uint64 = record { is = refl; some = λ e. omega arith; few = lit≤ tt; wide = lit≤ tt; words = λ m. plain }

type_of : (t : ℕ) → (t ≡ 0 → ⊥) → t ≤ 8 → (k : Kind) × PlainType t k
type_of zero h l = absurd (h refl)
type_of (suc zero) h l = (sint 1, int8)
type_of (suc (suc zero)) h l = (uint 1, uint8)
type_of (suc (suc (suc zero))) h l = (sint 2, int16)
type_of (suc (suc (suc (suc zero)))) h l = (uint 2, uint16)
type_of (suc (suc (suc (suc (suc zero))))) h l = (sint 4, int32)
type_of (suc (suc (suc (suc (suc (suc zero)))))) h l = (uint 4, uint32)
type_of (suc (suc (suc (suc (suc (suc (suc zero))))))) h l = (sint 8, int64)
type_of (suc (suc (suc (suc (suc (suc (suc (suc zero)))))))) h l = (uint 8, uint64)
type_of (suc (suc (suc (suc (suc (suc (suc (suc (suc n))))))))) h l = absurd (omega arith)

-- ── the words ──

all_words : (k : Kind) → ((m : ℕ) → Word (num (meaning k m)) (word_of (num (meaning k m)))) → (ns : List ℕ) → Words (map (λ m. num (meaning k m)) ns) (map word_of (map (λ m. num (meaning k m)) ns))
all_words k h [] = none
all_words k h (n ∷ ns) = more (h n) (all_words k h ns)

-- the word of each is that of the value at its index
pub words_nth : {vs : List Val} {xs : List ℕ} → Words vs xs → (j : ℕ) → j < length vs → Word (get_or vs j nil) (get_or xs j 0)
words_nth none j h = absurd (omega arith)
words_nth (more w ws) zero h = w
words_nth (more w ws) (suc j) h = words_nth ws j (omega arith)

-- ── the list of a description ──

a_list_of : {t n : ℕ} {s : List ℕ} {f : placed.Form} {g : Form} {l : Slot} {vs : List Val} → WordedForm t s f g → f ≡ placed.list l n → g ≡ list vs → Worded (Repeat n (Value t)) s l vs
a_list_of (a_range a b c) e i = zero_one (cc)
a_list_of {t} {n} {s} {l = l} {vs = vs} (a_list {p = p} {n = m} {vs = us} w) e i =
    let same : p ≡ l = cc in
    let count : m ≡ n = cc in
    let values : us ≡ vs = cc in
    rw (← same, ← count, ← values) w
a_list_of absent e i = zero_one (cc)

-- ── the answer ──

module _ (t n : ℕ) (s : List ℕ) (at : ℕ) {old new : List ℕ} (r : (Result ℕ Refusal)) (promised : Wrote (said_of (numbers_at t n s at)) old (says_count r) new) where
  -- the words of these values stand at the front, and so many are told
  abbrev pub Given : List Val → Type 0
  Given vs = (xs : List ℕ) × Words vs xs × (says_count r ≡ got tt n) × (new ≡ xs ++ drop n old)

  -- what is answered where the row is read, or not
  module _ {k : Kind} (p : PlainType t k) where
    abbrev ty : Typed t k
    ty = typed p

    -- the place of the first that is not whole
    abbrev place : ℕ
    place = at + (length s - at) / width k * width k

    abbrev Row : Answer (List Val)
    Row = (repeated n (value t)).read s at

    said_read : {x : Answer (List Val)} → Row ≡ x → said_of (numbers_at t n s at) ≡ said_of (means (map word_of) x)
    said_read e = ap said_of (numbers_read t n s at ty.some ty.few ∙ ap (means (map word_of)) e)

    numbers : {vs : List Val} {q : ℕ} → Row ≡ got vs q → vs ≡ numbers_in k n (drop at s)
    numbers {vs} {q} e = (values_read k (value t) s (λ p. rw ty.is) n at vs q e).0

    many : {vs : List Val} {q : ℕ} → Row ≡ got vs q → length (map word_of vs) ≡ n
    many {vs} e =
        length-map vs word_of ∙ ap length (numbers e) ∙ length-map (cells (width k) n (drop at s)) (λ m. num (meaning k m)) ∙ length_cells (width k) n (drop at s)

    words_of : {vs : List Val} {q : ℕ} → Row ≡ got vs q → Words vs (map word_of vs)
    words_of e = rw (numbers e) (all_words k ty.words (cells (width k) n (drop at s)))

    -- ── where they stand ──

    -- each by its word, and nothing past them changes
    row_given : {vs : List Val} {q : ℕ} → Row ≡ got vs q → n ≤ length old → Given vs
    unfolding said_of means
    row_given {vs} e room =
        let d = wrote_so (said_read e) (omega (arith, many e)) promised in
        (map word_of vs, words_of e, d.0 ∙ ap (got tt) (many e), d.1 ∙ ap (λ m. map word_of vs ++ drop m old) (many e))

    module _ {w : List ℕ} (vs : List Val) {q : ℕ} (st : Stands s at q w) (g : Repeat n (Value t) loose w vs) where
      row_read : Row ≡ got vs q
      row_read = (repeat_format n (value_format t)).complete st g

      pub numbers_given : n ≤ length old → Given vs
      numbers_given = row_given row_read

      -- 9 where they have no room
      pub numbers_9 : length old < n → (says_count r ≡ refused (bare ROOM)) × (new ≡ old)
      unfolding said_of means answer_of left_of
      numbers_9 less =
          let short : length old < length (map word_of vs) = omega (arith, many row_read) in
          (promised.answers ∙ rw (said_read row_read, lt-leb _ _ short), promised.leaves ∙ rw (said_read row_read, lt-leb _ _ short))

    -- the items of an array, from their first on
    pub numbers_items : (a : ℕ) (l : Part) {q : ℕ} → array_at (width k) s a ≡ got l q → at ≡ l.start → n ≡ l.count → n ≤ length old → Given (map (λ m. num (meaning k m)) (items_in (width k) s l))
    unfolding passed_at
    numbers_items a l {q} e start count room =
        let g = array_ranged (width k) s a l q (sym e) in
        let fits : n * width k ≤ length s - at = rw (start, count) (omega (arith, g.ends, g.within)) in
        let (vs, is, _) = unmeant (λ _. tt {0}) Row (sym (passed_numbers t s k (sym ty.is) ty.wide n at) ∙ span_there place (n * width k) s at fits) in
        let same : numbers_in k n (drop at s) ≡ map (λ m. num (meaning k m)) (items_in (width k) s l) = rw (start, count) in
        subst Given (numbers is ∙ same) (row_given is room)

    -- the values of a description's list
    pub numbers_listed : Bytes s → (enabled : Bool) (x : PropInfo) {m : ℕ} → property_at enabled s 0 ≡ got x m → (l : Slot) → x.form ≡ placed.list l n → x.data_type ≡ t → at ≡ l.start
        → (vs : List Val) → (property_in s x).form ≡ list vs → n ≤ length old → Given vs
    numbers_listed h enabled x {m} e l is type start vs reads room =
        let d = held s h enabled x m e in
        let w = a_list_of d.form is reads in
        let g : Worded (Repeat n (Value t)) s l vs = subst (λ u. Worded (Repeat n (Value u)) s l vs) (sym d.type ∙ type) w in
        let st : Stands s at (l.start + l.len) (bytes_of s l) = rw start (part_there s l.start l.len (omega (arith, g.within))) in
        numbers_given vs st g.reads room

    -- ── where they do not ──

    refused_there : (u : Told) → Row ≡ refused u → u ≡ end_at place
    unfolding passed_at means
    refused_there u e = go (span_at place (n * width k) s at) (spanned place (n * width k) s at) (passed_numbers t s k (sym ty.is) ty.wide n at ∙ ap (means (λ _. tt {0})) e)
      where
        go : (x : Answer (Unit {0})) → Spanned place (n * width k) s at x → x ≡ refused u → u ≡ end_at place
        go (got v m) (there h) f = zero_one (cc)
        go (refused v) (short h) f = cc

    -- 1 of it
    pub numbers_1 : Bytes s → ((w : List ℕ) (vs : List Val) (q : ℕ) → Stands s at q w → Repeat n (Value t) loose w vs → ⊥) → (says_count r ≡ refused (end_at place)) × (new ≡ old)
    unfolding said_of means answer_of left_of
    numbers_1 h never = go Row refl
      where
        go : (x : Answer (List Val)) → Row ≡ x → (says_count r ≡ refused (end_at place)) × (new ≡ old)
        go (got vs q) e = let (w, st, g) = read_word (repeat_format n (value_format t)) h e in absurd (never w vs q st g)
        go (refused u) e = (promised.answers ∙ ap (λ y. answer_of y old) (said_read e) ∙ ap refused (refused_there u e), promised.leaves ∙ ap (λ y. left_of y old) (said_read e))

    -- and never 12
    not_12 : says_count r ≡ refused (bare PLACE) → ⊥
    unfolding said_of means answer_of end_at bare
    not_12 f = go Row refl
      where
        room : (vs : List Val) (b : Bool) → pick b (got (tt {0}) (length (map word_of vs))) (refused (bare ROOM)) ≡ refused (bare PLACE) → ⊥
        room vs true e = zero_one (cc)
        room vs false e = let same : bare ROOM ≡ bare PLACE = cc in omega (arith, ap (λ (u : Told). u.no) same)

        go : (x : Answer (List Val)) → Row ≡ x → ⊥
        go (got vs q) e = room vs (leb (length (map word_of vs)) (length old)) (sym (ap (λ y. answer_of y old) (said_read e)) ∙ sym promised.answers ∙ f)
        go (refused u) e = let same : end_at place ≡ bare PLACE = sym (refused_there u e) ∙ cc (ap (λ y. answer_of y old) (said_read e), promised.answers, f) in omega (arith, ap (λ (u : Told). u.no) same)

  -- ── the other way: what is given stands there ──

  abbrev Here : ℕ → Type 0
  Here m = (k : Kind) × PlainType t k × (w : List ℕ) × (vs : List Val) × (q : ℕ) × Stands s at q w × Repeat n (Value t) loose w vs × (m ≡ n)

  pub numbers_stand : Bytes s → (m : ℕ) → says_count r ≡ got tt m → Here m
  unfolding said_of means answer_of
  numbers_stand h m f = go (eqb t 0) refl (leb t 8) refl
    where
      other : numbers_at t n s at ≡ refused (bare PLACE) → Here m
      other e = zero_one (cc (promised.answers, f, ap (λ y. answer_of (said_of y) old) e))

      room : (vs : List Val) → length (map word_of vs) ≡ n → (b : Bool) → got (tt {0}) m ≡ pick b (got (tt {0}) (length (map word_of vs))) (refused (bare ROOM)) → m ≡ n
      room vs size true e = let same : m ≡ length (map word_of vs) = cc in same ∙ size
      room vs size false e = zero_one (cc)

      row : (k : Kind) (p : PlainType t k) (x : Answer (List Val)) → (repeated n (value t)).read s at ≡ x → Here m
      row k p (got vs q) e =
          let (w, st, g) = read_word (repeat_format n (value_format t)) h e in
          (k, p, w, vs, q, st, g, room vs (many p e) (leb (length (map word_of vs)) (length old)) (sym f ∙ promised.answers ∙ ap (λ y. answer_of y old) (said_read p e)))
      row k p (refused u) e = zero_one (cc (promised.answers, f, ap (λ y. answer_of y old) (said_read p e)))

      go : (a : Bool) → eqb t 0 ≡ a → (b : Bool) → leb t 8 ≡ b → Here m
      go true e b i = other (numbers_none t n s at (eqb-true t 0 e))
      go false e false i = other (numbers_other t n s at (eqb-false t 0 e) (leb-false t 8 i))
      go false e true i = let (k, p) = type_of t (eqb-false t 0 e) (leb-true t 8 i) in row k p ((repeated n (value t)).read s at) refl

  -- 12 exactly for any other type
  pub numbers_12 : says_count r ≡ refused (bare PLACE) ↔ ((k : Kind) → PlainType t k → ⊥)
  unfolding said_of answer_of
  numbers_12 = ((λ f k p. not_12 p f), λ never. go never (eqb t 0) refl (leb t 8) refl)
    where
      other : numbers_at t n s at ≡ refused (bare PLACE) → says_count r ≡ refused (bare PLACE)
      other e = promised.answers ∙ ap (λ y. answer_of (said_of y) old) e

      go : ((k : Kind) → PlainType t k → ⊥) → (a : Bool) → eqb t 0 ≡ a → (b : Bool) → leb t 8 ≡ b → says_count r ≡ refused (bare PLACE)
      go never true e b i = other (numbers_none t n s at (eqb-true t 0 e))
      go never false e false i = other (numbers_other t n s at (eqb-false t 0 e) (leb-false t 8 i))
      go never false e true i = let (k, p) = type_of t (eqb-false t 0 e) (leb-true t 8 i) in absurd (never k p)
