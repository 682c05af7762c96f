-- Integers in a row: what their words are by their bytes; that a row is read as its bytes say; and that a number is in it where it was met or is in what
-- is left.
-- Assumes nothing.
use mathlib.Core.Path.{◌≡◌, refl, sym, ap, ◌∙◌}
use mathlib.Core.Bool.{Bool, true, false, ◌||◌}
use mathlib.Core.List.{List, [], ◌∷◌, map}
use mathlib.Core.Logic.{inl, inr}
use Prim.Native.Nat.{ℕ, zero, suc, ◌+◌, ◌-◌, ◌*◌, ◌^◌, ◌≤◌, ◌<◌}
use native.Mathlib.Nat.{suc-mul, zero-mul, add-zero}
use native.Mathlib.Omega.{arith}
use borrow.Author.Tests.{eqb-true, eq-eqb, ne_eqb, le-leb, lt-leb, lt-ltb, le-ltb, ltb-true, ltb-false}
use lib.Dec.{eqb, ltb}
use lib.IntN.{pos, negsuc}
use lib.ListN.{length, take, drop, get_or, length-drop, length-map}
use lib.Seq.{drop-cons, drop-drop, length-take-le}
use Rattle.layout.specs.Answer.{Told, Answer, got, refused, bare, pick, after, means, span_at, field_at}
use Rattle.layout.specs.Bytes.{Bytes, number, cells}
use Rattle.layout.specs.Codec.{Codec, repeated}
use Rattle.layout.specs.Refusals.{PLACE}
use Rattle.layout.specs.Written.{says, no, said_of, Put}
use Rattle.layout.proofs.laws.Make.{Spanned, there, short, spanned}
use Rattle.layout.proofs.laws.Reading.{unmeant}
use Rattle.layout.proofs.laws.Numbers.{number_lt, Bytes-take, Bytes-drop, zero_one}
use Rattle.wire.specs.Codecs.{unsigned, value}
use Rattle.wire.specs.Layout.{signed, Kind, sint, uint, width, meaning, integer_width, one, shape, Val, num}
use Rattle.wire.specs.Numbers.{Plain, one_byte, two_bytes, four_bytes, eight_bytes, is_plain, word_of, numbers_in, words_in, extended, is_in, numbers_at}
use Rattle.wire.specs.Property.{passed_at}
use Rattle.wire.proofs.Spelled.{length_cells}
use Rattle.wire.proofs.Texts.{cells_on, cells_nil}
use Rattle.wire.proofs.laws.Kinds.{below, above, WidthAt, no_integer, a_number, a_pair, width_at}

-- ── a number by its bytes ──

first_byte : (s : List ℕ) (at n : ℕ) → at < length s → number (take (suc n) (drop at s)) ≡ get_or s at 0 + 256 * number (take n (drop (at + 1) s))
unfolding number
first_byte s at n h =
    let e : suc at ≡ at + 1 = omega arith in
    ap (λ l. number (take (suc n) l)) (drop-cons s at 0 h) ∙ ap (λ i. get_or s at 0 + 256 * number (take n (drop i s))) e

module _ (s : List ℕ) (at : ℕ) where
  pub one_word : at < length s → number (take 1 (drop at s)) ≡ get_or s at 0
  unfolding number
  one_word h =
      let e : number (take 1 (drop at s)) ≡ get_or s at 0 + 256 * number (take 0 (drop (at + 1) s)) = first_byte s at 0 h in
      omega (arith, e)

  pair_front : (n : ℕ) → at + 1 < length s → number (take (suc (suc n)) (drop at s)) ≡ get_or s at 0 + 256 * get_or s (at + 1) 0 + 65536 * number (take n (drop (at + 2) s))
  pair_front n h =
      let e : at + 1 + 1 ≡ at + 2 = omega arith in
      omega (arith, first_byte s at (suc n) (omega arith), first_byte s (at + 1) n h, ap (λ i. number (take n (drop i s))) e)

  pub two_word : 2 ≤ length s - at → number (take 2 (drop at s)) ≡ get_or s at 0 + 256 * get_or s (at + 1) 0
  unfolding number
  two_word h =
      let e : number (take 2 (drop at s)) ≡ get_or s at 0 + 256 * get_or s (at + 1) 0 + 65536 * number (take 0 (drop (at + 2) s)) = pair_front 0 (omega arith) in
      omega (arith, e)

pub four_word : (s : List ℕ) (at : ℕ) → 4 ≤ length s - at → number (take 4 (drop at s)) ≡ number (take 2 (drop at s)) + 65536 * number (take 2 (drop (at + 2) s))
four_word s at h =
    let e : number (take 4 (drop at s)) ≡ get_or s at 0 + 256 * get_or s (at + 1) 0 + 65536 * number (take 2 (drop (at + 2) s)) = pair_front s at 2 (omega arith) in
    omega (arith, e, two_word s at (omega arith))

pub eight_word : (s : List ℕ) (at : ℕ) → 8 ≤ length s - at → number (take 8 (drop at s)) ≡ number (take 4 (drop at s)) + 4294967296 * number (take 4 (drop (at + 4) s))
eight_word s at h =
    let e : number (take 8 (drop at s)) ≡ get_or s at 0 + 256 * get_or s (at + 1) 0 + 65536 * number (take 6 (drop (at + 2) s)) = pair_front s at 6 (omega arith) in
    let f : number (take 6 (drop (at + 2) s)) ≡ get_or s (at + 2) 0 + 256 * get_or s (at + 2 + 1) 0 + 65536 * number (take 4 (drop (at + 2 + 2) s)) = pair_front s (at + 2) 4 (omega arith) in
    let g : at + 2 + 2 ≡ at + 4 = omega arith in
    omega (arith, e, f, four_word s at (omega arith), two_word s at (omega arith), two_word s (at + 2) (omega arith), ap (λ i. number (take 4 (drop i s))) g)

-- ── one of the row ──

-- one word more
pub met : (s : List ℕ) (o left w x : ℕ) (found : Bool) → 0 < left →
    pick (found || eqb (number (take w (drop o s))) x) true (is_in x (cells w (left - 1) (drop (o + w) s))) ≡ pick found true (is_in x (cells w left (drop o s)))
unfolding is_in
met s o left w x found h = rw (cells_on w left s o h) (go found (eqb (number (take w (drop o s))) x))
  where
    go : (f b : Bool) → pick (f || b) true (is_in x (cells w (left - 1) (drop (o + w) s))) ≡ pick f true (pick b true (is_in x (cells w (left - 1) (drop (o + w) s))))
    go true b = refl
    go false true = refl
    go false false = refl

pub none_met : (s : List ℕ) (o left w x : ℕ) (found : Bool) → left ≤ 0 → pick found true (is_in x (cells w left (drop o s))) ≡ found
unfolding is_in
none_met s o left w x found h = rw (cells_nil w left (drop o s) h) (go found)
  where
    go : (b : Bool) → pick b true false ≡ b
    go true = refl
    go false = refl

-- ── the widths ──

pub eight : {w : ℕ} → Plain w → (w ≡ 1 → ⊥) → (w ≡ 2 → ⊥) → (w ≡ 4 → ⊥) → w ≡ 8
eight one_byte a b c = absurd (a refl)
eight two_bytes a b c = absurd (b refl)
eight four_bytes a b c = absurd (c refl)
eight eight_bytes a b c = refl

pub plain_width : (w : ℕ) → is_plain w ≡ true → Plain w
plain_width w e = go (eqb w 1) refl (eqb w 2) refl (eqb w 4) refl e
  where
    is : (v : ℕ) → Plain v → eqb w v ≡ true → Plain w
    is v p e = rw (eqb-true w v e) p

    go : (a : Bool) → eqb w 1 ≡ a → (b : Bool) → eqb w 2 ≡ b → (c : Bool) → eqb w 4 ≡ c → pick a true (pick b true (pick c true (eqb w 8))) ≡ true → Plain w
    go true f b g c h e = is 1 one_byte f
    go false f true g c h e = is 2 two_bytes g
    go false f false g true h e = is 4 four_bytes h
    go false f false g false h e = is 8 eight_bytes e

-- ── words ──

-- of a number below 0 the bytes above its own are ones
pub signed_extended : (full half top v : ℕ) → half + half ≡ full → full + top ≡ 2 ^ 64 → v < full → extended half top v ≡ unsigned (2 ^ 64) (signed full v)
unfolding signed
signed_extended full half top v e f h = go (ltb v half) refl
  where
    go : (b : Bool) → ltb v half ≡ b → pick b v (v + top) ≡ unsigned (2 ^ 64) (pick (ltb (v + v) full) (pos v) (negsuc (full - suc v)))
    go true g = let k = ltb-true v half g in rw (lt-ltb (v + v) full (omega arith))
    go false g = let k = ltb-false v half g in rw (le-ltb (v + v) full (omega arith)) (omega arith)

pub plain_extended : (half v : ℕ) → extended half 0 v ≡ v
plain_extended half v = go (ltb v half)
  where
    go : (b : Bool) → pick b v (v + 0) ≡ v
    go true = refl
    go false = add-zero v

-- so of all numbers of a row
pub all_extended : (k : Kind) (half top n : ℕ) (s : List ℕ) → Bytes s → ((v : ℕ) → v < 256 ^ width k → extended half top v ≡ word_of (num (meaning k v)))
    → n * width k ≤ length s → map (extended half top) (cells (width k) n s) ≡ map word_of (numbers_in k n s)
unfolding cells
all_extended k half top zero s h same room = refl
all_extended k half top (suc n) s h same room =
    let there : width k ≤ length s = omega (arith, suc-mul n (width k)) in
    let few : number (take (width k) s) < 256 ^ width k = rw (length-take-le (width k) s there) at (number_lt (take (width k) s) (Bytes-take (width k) s h)) in
    rw (same (number (take (width k) s)) few, all_extended k half top n (drop (width k) s) (Bytes-drop (width k) s h) same (omega (arith, suc-mul n (width k), length-drop (width k) s)))

-- and of those of a type, as they are put
pub words_put : (t n : ℕ) (s : List ℕ) (at : ℕ) (k : Kind) (half top : ℕ) {old new : List ℕ} {r : ℕ} → Bytes s → shape t ≡ one k
    → ((v : ℕ) → v < 256 ^ width k → extended half top v ≡ word_of (num (meaning k v))) → n * width k ≤ length s - at
    → Put old 0 (map (extended half top) (cells (width k) n (drop at s))) new r → Put old 0 (words_in (shape t) n (drop at s)) new r
unfolding words_in
words_put t n s at k half top h is same room p =
    rw (is, ← all_extended k half top n (drop at s) (Bytes-drop at s h) same (omega (arith, length-drop at s))) p

-- ── a row as it is read ──

-- n values of a codec that reads numbers of a kind
module _ (k : Kind) (F : Codec Val) (s : List ℕ) (reads : (at : ℕ) → F.read s at ≡ means (λ m. num (meaning k m)) (field_at (width k) number s at)) where
  abbrev pub Read : ℕ → ℕ → List Val → Type 0
  Read n at vs = (vs ≡ numbers_in k n (drop at s)) × (n * width k ≤ length s - at)

  pub values_read : (n at : ℕ) (vs : List Val) (q : ℕ) → (repeated n F).read s at ≡ got vs q → Read n at vs
  unfolding cells means after field_at
  values_read zero at vs q e = let f : [] ≡ vs = cc in (sym f, omega (arith, zero-mul (width k)))
  values_read (suc n) at vs q e = turn (span_at at (width k) s at) (spanned at (width k) s at) (λ ws r f. values_read n (at + width k) ws r f) (rw (reads at) at e)
    where
      v : Val
      v = num (meaning k (number (take (width k) (drop at s))))

      rest : (y : Answer (List Val)) → ((ws : List Val) (r : ℕ) → y ≡ got ws r → Read n (at + width k) ws) → width k ≤ length s - at
          → means (λ (z : Val × List Val). z.0 ∷ z.1) (means (λ ws. (v, ws)) y) ≡ got vs q → Read (suc n) at vs
      rest (got ws r) others h e =
          let f : v ∷ ws ≡ vs = cc in
          let o = others ws r refl in
          (sym f ∙ rw (o.0, drop-drop (width k) at s), omega (arith, o.1, suc-mul n (width k)))
      rest (refused u) others h e = zero_one (cc)

      turn : (x : Answer (Unit {0})) → Spanned at (width k) s at x → ((ws : List Val) (r : ℕ) → (repeated n F).read s (at + width k) ≡ got ws r → Read n (at + width k) ws)
          → means (λ (z : Val × List Val). z.0 ∷ z.1) (after (means (λ m. num (meaning k m)) (after x λ _ next. got (number (take (width k) (drop at s))) next)) λ u p. means (λ ws. (u, ws)) ((repeated n F).read s p)) ≡ got vs q
          → Read (suc n) at vs
      turn (got u p) (there h) others e = rest ((repeated n F).read s (at + width k)) others h e
      turn (refused u) (short h) others e = zero_one (cc)

-- ── what is said ──

module _ (t n : ℕ) (s : List ℕ) (at : ℕ) where
  pub numbers_none : t ≡ 0 → numbers_at t n s at ≡ refused (bare PLACE)
  unfolding numbers_at
  numbers_none e = rw (eq-eqb t 0 e)

  module _ (some : t ≡ 0 → ⊥) where
    pub numbers_other : 8 < t → numbers_at t n s at ≡ refused (bare PLACE)
    unfolding numbers_at
    numbers_other h = rw (ne_eqb t 0 some, lt-leb t 8 h)

    module _ (few : t ≤ 8) where
      pub numbers_read : numbers_at t n s at ≡ means (map word_of) ((repeated n (value t)).read s at)
      unfolding numbers_at
      numbers_read = rw (ne_eqb t 0 some, le-leb t 8 few)

      pub numbers_cut : (u : Told) → refused u ≡ passed_at t n s at → said_of (numbers_at t n s at) ≡ no u
      unfolding passed_at means said_of
      numbers_cut u e = ap said_of numbers_read ∙ go ((repeated n (value t)).read s at) e
        where
          go : (x : Answer (List Val)) → refused u ≡ means (λ _. tt {0}) x → said_of (means (map word_of) x) ≡ no u
          go (got vs q) e = zero_one (cc)
          go (refused w) e = cc

      -- their bytes are there, and what is said of them is what the bytes say
      pub numbers_said : (q : ℕ) → got tt q ≡ passed_at t n s at
          → (said_of (numbers_at t n s at) ≡ says (words_in (shape t) n (drop at s))) × (n * integer_width t ≤ length s - at) × (length (words_in (shape t) n (drop at s)) ≡ n)
      unfolding passed_at means said_of words_in
      numbers_said q e =
          let (vs, is, _) = unmeant (λ _. tt {0}) ((repeated n (value t)).read s at) (sym e) in
          go (width_at t) vs (ap said_of (numbers_read ∙ ap (means (map word_of)) is)) is
        where
          by : (k : Kind) → shape t ≡ one k → (vs : List Val) → said_of (numbers_at t n s at) ≡ says (map word_of vs) → (repeated n (value t)).read s at ≡ got vs q
              → (said_of (numbers_at t n s at) ≡ says (words_in (shape t) n (drop at s))) × (n * width k ≤ length s - at) × (length (words_in (shape t) n (drop at s)) ≡ n)
          by k is vs f x =
              let r = values_read k (value t) s (λ p. rw is) n at vs q x in
              let same : words_in (shape t) n (drop at s) ≡ map word_of (numbers_in k n (drop at s)) = rw is in
              let many : length (map word_of (numbers_in k n (drop at s))) ≡ n = length-map (numbers_in k n (drop at s)) word_of ∙ length-map (cells (width k) n (drop at s)) (λ m. num (meaning k m)) ∙ length_cells (width k) n (drop at s) in
              (f ∙ ap (λ us. says (map word_of us)) r.0 ∙ ap says (sym same), r.1, ap length same ∙ many)

          go : {w : ℕ} → WidthAt t w → (vs : List Val) → said_of (numbers_at t n s at) ≡ says (map word_of vs) → (repeated n (value t)).read s at ≡ got vs q
              → (said_of (numbers_at t n s at) ≡ says (words_in (shape t) n (drop at s))) × (n * w ≤ length s - at) × (length (words_in (shape t) n (drop at s)) ≡ n)
          go (no_integer (inl h)) vs f x = absurd (some (omega arith))
          go (no_integer (inr h)) vs f x = absurd (omega arith)
          go (a_number {w} h k (below is) p) vs f x = by (sint w) is vs f x
          go (a_number {w} h k (above is) p) vs f x = by (uint w) is vs f x
          go (a_pair h k is) vs f x = absurd (omega arith)
