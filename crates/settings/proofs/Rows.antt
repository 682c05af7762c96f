-- A row by its entries. The entries that were accepted stand one behind the other: going through them again, by the length that stands at the front of each, meets each of them where it
-- starts. There the word of a key stands exactly where the entry has the key.
-- Assumes nothing.
use Rattle.std.specs.Prelude.{Ok, Err}
use mathlib.Core.Path.{◌≡◌, refl, ap, sym, ◌∙◌, subst}
use mathlib.Core.Bool.{Bool, true, false}
use mathlib.Core.List.{List, [], ◌∷◌, ◌++◌}
use Prim.Native.Nat.{ℕ, zero, suc, ◌+◌, ◌-◌, ◌≤◌, ◌<◌}
use native.Mathlib.Omega.{arith}
use borrow.Author.Tests.{eqb-true, eqb-false, eq-eqb, lt-ltb, le-ltb, le-leb, lt-leb}
use lib.Dec.{eqb}
use lib.ListN.{length, take, drop, get_or, length-append, length-take, length-drop}
use lib.Seq.{ext_get_or, get_or-take, get_or-drop, length-take-le}
use Rattle.layout.specs.Answer.{Told, got, refused, pick, after, bare}
use Rattle.layout.specs.Bytes.{Bytes}
use Rattle.layout.specs.Grammar.{tidy}
use Rattle.layout.specs.Refusals.{RECORD}
use Rattle.layout.proofs.laws.Reading.{one_got}
use Rattle.layout.proofs.laws.Numbers.{zero_one}
use Rattle.layout.proofs.laws.Words.{no_bytes}
use Rattle.wire.specs.Property.{bytes_of}
use Rattle.settings.specs.Refusals.{FULL}
use Rattle.settings.specs.Layout.{Key, Keyed, key_discrete, decided, same_key, holds, limit}
use Rattle.settings.specs.Entry.{entry_at, key_slot, key_in}
use Rattle.settings.specs.Row.{settings_in, row_from, row_of, count_read}
use Rattle.settings.specs.Search.{Chain, stop, link, Chained, place_of, Seeks, told_from, told_end}
use Rattle.settings.specs.declared.entry.Edition.{Edition}
use Rattle.settings.specs.declared.entry.Entry.{Entry}
use Rattle.settings.proofs.Entries.{read_within, number_complete}
use Rattle.settings.proofs.Spelled.{key_codec, key_format, Spelt, entry_sound}

pub not_both : {b : Bool} → b ≡ true → b ≡ false → ⊥
not_both e f = zero_one (cc)

-- ── bytes at a place ──

pub bytes_same : (s key : List ℕ) (at : ℕ) → at + length key ≤ length s → ((k : ℕ) → k < length key → get_or s (at + k) 0 ≡ get_or key k 0) → take (length key) (drop at s) ≡ key
bytes_same s key at h f =
    let size : length (take (length key) (drop at s)) ≡ length key = length-take-le (length key) (drop at s) (omega (arith, length-drop at s)) in
    ext_get_or 0 (take (length key) (drop at s)) key size λ i l. let k : i < length key = omega (arith, size) in get_or-take (length key) (drop at s) i 0 k ∙ get_or-drop at s i 0 ∙ f i k

pub same_bytes : (s key : List ℕ) (at k : ℕ) → take (length key) (drop at s) ≡ key → k < length key → get_or s (at + k) 0 ≡ get_or key k 0
same_bytes s key at k e l = sym (get_or-drop at s k 0) ∙ sym (get_or-take (length key) (drop at s) k 0 l) ∙ ap (λ w. get_or w k 0) e

-- past the end nothing stands but nothing
pub none_same : (s key : List ℕ) (at : ℕ) → length s < at
    → (eqb (length key) 0 ≡ true → take (length key) (drop at s) ≡ key) × (take (length key) (drop at s) ≡ key → eqb (length key) 0 ≡ true)
none_same s key at past = (
  λ e. let none : length key ≡ 0 = eqb-true (length key) 0 e in rw none (sym (no_bytes key (omega arith))),
  λ e. eq-eqb (length key) 0 (omega (arith, ap length e, length-take (length key) (drop at s), length-drop at s)),
)

pub short_bytes : (s key : List ℕ) (at : ℕ) → take (length key) (drop at s) ≡ key → length s - at < length key → ⊥
short_bytes s key at e l = omega (arith, ap length e, length-take (length key) (drop at s), length-drop at s)

-- one more, from the last on
pub from_before : (s key : List ℕ) (at i : ℕ) → ((k : ℕ) → i ≤ k → k < length key → get_or s (at + k) 0 ≡ get_or key k 0) → get_or s (at + (i - 1)) 0 ≡ get_or key (i - 1) 0
    → (k : ℕ) → i - 1 ≤ k → k < length key → get_or s (at + k) 0 ≡ get_or key k 0
from_before s key at i f e k l m = go (eqb k (i - 1)) refl
  where
    go : (b : Bool) → eqb k (i - 1) ≡ b → get_or s (at + k) 0 ≡ get_or key k 0
    go true g = let is : k ≡ i - 1 = eqb-true k (i - 1) g in rw is e
    go false g = f k (omega (arith, eqb-false k (i - 1) g)) m

-- ── keys ──

pub same_true : (a b : Key) → same_key a b ≡ true → a ≡ b
unfolding same_key
same_true a b e = go (key_discrete a b) e
  where
    go : (d : Dec (a ≡ b)) → decided d ≡ true → a ≡ b
    go (yes p) e = p
    go (no f) e = zero_one (cc)

pub true_same : (a b : Key) → a ≡ b → same_key a b ≡ true
unfolding same_key
true_same a b e = go (key_discrete a b)
  where
    go : (d : Dec (a ≡ b)) → decided d ≡ true
    go (yes p) = refl
    go (no f) = absurd (f e)

pub false_same : (a b : Key) → (a ≡ b → ⊥) → same_key a b ≡ false
unfolding same_key
false_same a b n = go (key_discrete a b)
  where
    go : (d : Dec (a ≡ b)) → decided d ≡ false
    go (yes p) = absurd (n p)
    go (no f) = refl

-- the word of a key stands behind an entry's length exactly where the entry has the key
module _ {e : Edition} {s : List ℕ} {at n : ℕ} {x : Entry} (sp : Spelt e s at x n) (w : List ℕ) (k : Key) (g : Keyed tidy w k) where
  key_has : take (length w) (drop (at + 4) s) ≡ w → k ≡ key_in s x
  key_has f =
      let a = key_format.complete {s = s} {at = at + 4} (record { is = f; till = refl }) (key_format.inside g) in
      let b = key_format.complete sp.key_there (key_format.inside sp.key_is) in
      (one_got (sym a ∙ b)).0

  has_key : k ≡ key_in s x → take (length w) (drop (at + 4) s) ≡ w
  has_key f =
      let same : w ≡ sp.key = key_format.one g ∙ ap (λ c. key_codec.write c) f ∙ sym (key_format.one sp.key_is) in
      subst (λ v. take (length v) (drop (at + 4) s) ≡ v) (sym same) sp.key_there.is

-- ── entries one behind the other ──

-- the length at an entry's front says where it ends
pub end_spelt : {e : Edition} {s : List ℕ} {at n : ℕ} {x : Entry} → Spelt e s at x n → told_end s at ≡ n
end_spelt {s} {at} sp = ap (told_from at (length s)) (number_complete 4 sp.read.length_there sp.read.length_small) ∙ sym sp.read.till

-- the bytes from behind the length up to the type are the key's word
pub key-word : {e : Edition} {s : List ℕ} {at n : ℕ} {x : Entry} → Spelt e s at x n → Keyed tidy (bytes_of s (key_slot x)) (key_in s x)
key-word {at} {x} sp =
    let from : x.start + 4 ≡ at + 4 = omega (arith, sp.read.start) in
    let size : x.value.start - 2 - (at + 4) ≡ length sp.key = omega (arith, sp.key_there.till) in
    rw (from, size, sp.key_there.is) sp.key_is

pub record Turn (s : List ℕ) (e : Edition) (at : ℕ) (xs : List Entry) (upto : ℕ) : Type 0 where
  pub first : Entry
  pub others : List Entry
  pub next : ℕ
  pub is : xs ≡ first ∷ others
  pub accepted : entry_at e s at ≡ got first next
  pub spelt : Spelt e s at first next
  pub rest : Chain e s next others upto

-- some entries stand from here on; and where a key is sought, whatever entries the row has, it stands first among those from here on
pub record Going (s : List ℕ) (upto : ℕ) (w : List ℕ) (at : ℕ) : Type 0 where
  pub some : (e : Edition) × (ys : List Entry) × Chain e s at ys upto
  pub left : (k : Key) → Keyed tidy w k → (e : Edition) (xs : List Entry) → Chain e s 0 xs upto → (ys : List Entry) × Chain e s at ys upto × (place_of s k upto xs ≡ place_of s k upto ys)

module _ (s : List ℕ) (h : Bytes s) where
  pub forward : {e : Edition} {at n : ℕ} {x : Entry} → Spelt e s at x n → at + 14 ≤ n
  forward {x} sp = let p = sp.read.parts in omega (arith, p.there.till, (read_within sp.read).serial, sp.read.start)

  pub ahead : {e : Edition} {at upto : ℕ} {xs : List Entry} → Chain e s at xs upto → at ≤ upto
  ahead stop = omega arith
  ahead {e} {at} (link {m} {x} f c) = let sp = entry_sound e s at x m h f in let later = ahead c in omega (arith, forward sp)

  pub turn : {e : Edition} {at upto : ℕ} {xs : List Entry} → Chain e s at xs upto → at < upto → Turn s e at xs upto
  turn stop lt = let z : ⊥ = omega arith in absurd z
  turn {e} {at} (link {m} {x} {xs} f c) lt = record { first = x; others = xs; next = m; is = refl; accepted = f; spelt = entry_sound e s at x m h f; rest = c }

  no_more : {e : Edition} {at upto : ℕ} {xs : List Entry} → Chain e s at xs upto → upto ≤ at → (xs ≡ []) × (at ≡ upto)
  no_more stop le = (refl, refl)
  no_more {e} {at} (link {m} {x} f c) le = let sp = entry_sound e s at x m h f in let later = ahead c in let z : ⊥ = omega (arith, forward sp) in absurd z

  -- ── the search ──

  module _ (upto : ℕ) (w : List ℕ) where
    pub going : Chained s upto → Going s upto w 0
    going c = record { some = c; left = λ k g e xs d. (xs, d, refl) }

    pub step : {at : ℕ} → Going s upto w at → at < upto → (at + 14 ≤ told_end s at) × (told_end s at ≤ upto) × (told_end s at ≤ length s)
    step go lt =
        let t = turn go.some.2 lt in
        let later = ahead t.rest in
        (omega (arith, forward t.spelt, end_spelt t.spelt), omega (arith, end_spelt t.spelt), omega (arith, end_spelt t.spelt, t.spelt.read.within))

    pub hit : {at : ℕ} → Going s upto w at → at < upto → take (length w) (drop (at + 4) s) ≡ w → Seeks s upto w at
    unfolding place_of
    hit {at} go lt f k g = record { places = λ e xs c. found e xs (go.left k g e xs c) }
      where
        found : (e : Edition) (xs : List Entry) → (ys : List Entry) × Chain e s at ys upto × (place_of s k upto xs ≡ place_of s k upto ys) → at ≡ place_of s k upto xs
        found e xs l =
            let t = turn l.1 lt in
            let same : same_key k (key_in s t.first) ≡ true = true_same k (key_in s t.first) (key_has t.spelt w k g f) in
            let is : place_of s k upto (t.first ∷ t.others) ≡ t.first.start = rw same in
            sym (l.2 ∙ ap (place_of s k upto) t.is ∙ is ∙ t.spelt.read.start)

    pub miss : {at : ℕ} → Going s upto w at → at < upto → (take (length w) (drop (at + 4) s) ≡ w → ⊥) → Going s upto w (told_end s at)
    unfolding place_of
    miss {at} go lt other = record { some = let o = onward go.some.2 in (go.some.0, o.0, o.1); left = λ k g e xs c. passed k g e xs (go.left k g e xs c) }
      where
        next_is : {e : Edition} {ys : List Entry} (t : Turn s e at ys upto) → t.next ≡ told_end s at
        next_is t = sym (end_spelt t.spelt)

        onward : {e : Edition} {ys : List Entry} → Chain e s at ys upto → (zs : List Entry) × Chain e s (told_end s at) zs upto
        onward {e} c = let t = turn c lt in (t.others, subst (λ i. Chain e s i t.others upto) (next_is t) t.rest)

        passed : (k : Key) → Keyed tidy w k → (e : Edition) (xs : List Entry) → (ys : List Entry) × Chain e s at ys upto × (place_of s k upto xs ≡ place_of s k upto ys)
            → (zs : List Entry) × Chain e s (told_end s at) zs upto × (place_of s k upto xs ≡ place_of s k upto zs)
        passed k g e xs l =
            let t = turn l.1 lt in
            let differs : same_key k (key_in s t.first) ≡ false = false_same k (key_in s t.first) (λ i. other (has_key t.spelt w k g i)) in
            let is : place_of s k upto (t.first ∷ t.others) ≡ place_of s k upto t.others = rw differs in
            (t.others, subst (λ i. Chain e s i t.others upto) (next_is t) t.rest, l.2 ∙ ap (place_of s k upto) t.is ∙ is)

    pub gone : {at : ℕ} → Going s upto w at → upto ≤ at → Seeks s upto w upto
    unfolding place_of
    gone {at} go le k g = record { places = λ e xs c. let l = go.left k g e xs c in let n = no_more l.1 le in sym (l.2 ∙ ap (place_of s k upto) n.0) }

  -- ── where a key is held ──

  pub held_place : {e : Edition} {at upto : ℕ} {xs : List Entry} → Chain e s at xs upto → (k : Key) → holds k (settings_in s xs) ≡ true → place_of s k upto xs < upto
  unfolding place_of holds
  held_place stop k e = zero_one (cc)
  held_place {e} {at} {upto} (link {m} {x} {xs} f c) k hd = go (entry_sound e s at x m h f) (ahead c) (λ i. held_place c k i) (same_key k (key_in s x)) hd
    where
      go : Spelt e s at x m → m ≤ upto → (holds k (settings_in s xs) ≡ true → place_of s k upto xs < upto) → (b : Bool) → pick b true (holds k (settings_in s xs)) ≡ true → pick b x.start (place_of s k upto xs) < upto
      go sp l later true i = omega (arith, forward sp, sp.read.start)
      go sp l later false i = later i

  pub new-place : {e : Edition} {at upto : ℕ} {xs : List Entry} → Chain e s at xs upto → (k : Key) → holds k (settings_in s xs) ≡ false → place_of s k upto xs ≡ upto
  unfolding place_of holds
  new-place stop k e = refl
  new-place {e} {at} {upto} (link {m} {x} {xs} f c) k hd = go (λ i. new-place c k i) (same_key k (key_in s x)) hd
    where
      go : (holds k (settings_in s xs) ≡ false → place_of s k upto xs ≡ upto) → (b : Bool) → pick b true (holds k (settings_in s xs)) ≡ false → pick b x.start (place_of s k upto xs) ≡ upto
      go later true i = zero_one (cc)
      go later false i = later i

-- ── reading a row, entry by entry ──

pub chain_snoc : {e : Edition} {s : List ℕ} {a m n : ℕ} {xs : List Entry} {x : Entry} → Chain e s a xs m → entry_at e s m ≡ got x n → Chain e s a (xs ++ (x ∷ [])) n
chain_snoc stop f = link f stop
chain_snoc (link g c) f = link g (chain_snoc c f)

module _ (e : Edition) (s : List ℕ) where
  row_refused : (fuel : ℕ) (xs : List Entry) (at : ℕ) (t : Told) → at < length s → length s - at ≤ fuel → entry_at e s at ≡ refused t → row_from e fuel xs s at ≡ refused t
  unfolding row_from after
  row_refused zero xs at t lt k f = let z : ⊥ = omega arith in absurd z
  row_refused (suc fuel) xs at t lt k f = rw (lt-ltb at (length s) lt, f)

  row_twice : (fuel : ℕ) (xs : List Entry) (at : ℕ) (x : Entry) (n : ℕ) → at < length s → length s - at ≤ fuel → entry_at e s at ≡ got x n → holds (key_in s x) (settings_in s xs) ≡ true
      → row_from e fuel xs s at ≡ refused (bare RECORD)
  unfolding row_from after
  row_twice zero xs at x n lt k f g = let z : ⊥ = omega arith in absurd z
  row_twice (suc fuel) xs at x n lt k f g = rw (lt-ltb at (length s) lt, f, g)

  row_full : (fuel : ℕ) (xs : List Entry) (at : ℕ) (x : Entry) (n : ℕ) → at < length s → length s - at ≤ fuel → entry_at e s at ≡ got x n → holds (key_in s x) (settings_in s xs) ≡ false
      → limit ≤ length xs → row_from e fuel xs s at ≡ refused (bare FULL)
  unfolding row_from after
  row_full zero xs at x n lt k f g l = let z : ⊥ = omega arith in absurd z
  row_full (suc fuel) xs at x n lt k f g l = rw (lt-ltb at (length s) lt, f, g, le-leb limit (length xs) l)

  pub row_next : (fuel : ℕ) (xs : List Entry) (at : ℕ) (x : Entry) (n : ℕ) → at < length s → length s - at ≤ fuel → entry_at e s at ≡ got x n → holds (key_in s x) (settings_in s xs) ≡ false
      → length xs < limit → row_from e fuel xs s at ≡ row_from e (fuel - 1) (xs ++ (x ∷ [])) s n
  unfolding row_from after
  row_next zero xs at x n lt k f g l = let z : ⊥ = omega arith in absurd z
  row_next (suc fuel) xs at x n lt k f g l = let less : suc fuel - 1 ≡ fuel = omega arith in rw (less, lt-ltb at (length s) lt, f, g, lt-leb limit (length xs) l)

  pub row_end : (fuel : ℕ) (xs : List Entry) (at : ℕ) → length s ≤ at → row_from e fuel xs s at ≡ got xs at
  unfolding row_from
  row_end zero xs at le = refl
  row_end (suc fuel) xs at le = rw (le-ltb at (length s) le)

-- so many were accepted up to here, and what is found from here on is what the row is
pub record Rowing (e : Edition) (s : List ℕ) (at count : ℕ) : Type 0 where
  pub before : List Entry
  pub fuel : ℕ
  pub chain : Chain e s 0 before at
  pub size : length before ≡ count
  pub enough : length s - at ≤ fuel
  pub left : row_from e fuel before s at ≡ row_of e s
  pub within : at ≤ length s

pub rowing : (e : Edition) (s : List ℕ) → Rowing e s 0 0
unfolding row_of
rowing e s = record { before = []; fuel = length s; chain = stop; size = refl; enough = omega arith; left = refl; within = omega arith }

module _ {e : Edition} {s : List ℕ} {at count : ℕ} (r : Rowing e s at count) where
  pub rowing_end : length s ≤ at → Ok count ≡ count_read (row_of e s)
  rowing_end le = ap Ok (sym r.size) ∙ ap count_read (sym (row_end e s r.fuel r.before at le) ∙ r.left)

  pub rowing_refused : at < length s → {t : Told} → refused t ≡ entry_at e s at → Err t ≡ count_read (row_of e s)
  rowing_refused lt {t} f = ap count_read (sym (row_refused e s r.fuel r.before at t lt r.enough (sym f)) ∙ r.left)

-- and the next entry is read
pub record Met (e : Edition) (s : List ℕ) (at count : ℕ) (x : Entry) (n : ℕ) : Type 0 where
  pub bytes : Bytes s
  pub rowing : Rowing e s at count
  pub more : at < length s
  pub reads : got x n ≡ entry_at e s at

module _ {e : Edition} {s : List ℕ} {at count n : ℕ} {x : Entry} (m : Met e s at count x n) where
  r : Rowing e s at count
  r = m.rowing

  pub spelt : Spelt e s at x n
  spelt = entry_sound e s at x n m.bytes (sym m.reads)

  pub met_far : (at + 14 ≤ n) × (n ≤ length s)
  met_far = (forward s m.bytes spelt, spelt.read.within)

  module _ {w : List ℕ} (is : w ≡ bytes_of s (key_slot x)) {p : ℕ} (sought : Seeks s at w p) where
    place : p ≡ place_of s (key_in s x) at r.before
    place = (sought (key_in s x) (subst (λ v. Keyed tidy v (key_in s x)) (sym is) (key-word spelt))).places e r.before r.chain

    stood : p < at → holds (key_in s x) (settings_in s r.before) ≡ true
    stood l = go (holds (key_in s x) (settings_in s r.before)) refl
      where
        go : (b : Bool) → holds (key_in s x) (settings_in s r.before) ≡ b → b ≡ true
        go true i = refl
        go false i = let z : ⊥ = omega (arith, place, new-place s m.bytes r.chain (key_in s x) i) in absurd z

    new : at ≤ p → holds (key_in s x) (settings_in s r.before) ≡ false
    new l = go (holds (key_in s x) (settings_in s r.before)) refl
      where
        go : (b : Bool) → holds (key_in s x) (settings_in s r.before) ≡ b → b ≡ false
        go false i = refl
        go true i = let z : ⊥ = omega (arith, place, held_place s m.bytes r.chain (key_in s x) i) in absurd z

    pub rowing_twice : p < at → {t : Told} → t ≡ bare RECORD → Err t ≡ count_read (row_of e s)
    rowing_twice l i = ap Err i ∙ ap count_read (sym (row_twice e s r.fuel r.before at x n m.more r.enough (sym m.reads) (stood l)) ∙ r.left)

    pub rowing_full : at ≤ p → limit ≤ count → {t : Told} → t ≡ bare FULL → Err t ≡ count_read (row_of e s)
    rowing_full l k i = ap Err i ∙ ap count_read (sym (row_full e s r.fuel r.before at x n m.more r.enough (sym m.reads) (new l) (omega (arith, r.size))) ∙ r.left)

    pub rowing_next : at ≤ p → count < limit → Rowing e s n (count + 1)
    rowing_next l k =
        let far = met_far.0 in
        record {
          before = r.before ++ (x ∷ []);
          fuel = r.fuel - 1;
          chain = chain_snoc r.chain (sym m.reads);
          size = length-append r.before (x ∷ []) ∙ ap (λ i. i + 1) r.size;
          enough = omega (arith, r.enough);
          left = sym (row_next e s r.fuel r.before at x n m.more r.enough (sym m.reads) (new l) (omega (arith, r.size))) ∙ r.left;
          within = met_far.1;
        }
