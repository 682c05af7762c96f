-- The reader of containers is faithful to their grammar, of which every word is tidy.
-- Assumes nothing.
use mathlib.Core.Path.{◌≡◌, refl, sym, subst}
use mathlib.Core.Bool.{true}
use mathlib.Core.List.{List, ◌++◌}
use Prim.Native.Nat.{ℕ, ◌+◌, ◌-◌, ◌^◌, ◌≤◌, ◌<◌}
use native.Mathlib.Omega.{arith}
use borrow.Author.Tests.{le-leb, leb-true}
use lib.Dec.{leb}
use lib.ListN.{length, take, drop, length-drop}
use lib.Seq.{length-take-le}
use Rattle.layout.specs.Answer.{Answer, got, refused, means}
use Rattle.layout.specs.Bytes.{Bytes, bytes}
use Rattle.layout.specs.Format.{Stands, Sound, word, none, Format}
use Rattle.layout.specs.Grammar.{loose, tidy}
use Rattle.layout.specs.Placed.{Lies, lies, nowhere, Placed}
use Rattle.layout.specs.Written.{says}
use Rattle.layout.proofs.laws.Accepted.{Accepts, accepts_after, accepts_pick}
use Rattle.layout.proofs.laws.Numbers.{Bytes-drop, Bytes-take}
use Rattle.layout.proofs.laws.Single.{Single}
use Rattle.layout.proofs.laws.Words.{join, part_there, rest_of}
use Rattle.wire.specs.Codecs.{box_in, box_parts, box_word, container}
use Rattle.wire.specs.Container.{is_kind, header_rest, header_at, container_at, container_word, container_said}
use Rattle.wire.specs.Layout as L
use Rattle.wire.specs.Layout.{Box, Container}
use Rattle.wire.specs.Places.{num_at}
use Rattle.wire.specs.declared.container.Container as declared
use Rattle.wire.specs.declared.container.Header.{Header}
use Rattle.wire.proofs.laws.Contained.{cell, Boxed, container_stands, container_length, said_bytes}
use Rattle.wire.proofs.laws.ReadBack.{kind_from, container_there, payload_there, due}

-- ── what is read is a word ──

module _ (s : List ℕ) (h : Bytes s) (at : ℕ) where
  -- a header's four numbers
  record Fronts (x : Header) (n : ℕ) : Type 0 where
    stands : Stands s at n (bytes 4 (12 + x.payload_len) ++ bytes 2 x.kind ++ bytes 2 x.code ++ bytes 4 x.number)
    low : 1 ≤ x.kind
    high : x.kind ≤ 4
    code : x.code < 256 ^ 2
    tid : x.number < 256 ^ 4
    small : 12 + x.payload_len < 256 ^ 4

  header_fronts : Accepts Fronts (header_at s at)
  unfolding header_at header_rest
  header_fronts =
      accepts_after _ _ (num_at 4 s at) _ (cell 4 s h at) λ len a p.
      accepts_after _ _ (num_at 2 s a) _ (cell 2 s h a) λ kind b q.
      accepts_pick _ (is_kind kind) _ _
      (λ known.
      accepts_after _ _ (num_at 2 s b) _ (cell 2 s h b) λ code c r.
      accepts_after _ _ (num_at 4 s c) _ (cell 4 s h c) λ tid d t.
      accepts_pick _ (leb 12 len) _ _
      (λ e.
      let all : 12 + (len - 12) ≡ len = omega (arith, leb-true 12 len e) in
      let k = kind_from kind known in
      record { stands = rw all (join (join (join p.0 q.0) r.0) t.0); low = k.0; high = k.1; code = r.1; tid = t.1; small = rw all p.1 })
      (λ _. tt))
      (λ _. tt)

  -- and its payload
  pub container-word : Accepts (λ x n. (w : List ℕ) × Stands s at n w × Container loose w (box_in s x)) (container_at s at)
  unfolding container_at
  container-word =
      accepts_after _ _ (header_at s at) _ header_fronts λ x start f.
      accepts_pick _ (leb x.payload_len (length s - start)) _ _
      (λ e.
      let n = x.payload_len in
      let room : n ≤ length s - start = leb-true n (length s - start) e in
      let payload = take n (drop start s) in
      let long : length payload ≡ n = length-take-le n (drop start s) (omega (arith, length-drop start s)) in
      let box : Box = record { kind = x.kind; code = x.code; number = x.number; payload = payload } in
      let front : Stands s at start (bytes 4 (12 + length payload) ++ bytes 2 x.kind ++ bytes 2 x.code ++ bytes 4 x.number) = rw long f.stands in
      (_, join front (part_there s start n room), L.container box f.low f.high f.code f.tid (rw long f.small) (Bytes-take n (drop start s) (Bytes-drop start s h))))
      (λ _. tt)

  box_sound : Sound Container s at (means (box_in s) (container_at s at))
  unfolding means
  box_sound = go (container_at s at) container-word
    where
      go : (x : Answer declared.Container) → Accepts (λ x n. (w : List ℕ) × Stands s at n w × Container loose w (box_in s x)) x → Sound Container s at (means (box_in s) x)
      go (got x n) p = word p.1 p.2
      go (refused t) p = none

-- ── every word is read ──

known : (k : ℕ) → 1 ≤ k → k ≤ 4 → is_kind k ≡ true
unfolding is_kind
known k a b = rw (le-leb 1 k a, le-leb k 4 b)

box_complete : {s w : List ℕ} {at n : ℕ} {r : Box} → Stands s at n w → Container loose w r → means (box_in s) (container_at s at) ≡ got r n
unfolding means container_word
box_complete {s} {w} {at} {n} st (L.container x low high code tid small b) =
    let behind = drop (length w) (drop at s) in
    let stands : drop at s ≡ container_word x.kind x.code x.number x.payload ++ behind = sym (rest_of st) in
    let k = known x.kind low high in
    let fits : length x.payload ≤ 4294967283 = omega arith in
    let there = container_there x.kind x.code x.number x.payload behind k code tid fits s at stands in
    let body = payload_there x.kind x.code x.number x.payload behind k code tid fits s at stands in
    let till : at + (12 + length x.payload) ≡ n = omega (arith, st.till, container_length x.kind x.code x.number x.payload) in
    rw (there, body, till)

-- ── one spelling ──

box_inside : {w : List ℕ} {r : Box} → Container tidy w r → Container loose w r
box_inside (L.container x a b c d e f) = L.container x a b c d e f

box_one : {w : List ℕ} {r : Box} → Container tidy w r → w ≡ box_word r
unfolding container_word
box_one (L.container x a b c d e f) = refl

box_has : {w : List ℕ} {r : Box} → Container loose w r → Container tidy (box_word r) r
unfolding container_word
box_has (L.container x a b c d e f) = L.container x a b c d e f

pub container_format : Format Container container
container_format = record { sound = box_sound; complete = box_complete; inside = box_inside; one = box_one; has = box_has }

-- every word is the tidy one
pub containers_single : Single Container
containers_single w r (L.container x a b c d e f) = L.container x a b c d e f

-- ── what the writer writes ──

-- of a reading, the word
pub box_said : {w : List ℕ} {b : Box} → Container loose w b → container_said b.kind b.code b.number b.payload ≡ says w
unfolding container_word
box_said (L.container x low high code tid small bs) = let fits : length x.payload ≤ 4294967283 = omega arith in said_bytes x.kind x.code x.number x.payload (known x.kind low high) fits

-- and nothing but words, where code and number are of two bytes and of four
pub said_box : (b : Box) {w : List ℕ} → b.code < 256 ^ 2 → b.number < 256 ^ 4 → Bytes b.payload → container_said b.kind b.code b.number b.payload ≡ says w → Container loose w b
unfolding container_word
said_box b {w} code tid bs e =
    let d = due b.kind b.code b.number b.payload w e in
    let k = kind_from b.kind d.known in
    subst (λ v. Container loose v b) (sym d.word) (L.container b k.0 k.1 code tid (omega (arith, d.small)) bs)

-- ── by places ──

box_lies : (s : List ℕ) (at : ℕ) → Lies box_parts at (container_at s at)
box_lies s at = go (container_at s at) (container_stands s at)
  where
    go : (x : Answer declared.Container) → Accepts (Boxed s at) x → Lies box_parts at x
    go (got x n) b = lies x n (omega (arith, b.start, b.till)) (omega (arith, b.start), omega arith, omega (arith, b.till), tt)
    go (refused t) b = nowhere

pub boxes : Placed box_in box_parts container_at container.read
boxes = record { agrees = λ s at. refl; inside = box_lies }
