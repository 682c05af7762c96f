-- What the translators have to say, by what was seen: each answer from the tests that led there, and how long what is said is.
-- Assumes nothing.
use mathlib.Core.Path.{◌≡◌, refl, sym, ap, ◌∙◌}
use mathlib.Core.Bool.{Bool, true, false}
use mathlib.Core.List.{List, [], ◌∷◌, ◌++◌}
use mathlib.Core.Option.{some, none}
use Prim.Native.Nat.{ℕ, zero, suc, ◌+◌, ◌%◌, ◌≤◌, ◌<◌}
use native.Mathlib.Omega.{arith}
use borrow.Author.Tests.{le-leb, lt-leb, leb-true, eq-eqb, eqb-true, ne_eqb}
use lib.Dec.{leb, ltb, eqb}
use lib.ListN.{length, take, drop, length-append, length-drop}
use lib.Seq.{length-take-le}
use Rattle.layout.specs.Answer.{Told, Answer, got, refused, pick, after, means, bare}
use Rattle.layout.specs.Refusals.{TID, COUNT}
use Rattle.layout.specs.Written.{says, no}
use Rattle.layout.proofs.laws.Accepted.{accepted}
use Rattle.layout.proofs.laws.Numbers.{zero_one}
use Rattle.layout.proofs.laws.Reading.{unmeant, refused_meant}
use Rattle.wire.specs.Container.{container_at, container_word}
use Rattle.wire.specs.Returned.{part_of}
use Rattle.wire.proofs.laws.Contained.{container_length}
use Rattle.network.specs.Refusals.{FIELDS, TRANSACTION}
use Rattle.network.specs.Packet.{phase_size, code_size, total_size, packet_at, packet_word}
use Rattle.network.specs.Transaction.{phase_of, data_packets, tidy_word, data_container, containers_word}
use Rattle.network.specs.Inner.{data_of, AllPackets, Within, phase_if}
use Rattle.network.specs.TransactionSays.{FiveWhole}
use Rattle.network.specs.Translated.{five_whole, items_from, items_in, folded, none_seen, look_container, look_packet, piece_size, data_in, is_answered, seen_in, to_judged, from_judged, to_said, from_said}
use Rattle.network.specs.declared.packet.Packet.{Packet}
use Rattle.network.specs.declared.see.Seen.{Seen}
use Rattle.network.specs.declared.translate.Direction.{Direction}
use Rattle.network.specs.declared.translate.Direction.TheVariants as direction
use Rattle.network.proofs.PacketLaws.{held, Stood, packet_stands, piece_fits}
use Rattle.network.proofs.PutLaws.{part_length, packet_length}

-- ── at most five whole u32s, as a test and as a statement ──

pub five-whole : (n : ℕ) → five_whole n ≡ true → FiveWhole n
five-whole n e =
    let (a, b) = held (leb n 20) (eqb (n % 4) 0) e in
    (leb-true n 20 a, eqb-true (n % 4) 0 b)

pub whole_five : (n : ℕ) → FiveWhole n → five_whole n ≡ true
whole_five n (few, whole) = rw (le-leb n 20 few, eq-eqb (n % 4) 0 whole)

-- ── how long ──

pub phase-if : (d : Direction) (has : Bool) (x : List ℕ) → phase_of d (pick has (some x) none) ≡ phase_if d has
phase-if d false x = refl
phase-if direction.In true x = refl
phase-if direction.Out true x = refl

pub data_packets_length : (number : ℕ) (has : Bool) (d : List ℕ) → length (data_packets number (pick has (some d) none)) ≡ pick has (32 + length d) 0
unfolding data_packets phase_size code_size total_size
data_packets_length number true d = omega (arith, length-append (packet_word 9 0 0 number (length d) []) (packet_word 12 0 0 number 0 d), packet_length 9 0 0 number (length d) [], packet_length 12 0 0 number 0 d)
data_packets_length number false d = refl

pub data_container_length : (code number : ℕ) (has : Bool) (d : List ℕ) → length (data_container code number (pick has (some d) none)) ≡ pick has (12 + length d) 0
unfolding data_container
data_container_length code number true d = container_length 2 code number d
data_container_length code number false d = refl

-- the same sum, as the code has it
pub need_same : (has : Bool) (p l r : ℕ) → pick has 64 32 + p + pick has l 0 + r ≡ 32 + p + pick has (32 + l) 0 + r
need_same true p l r = omega arith
need_same false p l r = omega arith

module _ (s : List ℕ) (t : Seen) (w : Within s t) where
  pub tidy_length : (d : Direction) → length (tidy_word d (seen_in s t (part_of s t.payload))) ≡ 32 + t.params.count + pick t.has (32 + t.payload.count) 0 + t.results.count
  unfolding tidy_word phase_size code_size total_size
  tidy_length d =
      let middle = data_packets t.number (pick t.has (some (part_of s t.payload)) none) in
      let phase = phase_of d (pick t.has (some (part_of s t.payload)) none) in
      let ask = packet_word 6 phase t.code t.number 0 (part_of s t.params) in
      let response = packet_word 7 0 t.response t.number 0 (part_of s t.results) in
      let l : pick t.has (32 + length (part_of s t.payload)) 0 ≡ pick t.has (32 + t.payload.count) 0 = rw (part_length s t.payload w.payload) in
      omega (
        arith,
        length-append (ask ++ middle) response,
        length-append ask middle,
        data_packets_length t.number t.has (part_of s t.payload),
        l,
        packet_length 6 phase t.code t.number 0 (part_of s t.params),
        packet_length 7 0 t.response t.number 0 (part_of s t.results),
        part_length s t.params w.params,
        part_length s t.results w.results,
      )

  pub containers_length : (d : List ℕ) → length (containers_word (seen_in s t d)) ≡ 24 + t.params.count + pick t.has (12 + length d) 0 + t.results.count
  unfolding containers_word
  containers_length d =
      let middle = data_container t.code t.number (pick t.has (some d) none) in
      let ask = container_word 1 t.code t.number (part_of s t.params) in
      let response = container_word 3 t.response t.number (part_of s t.results) in
      omega (
        arith,
        length-append (ask ++ middle) response,
        length-append ask middle,
        data_container_length t.code t.number t.has d,
        container_length 1 t.code t.number (part_of s t.params),
        container_length 3 t.response t.number (part_of s t.results),
        part_length s t.params w.params,
        part_length s t.results w.results,
      )

-- ── each answer ──

module _ (d : Direction) (s : List ℕ) (t : Seen) where
  pub to_22 : is_answered t.stage ≡ false → to_judged d s t ≡ no (bare TRANSACTION)
  unfolding to_judged
  to_22 e = rw e

  pub to_7 : is_answered t.stage ≡ true → t.same ≡ false → to_judged d s t ≡ no (bare TID)
  unfolding to_judged
  to_7 e f = rw (e, f)

  pub to_bytes : is_answered t.stage ≡ true → t.same ≡ true → to_judged d s t ≡ says (tidy_word d (seen_in s t (part_of s t.payload)))
  unfolding to_judged
  to_bytes e f = rw (e, f)

module _ (s : List ℕ) (t : Seen) (d : List ℕ) where
  pub from_22 : is_answered t.stage ≡ false → from_judged s t d ≡ no (bare TRANSACTION)
  unfolding from_judged
  from_22 e = rw e

  pub from_21 : is_answered t.stage ≡ true → (length d ≡ t.total → ⊥) → from_judged s t d ≡ no (bare FIELDS)
  unfolding from_judged
  from_21 e f = rw (e, ne_eqb (length d) t.total f)

  pub from_7 : is_answered t.stage ≡ true → length d ≡ t.total → t.same ≡ false → from_judged s t d ≡ no (bare TID)
  unfolding from_judged
  from_7 e f g = rw (e, eq-eqb (length d) t.total f, g)

  pub from_10 : is_answered t.stage ≡ true → length d ≡ t.total → t.same ≡ true → 4294967283 < length d → from_judged s t d ≡ no (bare COUNT)
  unfolding from_judged
  from_10 e f g h = rw (e, eq-eqb (length d) t.total f, g, lt-leb (length d) 4294967283 h)

  pub from_bytes : is_answered t.stage ≡ true → length d ≡ t.total → t.same ≡ true → length d ≤ 4294967283 → from_judged s t d ≡ says (containers_word (seen_in s t d))
  unfolding from_judged
  from_bytes e f g h = rw (e, eq-eqb (length d) t.total f, g, le-leb (length d) 4294967283 h)

-- ── from what a loop saw ──

module _ (d : Direction) (s : List ℕ) where
  pub to_seen : {t : Seen} {m : ℕ} → got t m ≡ means (folded look_container none_seen) (items_in container_at s) → to_said d s ≡ to_judged d s t
  unfolding to_said means
  to_seen {t} e = let (xs, row, is) = unmeant (folded look_container none_seen) (items_in container_at s) (sym e) in rw (row, is)

  pub to_refused : {f : Told} → refused f ≡ means (folded look_container none_seen) (items_in container_at s) → to_said d s ≡ no f
  unfolding to_said means
  to_refused e = rw (refused_meant (folded look_container none_seen) (items_in container_at s) (sym e))

-- the sum is the length of the joined data
abbrev Sums : List ℕ → Seen → List Packet → Type 0
Sums s t xs = (folded look_packet t xs).sum ≡ t.sum + length (data_in s xs)

sum_is : (s : List ℕ) (n at : ℕ) (t : Seen) (xs : List Packet) (m : ℕ) → items_from packet_at n s at ≡ got xs m → Sums s t xs
unfolding items_from folded data_in look_packet after
sum_is s zero at t xs m e = let is : xs ≡ [] = cc in rw is (omega arith)
sum_is s (suc n) at t xs m e = go (λ next u ys f. sum_is s n next u ys m f) (ltb at (length s)) e
  where
    Again : Type 0
    Again = (next : ℕ) (u : Seen) (ys : List Packet) → items_from packet_at n s next ≡ got ys m → Sums s u ys

    step : (x : Packet) (next : ℕ) (ys : List Packet) → got x next ≡ packet_at s at → Sums s (look_packet t x) ys → Sums s t (x ∷ ys)
    step x next ys f g =
        let b = accepted (Stood s at) (packet_stands s at) f in
        let w = take (piece_size x) (drop x.body.start s) in
        let l : length w ≡ piece_size x = length-take-le (piece_size x) (drop x.body.start s) (omega (arith, length-drop x.body.start s, b.till, b.within, piece_fits x)) in
        g ∙ omega (arith, length-append w (data_in s ys), l)

    of : Again → (y : Answer Packet) → y ≡ packet_at s at → after y (λ x next. means (λ ys. x ∷ ys) (items_from packet_at n s next)) ≡ got xs m → Sums s t xs
    of again (got x next) f e = let (ys, row, is) = unmeant (λ zs. x ∷ zs) (items_from packet_at n s next) e in rw (← is) (step x next ys f (again next (look_packet t x) ys row))
    of again (refused u) f e = zero_one (cc)

    go : Again → (b : Bool) → pick b (after (packet_at s at) λ x next. means (λ ys. x ∷ ys) (items_from packet_at n s next)) (got [] at) ≡ got xs m → Sums s t xs
    go again true e = of again (packet_at s at) refl e
    go again false e = let is : xs ≡ [] = cc in rw is (omega arith)

module _ (s : List ℕ) where
  pub from_seen : {t : Seen} {m : ℕ} → got t m ≡ means (folded look_packet none_seen) (items_in packet_at s) → (from_said s ≡ from_judged s t (data_of s)) × AllPackets s × (t.sum ≡ length (data_of s))
  unfolding from_said means items_in
  from_seen {t} {m} e =
      let (xs, row, is) = unmeant (folded look_packet none_seen) (items_in packet_at s) (sym e) in
      let sum : t.sum ≡ length (data_in s xs) = ap (λ u. u.sum) (sym is) ∙ sum_is s (length s) 0 none_seen xs m row ∙ omega arith in
      (rw (row, is), (xs, m, row), rw row sum)

  pub from_refused : {f : Told} → refused f ≡ means (folded look_packet none_seen) (items_in packet_at s) → from_said s ≡ no f
  unfolding from_said means
  from_refused e = rw (refused_meant (folded look_packet none_seen) (items_in packet_at s) (sym e))
