-- What is read is a word that stands there: of containers, and of packets.
-- Assumes nothing.
use mathlib.Core.Path.{◌≡◌, sym, ap, subst, ◌∙◌}
use mathlib.Core.List.{List}
use Prim.Native.Nat.{ℕ, ◌+◌, ◌-◌, ◌^◌, ◌≤◌, ◌<◌}
use native.Mathlib.Omega.{arith}
use lib.ListN.{length, take, drop, length-drop}
use lib.Seq.{drop-drop, length-take-le}
use Rattle.layout.specs.Answer.{Answer, got}
use Rattle.layout.specs.Bytes.{Bytes, bytes, number}
use Rattle.layout.specs.Format.{Stands}
use Rattle.layout.proofs.laws.Accepted.{Accepts, accepted}
use Rattle.layout.proofs.laws.Numbers.{Bytes-drop, Bytes-take, bytes_number, number_lt}
use Rattle.layout.proofs.laws.Words.{join, part_there}
use Rattle.wire.specs.Container.{container_at, container_word}
use Rattle.wire.specs.Tests.{holds, fails, otherwise}
use Rattle.wire.specs.Refused.{announced, ContainerSays, container_in}
use Rattle.wire.specs.Returned.{part_of}
use Rattle.wire.specs.declared.container.Container.{Container}
use Rattle.wire.proofs.laws.Judged.{container_judged, least}
use Rattle.network.specs.Packet.{phase_size, code_size, total_size, head_size, packet_in, packet_at, packet_word}
use Rattle.network.specs.declared.packet.Packet.{Packet}
use Rattle.network.proofs.PacketLaws.{Stood, packet_stands}

-- ── a number that stands ──

module _ (s : List ℕ) (h : Bytes s) (at k : ℕ) (there : k ≤ length s - at) where
  cell_length : length (take k (drop at s)) ≡ k
  cell_length = length-take-le k (drop at s) (omega (arith, length-drop at s))

  cell_bytes : Bytes (take k (drop at s))
  cell_bytes = Bytes-take k (drop at s) (Bytes-drop at s h)

  cell_small : number (take k (drop at s)) < 256 ^ k
  cell_small = rw cell_length at (number_lt (take k (drop at s)) cell_bytes)

  cell : Stands s at (at + k) (bytes k (number (take k (drop at s))))
  cell = subst (Stands s at (at + k)) (sym (rw cell_length at (bytes_number (take k (drop at s)) cell_bytes))) (part_there s at k there)

-- the number of k bytes that begins so many bytes behind a place
module _ (s : List ℕ) (h : Bytes s) (base off k : ℕ) (there : off + k ≤ length (drop base s)) where
  inner : Stands s (base + off) (base + (off + k)) (bytes k (number (take k (drop off (drop base s)))))
  inner =
      let e : drop off (drop base s) ≡ drop (base + off) s = drop-drop off base s in
      let till : base + off + k ≡ base + (off + k) = omega arith in
      rw (e, ← till) (cell s h (base + off) k (omega (arith, length-drop base s)))

  inner_small : number (take k (drop off (drop base s))) < 256 ^ k
  inner_small =
      let e : drop off (drop base s) ≡ drop (base + off) s = drop-drop off base s in
      rw e (cell_small s h (base + off) k (omega (arith, length-drop base s)))

-- ── a container ──

pub record Boxed (s : List ℕ) (at : ℕ) (x : Container) (n : ℕ) : Type 0 where
  pub stands : Stands s at n (container_word x.kind x.code x.number (part_of s x.payload))
  pub long : length (part_of s x.payload) ≡ x.payload.count
  pub code : x.code < 256 ^ 2
  pub number : x.number < 256 ^ 4
  pub small : x.payload.count ≤ 4294967283
  pub bytes : Bytes (part_of s x.payload)

module _ (s : List ℕ) (h : Bytes s) (at : ℕ) where
  boxed : 12 ≤ length (drop at s) → 12 ≤ announced (drop at s) → announced (drop at s) ≤ length (drop at s) → Boxed s at (container_in at (drop at s)) (at + announced (drop at s))
  unfolding container_word
  boxed long least whole =
      let n = announced (drop at s) in
      let x = container_in at (drop at s) in
      let room : n - 12 ≤ length s - (at + 12) = omega (arith, length-drop at s) in
      let body : length (part_of s x.payload) ≡ n - 12 = length-take-le (n - 12) (drop (at + 12) s) (omega (arith, length-drop (at + 12) s)) in
      let all : n ≡ 12 + length (part_of s x.payload) = omega arith in
      let first : Stands s at (at + 4) (bytes 4 (12 + length (part_of s x.payload))) = rw (← all) (cell s h at 4 (omega (arith, length-drop at s))) in
      let last : Stands s (at + 12) (at + n) (part_of s x.payload) = subst (λ m. Stands s (at + 12) m (part_of s x.payload)) (omega arith) (part_there s (at + 12) (n - 12) room) in
      record {
        stands = join (join (join (join first (inner s h at 4 2 (omega arith))) (inner s h at 6 2 (omega arith))) (inner s h at 8 4 (omega arith))) last;
        long = body;
        code = inner_small s h at 6 2 (omega arith);
        number = inner_small s h at 8 4 (omega arith);
        small = omega (arith, cell_small s h at 4 (omega (arith, length-drop at s)));
        bytes = Bytes-take (n - 12) (drop (at + 12) s) (Bytes-drop (at + 12) s h);
      }

  pub container-word : Accepts (Boxed s at) (container_at s at)
  container-word = go (container_at s at) (container_judged s at)
    where
      go : (x : Answer Container) → ContainerSays at (drop at s) x → Accepts (Boxed s at) x
      go x (holds c) = tt
      go x (fails a (holds c)) = tt
      go x (fails a (fails b (holds c))) = tt
      go x (fails a (fails b (fails k (holds c)))) = tt
      go x (fails a (fails b (fails k (fails e (holds c))))) = tt
      go x (fails a (fails b (fails k (fails e (fails f (holds c)))))) = tt
      go x (fails a (fails b (fails k (fails e (fails f (fails l (holds c))))))) = tt
      go x (fails a (fails b (fails k (fails e (fails f (fails l (fails z otherwise))))))) = boxed (least f) (least l) (least z)

-- ── a packet ──

pub record Packed (s : List ℕ) (at : ℕ) (x : Packet) (n : ℕ) : Type 0 where
  pub stands : Stands s at n (packet_word x.kind x.phase x.code x.number x.total (part_of s x.body))
  pub long : length (part_of s x.body) ≡ x.body.count
  pub phase : x.phase < 256 ^ phase_size x.kind
  pub code : x.code < 256 ^ code_size x.kind
  pub number : x.number < 256 ^ 4
  pub total : x.total < 256 ^ total_size x.kind
  pub bytes : Bytes (part_of s x.body)
  pub stood : Stood s at x n

pub packet-word : (s : List ℕ) → Bytes s → (at : ℕ) (x : Packet) (n : ℕ) → got x n ≡ packet_at s at → Packed s at x n
unfolding packet_word packet_in
packet-word s h at x n read =
    let st = accepted (Stood s at) (packet_stands s at) read in
    let k = x.kind in
    let p = phase_size k in
    let c = code_size k in
    let z = total_size k in
    let m = x.body.count in
    let phs : x.phase ≡ number (take p (drop (at + 8) s)) = ap (λ y. y.phase) st.is in
    let cod : x.code ≡ number (take c (drop (at + 8 + p) s)) = ap (λ y. y.code) st.is in
    let num : x.number ≡ number (take 4 (drop (at + 8 + p + c) s)) = ap (λ y. y.number) st.is in
    let tot : x.total ≡ number (take z (drop (at + 12 + p + c) s)) = ap (λ y. y.total) st.is in
    let till : at + (head_size k + m) ≤ length s = omega (arith, st.till, st.start, st.within) in
    let long : length (part_of s x.body) ≡ m = length-take-le m (drop x.body.start s) (omega (arith, length-drop x.body.start s, st.start)) in
    let len : head_size k + length (part_of s x.body) ≡ number (take 4 (drop at s)) = ap (λ l. head_size k + l) long ∙ st.sized in
    let s1 : Stands s at (at + 4) (bytes 4 (head_size k + length (part_of s x.body))) = rw len (cell s h at 4 (omega arith)) in
    let s2 : Stands s (at + 4) (at + 8) (bytes 4 k) = rw st.kinded (subst (λ q. Stands s (at + 4) q (bytes 4 (number (take 4 (drop (at + 4) s))))) (omega arith) (cell s h (at + 4) 4 (omega arith))) in
    let s3 : Stands s (at + 8) (at + 8 + p) (bytes p x.phase) = subst (λ v. Stands s (at + 8) (at + 8 + p) (bytes p v)) (sym phs) (cell s h (at + 8) p (omega arith)) in
    let s4 : Stands s (at + 8 + p) (at + 8 + p + c) (bytes c x.code) = subst (λ v. Stands s (at + 8 + p) (at + 8 + p + c) (bytes c v)) (sym cod) (cell s h (at + 8 + p) c (omega arith)) in
    let s5 : Stands s (at + 8 + p + c) (at + 12 + p + c) (bytes 4 x.number) =
    subst (λ v. Stands s (at + 8 + p + c) (at + 12 + p + c) (bytes 4 v)) (sym num) (subst (λ q. Stands s (at + 8 + p + c) q (bytes 4 (number (take 4 (drop (at + 8 + p + c) s))))) (omega arith) (cell s h (at + 8 + p + c) 4 (omega arith))) in
    let s6 : Stands s (at + 12 + p + c) x.body.start (bytes z x.total) =
    subst (λ v. Stands s (at + 12 + p + c) x.body.start (bytes z v)) (sym tot) (subst (λ q. Stands s (at + 12 + p + c) q (bytes z (number (take z (drop (at + 12 + p + c) s))))) (omega (arith, st.start)) (cell s h (at + 12 + p + c) z (omega arith))) in
    let s7 : Stands s x.body.start n (part_of s x.body) = subst (λ q. Stands s x.body.start q (part_of s x.body)) (sym st.till) (part_there s x.body.start m (omega (arith, st.start))) in
    record {
      stands = join (join (join (join (join (join s1 s2) s3) s4) s5) s6) s7;
      long = long;
      phase = subst (λ v. v < 256 ^ p) (sym phs) (cell_small s h (at + 8) p (omega arith));
      code = subst (λ v. v < 256 ^ c) (sym cod) (cell_small s h (at + 8 + p) c (omega arith));
      number = subst (λ v. v < 256 ^ 4) (sym num) (cell_small s h (at + 8 + p + c) 4 (omega arith));
      total = subst (λ v. v < 256 ^ z) (sym tot) (cell_small s h (at + 12 + p + c) z (omega arith));
      bytes = Bytes-take m (drop x.body.start s) (Bytes-drop x.body.start s h);
      stood = st;
    }
