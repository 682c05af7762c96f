-- A packet's word that stands in any bytes is read, with its numbers and its bytes.
-- Assumes nothing.
use Rattle.wire.specs.Read.{Read, says_read}
use mathlib.Core.Path.{◌≡◌, refl, sym, ap, ◌∙◌}
use mathlib.Core.Bool.{true}
use mathlib.Core.List.{List, ◌++◌}
use Prim.Native.Nat.{ℕ, ◌+◌, ◌-◌, ◌^◌, ◌≤◌, ◌<◌}
use native.Mathlib.Omega.{arith}
use borrow.Author.Tests.{le-leb}
use lib.ListN.{length, take, drop, length-append, length-drop}
use lib.Seq.{drop-drop, drop-append_seam}
use Rattle.layout.specs.Answer.{got, after}
use Rattle.layout.specs.Bytes.{bytes, number}
use Rattle.layout.specs.Format.{Stands}
use Rattle.layout.proofs.laws.Numbers.{length_bytes, number_bytes}
use Rattle.layout.proofs.laws.Reading.{field_there}
use Rattle.layout.proofs.laws.Words.{front, split}
use Rattle.wire.specs.Returned.{part_of}
use Rattle.network.specs.Packet.{is_packet, phase_size, code_size, total_size, head_size, whole_fields, packet_in, packet_rest, packet_at, packet_word}
use Rattle.network.specs.declared.packet.Packet.{Packet}
use Rattle.network.proofs.PutLaws.{packet_length}

-- the packet of these fields at a place
abbrev pub placed : ℕ → ℕ → ℕ → ℕ → ℕ → ℕ → ℕ → Packet
placed at kind phase code tid total count = record { kind = kind; phase = phase; code = code; number = tid; total = total; body = record { start = at + head_size kind; count = count } }

-- a number that stands at a place
number_there : (s : List ℕ) (p q p' k v : ℕ) → Stands s p q (bytes k v) → p ≡ p' → v < 256 ^ k → number (take k (drop p' s)) ≡ v
number_there s p q p' k v st e h =
    let is : take k (drop p s) ≡ bytes k v = rw (length_bytes k v) at st.is in
    rw (← e, is) (number_bytes k v h)

-- what a word of a packet must be
pub record Fitting (kind phase code tid total : ℕ) (body : List ℕ) : Type 0 where
  pub known : is_packet kind ≡ true
  pub whole : whole_fields kind (head_size kind + length body) ≡ true
  pub small : head_size kind + length body < 256 ^ 4
  pub kind_fits : kind < 256 ^ 4
  pub phase_fits : phase < 256 ^ phase_size kind
  pub code_fits : code < 256 ^ code_size kind
  pub number_fits : tid < 256 ^ 4
  pub total_fits : total < 256 ^ total_size kind

module _ (kind phase code tid total : ℕ) (body : List ℕ) (f : Fitting kind phase code tid total body) (s behind : List ℕ) (at : ℕ) (stands : drop at s ≡ packet_word kind phase code tid total body ++ behind) where
  all : Stands s at (at + (head_size kind + length body)) (packet_word kind phase code tid total body)
  all = front (packet_word kind phase code tid total body) behind stands (ap (λ n. at + n) (sym (packet_length kind phase code tid total body)))

  pub packet_fits : at + (head_size kind + length body) ≤ length s
  packet_fits = omega (arith, packet_length kind phase code tid total body, length-append (packet_word kind phase code tid total body) behind, ap length stands, length-drop at s)

  pub packet_behind : drop (at + (head_size kind + length body)) s ≡ behind
  packet_behind =
      let w = packet_word kind phase code tid total body in
      let e : at + (head_size kind + length body) ≡ at + length w = ap (λ n. at + n) (sym (packet_length kind phase code tid total body)) in
      rw e (sym (drop-drop (length w) at s) ∙ ap (drop (length w)) stands ∙ drop-append_seam w behind)

  pub packet_there : (packet_at s at ≡ got (placed at kind phase code tid total (length body)) (at + (head_size kind + length body))) × (part_of s (record { start = at + head_size kind; count = length body }) ≡ body)
  unfolding packet_at packet_rest packet_in packet_word after
  packet_there =
      let p = phase_size kind in
      let c = code_size kind in
      let t = total_size kind in
      let w1 = bytes 4 (head_size kind + length body) in
      let w2 = w1 ++ bytes 4 kind in
      let w3 = w2 ++ bytes p phase in
      let w4 = w3 ++ bytes c code in
      let w5 = w4 ++ bytes 4 tid in
      let w6 = w5 ++ bytes t total in
      let l1 = length_bytes 4 (head_size kind + length body) in
      let l2 : length w2 ≡ 8 = omega (arith, length-append w1 (bytes 4 kind), l1, length_bytes 4 kind) in
      let l3 : length w3 ≡ 8 + p = omega (arith, length-append w2 (bytes p phase), l2, length_bytes p phase) in
      let l4 : length w4 ≡ 8 + p + c = omega (arith, length-append w3 (bytes c code), l3, length_bytes c code) in
      let l5 : length w5 ≡ 12 + p + c = omega (arith, length-append w4 (bytes 4 tid), l4, length_bytes 4 tid) in
      let l6 : length w6 ≡ head_size kind = omega (arith, length-append w5 (bytes t total), l5, length_bytes t total) in
      let s7 = split w6 body all in
      let s6 = split w5 (bytes t total) s7.0 in
      let s5 = split w4 (bytes 4 tid) s6.0 in
      let s4 = split w3 (bytes c code) s5.0 in
      let s3 = split w2 (bytes p phase) s4.0 in
      let s2 = split w1 (bytes 4 kind) s3.0 in
      let len = number_there s at _ at 4 (head_size kind + length body) s2.0 refl f.small in
      let knd = number_there s _ _ (at + 4) 4 kind s2.1 (omega arith) f.kind_fits in
      let phs = number_there s _ _ (at + 8) p phase s3.1 (omega arith) f.phase_fits in
      let cod = number_there s _ _ (at + 8 + p) c code s4.1 (omega arith) f.code_fits in
      let num = number_there s _ _ (at + 8 + p + c) 4 tid s5.1 (omega arith) f.number_fits in
      let tot = number_there s _ _ (at + 12 + p + c) t total s6.1 (omega arith) f.total_fits in
      let fits = packet_fits in (
        rw
            (field_there 4 number s at (omega arith), field_there 4 number s (at + 4) (omega arith), len, knd, f.known, f.whole, le-leb (head_size kind + length body) (length s - at) (omega arith), phs, cod, num, tot)
            (ap (λ n. got (placed at kind phase code tid total n) (at + (head_size kind + length body))) (omega arith)),
        rw l6 at s7.1.is,
      )

  -- of the function's own answer: its numbers, and where its bytes are
  pub packet_back : (r : Read Packet) → says_read r ≡ packet_at s at → (says_read r ≡ got (placed at kind phase code tid total (length body)) (at + (head_size kind + length body))) × (part_of s (record { start = at + head_size kind; count = length body }) ≡ body)
  packet_back r promised = (promised ∙ packet_there.0, packet_there.1)
