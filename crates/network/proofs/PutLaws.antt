-- The words of packets and containers as rows of stores; and the loop that joins the data.
-- Assumes nothing.
use mathlib.Core.Path.{◌≡◌, refl, sym, ap, ◌∙◌}
use mathlib.Core.Bool.{Bool, true, false}
use mathlib.Core.List.{List, ◌∷◌, ◌++◌}
use Prim.Native.Nat.{ℕ, ◌+◌, ◌-◌, ◌≤◌, ◌<◌}
use native.Mathlib.Omega.{arith}
use borrow.Author.Tests.{le-leb, lt-leb, leb-true, leb-false}
use lib.Dec.{leb}
use lib.ListN.{length, take, drop, length-append, length-drop}
use lib.Seq.{length-take-le}
use Rattle.layout.specs.Answer.{Told, got, refused}
use Rattle.layout.specs.Bytes.{bytes}
use Rattle.layout.specs.Written.{Put, roomed}
use Rattle.layout.proofs.laws.Accepted.{accepted}
use Rattle.layout.proofs.laws.Numbers.{length_bytes, zero_one}
use Rattle.layout.proofs.laws.Reading.{one_got, unmeant}
use Rattle.layout.proofs.laws.Stored.{first, more}
use Rattle.layout.proofs.laws.Writing.{then, Owes, start, part, end}
use Rattle.wire.specs.Container.{container_word}
use Rattle.wire.specs.Returned.{part_of}
use Rattle.wire.specs.declared.Part.{Part}
use Rattle.network.specs.Packet.{phase_size, code_size, total_size, head_size, packet_at, packet_word}
use Rattle.network.specs.Inner.{data_of, AllPackets}
use Rattle.network.specs.Translated.{items_from, items_in, piece_size, data_in}
use Rattle.network.specs.declared.packet.Packet.{Packet}
use Rattle.network.proofs.PacketLaws.{Stood, packet_stands}
use Rattle.network.proofs.ItemsLaws.{items_none, items_passed, items_refused}

pub part_length : (s : List ℕ) (p : Part) → p.start + p.count ≤ length s → length (part_of s p) ≡ p.count
part_length s p h = length-take-le p.count (drop p.start s) (omega (arith, length-drop p.start s))

-- ── room ──

pub room_for : (room k a b c : ℕ) → k ≤ room → a ≤ room - k → b ≤ room - k - a → leb c (room - k - a - b) ≡ leb (k + a + b + c) room
room_for room k a b c h i j = go (leb c (room - k - a - b)) refl
  where
    go : (x : Bool) → leb c (room - k - a - b) ≡ x → x ≡ leb (k + a + b + c) room
    go true e = sym (le-leb (k + a + b + c) room (omega (arith, leb-true c (room - k - a - b) e)))
    go false e = sym (lt-leb (k + a + b + c) room (omega (arith, leb-false c (room - k - a - b) e)))

-- ── a packet ──

module _ (kind phase code number total : ℕ) (body : List ℕ) where
  pub packet_length : length (packet_word kind phase code number total body) ≡ head_size kind + length body
  unfolding packet_word
  packet_length = simp (length-append, length_bytes) (omega arith)

  pub packet_put : {out a b c d e f new : List ℕ} {at i j k l m n o : ℕ} (count : ℕ) → length body ≡ count → at + (head_size kind + count) ≤ length out →
      Put out at (roomed out at (bytes 4 (head_size kind + count))) a i → Put a i (roomed a i (bytes 4 kind)) b j → Put b j (roomed b j (bytes (phase_size kind) phase)) c k →
      Put c k (roomed c k (bytes (code_size kind) code)) d l → Put d l (roomed d l (bytes 4 number)) e m → Put e m (roomed e m (bytes (total_size kind) total)) f n →
      Put f n (roomed f n body) new o → Put out at (packet_word kind phase code number total body) new o
  unfolding packet_word
  packet_put count same h p q r s t u v =
      rw same
      (more
      (more
      (more
      (more
      (more
      (more
      (first (simp length_bytes (omega arith)) p)
      (bytes 4 kind) (simp length_bytes (omega arith)) q)
      (bytes (phase_size kind) phase) (simp (length-append, length_bytes) (omega arith)) r)
      (bytes (code_size kind) code) (simp (length-append, length_bytes) (omega arith)) s)
      (bytes 4 number) (simp (length-append, length_bytes) (omega arith)) t)
      (bytes (total_size kind) total) (simp (length-append, length_bytes) (omega arith)) u)
      body (simp (length-append, length_bytes) (omega arith)) v)

-- ── a container ──

module _ (kind code number : ℕ) where
  pub head_put : {out a b c new : List ℕ} {at i j k l : ℕ} (count : ℕ) → at + (12 + count) ≤ length out → Put out at (roomed out at (bytes 4 (12 + count))) a i → Put a i (roomed a i (bytes 2 kind)) b j →
      Put b j (roomed b j (bytes 2 code)) c k → Put c k (roomed c k (bytes 4 number)) new l → Put out at (bytes 4 (12 + count) ++ bytes 2 kind ++ bytes 2 code ++ bytes 4 number) new l
  head_put count h p q r s =
      more
      (more
      (more
      (first (simp length_bytes (omega arith)) p)
      (bytes 2 kind) (simp length_bytes (omega arith)) q)
      (bytes 2 code) (simp (length-append, length_bytes) (omega arith)) r)
      (bytes 4 number) (simp (length-append, length_bytes) (omega arith)) s

  pub head_length : (count : ℕ) → length (bytes 4 (12 + count) ++ bytes 2 kind ++ bytes 2 code ++ bytes 4 number) ≡ 12
  head_length count = simp (length-append, length_bytes)

  -- a payload behind them
  pub box_put : {out mid new payload : List ℕ} {at k m : ℕ} (count : ℕ) → length payload ≡ count → Put out at (bytes 4 (12 + count) ++ bytes 2 kind ++ bytes 2 code ++ bytes 4 number) mid k → Put mid k payload new m →
      Put out at (container_word kind code number payload) new m
  unfolding container_word
  box_put count same p q = rw same (then p q)

-- ── the data, joined ──

pub record Piecing (s out : List ℕ) (o i : ℕ) (out₀ : List ℕ) (at : ℕ) : Type 0 where
  pub fuel : ℕ
  pub left : List Packet
  pub till : ℕ
  pub enough : length s - i ≤ fuel
  pub items : items_from packet_at fuel s i ≡ got left till
  pub owes : Owes out o (data_in s left) out₀ at (data_of s)

pub piecing : (s out : List ℕ) (at : ℕ) → AllPackets s → Piecing s out at 0 out at
unfolding items_in
piecing s out at (xs, m, e) = record { fuel = length s; left = xs; till = m; enough = omega arith; items = e; owes = rw e start }

pub piece_next : {s out out₀ out' : List ℕ} {o i at next o' : ℕ} {x : Packet} → Piecing s out o i out₀ at → at + length (data_of s) ≤ length out₀ → i < length s → got x next ≡ packet_at s i →
    Put out o (roomed out o (take (piece_size x) (drop x.body.start s))) out' o' → (i < next) × (next ≤ length s) × Piecing s out' o' next out₀ at
unfolding data_in
piece_next {s} {out} {out₀} {out'} {o} {i} {at} {next} {o'} {x} g room h e p =
    let b = accepted (Stood s i) (packet_stands s i) e in
    let (ys, row, is) = unmeant (λ xs. x ∷ xs) (items_from packet_at (g.fuel - 1) s next) (sym (items_passed packet_at s g.fuel i h g.enough e) ∙ g.items) in
    let w = take (piece_size x) (drop x.body.start s) in
    let all : data_in s g.left ≡ w ++ data_in s ys = ap (data_in s) (sym is) in
    let put : Put out o w out' o' = first (omega (arith, g.owes.place, g.owes.long, ap length all, length-append w (data_in s ys))) p in (
      omega (arith, b.start, b.till),
      b.within,
      record { fuel = g.fuel - 1; left = ys; till = g.till; enough = omega (arith, b.start, b.till, g.enough); items = row; owes = part all g.owes put },
    )

pub piece_never : {X : Type 0} {s out out₀ : List ℕ} {o i at : ℕ} {t : Told} → Piecing s out o i out₀ at → i < length s → refused t ≡ packet_at s i → X
piece_never {X} {s} {out} {out₀} {o} {i} {at} {t} g h e = let z = sym (items_refused packet_at s g.fuel i h g.enough e) ∙ g.items in zero_one (cc)

pub piece_end : {s out out₀ : List ℕ} {o i at : ℕ} → Piecing s out o i out₀ at → length s ≤ i → Put out₀ at (data_of s) out o
unfolding data_in
piece_end {s} {out} {out₀} {o} {i} {at} g h =
    let same = one_got (sym g.items ∙ items_none packet_at s g.fuel i h) in
    end (ap (data_in s) same.0) g.owes
