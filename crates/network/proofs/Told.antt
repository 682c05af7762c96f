-- Which refusals have a place: 1 and no other; and it lies in the bytes that were lent. So do the parts of a packet that is accepted.
-- Assumes nothing.
use Rattle.layout.specs.Answer.{says_count}
use Rattle.std.specs.declared.result.Result.{Result}
use Rattle.wire.specs.Read.{Read, says_read}
use Rattle.layout.specs.declared.Refusal.{Refusal}
use mathlib.Core.Path.{◌≡◌, refl, sym, subst}
use mathlib.Core.Bool.{Bool, true, false}
use mathlib.Core.List.{List}
use Prim.Native.Nat.{ℕ, zero, suc, ◌+◌, ◌≤◌, ◌<◌}
use native.Mathlib.Nat.{le_refl}
use native.Mathlib.Omega.{arith}
use lib.Dec.{leb, ltb, eqb}
use lib.ListN.{length, drop, length-drop}
use Rattle.layout.specs.Answer.{Told, Answer, got, refused, Reader, pick, means, bare}
use Rattle.layout.specs.Refusals.{TEXT, TID, ROOM, COUNT}
use Rattle.layout.specs.Told.{PlacedExactly, Inside}
use Rattle.layout.specs.Written.{Said, says, no, Wrote}
use Rattle.layout.proofs.laws.Accepted.{accepted}
use Rattle.layout.proofs.laws.Did.{Kept, not_due, too_short, kept}
use Rattle.layout.proofs.laws.Numbers.{zero_one}
use Rattle.layout.proofs.laws.Told.{Telling, read, ended, spoilt, other, plainly, Closed, everywhere, up_to, telling_same, telling_pick, telling_after, telling_means, telling_exactly, telling_inside}
use Rattle.wire.specs.Container.{container_at}
use Rattle.wire.specs.Tests.{holds, fails}
use Rattle.wire.proofs.laws.Judged.{least}
use Rattle.wire.proofs.laws.Told.{container_telling}
use Rattle.network.specs.Refusals.{PACKET, FIELDS, TRANSACTION}
use Rattle.network.specs.Packet.{packet_at}
use Rattle.network.specs.PacketSays.{length_in, PacketSays}
use Rattle.network.specs.PacketSays as packet
use Rattle.network.specs.Translated.{items_from, items_in, folded, none_seen, look_container, look_packet, data_in, is_answered, to_judged, from_judged, said_or, to_said, from_said}
use Rattle.network.specs.declared.packet.Packet.{Packet}
use Rattle.network.specs.declared.see.Seen.{Seen}
use Rattle.network.specs.declared.translate.Direction.{Direction}
use Rattle.network.proofs.PacketLaws.{Stood, packet_stands}
use Rattle.network.proofs.PacketRefused.{packet_judged}

module _ {P : ℕ → Type 0} (s : List ℕ) (closed : Closed P s) where
  packet_telling : (at : ℕ) → P at → Telling P (packet_at s at)
  packet_telling at h = go (packet_at s at) (packet_judged s at)
    where
      -- so many bytes behind the place
      on : (n : ℕ) → (length (drop at s) < n → ⊥) → P (at + n)
      on n there = closed at n h (omega (arith, least there, length-drop at s))

      go : (x : Answer Packet) → PacketSays at (drop at s) x → Telling P x
      go x (holds c) = ended at h
      go x (fails a (holds c)) = ended (at + 4) (on 4 a)
      go x (fails a (fails b (holds c))) = plainly PACKET (omega arith)
      go x (fails a (fails b (fails k (holds c)))) = plainly FIELDS (omega arith)
      go x (fails a (fails b (fails k (fails w (holds c))))) = ended (at + 8) (on 8 b)
      go x (fails a (fails b (fails k (fails w (fails l (packet.accepted f)))))) = read (on (length_in (drop at s)) l)

  items_telling : {A : Type 0} (reader : Reader A) → ((at : ℕ) → P at → Telling P (reader s at)) → (n at : ℕ) → P at → Telling P (items_from reader n s at)
  unfolding items_from
  items_telling reader f zero at h = read h
  items_telling reader f (suc n) at h = telling_pick (ltb at (length s)) (λ _. telling_after (f at h) λ x next i. telling_means _ (items_telling reader f n next i)) λ _. read h

-- ── a packet ──

module _ (s : List ℕ) (at : ℕ) (r : Read Packet) (promised : says_read r ≡ packet_at s at) where
  pub packet_told : PlacedExactly (says_read r)
  packet_told = telling_exactly (telling_same promised (packet_telling s (everywhere s) at tt))

  -- from a place in the bytes
  pub packet_told_inside : at ≤ length s → Inside (length s) (says_read r)
  packet_told_inside h = telling_inside (telling_same promised (packet_telling s (up_to s (le_refl (length s))) at h))

-- its parameters or data end with it, and it ends in the bytes
pub packet_inside : (s : List ℕ) (at : ℕ) (x : Packet) (next : ℕ) → got x next ≡ packet_at s at → (at ≤ x.body.start) × (x.body.start + x.body.count ≡ next) × (next ≤ length s)
packet_inside s at x next promised =
    let b = accepted (Stood s at) (packet_stands s at) promised in
    (omega (arith, b.start), sym b.till, b.within)

-- ── a transaction ──

-- bytes, or a refusal that is neither 1 nor 2
data Plain : Said → Type 0 where
  bytes : {w : List ℕ} → Plain (says w)
  refusal : (n : ℕ) → TEXT < n → Plain (no (bare n))

plain_pick : {x y : Said} (b : Bool) → Plain x → Plain y → Plain (pick b x y)
plain_pick true x y = x
plain_pick false x y = y

to_plain : (d : Direction) (s : List ℕ) (t : Seen) → Plain (to_judged d s t)
unfolding to_judged
to_plain d s t = plain_pick (is_answered t.stage) (plain_pick t.same bytes (refusal TID (omega arith))) (refusal TRANSACTION (omega arith))

from_plain : (s : List ℕ) (t : Seen) (d : List ℕ) → Plain (from_judged s t d)
unfolding from_judged
from_plain s t d =
    plain_pick (is_answered t.stage)
    (plain_pick (eqb (length d) t.total) (plain_pick t.same (plain_pick (leb (length d) 4294967283) bytes (refusal COUNT (omega arith))) (refusal TID (omega arith))) (refusal FIELDS (omega arith)))
    (refusal TRANSACTION (omega arith))

abbrev Tells : (ℕ → Type 0) → Said → Type 0
Tells P x = (t : Told) → x ≡ no t → Telling {A = Unit {0}} P (refused t)

module _ {P : ℕ → Type 0} where
  plain_tells : {x : Said} → Plain x → Tells P x
  plain_tells bytes t e = zero_one (cc)
  plain_tells (refusal n h) t e = let is : bare n ≡ t = cc in subst (λ u. Telling {A = Unit {0}} P (refused u)) is (plainly n h)

  -- an item's refusal is the transaction's
  handed_on : {A : Type 0} {t : Told} → Telling {A = A} P (refused t) → Telling {A = Unit {0}} P (refused t)
  handed_on (ended p h) = ended p h
  handed_on (spoilt p h) = spoilt p h
  handed_on (other n i j) = other n i j

  items_tell : {A : Type 0} (f : List A → Said) → ((xs : List A) → Plain (f xs)) → (x : Answer (List A)) → Telling P x → Tells P (said_or (means f x))
  unfolding means
  items_tell f plain (got xs m) w t e = plain_tells (plain xs) t e
  items_tell f plain (refused u) w t e = let is : u ≡ t = cc in subst (λ v. Telling {A = Unit {0}} P (refused v)) is (handed_on w)

  to_tells : (d : Direction) (s : List ℕ) → Closed P s → P 0 → Tells P (to_said d s)
  unfolding to_said items_in
  to_tells d s closed h =
      items_tell (λ xs. to_judged d s (folded look_container none_seen xs)) (λ xs. to_plain d s (folded look_container none_seen xs)) (items_in container_at s) (items_telling s closed container_at (container_telling s closed) (length s) 0 h)

  from_tells : (s : List ℕ) → Closed P s → P 0 → Tells P (from_said s)
  unfolding from_said items_in
  from_tells s closed h =
      items_tell (λ xs. from_judged s (folded look_packet none_seen xs) (data_in s xs)) (λ xs. from_plain s (folded look_packet none_seen xs) (data_in s xs)) (items_in packet_at s) (items_telling s closed packet_at (packet_telling s closed) (length s) 0 h)

-- a writer's answer: its own refusals, or 9
module _ (said : Said) (s old new : List ℕ) (r : Result ℕ Refusal) (promised : Wrote said old (says_count r) new) (tells : (P : ℕ → Type 0) → Closed P s → P 0 → Tells P said) where
  written_tells : {P : ℕ → Type 0} → Closed P s → P 0 → (t : Told) → says_count r ≡ refused t → Telling {A = Unit {0}} P (refused t)
  written_tells {P} closed h t e = go (kept (subst (λ a. Wrote said old a new) e promised)).1
    where
      go : Kept said old t → Telling {A = Unit {0}} P (refused t)
      go (not_due f) = tells P closed h t f
      go (too_short w f l is) = subst (λ u. Telling {A = Unit {0}} P (refused u)) (sym is) (plainly ROOM (omega arith))

  written_told : PlacedExactly (says_count r) × Inside (length s) (says_count r)
  written_told = (
    record { exactly = λ t e. (telling_exactly (written_tells (everywhere s) tt t e)).exactly t refl; else_none = λ t e. (telling_exactly (written_tells (everywhere s) tt t e)).else_none t refl },
    λ t e. telling_inside (written_tells (up_to s (le_refl (length s))) (omega arith) t e) t refl,
  )

module _ (s old new : List ℕ) (r : Result ℕ Refusal) where
  pub to_told : (d : Direction) → Wrote (to_said d s) old (says_count r) new → PlacedExactly (says_count r) × Inside (length s) (says_count r)
  to_told d promised = written_told (to_said d s) s old new r promised λ P. to_tells d s

  pub from_told : Wrote (from_said s) old (says_count r) new → PlacedExactly (says_count r) × Inside (length s) (says_count r)
  from_told promised = written_told (from_said s) s old new r promised λ P. from_tells s
