-- What the translators answer, by the paper's words: the first item that is refused hands its refusal on; then 22, 21, 7 and 10, each by its condition on the items;
-- then 9; else the other side's words of the transaction that the bytes are. No reader, no writer and no state stands here.
-- Assumes nothing.
use Rattle.std.specs.Prelude.{◌≡◌, List, [], ◌∷◌, ◌++◌, ℕ, ◌%◌, ◌≤◌, ◌<◌, length, drop}
use Rattle.layout.specs.Answer.{Told, Answer, got, refused, bare}
use Rattle.layout.specs.Refusals.{TID, ROOM, COUNT}
use Rattle.layout.specs.Written.{Said, says, no}
use Rattle.wire.specs.Refused.{ContainerSays}
use Rattle.wire.specs.Tests.{◌gives◌else◌}
use Rattle.wire.specs.declared.container.Container.{Container}
use Rattle.network.specs.PacketSays.{PacketSays}
use Rattle.network.specs.Refusals.{FIELDS, TRANSACTION}
use Rattle.network.specs.Transaction.{Transaction, Containers, Packets, containers_word, tidy_word}
use Rattle.network.specs.Translated.{data_in}
use Rattle.network.specs.declared.packet.Packet.{Packet}
use Rattle.network.specs.declared.translate.Direction.{Direction}

-- ── items from a place on, each where the one before it ends, up to the last byte or to the first that is refused ──

pub data Items {A : Type 0} (Says : ℕ → List ℕ → Answer A → Type 0) (s : List ℕ) : ℕ → List A → Answer (Unit {0}) → Type 0 where
  over : {at : ℕ} → length s ≤ at → Items Says s at [] (got tt at)
  fault : {at : ℕ} {t : Told} → at < length s → Says at (drop at s) (refused t) → Items Says s at [] (refused t)
  item : {at next : ℕ} {x : A} {xs : List A} {end : Answer (Unit {0})} → at < length s → Says at (drop at s) (got x next) → Items Says s next xs end → Items Says s at (x ∷ xs) end

abbrev pub Each : {A : Type 0} → (A → Type 0) → List A → Type 0
Each P [] = Unit {0}
Each P (x ∷ xs) = P x × Each P xs

-- all have the first one's number
abbrev pub OneNumber : {A : Type 0} → (A → ℕ) → List A → Type 0
OneNumber number [] = Unit {0}
OneNumber number (x ∷ xs) = Each (λ y. number y ≡ number x) xs

-- ── to the network ──

-- at most five whole u32s
abbrev pub FiveWhole : ℕ → Type 0
FiveWhole count = (count ≤ 20) × (count % 4 ≡ 0)

pub data SuchContainers : List Container → Type 0 where
  command_response : {c r : Container} → c.kind ≡ 1 → FiveWhole c.payload.count → r.kind ≡ 3 → FiveWhole r.payload.count → SuchContainers (c ∷ r ∷ [])
  command_data_response : {c x r : Container} → c.kind ≡ 1 → FiveWhole c.payload.count → x.kind ≡ 2 → x.code ≡ c.code → r.kind ≡ 3 → FiveWhole r.payload.count → SuchContainers (c ∷ x ∷ r ∷ [])

pub data ToBytes (d : Direction) (s : List ℕ) : Said → Type 0 where
  packets_of : {t : Transaction} → Containers s t → ToBytes d s (says (tidy_word d t))

abbrev pub ToTests : Direction → List ℕ → List Container → Said → Type 0
ToTests d s xs =
    (SuchContainers xs → ⊥) gives no (bare TRANSACTION) else
    (OneNumber (λ x. x.number) xs → ⊥) gives no (bare TID) else
    ToBytes d s

pub data ToSays (d : Direction) (s : List ℕ) : Said → Type 0 where
  to_item : {xs : List Container} {t : Told} → Items ContainerSays s 0 xs (refused t) → ToSays d s (no t)
  to_all : {xs : List Container} {n : ℕ} {w : Said} → Items ContainerSays s 0 xs (got tt n) → ToTests d s xs w → ToSays d s w

-- ── back from it ──

-- data packets, none too, then end data and the response
pub data DataAndResponse : List Packet → Type 0 where
  end_data : {e r : Packet} → e.kind ≡ 12 → r.kind ≡ 7 → r.body.count ≤ 20 → DataAndResponse (e ∷ r ∷ [])
  data_packet : {x : Packet} {xs : List Packet} → x.kind ≡ 10 → DataAndResponse xs → DataAndResponse (x ∷ xs)

pub data SuchPackets : List Packet → Type 0 where
  request_response : {q r : Packet} → q.kind ≡ 6 → q.body.count ≤ 20 → r.kind ≡ 7 → r.body.count ≤ 20 → SuchPackets (q ∷ r ∷ [])
  request_data_response : {q b : Packet} {xs : List Packet} → q.kind ≡ 6 → q.body.count ≤ 20 → b.kind ≡ 9 → DataAndResponse xs → SuchPackets (q ∷ b ∷ xs)

-- start data announces so many bytes
abbrev pub Announces : ℕ → List Packet → Type 0
Announces size = Each λ x. x.kind ≡ 9 → x.total ≡ size

pub data FromBytes (s : List ℕ) : Said → Type 0 where
  containers_of : {t : Transaction} → Packets s t → FromBytes s (says (containers_word t))

abbrev pub FromTests : List ℕ → List Packet → Said → Type 0
FromTests s xs =
    (SuchPackets xs → ⊥) gives no (bare TRANSACTION) else
    (Announces (length (data_in s xs)) xs → ⊥) gives no (bare FIELDS) else
    (OneNumber (λ x. x.number) xs → ⊥) gives no (bare TID) else
    4294967283 < length (data_in s xs) gives no (bare COUNT) else
    FromBytes s

pub data FromSays (s : List ℕ) : Said → Type 0 where
  from_item : {xs : List Packet} {t : Told} → Items PacketSays s 0 xs (refused t) → FromSays s (no t)
  from_all : {xs : List Packet} {n : ℕ} {w : Said} → Items PacketSays s 0 xs (got tt n) → FromTests s xs w → FromSays s w

-- ── the answer, and what is left of the output: 9 where the bytes that are due have no room ──

pub data Answers (Says : Said → Type 0) (old : List ℕ) : Answer (Unit {0}) → List ℕ → Type 0 where
  refuses : {t : Told} → Says (no t) → Answers Says old (refused t) old
  no_room : {w : List ℕ} → Says (says w) → length old < length w → Answers Says old (refused (bare ROOM)) old
  writes : {w : List ℕ} → Says (says w) → length w ≤ length old → Answers Says old (got tt (length w)) (w ++ drop (length w) old)
