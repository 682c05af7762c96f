-- What the translators have to say. All items of the buffer are read from the front; then what was seen of them is judged, in the paper's order.
-- Assumes nothing.
use Rattle.std.specs.Prelude.{Bool, true, false, List, [], ◌∷◌, ◌++◌, ℕ, zero, suc, ◌+◌, ◌%◌, leb, ltb, eqb, length, take, drop}
use Rattle.std.proofs.Math.Option.{some, none}
use Rattle.layout.specs.Answer.{Answer, got, refused, Reader, pick, after, means, bare}
use Rattle.layout.specs.Refusals.{TID, COUNT}
use Rattle.layout.specs.Written.{Said, says, no}
use Rattle.wire.specs.Container.{container_at}
use Rattle.wire.specs.Returned.{part_of}
use Rattle.wire.specs.declared.Part.{Part}
use Rattle.wire.specs.declared.container.Container.{Container}
use Rattle.network.specs.Refusals.{FIELDS, TRANSACTION}
use Rattle.network.specs.Packet.{packet_at}
use Rattle.network.specs.Transaction.{Transaction, containers_word, tidy_word}
use Rattle.network.specs.declared.packet.Packet.{Packet}
use Rattle.network.specs.declared.see.Stage.{Stage}
use Rattle.network.specs.declared.see.Stage.TheVariants as stage
use Rattle.network.specs.declared.see.Seen.{Seen}
use Rattle.network.specs.declared.translate.Direction.{Direction}

-- ── items from end to end, or the first refusal. Each takes bytes, so there are no more than the bytes are ──

unfoldable pub items_from : {A : Type 0} → Reader A → ℕ → Reader (List A)
items_from read zero s at = got [] at
items_from read (suc n) s at = pick (ltb at (length s)) (after (read s at) λ x next. means (λ xs. x ∷ xs) (items_from read n s next)) (got [] at)

unfoldable pub items_in : {A : Type 0} → Reader A → List ℕ → Answer (List A)
items_in read s = items_from read (length s) s 0

unfoldable pub folded : {A S : Type 0} → (S → A → S) → S → List A → S
folded step t [] = t
folded step t (x ∷ xs) = folded step (step t x) xs

-- ── what is seen of them ──

abbrev pub none_seen : Seen
none_seen = record {
  stage = stage.First;
  same = true;
  has = false;
  code = 0;
  number = 0;
  params = record { start = 0; count = 0 };
  payload = record { start = 0; count = 0 };
  response = 0;
  results = record { start = 0; count = 0 };
  total = 0;
  sum = 0;
}

abbrev pub both : Bool → Bool → Bool
both a b = pick a b false

-- a parameter payload: at most five whole u32s
abbrev pub five_whole : ℕ → Bool
five_whole n = both (leb n 20) (eqb (n % 4) 0)

-- Command, then at most one Data with the Command's code, then Response, and no more
unfoldable pub next_container : Stage → ℕ → ℕ → ℕ → ℕ → Stage
next_container stage.First ours kind code count = pick (both (eqb kind 1) (five_whole count)) stage.Asked stage.Not
next_container stage.Asked ours kind code count = pick (both (eqb kind 2) (eqb code ours)) stage.Whole (pick (both (eqb kind 3) (five_whole count)) stage.Answered stage.Not)
next_container stage.Started ours kind code count = stage.Not
next_container stage.Whole ours kind code count = pick (both (eqb kind 3) (five_whole count)) stage.Answered stage.Not
next_container stage.Answered ours kind code count = stage.Not
next_container stage.Not ours kind code count = stage.Not

-- request and response; or request, start data, data packets, end data, response
unfoldable pub next_packet : Stage → ℕ → ℕ → Stage
next_packet stage.First kind count = pick (both (eqb kind 6) (leb count 20)) stage.Asked stage.Not
next_packet stage.Asked kind count = pick (eqb kind 9) stage.Started (pick (both (eqb kind 7) (leb count 20)) stage.Answered stage.Not)
next_packet stage.Started kind count = pick (eqb kind 10) stage.Started (pick (eqb kind 12) stage.Whole stage.Not)
next_packet stage.Whole kind count = pick (both (eqb kind 7) (leb count 20)) stage.Answered stage.Not
next_packet stage.Answered kind count = stage.Not
next_packet stage.Not kind count = stage.Not

-- one more item: what it tells by its kind, and whether it has the number of the Command before it
abbrev pub noted : Stage → Bool → Bool → Bool → ℕ → ℕ → Part → ℕ → ℕ → Seen → Seen
noted next asks holds answers code number body total more t = record {
  stage = next;
  same = both t.same (eqb number (pick asks number t.number));
  has = pick holds true t.has;
  code = pick asks code t.code;
  number = pick asks number t.number;
  params = pick asks body t.params;
  payload = pick holds body t.payload;
  response = pick answers code t.response;
  results = pick answers body t.results;
  total = pick holds total t.total;
  sum = t.sum + more;
}

unfoldable pub look_container : Seen → Container → Seen
look_container t x =
    noted (next_container t.stage t.code x.kind x.code x.payload.count) (eqb x.kind 1) (eqb x.kind 2) (eqb x.kind 3)
    x.code x.number x.payload 0 0 t

-- how many bytes of data a packet has
abbrev pub piece_size : Packet → ℕ
piece_size x = pick (eqb x.kind 10) x.body.count (pick (eqb x.kind 12) x.body.count 0)

unfoldable pub look_packet : Seen → Packet → Seen
look_packet t x =
    noted (next_packet t.stage x.kind x.body.count) (eqb x.kind 6) (eqb x.kind 9) (eqb x.kind 7)
    x.code x.number x.body x.total (piece_size x) t

-- the bytes of data and end data, joined
unfoldable pub data_in : List ℕ → List Packet → List ℕ
data_in s [] = []
data_in s (x ∷ xs) = take (piece_size x) (drop x.body.start s) ++ data_in s xs

-- ── the order: 22, 21, 7, 10; 9 is every writer's ──

abbrev pub is_answered : Stage → Bool
is_answered stage.First = false
is_answered stage.Asked = false
is_answered stage.Started = false
is_answered stage.Whole = false
is_answered stage.Answered = true
is_answered stage.Not = false

-- the transaction that was seen, with those data
abbrev pub seen_in : List ℕ → Seen → List ℕ → Transaction
seen_in s t d = record {
  code = t.code;
  number = t.number;
  params = part_of s t.params;
  payload = pick t.has (some d) none;
  response = t.response;
  results = part_of s t.results;
}

unfoldable pub to_judged : Direction → List ℕ → Seen → Said
to_judged d s t =
    pick (is_answered t.stage)
    (pick t.same (says (tidy_word d (seen_in s t (part_of s t.payload)))) (no (bare TID)))
    (no (bare TRANSACTION))

unfoldable pub from_judged : List ℕ → Seen → List ℕ → Said
from_judged s t d =
    pick (is_answered t.stage)
    (pick (eqb (length d) t.total)
    (pick t.same
    (pick (leb (length d) 4294967283) (says (containers_word (seen_in s t d))) (no (bare COUNT)))
    (no (bare TID)))
    (no (bare FIELDS)))
    (no (bare TRANSACTION))

abbrev pub said_or : Answer Said → Said
said_or (got x n) = x
said_or (refused t) = no t

unfoldable pub to_said : Direction → List ℕ → Said
to_said d s = said_or (means (λ xs. to_judged d s (folded look_container none_seen xs)) (items_in container_at s))

unfoldable pub from_said : List ℕ → Said
from_said s = said_or (means (λ xs. from_judged s (folded look_packet none_seen xs) (data_in s xs)) (items_in packet_at s))
