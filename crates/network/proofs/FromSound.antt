-- Packets that are translated are those of a transaction, and they are translated to its containers.
-- Assumes nothing.
use mathlib.Core.Path.{◌≡◌, refl, sym, ap, subst, ◌∙◌}
use mathlib.Core.Bool.{Bool, true, false}
use mathlib.Core.Logic.{◌↔◌}
use mathlib.Core.List.{List, [], ◌∷◌, ◌++◌, append_assoc, append-nil}
use mathlib.Core.Option.{some, none}
use Prim.Native.Nat.{ℕ, ◌+◌, ◌-◌, ◌%◌, ◌^◌, ◌≤◌, ◌<◌}
use native.Mathlib.Omega.{arith}
use borrow.Author.Tests.{eqb-true, leb-true, le-leb}
use lib.Dec.{leb, eqb}
use lib.ListN.{length, take, drop}
use Rattle.layout.specs.Answer.{Answer, got, refused, pick, means, bare}
use Rattle.layout.specs.Bytes.{Bytes}
use Rattle.layout.specs.Format.{Stands}
use Rattle.layout.specs.Refusals.{TID, COUNT}
use Rattle.layout.specs.Written.{says, no}
use Rattle.layout.proofs.laws.Numbers.{zero_one, Bytes-take, Bytes-drop}
use Rattle.layout.proofs.laws.Words.{join}
use Rattle.wire.specs.Returned.{part_of}
use Rattle.network.specs.Refusals.{FIELDS, TRANSACTION}
use Rattle.network.specs.Packet.{phase_size, code_size, total_size, whole_fields, packet_at, packet_word}
use Rattle.network.specs.Transaction.{Transaction, Params, containers_word, data_words, joined, nothing, cut, Packets, request_word, response_word, start_word, end_word}
use Rattle.network.specs.TransactionSays.{Each, OneNumber, DataAndResponse, end_data, data_packet, SuchPackets, request_response, request_data_response}
use Rattle.network.specs.Translated.{both, items_from, items_in, folded, none_seen, next_packet, piece_size, look_packet, data_in, seen_in, from_judged, from_said, said_or, is_answered}
use Rattle.network.specs.declared.packet.Packet.{Packet}
use Rattle.network.specs.declared.see.Seen.{Seen}
use Rattle.network.specs.declared.see.Stage.TheVariants as stage
use Rattle.network.proofs.PacketLaws.{held}
use Rattle.network.proofs.PutLaws.{packet_length}
use Rattle.network.proofs.ReadWords.{Packed, packet-word}
use Rattle.network.proofs.SeenStages as stages
use Rattle.network.proofs.SeenNumbers as numbers
use Rattle.network.proofs.ToSound.{items_cons, items_nil, filled}

-- ── what such packets are ──

abbrev Over : Seen → List Packet → Type 0
Over t xs = is_answered (folded look_packet t xs).stage ≡ true

stays : (t : Seen) (x : Packet) → t.stage ≡ stage.Not → (look_packet t x).stage ≡ stage.Not
unfolding look_packet next_packet
stays t x e = rw e

stops : (t : Seen) (x : Packet) → t.stage ≡ stage.Answered → (look_packet t x).stage ≡ stage.Not
unfolding look_packet next_packet
stops t x e = rw e

-- a response and no more
data Last : List Packet → Type 0 where
  last : (r : Packet) → r.kind ≡ 7 → r.body.count ≤ 20 → Last (r ∷ [])

-- where a response may stand, this one does
last_here : (x : Packet) (xs : List Packet) (t : Seen) → both (eqb x.kind 7) (leb x.body.count 20) ≡ true → (look_packet t x).stage ≡ stage.Answered → Over t (x ∷ xs) → Last (x ∷ xs)
unfolding folded
last_here x xs t f e h =
    let (k, few) = held (eqb x.kind 7) (leb x.body.count 20) f in
    rw (stages.ended look_packet stays stops xs (look_packet t x) e h) (last x (eqb-true x.kind 7 k) (leb-true x.body.count 20 few))

last_of : (xs : List Packet) (t : Seen) → t.stage ≡ stage.Whole → Over t xs → Last xs
unfolding folded look_packet next_packet
last_of [] t e h = stages.not_over look_packet stays stops t stage.Whole e refl h
last_of (x ∷ xs) t e h = go (both (eqb x.kind 7) (leb x.body.count 20)) refl
  where
    go : (b : Bool) → both (eqb x.kind 7) (leb x.body.count 20) ≡ b → Last (x ∷ xs)
    go true f = last_here x xs t f (rw (e, f)) h
    go false f = stages.lost look_packet stays stops xs (look_packet t x) (rw (e, f)) h

data_of : (xs : List Packet) (t : Seen) → t.stage ≡ stage.Started → Over t xs → DataAndResponse xs
unfolding folded look_packet next_packet
data_of [] t e h = stages.not_over look_packet stays stops t stage.Started e refl h
data_of (x ∷ xs) t e h = go (λ i. data_of xs (look_packet t x) i h) (eqb x.kind 10) refl (eqb x.kind 12) refl
  where
    at-end : x.kind ≡ 12 → {ys : List Packet} → Last ys → DataAndResponse (x ∷ ys)
    at-end k (last r a b) = end_data k a b

    go : ((look_packet t x).stage ≡ stage.Started → DataAndResponse xs) → (a : Bool) → eqb x.kind 10 ≡ a → (b : Bool) → eqb x.kind 12 ≡ b → DataAndResponse (x ∷ xs)
    go again true f b g = data_packet (eqb-true x.kind 10 f) (again (rw (e, f)))
    go again false f true g = at-end (eqb-true x.kind 12 g) (last_of xs (look_packet t x) (rw (e, f, g)) h)
    go again false f false g = stages.lost look_packet stays stops xs (look_packet t x) (rw (e, f, g)) h

-- behind the request
module _ (q : Packet) (kind : q.kind ≡ 6) (few : q.body.count ≤ 20) where
  with_response : {xs : List Packet} → Last xs → SuchPackets (q ∷ xs)
  with_response (last r k f) = request_response kind few k f

  such_behind : (xs : List Packet) (t : Seen) → t.stage ≡ stage.Asked → Over t xs → SuchPackets (q ∷ xs)
  unfolding folded look_packet next_packet
  such_behind [] t e h = stages.not_over look_packet stays stops t stage.Asked e refl h
  such_behind (x ∷ xs) t e h = go (eqb x.kind 9) refl (both (eqb x.kind 7) (leb x.body.count 20)) refl
    where
      go : (a : Bool) → eqb x.kind 9 ≡ a → (b : Bool) → both (eqb x.kind 7) (leb x.body.count 20) ≡ b → SuchPackets (q ∷ x ∷ xs)
      go true f b g = request_data_response kind few (eqb-true x.kind 9 f) (data_of xs (look_packet t x) (rw (e, f)) h)
      go false f true g = with_response (last_here x xs t g (rw (e, f, g)) h)
      go false f false g = stages.lost look_packet stays stops xs (look_packet t x) (rw (e, f, g)) h

pub such_seen : (xs : List Packet) → Over none_seen xs → SuchPackets xs
unfolding folded look_packet next_packet
such_seen [] h = stages.not_over look_packet stays stops none_seen stage.First refl refl h
such_seen (x ∷ xs) h = go (both (eqb x.kind 6) (leb x.body.count 20)) refl
  where
    go : (b : Bool) → both (eqb x.kind 6) (leb x.body.count 20) ≡ b → SuchPackets (x ∷ xs)
    go true f =
        let (k, few) = held (eqb x.kind 6) (leb x.body.count 20) f in
        such_behind x (eqb-true x.kind 6 k) (leb-true x.body.count 20 few) xs (look_packet none_seen x) (rw f) h
    go false f = stages.lost look_packet stays stops xs (look_packet none_seen x) (rw f) h

data_over : {xs : List Packet} (t : Seen) → t.stage ≡ stage.Started → DataAndResponse xs → Over t xs
unfolding folded look_packet next_packet
data_over t s (end_data {e} {r} ke kr fr) = rw (s, ke, kr, le-leb r.body.count 20 fr)
data_over t s (data_packet {x} kx rest) = data_over (look_packet t x) (rw (s, kx)) rest

pub seen_such : {xs : List Packet} → SuchPackets xs → Over none_seen xs
unfolding folded look_packet next_packet
seen_such (request_response {q} {r} kq fq kr fr) = rw (kq, le-leb q.body.count 20 fq, kr, le-leb r.body.count 20 fr)
seen_such (request_data_response {q} {b} kq fq kb rest) = data_over (look_packet (look_packet none_seen q) b) (rw (kq, le-leb q.body.count 20 fq, kb)) rest

-- ── all have one number exactly where `same` says so ──

abbrev number : Packet → ℕ
number x = x.number

abbrev asks : Packet → Bool
asks x = eqb x.kind 6

same_here : (x : Packet) (xs : List Packet) (t : Seen) → asks x ≡ false → (folded look_packet t (x ∷ xs)).same ≡ true → x.number ≡ t.number
unfolding look_packet
same_here = numbers.same_here number asks look_packet (λ t x. refl) λ t x. refl

none_asks : {xs : List Packet} → DataAndResponse xs → Each (λ x. asks x ≡ false) xs
none_asks (end_data ke kr fr) = (rw ke, (rw kr, tt))
none_asks (data_packet kx rest) = (rw kx, none_asks rest)

pub numbers_exactly : {xs : List Packet} → SuchPackets xs → ((folded look_packet none_seen xs).same ≡ true) ↔ OneNumber number xs
unfolding look_packet
numbers_exactly (request_response {q} {r} kq fq kr fr) = numbers.one_number_exactly number asks look_packet (λ t x. refl) (λ t x. refl) q (r ∷ []) (rw kq) (rw kr, tt)
numbers_exactly (request_data_response {q} {b} {xs} kq fq kb rest) = numbers.one_number_exactly number asks look_packet (λ t x. refl) (λ t x. refl) q (b ∷ xs) (rw kq) (rw kb, none_asks rest)

-- ── words by their kinds: a number that a kind has not is 0 ──

minus : (k n : ℕ) → k + n - k ≡ n
minus k n = omega arith

module _ (s : List ℕ) {at n : ℕ} (x : Packet) (b : Packed s at x n) where
  none_of : (v : ℕ) → v < 256 ^ 0 → v ≡ 0
  none_of v h = omega arith

  request-word : x.kind ≡ 6 → Stands s at n (packet_word 6 x.phase x.code x.number 0 (part_of s x.body)) × (x.phase < 256 ^ 4) × (x.code < 256 ^ 2)
  unfolding phase_size code_size total_size
  request-word k =
      let tot : x.total ≡ 0 = none_of x.total (rw k at b.total) in
      let e : packet_word x.kind x.phase x.code x.number x.total (part_of s x.body) ≡ packet_word 6 x.phase x.code x.number 0 (part_of s x.body) = cc (k, tot) in
      (subst (Stands s at n) e b.stands, rw k at b.phase, rw k at b.code)

  response-word : x.kind ≡ 7 → (tid : ℕ) → x.number ≡ tid → Stands s at n (packet_word 7 0 x.code tid 0 (part_of s x.body)) × (x.code < 256 ^ 2)
  unfolding phase_size code_size total_size
  response-word k tid num =
      let tot : x.total ≡ 0 = none_of x.total (rw k at b.total) in
      let phs : x.phase ≡ 0 = none_of x.phase (rw k at b.phase) in
      let e : packet_word x.kind x.phase x.code x.number x.total (part_of s x.body) ≡ packet_word 7 0 x.code tid 0 (part_of s x.body) = cc (k, tot, phs, num) in
      (subst (Stands s at n) e b.stands, rw k at b.code)

  data_word : (kind : ℕ) → x.kind ≡ kind → phase_size kind ≡ 0 → code_size kind ≡ 0 → total_size kind ≡ 0 → (tid : ℕ) → x.number ≡ tid → Stands s at n (packet_word kind 0 0 tid 0 (part_of s x.body))
  data_word kind k p c z tid num =
      let tot : x.total ≡ 0 = none_of x.total (rw (k, z) at b.total) in
      let phs : x.phase ≡ 0 = none_of x.phase (rw (k, p) at b.phase) in
      let cod : x.code ≡ 0 = none_of x.code (rw (k, c) at b.code) in
      let e : packet_word x.kind x.phase x.code x.number x.total (part_of s x.body) ≡ packet_word kind 0 0 tid 0 (part_of s x.body) = cc (k, tot, phs, cod, num) in
      subst (Stands s at n) e b.stands

  start-word : x.kind ≡ 9 → (tid : ℕ) → x.number ≡ tid → Stands s at n (start_word tid x.total)
  unfolding phase_size code_size total_size whole_fields
  start-word k tid num =
      let phs : x.phase ≡ 0 = none_of x.phase (rw k at b.phase) in
      let cod : x.code ≡ 0 = none_of x.code (rw k at b.code) in
      let whole : whole_fields 9 (20 + x.body.count) ≡ true = rw k at b.stood.whole in
      let count : x.body.count ≡ 0 = omega (arith, eqb-true (20 + x.body.count) 20 (held (leb 20 (20 + x.body.count)) _ whole).1) in
      let body : part_of s x.body ≡ [] = ap (λ m. take m (drop x.body.start s)) count in
      let e : packet_word x.kind x.phase x.code x.number x.total (part_of s x.body) ≡ start_word tid x.total = cc (k, phs, cod, num, body) in
      subst (Stands s at n) e b.stands

  params_from : x.body.count ≤ 20 → x.body.count % 4 ≡ 0 → Params (part_of s x.body)
  params_from h w = record { bytes = b.bytes; few = omega (arith, b.long); whole = ap (λ m. m % 4) b.long ∙ w }

  request_params : x.kind ≡ 6 → x.body.count ≤ 20 → Params (part_of s x.body)
  unfolding phase_size code_size total_size whole_fields
  request_params k h =
      let whole : whole_fields 6 (18 + x.body.count) ≡ true = rw k at b.stood.whole in
      params_from h (ap (λ m. m % 4) (sym (minus 18 x.body.count)) ∙ eqb-true ((18 + x.body.count - 18) % 4) 0 (held (leb 18 (18 + x.body.count)) _ whole).1)

  response_params : x.kind ≡ 7 → x.body.count ≤ 20 → Params (part_of s x.body)
  unfolding phase_size code_size total_size whole_fields
  response_params k h =
      let whole : whole_fields 7 (14 + x.body.count) ≡ true = rw k at b.stood.whole in
      params_from h (ap (λ m. m % 4) (sym (minus 14 x.body.count)) ∙ eqb-true ((14 + x.body.count - 14) % 4) 0 (held (leb 14 (14 + x.body.count)) _ whole).1)

  further : at < n
  further = omega (arith, b.stands.till, packet_length x.kind x.phase x.code x.number x.total (part_of s x.body))

-- ── data packets, end data and response, up to the end ──

-- what is kept of what was seen before, and what the response told
record Keeps (s : List ℕ) (u v : Seen) (response : ℕ) (results : List ℕ) : Type 0 where
  pub code : v.code ≡ u.code
  pub number : v.number ≡ u.number
  pub params : v.params ≡ u.params
  pub has : v.has ≡ u.has
  pub total : v.total ≡ u.total
  pub answers : v.response ≡ response
  pub results_are : part_of s v.results ≡ results

record Finish (s : List ℕ) (at tid : ℕ) (u : Seen) (xs : List Packet) : Type 0 where
  pub ds : List (List ℕ)
  pub last_one : List ℕ
  pub response : ℕ
  pub results : List ℕ
  pub till : ℕ
  pub stands : Stands s at till (data_words tid ds ++ (end_word tid last_one ++ packet_word 7 0 response tid 0 results))
  pub over : length s ≤ till
  pub joins : data_in s xs ≡ joined ds ++ last_one
  pub response_fits : response < 256 ^ 2
  pub params : Params results
  pub keeps : Keeps s u (folded look_packet u xs) response results

module _ (s : List ℕ) (h : Bytes s) where
  finish_end : (e r : Packet) → e.kind ≡ 12 → r.kind ≡ 7 → r.body.count ≤ 20 → (n at m : ℕ) → length s - at ≤ n → items_from packet_at n s at ≡ got (e ∷ r ∷ []) m → (u : Seen) → (folded look_packet u (e ∷ r ∷ [])).same ≡ true →
      Finish s at u.number u (e ∷ r ∷ [])
  unfolding folded look_packet data_in data_words joined phase_size code_size total_size
  finish_end e r ke kr fr n at m enough row u same =
      let (n1, h1, r1, e1) = items_cons packet_at s n at row in
      let (n2, h2, r2, e2) = items_cons packet_at s (n - 1) n1 e1 in
      let b1 = packet-word s h at e n1 r1 in
      let b2 = packet-word s h n1 r n2 r2 in
      let f1 = further s e b1 in
      let f2 = further s r b2 in
      let over = items_nil packet_at s (n - 1 - 1) n2 (omega arith) e2 in
      let no6 : eqb e.kind 6 ≡ false = rw ke in
      let no6r : eqb r.kind 6 ≡ false = rw kr in
      let num1 = same_here e (r ∷ []) u no6 same in
      let num2 : r.number ≡ u.number = same_here r [] (look_packet u e) no6r same ∙ rw ke in
      let w2 = response-word s r b2 kr u.number num2 in
      let body : take (pick (eqb e.kind 10) e.body.count (pick (eqb e.kind 12) e.body.count 0)) (drop e.body.start s) ≡ part_of s e.body = rw ke in
      let none : take (pick (eqb r.kind 10) r.body.count (pick (eqb r.kind 12) r.body.count 0)) (drop r.body.start s) ≡ [] = rw kr in
      record {
        ds = [];
        last_one = part_of s e.body;
        response = r.code;
        results = part_of s r.body;
        till = n2;
        stands = join (data_word s e b1 12 ke refl refl refl u.number num1) w2.0;
        over = over;
        joins = rw (body, none) (append-nil (part_of s e.body));
        response_fits = w2.1;
        params = response_params s r b2 kr fr;
        keeps = record { code = rw (ke, kr); number = rw (ke, kr); params = rw (ke, kr); has = rw (ke, kr); total = rw (ke, kr); answers = rw (ke, kr); results_are = rw (ke, kr) };
      }

  finish_more : (x : Packet) (ys : List Packet) → x.kind ≡ 10 → (at n1 : ℕ) → Packed s at x n1 → (u : Seen) → (folded look_packet u (x ∷ ys)).same ≡ true → Finish s n1 (look_packet u x).number (look_packet u x) ys →
      Finish s at u.number u (x ∷ ys)
  unfolding folded look_packet data_in data_words joined phase_size code_size total_size
  finish_more x ys kx at n1 b1 u same g =
      let no6 : eqb x.kind 6 ≡ false = rw kx in
      let num = same_here x ys u no6 same in
      let tid : (look_packet u x).number ≡ u.number = rw kx in
      let w = packet_word 10 0 0 u.number 0 (part_of s x.body) in
      let rest = end_word u.number g.last_one ++ packet_word 7 0 g.response u.number 0 g.results in
      let behind : Stands s n1 g.till (data_words u.number g.ds ++ rest) =
      subst (λ n. Stands s n1 g.till (data_words n g.ds ++ (end_word n g.last_one ++ packet_word 7 0 g.response n 0 g.results))) tid g.stands in
      let body : take (pick (eqb x.kind 10) x.body.count (pick (eqb x.kind 12) x.body.count 0)) (drop x.body.start s) ≡ part_of s x.body = rw kx in
      let k = g.keeps in
      record {
        ds = part_of s x.body ∷ g.ds;
        last_one = g.last_one;
        response = g.response;
        results = g.results;
        till = g.till;
        stands = subst (Stands s at g.till) (sym (append_assoc w (data_words u.number g.ds) rest)) (join (data_word s x b1 10 kx refl refl refl u.number num) behind);
        over = g.over;
        joins = rw (body, g.joins) (sym (append_assoc (part_of s x.body) (joined g.ds) g.last_one));
        response_fits = g.response_fits;
        params = g.params;
        keeps = record { code = k.code ∙ rw kx; number = k.number ∙ rw kx; params = k.params ∙ rw kx; has = k.has ∙ rw kx; total = k.total ∙ rw kx; answers = k.answers; results_are = k.results_are };
      }

  finish : (xs : List Packet) → DataAndResponse xs → (n at m : ℕ) → length s - at ≤ n → items_from packet_at n s at ≡ got xs m → (u : Seen) → (folded look_packet u xs).same ≡ true → Finish s at u.number u xs
  unfolding folded
  finish xs (end_data {e} {r} ke kr fr) n at m enough row u same = finish_end e r ke kr fr n at m enough row u same
  finish xs (data_packet {x} {xs = ys} kx rest) n at m enough row u same =
      let (n1, h1, r1, e1) = items_cons packet_at s n at row in
      let b1 = packet-word s h at x n1 r1 in
      let f1 = further s x b1 in
      finish_more x ys kx at n1 b1 u same (finish ys rest (n - 1) n1 m (omega arith) e1 (look_packet u x) same)

-- ── what was said, taken apart ──

from_parts : (s : List ℕ) (t : Seen) (d w : List ℕ) → from_judged s t d ≡ says w →
    (is_answered t.stage ≡ true) × (length d ≡ t.total) × (t.same ≡ true) × (length d ≤ 4294967283) × (w ≡ containers_word (seen_in s t d))
unfolding from_judged
from_parts s t d w e = go (is_answered t.stage) refl (eqb (length d) t.total) refl t.same refl (leb (length d) 4294967283) refl e
  where
    go : (a : Bool) → is_answered t.stage ≡ a → (b : Bool) → eqb (length d) t.total ≡ b → (c : Bool) → t.same ≡ c → (l : Bool) → leb (length d) 4294967283 ≡ l →
        pick a (pick b (pick c (pick l (says (containers_word (seen_in s t d))) (no (bare COUNT))) (no (bare TID))) (no (bare FIELDS))) (no (bare TRANSACTION)) ≡ says w →
        (is_answered t.stage ≡ true) × (length d ≡ t.total) × (t.same ≡ true) × (length d ≤ 4294967283) × (w ≡ containers_word (seen_in s t d))
    go true i true j true k true l e = (i, eqb-true (length d) t.total j, k, leb-true (length d) 4294967283 l, cc)
    go true i true j true k false l e = zero_one (cc)
    go true i true j false k c l e = zero_one (cc)
    go true i false j c k b l e = zero_one (cc)
    go false i b j c k d l e = zero_one (cc)

from_items : (s w : List ℕ) → from_said s ≡ says w → (xs : List Packet) × (m : ℕ) × (items_in packet_at s ≡ got xs m) × (from_judged s (folded look_packet none_seen xs) (data_in s xs) ≡ says w)
unfolding from_said means
from_items s w e = go (items_in packet_at s) refl e
  where
    go : (y : Answer (List Packet)) → items_in packet_at s ≡ y → said_or (means (λ xs. from_judged s (folded look_packet none_seen xs) (data_in s xs)) y) ≡ says w →
        (xs : List Packet) × (m : ℕ) × (items_in packet_at s ≡ got xs m) × (from_judged s (folded look_packet none_seen xs) (data_in s xs) ≡ says w)
    go (got xs m) f e = (xs, m, f, e)
    go (refused t) f e = zero_one (cc)

-- ── sound ──

bytes_append : (a b : List ℕ) → Bytes a → Bytes b → Bytes (a ++ b)
bytes_append [] b h k = k
bytes_append (x ∷ a) b h k = (h.0, bytes_append a b h.1 k)

bytes_data : (s : List ℕ) → Bytes s → (xs : List Packet) → Bytes (data_in s xs)
unfolding data_in
bytes_data s h [] = tt
bytes_data s h (x ∷ xs) = bytes_append (take (piece_size x) (drop x.body.start s)) (data_in s xs) (Bytes-take (piece_size x) (drop x.body.start s) (Bytes-drop x.body.start s h)) (bytes_data s h xs)

-- the transaction that was seen, by its fields
seen_as : (s : List ℕ) (v : Seen) (d : List ℕ) (t : Transaction) → v.code ≡ t.code → v.number ≡ t.number → part_of s v.params ≡ t.params → pick v.has (some d) none ≡ t.payload → v.response ≡ t.response →
    part_of s v.results ≡ t.results → seen_in s v d ≡ t
seen_as s v d t a b c e f g = rw (a, b, c, e, f, g)

module _ (s : List ℕ) (h : Bytes s) (w : List ℕ) where
  abbrev Sound : Type 0
  Sound = (t : Transaction) × Packets s t × (w ≡ containers_word t)

  sound_bare : (q r : Packet) (m : ℕ) → q.kind ≡ 6 → q.body.count ≤ 20 → r.kind ≡ 7 → r.body.count ≤ 20 → items_from packet_at (length s) s 0 ≡ got (q ∷ r ∷ []) m → (folded look_packet none_seen (q ∷ r ∷ [])).same ≡ true →
      w ≡ containers_word (seen_in s (folded look_packet none_seen (q ∷ r ∷ [])) (data_in s (q ∷ r ∷ []))) → Sound
  unfolding folded look_packet
  sound_bare q r m kq fq kr fr e same is =
      let (n1, h1, r1, e1) = items_cons packet_at s (length s) 0 e in
      let (n2, h2, r2, e2) = items_cons packet_at s (length s - 1) n1 e1 in
      let b1 = packet-word s h 0 q n1 r1 in
      let b2 = packet-word s h n1 r n2 r2 in
      let f1 = further s q b1 in
      let f2 = further s r b2 in
      let over = items_nil packet_at s (length s - 1 - 1) n2 (omega arith) e2 in
      let no6 : eqb r.kind 6 ≡ false = rw kr in
      let num : r.number ≡ q.number = same_here r [] (look_packet none_seen q) no6 same ∙ rw kq in
      let w1 = request-word s q b1 kq in
      let w2 = response-word s r b2 kr q.number num in
      let t : Transaction = record { code = q.code; number = q.number; params = part_of s q.body; payload = none; response = r.code; results = part_of s r.body } in
      let seen = seen_as s (folded look_packet none_seen (q ∷ r ∷ [])) (data_in s (q ∷ r ∷ [])) t (rw (kq, kr)) (rw (kq, kr)) (rw (kq, kr)) (rw (kq, kr)) (rw (kq, kr)) (rw (kq, kr)) in
      let word = filled (join w1.0 w2.0) over in (
        t,
        record {
          fits = record { code = w1.2; number = b1.number; params = request_params s q b1 kq fq; payload = tt; response = w2.1; results = response_params s r b2 kr fr };
          phase = q.phase;
          phase_fits = w1.1;
          middle = [];
          between = nothing;
          word = word ∙ ap (λ v. v ++ response_word t) (sym (append-nil (request_word q.phase t)));
        },
        is ∙ ap containers_word seen,
      )

  abbrev started : Packet → Packet → Seen
  started q b = look_packet (look_packet none_seen q) b

  -- from their words
  loaded_from : (q b : Packet) (ys : List Packet) (n1 n2 : ℕ) → q.kind ≡ 6 → q.body.count ≤ 20 → b.kind ≡ 9 → Packed s 0 q n1 → Packed s n1 b n2 → Finish s n2 (started q b).number (started q b) ys → (folded look_packet none_seen (q ∷ b ∷ ys)).same ≡ true →
      length (data_in s (q ∷ b ∷ ys)) ≡ (folded look_packet none_seen (q ∷ b ∷ ys)).total → length (data_in s (q ∷ b ∷ ys)) ≤ 4294967283 →
      w ≡ containers_word (seen_in s (folded look_packet none_seen (q ∷ b ∷ ys)) (data_in s (q ∷ b ∷ ys))) → Sound
  unfolding folded look_packet data_in
  loaded_from q b ys n1 n2 kq fq kb b1 b2 g same sized small is =
      let u = started q b in
      let k = g.keeps in
      let no6 : eqb b.kind 6 ≡ false = rw kb in
      let num : b.number ≡ q.number = same_here b ys (look_packet none_seen q) no6 same ∙ rw kq in
      let tid : u.number ≡ q.number = rw (kq, kb) in
      let d = joined g.ds ++ g.last_one in
      let skip1 : take (piece_size q) (drop q.body.start s) ≡ [] = rw kq in
      let skip2 : take (piece_size b) (drop b.body.start s) ≡ [] = rw kb in
      let data_is : data_in s (q ∷ b ∷ ys) ≡ d =
      ap (λ x. x ++ (take (piece_size b) (drop b.body.start s) ++ data_in s ys)) skip1 ∙ ap (λ x. x ++ data_in s ys) skip2 ∙ g.joins in
      let total : b.total ≡ length d = sym (sym (ap length data_is) ∙ sized ∙ k.total ∙ rw (kq, kb)) in
      let t : Transaction = record { code = q.code; number = q.number; params = part_of s q.body; payload = some d; response = g.response; results = g.results } in
      let v = folded look_packet u ys in
      let has : v.has ≡ true = k.has ∙ rw (kq, kb) in
      let params : v.params ≡ q.body = k.params ∙ rw (kq, kb) in
      let seen = seen_as s v (data_in s (q ∷ b ∷ ys)) t (k.code ∙ rw (kq, kb)) (k.number ∙ rw (kq, kb)) (ap (part_of s) params) (ap (λ x. pick x (some (data_in s (q ∷ b ∷ ys))) none) has ∙ ap some data_is) k.answers k.results_are in
      let w1 = request-word s q b1 kq in
      let w2 : Stands s n1 n2 (start_word q.number (length d)) = subst (λ n. Stands s n1 n2 (start_word q.number n)) total (start-word s b b2 kb q.number num) in
      let tail : Stands s n2 g.till (data_words q.number g.ds ++ (end_word q.number g.last_one ++ response_word t)) =
      subst (λ n. Stands s n2 g.till (data_words n g.ds ++ (end_word n g.last_one ++ packet_word 7 0 g.response n 0 g.results))) tid g.stands in
      let word = filled (join w1.0 (join w2 tail)) g.over in (
        t,
        record {
          fits = record { code = w1.2; number = b1.number; params = request_params s q b1 kq fq; payload = (subst Bytes data_is (bytes_data s h (q ∷ b ∷ ys)), omega (arith, ap length data_is)); response = g.response_fits; results = g.params };
          phase = q.phase;
          phase_fits = w1.1;
          middle = start_word q.number (length d) ++ data_words q.number g.ds ++ end_word q.number g.last_one;
          between = cut g.ds g.last_one;
          word = word ∙ sym (simp append_assoc);
        },
        is ∙ ap containers_word seen,
      )

  sound_loaded : (q b : Packet) (ys : List Packet) (m : ℕ) → q.kind ≡ 6 → q.body.count ≤ 20 → b.kind ≡ 9 → DataAndResponse ys → items_from packet_at (length s) s 0 ≡ got (q ∷ b ∷ ys) m → (folded look_packet none_seen (q ∷ b ∷ ys)).same ≡ true →
      length (data_in s (q ∷ b ∷ ys)) ≡ (folded look_packet none_seen (q ∷ b ∷ ys)).total → length (data_in s (q ∷ b ∷ ys)) ≤ 4294967283 →
      w ≡ containers_word (seen_in s (folded look_packet none_seen (q ∷ b ∷ ys)) (data_in s (q ∷ b ∷ ys))) → Sound
  unfolding folded
  sound_loaded q b ys m kq fq kb rest e same sized small is =
      let (n1, h1, r1, e1) = items_cons packet_at s (length s) 0 e in
      let (n2, h2, r2, e2) = items_cons packet_at s (length s - 1) n1 e1 in
      let b1 = packet-word s h 0 q n1 r1 in
      let b2 = packet-word s h n1 b n2 r2 in
      let f1 = further s q b1 in
      let f2 = further s b b2 in
      loaded_from q b ys n1 n2 kq fq kb b1 b2 (finish s h ys rest (length s - 1 - 1) n2 m (omega arith) e2 (started q b) same) same sized small is

  pub from_sound : from_said s ≡ says w → Sound
  unfolding items_in
  from_sound e =
      let (xs, m, row, of) = from_items s w e in
      let parts = from_parts s (folded look_packet none_seen xs) (data_in s xs) w of in
      go xs m row (such_seen xs parts.0) parts.1 parts.2 parts.3 parts.4
    where
      go : (xs : List Packet) (m : ℕ) → items_from packet_at (length s) s 0 ≡ got xs m → SuchPackets xs → length (data_in s xs) ≡ (folded look_packet none_seen xs).total → (folded look_packet none_seen xs).same ≡ true →
          length (data_in s xs) ≤ 4294967283 → w ≡ containers_word (seen_in s (folded look_packet none_seen xs) (data_in s xs)) → Sound
      go xs m row (request_response {q} {r} kq fq kr fr) sized same small is = sound_bare q r m kq fq kr fr row same is
      go xs m row (request_data_response {q} {b} {xs = ys} kq fq kb rest) sized same small is = sound_loaded q b ys m kq fq kb rest row same sized small is
