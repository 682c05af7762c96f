-- What the translators answer meets specs/TransactionSays, and what is said there determines the answer and the output: each refusal by its condition, in both directions.
-- Assumes nothing.
use Rattle.layout.specs.Answer.{says_count}
use Rattle.std.specs.declared.result.Result.{Result}
use Rattle.layout.specs.declared.Refusal.{Refusal}
use mathlib.Core.Path.{◌≡◌, refl, sym, ap, subst, ◌∙◌}
use mathlib.Core.Bool.{Bool, true, false}
use mathlib.Core.Logic.{◌↔◌}
use mathlib.Core.List.{List, [], ◌∷◌, ◌++◌}
use Prim.Native.Nat.{ℕ, zero, suc, ◌-◌, ◌≤◌, ◌<◌}
use native.Mathlib.Omega.{arith}
use borrow.Author.Tests.{eqb-true, eq-eqb, leb-true, leb-false, le-leb, lt-leb, ltb-true, ltb-false}
use lib.Dec.{leb, ltb, eqb}
use lib.ListN.{length, drop}
use Rattle.layout.specs.Answer.{Told, Answer, got, refused, Reader, pick, after, means, bare}
use Rattle.layout.specs.Bytes.{Bytes}
use Rattle.layout.specs.Refusals.{ROOM}
use Rattle.layout.specs.Written.{Said, says, no, answer_of, left_of, Wrote}
use Rattle.layout.proofs.laws.Accepted.{accepted}
use Rattle.layout.proofs.laws.Numbers.{zero_one}
use Rattle.wire.specs.Container.{container_at}
use Rattle.wire.specs.Refused.{ContainerSays}
use Rattle.wire.specs.Returned.{part_of}
use Rattle.wire.specs.declared.container.Container.{Container}
use Rattle.wire.proofs.laws.Contained.{Boxed, container_stands}
use Rattle.wire.proofs.laws.Judged.{one_test, least_row, container_judged, container_one}
use Rattle.network.specs.Packet.{packet_at}
use Rattle.network.specs.PacketSays.{PacketSays}
use Rattle.network.specs.Transaction.{containers_word, tidy_word}
use Rattle.network.specs.TransactionSays.{Items, over, fault, item, ToBytes, packets_of, ToTests, ToSays, to_item, to_all, DataAndResponse, end_data, data_packet, SuchPackets, request_response, request_data_response, Announces, FromBytes, containers_of, FromTests, FromSays, from_item, from_all, Answers, refuses, no_room, writes}
use Rattle.network.specs.Translated.{items_from, items_in, folded, none_seen, look_container, look_packet, data_in, is_answered, seen_in, to_judged, from_judged, said_or, to_said, from_said}
use Rattle.network.specs.declared.packet.Packet.{Packet}
use Rattle.network.specs.declared.see.Seen.{Seen}
use Rattle.network.specs.declared.translate.Direction.{Direction}
use Rattle.network.proofs.FromComplete.{from_complete}
use Rattle.network.proofs.FromSound as from
use Rattle.network.proofs.PacketLaws.{Stood, packet_stands}
use Rattle.network.proofs.PacketRefused.{exact_row, packet_judged, packet_one}
use Rattle.network.proofs.ToComplete.{containers_one}
use Rattle.network.proofs.ToSound as to
use Rattle.network.proofs.TranslatedLaws.{to_bytes, from_bytes}

-- ── items ──

-- what a reader of items says, and how its items are said with no reader
data Walked {A : Type 0} (Says : ℕ → List ℕ → Answer A → Type 0) (s : List ℕ) (at : ℕ) : Answer (List A) → Type 0 where
  to_end : {xs : List A} {m : ℕ} → Items Says s at xs (got tt m) → Walked Says s at (got xs m)
  to_fault : {xs : List A} {t : Told} → Items Says s at xs (refused t) → Walked Says s at (refused t)

module _ {A : Type 0} (read : Reader A) (Says : ℕ → List ℕ → Answer A → Type 0) (s : List ℕ) (judged : (at : ℕ) → Says at (drop at s) (read s at)) (further : (at : ℕ) (x : A) (next : ℕ) → got x next ≡ read s at → at < next) where
  walked : (n at : ℕ) → length s - at ≤ n → Walked Says s at (items_from read n s at)
  unfolding items_from after means
  walked zero at h = to_end (over {at = at} (omega arith))
  walked (suc n) at h = go (λ next. walked n next) (ltb at (length s)) refl
    where
      on : {x : A} {next : ℕ} {y : Answer (List A)} → at < length s → Says at (drop at s) (got x next) → Walked Says s next y → Walked Says s at (means (λ xs. x ∷ xs) y)
      on i w (to_end row) = to_end (item i w row)
      on i w (to_fault row) = to_fault (item i w row)

      of : ((next : ℕ) → length s - next ≤ n → Walked Says s next (items_from read n s next)) → at < length s → (y : Answer A) → y ≡ read s at → Says at (drop at s) y →
          Walked Says s at (after y λ x next. means (λ xs. x ∷ xs) (items_from read n s next))
      of again i (got x next) e w = on i w (again next (omega (arith, further at x next e)))
      of again i (refused t) e w = to_fault (fault i w)

      go : ((next : ℕ) → length s - next ≤ n → Walked Says s next (items_from read n s next)) → (b : Bool) → ltb at (length s) ≡ b →
          Walked Says s at (pick b (after (read s at) λ x next. means (λ xs. x ∷ xs) (items_from read n s next)) (got [] at))
      go again true e = of again (ltb-true at (length s) e) (read s at) refl (judged at)
      go again false e = to_end (over (ltb-false at (length s) e))

-- they are the same however they are found
module _ {A : Type 0} {Says : ℕ → List ℕ → Answer A → Type 0} (one : (at : ℕ) (d : List ℕ) (x y : Answer A) → Says at d x → Says at d y → x ≡ y) {s : List ℕ} where
  items_one : {at : ℕ} {xs ys : List A} {e f : Answer (Unit {0})} → Items Says s at xs e → Items Says s at ys f → (xs ≡ ys) × (e ≡ f)
  items_one (over h) (over i) = (refl, refl)
  items_one (over h) (fault i a) = absurd (omega arith)
  items_one (over h) (item i a r) = absurd (omega arith)
  items_one (fault h a) (over i) = absurd (omega arith)
  items_one {at} (fault h a) (fault i b) = let e = one at (drop at s) _ _ a b in (refl, cc)
  items_one {at} (fault h a) (item i b r) = let e = one at (drop at s) _ _ a b in zero_one (cc)
  items_one (item h a r) (over i) = absurd (omega arith)
  items_one {at} (item h a r) (fault i b) = let e = one at (drop at s) _ _ a b in zero_one (cc)
  items_one {at} (item {next} {x} {xs} {end} h a r) (item {next = m} {x = y} {xs = ys} {end = last} i b q) =
      let e = one at (drop at s) _ _ a b in
      let heads : x ≡ y = cc in
      let places : next ≡ m = cc in
      let (tails, ends) = items_one {e = end} {f = last} r (subst (λ p. Items Says s p ys last) (sym places) q) in
      (cc, ends)

-- ── to the network ──

container_further : (s : List ℕ) (at : ℕ) (x : Container) (next : ℕ) → got x next ≡ container_at s at → at < next
container_further s at x next e = let b = accepted (Boxed s at) (container_stands s at) e in omega (arith, b.start, b.till)

module _ (d : Direction) (s : List ℕ) where
  module _ (h : Bytes s) where
    to_packets : (xs : List Container) (m : ℕ) → items_in container_at s ≡ got xs m → is_answered (folded look_container none_seen xs).stage ≡ true → (folded look_container none_seen xs).same ≡ true →
        ToBytes d s (says (tidy_word d (seen_in s (folded look_container none_seen xs) (part_of s (folded look_container none_seen xs).payload))))
    unfolding to_said means
    to_packets xs m row a b =
        let u = folded look_container none_seen xs in
        let (t, c, is) = to.to_sound d s h (tidy_word d (seen_in s u (part_of s u.payload))) (rw row (to_bytes d s u a b)) in
        subst (λ w. ToBytes d s (says w)) (sym is) (packets_of c)

    to_tests : (xs : List Container) (m : ℕ) → items_in container_at s ≡ got xs m → ToTests d s xs (to_judged d s (folded look_container none_seen xs))
    unfolding to_judged
    to_tests xs m row =
        exact_row (is_answered (folded look_container none_seen xs).stage) _ (to.such_seen xs) (to.seen_such xs) λ such.
        exact_row (folded look_container none_seen xs).same _ (to.numbers_exactly such).0 (to.numbers_exactly such).1 λ one.
        to_packets xs m row (to.seen_such xs such) ((to.numbers_exactly such).1 one)

    to-judged : ToSays d s (to_said d s)
    unfolding to_said means items_in
    to-judged = go (items_in container_at s) refl (walked container_at ContainerSays s (container_judged s) (container_further s) (length s) 0 (omega arith))
      where
        go : (y : Answer (List Container)) → items_in container_at s ≡ y → Walked ContainerSays s 0 y → ToSays d s (said_or (means (λ xs. to_judged d s (folded look_container none_seen xs)) y))
        go y e (to_end {xs} {m} row) = to_all row (to_tests xs m e)
        go y e (to_fault row) = to_item row

  packets_one : (x y : Said) → ToBytes d s x → ToBytes d s y → x ≡ y
  packets_one x y (packets_of {t} a) (packets_of {t = u} b) = ap (λ v. says (tidy_word d v)) (containers_one s t u a b)

  to_one : {x y : Said} → ToSays d s x → ToSays d s y → x ≡ y
  to_one (to_item r) (to_item q) = let (xs, e) = items_one container_one r q in cc
  to_one (to_item r) (to_all q b) = let (xs, e) = items_one container_one r q in zero_one (cc)
  to_one (to_all r a) (to_item q) = let (xs, e) = items_one container_one r q in zero_one (cc)
  to_one {x} {y} (to_all r a) (to_all q b) = let (xs, e) = items_one container_one r q in one_test (one_test packets_one) x y a (subst (λ l. ToTests d s l y) (sym xs) b)

-- ── back from it ──

packet_further : (s : List ℕ) (at : ℕ) (x : Packet) (next : ℕ) → got x next ≡ packet_at s at → at < next
packet_further s at x next e = let b = accepted (Stood s at) (packet_stands s at) e in omega (arith, b.start, b.till)

-- what start data announced is kept behind it, where nothing is announced again
total_kept : {xs : List Packet} → DataAndResponse xs → (t : Seen) → (folded look_packet t xs).total ≡ t.total
unfolding folded look_packet
total_kept (end_data ke kr fr) t = rw (ke, kr)
total_kept (data_packet {x} kx rest) t = total_kept rest (look_packet t x) ∙ rw kx

none_announces : {xs : List Packet} → DataAndResponse xs → (n : ℕ) → Announces n xs
none_announces (end_data ke kr fr) n = (λ k. absurd (omega arith), ((λ k. absurd (omega arith)), tt))
none_announces (data_packet kx rest) n = (λ k. absurd (omega arith), none_announces rest n)

announces_exactly : (s : List ℕ) {xs : List Packet} → SuchPackets xs → (eqb (length (data_in s xs)) (folded look_packet none_seen xs).total ≡ true) ↔ Announces (length (data_in s xs)) xs
unfolding folded look_packet data_in
announces_exactly s (request_response kq fq kr fr) = (λ e. (λ k. absurd (omega arith), ((λ k. absurd (omega arith)), tt)), λ each. rw (kq, kr))
announces_exactly s (request_data_response {q} {b} {xs} kq fq kb rest) =
    let n = length (data_in s (q ∷ b ∷ xs)) in
    let total : (folded look_packet none_seen (q ∷ b ∷ xs)).total ≡ b.total = total_kept rest (look_packet (look_packet none_seen q) b) ∙ rw kb in (
      λ e. (λ k. absurd (omega arith), ((λ k. sym (eqb-true n _ e ∙ total)), none_announces rest n)),
      λ each. eq-eqb n _ (sym (total ∙ each.1.0 kb)),
    )

module _ (s : List ℕ) where
  module _ (h : Bytes s) where
    from_containers : (xs : List Packet) (m : ℕ) → items_in packet_at s ≡ got xs m → is_answered (folded look_packet none_seen xs).stage ≡ true → length (data_in s xs) ≡ (folded look_packet none_seen xs).total →
        (folded look_packet none_seen xs).same ≡ true → length (data_in s xs) ≤ 4294967283 → FromBytes s (says (containers_word (seen_in s (folded look_packet none_seen xs) (data_in s xs))))
    unfolding from_said means
    from_containers xs m row a sized b small =
        let u = folded look_packet none_seen xs in
        let (t, p, is) = from.from_sound s h (containers_word (seen_in s u (data_in s xs))) (rw row (from_bytes s u (data_in s xs) a sized b small)) in
        subst (λ v. FromBytes s (says v)) (sym is) (containers_of p)

    from_tests : (xs : List Packet) (m : ℕ) → items_in packet_at s ≡ got xs m → FromTests s xs (from_judged s (folded look_packet none_seen xs) (data_in s xs))
    unfolding from_judged
    from_tests xs m row =
        exact_row (is_answered (folded look_packet none_seen xs).stage) _ (from.such_seen xs) from.seen_such λ such.
        exact_row (eqb (length (data_in s xs)) (folded look_packet none_seen xs).total) _ (announces_exactly s such).0 (announces_exactly s such).1 λ announced.
        exact_row (folded look_packet none_seen xs).same _ (from.numbers_exactly such).0 (from.numbers_exactly such).1 λ one.
        least_row (length (data_in s xs)) 4294967283 _
        (from_containers xs m row (from.seen_such such) (eqb-true (length (data_in s xs)) (folded look_packet none_seen xs).total ((announces_exactly s such).1 announced)) ((from.numbers_exactly such).1 one))

    from-judged : FromSays s (from_said s)
    unfolding from_said means items_in
    from-judged = go (items_in packet_at s) refl (walked packet_at PacketSays s (packet_judged s) (packet_further s) (length s) 0 (omega arith))
      where
        go : (y : Answer (List Packet)) → items_in packet_at s ≡ y → Walked PacketSays s 0 y → FromSays s (said_or (means (λ xs. from_judged s (folded look_packet none_seen xs) (data_in s xs)) y))
        go y e (to_end {xs} {m} row) = from_all row (from_tests xs m e)
        go y e (to_fault row) = from_item row

  containers_same : (x y : Said) → FromBytes s x → FromBytes s y → x ≡ y
  containers_same x y (containers_of {t} a) (containers_of {t = u} b) = sym (from_complete s t a) ∙ from_complete s u b

  from_one : {x y : Said} → FromSays s x → FromSays s y → x ≡ y
  from_one (from_item r) (from_item q) = let (xs, e) = items_one packet_one r q in cc
  from_one (from_item r) (from_all q b) = let (xs, e) = items_one packet_one r q in zero_one (cc)
  from_one (from_all r a) (from_item q) = let (xs, e) = items_one packet_one r q in zero_one (cc)
  from_one {x} {y} (from_all r a) (from_all q b) =
      let (xs, e) = items_one packet_one r q in
      one_test (one_test (one_test (one_test containers_same))) x y a (subst (λ l. FromTests s l y) (sym xs) b)

-- ── of the functions' own answers, with 9; and no other answer, and no other output, is said of the same inputs ──

module _ (Says : Said → Type 0) (said : Said) (is_said : Says said) (old new : List ℕ) (answer : Answer (Unit {0})) (promised : Wrote said old answer new) where
  answers : Answers Says old answer new
  unfolding answer_of left_of
  answers = rw (promised.answers, promised.leaves) (of said is_said)
    where
      fit : (v : List ℕ) → Says (says v) → (b : Bool) → leb (length v) (length old) ≡ b → Answers Says old (pick b (got tt (length v)) (refused (bare ROOM))) (pick b (v ++ drop (length v) old) old)
      fit v w true e = writes w (leb-true (length v) (length old) e)
      fit v w false e = no_room w (leb-false (length v) (length old) e)

      of : (z : Said) → Says z → Answers Says old (answer_of z old) (left_of z old)
      of (no t) w = refuses w
      of (says v) w = fit v w (leb (length v) (length old)) refl

  answers_one : ((y : Said) → Says y → said ≡ y) → {y : Answer (Unit {0})} {m : List ℕ} → Answers Says old y m → (answer ≡ y) × (new ≡ m)
  unfolding answer_of left_of
  answers_one one (refuses {t} w) = let e = one (no t) w in (promised.answers ∙ rw e, promised.leaves ∙ rw e)
  answers_one one (no_room {w = v} w l) =
      let e = one (says v) w in
      let f = lt-leb (length v) (length old) l in
      (promised.answers ∙ rw (e, f), promised.leaves ∙ rw (e, f))
  answers_one one (writes {w = v} w l) =
      let e = one (says v) w in
      let f = le-leb (length v) (length old) l in
      (promised.answers ∙ rw (e, f), promised.leaves ∙ rw (e, f))

module _ (s : List ℕ) (h : Bytes s) (old new : List ℕ) (r : Result ℕ Refusal) where
  module _ (d : Direction) (promised : Wrote (to_said d s) old (says_count r) new) where
    pub to_says : Answers (ToSays d s) old (says_count r) new
    to_says = answers (ToSays d s) (to_said d s) (to-judged d s h) old new (says_count r) promised

    pub to_says_one : {y : Answer (Unit {0})} {m : List ℕ} → Answers (ToSays d s) old y m → (says_count r ≡ y) × (new ≡ m)
    to_says_one = answers_one (ToSays d s) (to_said d s) (to-judged d s h) old new (says_count r) promised λ y. to_one d s (to-judged d s h)

  module _ (promised : Wrote (from_said s) old (says_count r) new) where
    pub from_says : Answers (FromSays s) old (says_count r) new
    from_says = answers (FromSays s) (from_said s) (from-judged s h) old new (says_count r) promised

    pub from_says_one : {y : Answer (Unit {0})} {m : List ℕ} → Answers (FromSays s) old y m → (says_count r ≡ y) × (new ≡ m)
    from_says_one = answers_one (FromSays s) (from_said s) (from-judged s h) old new (says_count r) promised λ y. from_one s (from-judged s h)
