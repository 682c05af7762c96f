-- What `read_packet` answers, said with no reader: it meets specs/PacketSays, which determines the answer.
-- Assumes nothing.
use Rattle.wire.specs.Read.{Read, says_read}
use mathlib.Core.Path.{◌≡◌, refl, sym, ap, subst, ◌∙◌}
use mathlib.Core.Bool.{Bool, true, false}
use mathlib.Core.List.{List}
use Prim.Native.Nat.{ℕ, ◌+◌, ◌-◌, ◌*◌, ◌/◌, ◌%◌}
use native.Mathlib.Nat.{add-zero}
use native.Mathlib.Omega.{arith}
use borrow.Author.Tests.{eqb-true, leb-true, le-leb, eq-eqb}
use lib.Dec.{leb, eqb, lit≤}
use lib.ListN.{length, take, drop, length-drop}
use lib.Seq.{drop-drop}
use Rattle.layout.specs.Answer.{Answer, got, pick}
use Rattle.layout.specs.Bytes.{number}
use Rattle.layout.proofs.laws.Numbers.{zero_one}
use Rattle.wire.specs.Tests.{◌gives◌else◌, holds, fails}
use Rattle.wire.proofs.laws.Judged.{one_test, the_same, least_row, field_row}
use Rattle.network.specs.Packet.{is_packet, phase_size, code_size, total_size, whole_fields, packet_in, packet_rest, packet_at}
use Rattle.network.specs.PacketSays.{field_in, length_in, packet_kind_in, IsKind, WholeFields, FieldsIn, Accepted, accepted, PacketSays, request, response, start_data, data_packet, end_data, request_length, response_length, start_data_length, data_packet_length, end_data_length, request_fields, response_fields, start_data_fields, data_packet_fields, end_data_fields}
use Rattle.network.specs.declared.packet.Packet.{Packet}
use Rattle.network.proofs.PacketLaws.{held}

-- a test that is true exactly where a statement holds
pub exact_row : {A C : Type 0} {Q : A → Type 0} (b : Bool) (x : A) {y : A} → (b ≡ true → C) → (C → b ≡ true) → (C → Q x) → ((C → ⊥) gives y else Q) (pick b x y)
exact_row true x f g q = fails (λ n. n (f refl)) (q (f refl))
exact_row false x f g q = holds (λ c. let e = g c in zero_one (cc))

-- ── kinds and lengths ──

kind_known : (k : ℕ) → is_packet k ≡ true → IsKind k
unfolding is_packet
kind_known k e = go (eqb k 6) refl (eqb k 7) refl (eqb k 9) refl (eqb k 10) refl (eqb k 12) refl e
  where
    is : (n : ℕ) → IsKind n → eqb k n ≡ true → IsKind k
    is n i e = subst IsKind (sym (eqb-true k n e)) i

    go : (a : Bool) → eqb k 6 ≡ a → (b : Bool) → eqb k 7 ≡ b → (c : Bool) → eqb k 9 ≡ c → (d : Bool) → eqb k 10 ≡ d → (l : Bool) → eqb k 12 ≡ l →
        pick a true (pick b true (pick c true (pick d true l))) ≡ true → IsKind k
    go true i b j c m d n l o e = is 6 request i
    go false i true j c m d n l o e = is 7 response j
    go false i false j true m d n l o e = is 9 start_data m
    go false i false j false m true n l o e = is 10 data_packet n
    go false i false j false m false n l o e = is 12 end_data (o ∙ e)

known_kind : {k : ℕ} → IsKind k → is_packet k ≡ true
unfolding is_packet
known_kind request = refl
known_kind response = refl
known_kind start_data = refl
known_kind data_packet = refl
known_kind end_data = refl

-- parameters behind so many bytes
fours : (head n : ℕ) → pick (leb head n) (eqb ((n - head) % 4) 0) false ≡ true → head + 4 * ((n - head) / 4) ≡ n
fours head n e =
    let (a, b) = held (leb head n) (eqb ((n - head) % 4) 0) e in
    omega (arith, leb-true head n a, eqb-true ((n - head) % 4) 0 b)

-- bytes behind so many
beyond : (head n : ℕ) → pick (leb head n) true false ≡ true → head + (n - head) ≡ n
beyond head n e = omega (arith, leb-true head n (held (leb head n) true e).0)

fields_whole : (k n : ℕ) → IsKind k → whole_fields k n ≡ true → WholeFields k n
unfolding whole_fields phase_size code_size total_size
fields_whole k n request e = subst (WholeFields 6) (fours 18 n e) (request_length ((n - 18) / 4))
fields_whole k n response e = subst (WholeFields 7) (fours 14 n e) (response_length ((n - 14) / 4))
fields_whole k n start_data e = subst (WholeFields 9) (sym (eqb-true n 20 (held (leb 20 n) (eqb n 20) e).1)) start_data_length
fields_whole k n data_packet e = subst (WholeFields 10) (beyond 12 n e) (data_packet_length (n - 12))
fields_whole k n end_data e = subst (WholeFields 12) (beyond 12 n e) (end_data_length (n - 12))

whole-fields : {k n : ℕ} → WholeFields k n → whole_fields k n ≡ true
unfolding whole_fields phase_size code_size total_size
whole-fields (request_length n) = rw (le-leb 18 (18 + 4 * n) (omega arith)) (eq-eqb ((18 + 4 * n - 18) % 4) 0 (omega arith))
whole-fields (response_length n) = rw (le-leb 14 (14 + 4 * n) (omega arith)) (eq-eqb ((14 + 4 * n - 14) % 4) 0 (omega arith))
whole-fields start_data_length = refl
whole-fields (data_packet_length n) = rw (le-leb 12 (12 + n) (omega arith))
whole-fields (end_data_length n) = rw (le-leb 12 (12 + n) (omega arith))

-- ── fields ──

module _ (s : List ℕ) (at : ℕ) where
  abbrev d : List ℕ
  d = drop at s

  -- a field by its place in the whole bytes
  field_at : (w k m : ℕ) → m ≡ at + k → number (take w (drop m s)) ≡ field_in d k w
  field_at w k m e = rw e (ap (λ t. number (take w t)) (sym (drop-drop k at s)))

  fields_are : {k : ℕ} → IsKind k → packet_kind_in d ≡ k → FieldsIn at d (packet_in s at k (length_in d))
  unfolding packet_in phase_size code_size total_size number
  fields_are request e = rw (field_at 4 8 (at + 8) refl, field_at 2 12 (at + 8 + 4) (omega arith), field_at 4 14 (at + 8 + 4 + 2) (omega arith)) (request_fields e)
  fields_are response e = rw (field_at 2 8 (at + 8 + 0) (omega arith), field_at 4 10 (at + 8 + 0 + 2) (omega arith)) (response_fields e)
  fields_are start_data e = rw (field_at 4 8 (at + 8 + 0 + 0) (omega arith), field_at 8 12 (at + 12 + 0 + 0) (omega arith)) (start_data_fields e)
  fields_are data_packet e = rw (field_at 4 8 (at + 8 + 0 + 0) (omega arith)) (data_packet_fields e)
  fields_are end_data e = rw (field_at 4 8 (at + 8 + 0 + 0) (omega arith)) (end_data_fields e)

pub packet_judged : (s : List ℕ) (at : ℕ) → PacketSays at (drop at s) (packet_at s at)
unfolding packet_at packet_rest
packet_judged s at =
    let b = drop at s in
    field_row 4 0 s at at _ (lit≤ tt) refl (sym (add-zero at)) λ _ e _.
    field_row 4 4 s at (at + 4) _ (lit≤ tt) e refl λ _ _ _.
    exact_row (is_packet (packet_kind_in b)) _ (kind_known (packet_kind_in b)) known_kind λ k.
    exact_row (whole_fields (packet_kind_in b) (length_in b)) _ (fields_whole (packet_kind_in b) (length_in b) k) whole-fields λ _.
    the_same (λ h. omega (arith, length-drop at s)) (λ h. omega (arith, length-drop at s)) (least_row (length_in b) (length s - at) _ λ _. accepted (fields_are s at k refl))

-- ── and no other answer is said of the same bytes ──

fields_one : {at : ℕ} {d : List ℕ} {x y : Packet} → FieldsIn at d x → FieldsIn at d y → x ≡ y
fields_one (request_fields e) (request_fields f) = refl
fields_one (request_fields e) (response_fields f) = absurd (omega arith)
fields_one (request_fields e) (start_data_fields f) = absurd (omega arith)
fields_one (request_fields e) (data_packet_fields f) = absurd (omega arith)
fields_one (request_fields e) (end_data_fields f) = absurd (omega arith)
fields_one (response_fields e) (request_fields f) = absurd (omega arith)
fields_one (response_fields e) (response_fields f) = refl
fields_one (response_fields e) (start_data_fields f) = absurd (omega arith)
fields_one (response_fields e) (data_packet_fields f) = absurd (omega arith)
fields_one (response_fields e) (end_data_fields f) = absurd (omega arith)
fields_one (start_data_fields e) (request_fields f) = absurd (omega arith)
fields_one (start_data_fields e) (response_fields f) = absurd (omega arith)
fields_one (start_data_fields e) (start_data_fields f) = refl
fields_one (start_data_fields e) (data_packet_fields f) = absurd (omega arith)
fields_one (start_data_fields e) (end_data_fields f) = absurd (omega arith)
fields_one (data_packet_fields e) (request_fields f) = absurd (omega arith)
fields_one (data_packet_fields e) (response_fields f) = absurd (omega arith)
fields_one (data_packet_fields e) (start_data_fields f) = absurd (omega arith)
fields_one (data_packet_fields e) (data_packet_fields f) = refl
fields_one (data_packet_fields e) (end_data_fields f) = absurd (omega arith)
fields_one (end_data_fields e) (request_fields f) = absurd (omega arith)
fields_one (end_data_fields e) (response_fields f) = absurd (omega arith)
fields_one (end_data_fields e) (start_data_fields f) = absurd (omega arith)
fields_one (end_data_fields e) (data_packet_fields f) = absurd (omega arith)
fields_one (end_data_fields e) (end_data_fields f) = refl

accepted_one : {at : ℕ} {d : List ℕ} (x y : Answer Packet) → Accepted at d x → Accepted at d y → x ≡ y
accepted_one {at} {d} x y (accepted a) (accepted b) = ap (λ z. got z (at + length_in d)) (fields_one a b)

pub packet_one : (at : ℕ) (d : List ℕ) (x y : Answer Packet) → PacketSays at d x → PacketSays at d y → x ≡ y
packet_one at d = one_test (one_test (one_test (one_test (one_test accepted_one))))

-- of the function's own answers
pub packet_says : (s : List ℕ) (at : ℕ) (r : Read Packet) → says_read r ≡ packet_at s at → PacketSays at (drop at s) (says_read r)
packet_says s at r promised = rw promised (packet_judged s at)
