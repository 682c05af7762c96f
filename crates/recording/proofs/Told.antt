-- Which refusals of a record's reader, and of a recording's, have a place: 1 and no other, and the place lies in the bytes that were lent, counted from their start.
-- The body's bytes are a front of the record's, so a place in them is one in the record.
-- Assumes nothing.
use Rattle.recording.specs.declared.Record as declared-record
use Rattle.wire.specs.Read.{Read, says_read}
use mathlib.Core.Path.{◌≡◌, ap, sym, ◌∙◌}
use mathlib.Core.List.{List}
use Prim.Native.Nat.{ℕ, zero, suc, ◌+◌, ◌-◌, ◌≤◌, ◌<◌}
use native.Mathlib.Omega.{arith}
use lib.Dec.{leb, eqb, ltb}
use lib.ListN.{length, take}
use lib.Seq.{length-take-le}
use Rattle.layout.specs.Answer.{Told, Answer, got, refused, after, means, end_at, bare}
use Rattle.layout.specs.Bytes.{number}
use Rattle.layout.specs.Refusals.{END, TEXT, TRAIL, KIND, LENGTH, SIZE, RECORD, LONG}
use Rattle.layout.specs.Told.{PlacedExactly, Inside}
use Rattle.layout.proofs.laws.Told.{Telling, read, ended, spoilt, other, plainly, Closed, telling_pick, telling_after, telling_means, telling_span, telling_field, told_from_0, front_closed, end_no, bare_no}
use Rattle.layout.proofs.laws.Accepted.{Accepts}
use Rattle.layout.proofs.laws.Numbers.{zero_one}
use Rattle.wire.specs.Tests.{◌gives◌else◌, holds, fails, Otherwise, otherwise}
use Rattle.wire.proofs.laws.Told.{container_telling}
use Rattle.recording.specs.Content.{Record}
use Rattle.recording.specs.Record.{limit, begins, content_at, body_at, head_at, head_of, record_at, record_of, says_record}
use Rattle.recording.specs.Refused.{RecordSays}
use Rattle.recording.specs.Row.{row_from, row_of}
use Rattle.recording.specs.declared.Head.{Head}
use Rattle.recording.proofs.laws.Rowed.{head_placed}

module _ {P : ℕ → Type 0} (s : List ℕ) (closed : Closed P s) where
  head_telling : (at : ℕ) → P at → Telling P (head_at s at)
  unfolding head_at body_at
  head_telling at h =
      telling_after (telling_field s closed 4 number at h) λ len a i.
      telling_after (telling_field s closed 2 number a i) λ kind start j.
      telling_pick (begins len kind)
      (λ _. telling_pick (leb (len - 6) limit) (λ _. telling_means _ (telling_span s closed start (len - 6) start j j)) λ _. plainly LONG (omega arith))
      λ _. plainly RECORD (omega arith)

  content_telling : P (length s) → (kind at : ℕ) → P at → Telling P (content_at kind s at)
  unfolding content_at
  content_telling end kind at h =
      telling_pick (eqb kind 3) (λ _. read end) λ _.
      telling_after (container_telling s closed at h) λ x n i.
      telling_pick (eqb n (length s)) (λ _. read i) λ _. plainly TRAIL (omega arith)

module _ {P : ℕ → Type 0} (s : List ℕ) (closed : Closed P s) where
  record_telling : (at : ℕ) → P at → Telling P (record_at s at)
  unfolding record_at after
  record_telling at h = go (head_at s at) (head_telling s closed at h) (head_placed s at)
    where
      go : (x : Answer Head) → Telling {A = Head} P x → Accepts (λ f n. (f.body.start ≡ at + 6) × (n ≡ at + 6 + f.body.count) × (n ≤ length s)) x
          → Telling {A = Record} P (after x λ f end. means (λ c. record { kind = f.kind; body = f.body; content = c }) (content_at f.kind (take end s) f.body.start))
      go (got f end) (read i) stands =
          let here : P f.body.start = rw stands.0 (closed at 6 h (omega (arith, stands.1, stands.2))) in
          let last : P (length (take end s)) = rw (length-take-le end s stands.2) i in
          telling_means _ (content_telling (take end s) (front_closed s closed end) last f.kind f.body.start here)
      go x (ended p i) stands = ended p i
      go x (spoilt p i) stands = spoilt p i
      go x (other n i j) stands = other n i j

  -- so of the row of them
  row_telling : (f at : ℕ) → P at → Telling P (row_from f s at)
  unfolding row_from
  row_telling zero at h = read h
  row_telling (suc f) at h = telling_pick (ltb at (length s)) (λ _. telling_after (record_telling at h) λ x n i. telling_means _ (row_telling f n i)) λ _. read h

-- ── no string is read, so no refusal is 2 ──

end_not : (p : ℕ) → (end_at p).no ≡ TEXT → ⊥
end_not p e = let f : END ≡ TEXT = sym (end_no p) ∙ e in zero_one (cc)

plain_not : (n : ℕ) → TEXT < n → (bare n).no ≡ TEXT → ⊥
plain_not n h e = let f : n ≡ TEXT = sym (bare_no n) ∙ e in omega arith

other_test : {C : Type 0} {t u : Told} {P : Answer Record → Type 0} {x : Answer Record} → t.no ≡ TEXT → x ≡ refused t → (u.no ≡ TEXT → ⊥) → (P x → ⊥) → (C gives refused u else P) x → ⊥
other_test {t = t} {u = u} two is not-2 f (holds c) = let same : u ≡ t = cc in not-2 (ap (λ v. v.no) same ∙ two)
other_test two is not-2 f (fails n p) = f p

accepted_not : {t : Told} {a : Record} {n : ℕ} {x : Answer Record} → x ≡ refused t → Otherwise (got a n) x → ⊥
accepted_not is otherwise = zero_one (cc)

note_not : {C : Type 0} {t : Told} {a : Record} {n : ℕ} {P : Answer Record → Type 0} {x : Answer Record} → x ≡ refused t → (P x → ⊥) → (C gives got a n else P) x → ⊥
note_not is f (holds c) = zero_one (cc)
note_not is f (fails n p) = f p

pub never_2 : (s : List ℕ) {x : Answer Record} {t : Told} → t.no ≡ TEXT → x ≡ refused t → RecordSays s x → ⊥
never_2 s two is =
    other_test two is (end_not 0) (other_test two is (end_not 4) (other_test two is (plain_not RECORD (omega arith)) (other_test two is (plain_not LONG (omega arith)) (other_test two is (end_not 6)
    (note_not is
    (other_test two is (end_not 6) (other_test two is (end_not 10) (other_test two is (plain_not KIND (omega arith)) (other_test two is (end_not 12) (other_test two is (end_not 14)
    (other_test two is (plain_not LENGTH (omega arith)) (other_test two is (plain_not SIZE (omega arith)) (other_test two is (plain_not TRAIL (omega arith)) (accepted_not is))))))))))))))

-- ── of the functions' own answers ──

module _ (s : List ℕ) where
  pub head_told : (r : Read Head) → says_read r ≡ head_of s → PlacedExactly (says_read r) × Inside (length s) (says_read r)
  head_told r promised = told_from_0 s promised λ P c h. head_telling s c 0 h

  pub record_told : (r : Read declared-record.Record) → says_record r ≡ record_of s → PlacedExactly (says_record r) × Inside (length s) (says_record r)
  record_told r promised = told_from_0 s promised λ P c h. record_telling s c 0 h

  pub recording_told : (r : (Read ℕ)) → says_read r ≡ means length (row_of s) → PlacedExactly (says_read r) × Inside (length s) (says_read r)
  unfolding row_of
  recording_told r promised = told_from_0 s promised λ P c h. telling_means length (row_telling s c (length s) 0 h)
