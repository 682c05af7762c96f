-- What bytes that follow do to the answer of `read_record`: nothing where the record is not cut, which is what `is_cut` tells; where it is, the answer is 1, and zeros enough after the bytes make every record
-- whole, or refused for good.
-- Assumes nothing.
use Rattle.wire.specs.Read.{Read}
use mathlib.Core.Path.{◌≡◌, refl, sym, ap, ◌∙◌}
use mathlib.Core.Bool.{Bool, false}
use mathlib.Core.Logic.{◌⊎◌, inl, inr}
use mathlib.Core.List.{List, ◌++◌, append_assoc}
use Prim.Native.Nat.{ℕ, ◌-◌, ◌≤◌, ◌<◌}
use native.Mathlib.Omega.{arith}
use lib.ListN.{length, replicate, length-append, length-replicate}
use lib.Seq.{take-append-le}
use Rattle.layout.specs.Answer.{Answer}
use Rattle.layout.specs.Bytes.{Bytes, number}
use Rattle.layout.specs.Fault.{Ends}
use Rattle.layout.proofs.laws.Final.{Bytes-append, Bytes-zeros}
use Rattle.layout.specs.Refusals.{RECORD, LONG}
use Rattle.wire.specs.Refused.{announced, kind_in}
use Rattle.wire.specs.Tests.{holds, fails, otherwise}
use Rattle.wire.proofs.laws.Judged.{one_test, one_otherwise, enough, least}
use Rattle.recording.specs.Record.{limit, record_of, says_record}
use Rattle.recording.specs.Refused.{RecordSays, Cut, in_front, in_body, CutSays}
use Rattle.recording.specs.Row.{is_end, is_cut}
use Rattle.recording.specs.declared.Head.{Head}
use Rattle.recording.specs.declared.Record as declared-record
use Rattle.recording.specs.Content.{Record}
use Rattle.recording.proofs.Judged.{HeadSays, head_judged, record_says}
use Rattle.layout.proofs.laws.Told.{end_no, bare_no}
use Rattle.recording.proofs.laws.Rowed.{uncut_same}

-- ── whether a record is cut ──

module _ (s : List ℕ) where
  -- by the tests of the head: END is given where it is cut, and nowhere else
  cut_judged : CutSays s (is_cut s)
  unfolding is_cut
  cut_judged = go (head_judged s)
    where
      uncut : (length s < 6 → ⊥) → (6 ≤ announced s → 1 ≤ kind_in s → kind_in s ≤ 3 → announced s - 6 ≤ limit → length s < announced s → ⊥) → Cut s → ⊥
      uncut six f (in_front h) = six h
      uncut six f (in_body _ l low high small h) = f l low high small h

      known : (announced s < 6) ⊎ (kind_in s < 1) ⊎ (3 < kind_in s) → 6 ≤ announced s → 1 ≤ kind_in s → kind_in s ≤ 3 → ⊥
      known (inl h) l low high = enough l h
      known (inr (inl h)) l low high = enough low h
      known (inr (inr h)) l low high = enough high h

      go : {x : Answer Head} → HeadSays s x → CutSays s (is_end x)
      go (holds h) = rw (end_no 0) (holds (in_front (omega arith)))
      go (fails a (holds h)) = rw (end_no 4) (holds (in_front h))
      go (fails a (fails b (holds h))) = rw (bare_no RECORD) (fails (uncut b λ l low high _ _. known h l low high) otherwise)
      go (fails a (fails b (fails c (holds h)))) = rw (bare_no LONG) (fails (uncut b λ _ _ _ small _. enough small h) otherwise)
      go (fails a (fails b (fails c (fails d (holds h))))) =
          rw (end_no 6) (holds (in_body (least b) (least (λ k. c (inl k))) (least (λ k. c (inr (inl k)))) (least (λ k. c (inr (inr k)))) (least d) h))
      go (fails a (fails b (fails c (fails d (fails e otherwise))))) = fails (uncut b λ _ _ _ _ h. e h) otherwise

  -- of the function's own answer
  pub cut_says : (r : Bool) → r ≡ is_cut s → CutSays s r
  cut_says r promised = rw promised cut_judged

  pub cut_one : (x y : Bool) → CutSays s x → CutSays s y → x ≡ y
  cut_one = one_test one_otherwise

-- it is refused with 1
cut_ends : (s : List ℕ) (x : Answer Record) → Cut s → RecordSays s x → Ends x
cut_ends s x c (holds h) = (0, refl)
cut_ends s x c (fails n₁ (holds h)) = (4, refl)
cut_ends s x (in_front h) (fails n₁ (fails n₂ r)) = absurd (n₂ h)
cut_ends s x (in_body _ l low high small h) (fails n₁ (fails n₂ (holds (inl b)))) = absurd (enough l b)
cut_ends s x (in_body _ l low high small h) (fails n₁ (fails n₂ (holds (inr (inl b))))) = absurd (enough low b)
cut_ends s x (in_body _ l low high small h) (fails n₁ (fails n₂ (holds (inr (inr b))))) = absurd (enough high b)
cut_ends s x (in_body _ l low high small h) (fails n₁ (fails n₂ (fails n₃ (holds b)))) = absurd (enough small b)
cut_ends s x (in_body _ l low high small h) (fails n₁ (fails n₂ (fails n₃ (fails n₄ (holds b))))) = (6, refl)
cut_ends s x (in_body _ l low high small h) (fails n₁ (fails n₂ (fails n₃ (fails n₄ (fails n₅ r))))) = absurd (n₅ h)

pub cut_refused : (s : List ℕ) → Cut s → (r : Read declared-record.Record) → says_record r ≡ record_of s → Ends (says_record r)
cut_refused s c r promised = cut_ends s (says_record r) c (record_says s r promised)

-- ── what stays ──

pub record_lasts : (s t : List ℕ) → (Cut s → ⊥) → (r r' : Read declared-record.Record) → says_record r ≡ record_of s → says_record r' ≡ record_of (s ++ t) → says_record r ≡ says_record r'
record_lasts s t uncut r r' e f = e ∙ sym (f ∙ uncut_same s t (cut_one s (is_cut s) false (cut_judged s) (fails uncut otherwise)))

-- ── what can be carried on ──

pub record_opens : (s : List ℕ) → (t : List ℕ) × (Bytes t × (Cut (s ++ t) → ⊥))
record_opens s = (zeros 6 ++ zeros m, (Bytes-append (zeros 6) (zeros m) (Bytes-zeros 6) (Bytes-zeros m), rw (← append_assoc s (zeros 6) (zeros m)) uncut))
  where
    zeros : ℕ → List ℕ
    zeros n = replicate n 0

    m : ℕ
    m = announced (s ++ zeros 6)

    six : 6 ≤ length (s ++ zeros 6)
    six = omega (arith, length-append s (zeros 6))

    uncut : Cut ((s ++ zeros 6) ++ zeros m) → ⊥
    uncut (in_front h) = omega (arith, six, length-append (s ++ zeros 6) (zeros m))
    uncut (in_body _ _ _ _ _ h) =
        let same : announced ((s ++ zeros 6) ++ zeros m) ≡ m = ap number (take-append-le 4 (s ++ zeros 6) (zeros m) (omega (arith, six))) in
        omega (arith, six, length-append (s ++ zeros 6) (zeros m), length-replicate {A = ℕ} m 0)
