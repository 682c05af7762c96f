-- Items from end to end, one at a time; and what is seen of those that are left.
-- Assumes nothing.
use mathlib.Core.Path.{◌≡◌, refl, ap, ◌∙◌}
use mathlib.Core.Bool.{Bool, true, false}
use mathlib.Core.List.{List, [], ◌∷◌}
use Prim.Native.Nat.{ℕ, zero, suc, ◌+◌, ◌-◌, ◌≤◌, ◌<◌}
use native.Mathlib.Numerals.{sub-one}
use native.Mathlib.Omega.{arith}
use borrow.Author.Tests.{lt-ltb, le-ltb}
use lib.ListN.{length}
use Rattle.layout.specs.Answer.{Told, Answer, got, refused, Reader, pick, after, means}
use Rattle.layout.proofs.laws.Reading.{means_means}
use Rattle.wire.specs.declared.Part.{Part}
use Rattle.network.specs.Inner.{Within}
use Rattle.network.specs.Translated.{items_from, items_in, folded, none_seen, noted}
use Rattle.network.specs.declared.see.Seen.{Seen}
use Rattle.network.specs.declared.see.Stage.{Stage}

module _ {A : Type 0} (read : Reader A) (s : List ℕ) where
  pub items_none : (n at : ℕ) → length s ≤ at → items_from read n s at ≡ got [] at
  unfolding items_from
  items_none zero at h = refl
  items_none (suc n) at h = rw (le-ltb at (length s) h)

  pub items_passed : (n at : ℕ) {x : A} {next : ℕ} → at < length s → length s - at ≤ n → got x next ≡ read s at → items_from read n s at ≡ means (λ xs. x ∷ xs) (items_from read (n - 1) s next)
  unfolding items_from after
  items_passed zero at h enough e = absurd (omega arith)
  items_passed (suc n) at h enough e = rw (lt-ltb at (length s) h, ← e, sub-one)

  pub items_refused : (n at : ℕ) {t : Told} → at < length s → length s - at ≤ n → refused t ≡ read s at → items_from read n s at ≡ refused t
  unfolding items_from after
  items_refused zero at h enough e = absurd (omega arith)
  items_refused (suc n) at h enough e = rw (lt-ltb at (length s) h, ← e)

  module _ {S : Type 0} (step : S → A → S) where
    -- what is still to be seen
    abbrev pub rest : ℕ → S → ℕ → Answer S
    rest n t at = means (folded step t) (items_from read n s at)

    pub rest_none : (n : ℕ) (t : S) (at : ℕ) → length s ≤ at → rest n t at ≡ got t at
    unfolding means folded
    rest_none n t at h = rw (items_none n at h)

    pub rest_passed : (n : ℕ) (t : S) (at : ℕ) {x : A} {next : ℕ} → at < length s → length s - at ≤ n → got x next ≡ read s at → rest n t at ≡ rest (n - 1) (step t x) next
    unfolding folded
    rest_passed n t at {x} h enough e = ap (means (folded step t)) (items_passed n at h enough e) ∙ means_means (folded step t) (λ xs. x ∷ xs) _

    pub rest_refused : (n : ℕ) (t : S) (at : ℕ) {f : Told} → at < length s → length s - at ≤ n → refused f ≡ read s at → rest n t at ≡ refused f
    unfolding means
    rest_refused n t at h enough e = rw (items_refused n at h enough e)

-- where a loop over them stands: what is still to be seen is what is seen in all
pub record Seeing {A : Type 0} (read : Reader A) (look : Seen → A → Seen) (s : List ℕ) (at : ℕ) (t : Seen) : Type 0 where
  pub fuel : ℕ
  pub enough : length s - at ≤ fuel
  pub all : rest read s look fuel t at ≡ means (folded look none_seen) (items_in read s)
  pub within : Within s t
  pub sum : t.sum ≤ at
  pub inside : at ≤ length s

pub seeing : {A : Type 0} (read : Reader A) (look : Seen → A → Seen) (s : List ℕ) → Seeing read look s 0 none_seen
unfolding items_in
seeing read look s = record {
  fuel = length s;
  enough = omega arith;
  all = refl;
  within = record { params = omega arith; payload = omega arith; results = omega arith };
  sum = omega arith;
  inside = omega arith;
}

-- a part of the bytes, or another
part_in : (s : List ℕ) (b : Bool) (p q : Part) → p.start + p.count ≤ length s → q.start + q.count ≤ length s → (pick b p q).start + (pick b p q).count ≤ length s
part_in s true p q h k = h
part_in s false p q h k = k

pub noted_within : (s : List ℕ) (k : Stage) (a h r : Bool) (code number : ℕ) (body : Part) (total more : ℕ) (t : Seen) → body.start + body.count ≤ length s → Within s t →
    Within s (noted k a h r code number body total more t)
noted_within s k a h r code number body total more t i w = record {
  params = part_in s a body t.params i w.params;
  payload = part_in s h body t.payload i w.payload;
  results = part_in s r body t.results i w.results;
}
