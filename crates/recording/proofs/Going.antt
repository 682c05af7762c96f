-- Records counted from end to end: those counted, and those from the place on, are the row's.
-- Assumes nothing.
use mathlib.Core.Path.{◌≡◌, refl, ap, sym, ◌∙◌}
use mathlib.Core.List.{List, [], ◌∷◌}
use Prim.Native.Nat.{ℕ, ◌+◌, ◌≤◌, ◌<◌}
use native.Mathlib.Omega.{arith}
use lib.ListN.{length}
use Rattle.layout.specs.Answer.{Told, Answer, got, refused, means}
use Rattle.layout.proofs.laws.Accepted.{accepted}
use Rattle.recording.specs.Content.{Record}
use Rattle.recording.specs.Record.{record_at}
use Rattle.recording.specs.Row.{row_of}
use Rattle.recording.proofs.Placed.{rest, row_none, row_got, row_refused}
use Rattle.recording.proofs.laws.Rowed.{Placed, record_placed}

-- those counted, and those of a row
abbrev plus : ℕ → Answer (List Record) → Answer ℕ
plus k x = means (λ xs. k + length xs) x

pub record Going (s : List ℕ) (at k : ℕ) : Type 0 where
  pub row : plus k (rest s at) ≡ means length (row_of s)
  pub few : k ≤ at
  pub within : at ≤ length s

none_yet : (x : Answer (List Record)) → plus 0 x ≡ means length x
unfolding means
none_yet (got xs n) = ap (λ k. got k n) (omega arith)
none_yet (refused t) = refl

one_more : (k : ℕ) (x : Record) (y : Answer (List Record)) → plus k (means (λ xs. x ∷ xs) y) ≡ plus (k + 1) y
unfolding means
one_more k x (got xs n) = ap (λ m. got m n) (omega arith)
one_more k x (refused t) = refl

all_counted : (k n : ℕ) → plus k (got [] n) ≡ got k n
unfolding means
all_counted k n = ap (λ m. got m n) (omega arith)

none_refused : (k : ℕ) (t : Told) → plus k (refused t) ≡ refused t
unfolding means
none_refused k t = refl

pub going_start : {s : List ℕ} → Going s 0 0
unfolding row_of
going_start = record { row = none_yet _; few = omega arith; within = omega arith }

module _ {s : List ℕ} {at k : ℕ} (g : Going s at k) where
  pub going_end : length s ≤ at → got k at ≡ means length (row_of s)
  going_end h = sym (ap (plus k) (row_none s at h) ∙ all_counted k at) ∙ g.row

  module _ (more : at < length s) where
    pub going_refused : {t : Told} → refused t ≡ record_at s at → refused t ≡ means length (row_of s)
    going_refused {t} e = sym (ap (plus k) (row_refused s at more e) ∙ none_refused k t) ∙ g.row

    module _ {x : Record} {n : ℕ} (e : got x n ≡ record_at s at) where
      placed : Placed s at x n
      placed = accepted _ (record_placed s at) e

      pub going_ahead : (at < n) × (n ≤ length s) × (k < length s)
      going_ahead = (omega (arith, placed.till), placed.within, omega (arith, g.few))

      pub going_on : Going s n (k + 1)
      going_on = record {
        row = sym (ap (plus k) (row_got s at more e) ∙ one_more k _ _) ∙ g.row;
        few = omega (arith, g.few, placed.till);
        within = placed.within;
      }
