-- What collecting and deleting leave of the folder view: the view before but for place numbers, with the same paths; and the view before without what ended.
-- Assumes nothing.
use Rattle.layout.specs.Answer.{says_count}
use Rattle.std.specs.declared.result.Result.{Result}
use Rattle.layout.specs.declared.Refusal.{Refusal}
use mathlib.Core.Path.{◌≡◌, refl, sym, ap, subst, ◌∙◌}
use mathlib.Core.Bool.{true}
use mathlib.Core.List.{List, [], ◌∷◌, map}
use Prim.Native.Nat.{ℕ, ◌<◌}
use lib.ListN.{length}
use Rattle.layout.specs.Answer.{Answer, got}
use Rattle.layout.specs.Written.{Said, Wrote, left_of}
use Rattle.tree.specs.Rule.{Rule}
use Rattle.tree.specs.Table.{Table, rows, flags, live, table_at}
use Rattle.tree.specs.View.{Folders, ViewPaths}
use Rattle.tree.proofs.laws.Accepted.{table_got}
use Rattle.tree.proofs.laws.Carried.{paths_said_moved, ends_said_moved}
use Rattle.tree.proofs.laws.Counts.{every_map}
use Rattle.tree.proofs.laws.Moved.{each_marked, view_moved}
use Rattle.tree.proofs.laws.Sound.{accepted}
use Rattle.tree.proofs.laws.Unique.{one_view_paths}
use Rattle.tree.proofs.laws.Views.{leaving, listed_leaving}
use Rattle.shots.specs.Collected.{new_place, collected}
use Rattle.shots.specs.Deleted.{under, deleted, spared}
use Rattle.shots.proofs.Collecting.{moved, object_moved, collected_kept}
use Rattle.shots.proofs.Deleting.{live_after}

-- ── after collecting ──

module _ (t : Table) {n : ℕ} (e : table_at t ≡ got tt n) where
  rule : Rule t
  rule = (table_got t e).1

  -- the view after is the view before, each place put through the new places
  pub view_collected : (l : List ℕ) → Folders (rows t) (live (flags t)) l → Folders (rows (collected t)) (live (flags (collected t))) (map (new_place t) l)
  view_collected =
      let s = accepted t (sym e) in
      let s' = accepted (collected t) (sym (collected_kept t e)) in
      view_moved (rows t) (live (flags t)) s.kept.ruling s.marks (rows (collected t)) (live (flags (collected t))) s'.kept.ruling s'.marks (new_place t) (moved t rule)

  carried : {out ends o es : List ℕ} {a : Answer (Unit {0})} → ViewPaths t out ends a o es → ViewPaths (collected t) out ends a o es
  carried {out} {ends} {o} {es} {a} p =
      let v = p.viewed n e in
      let same = every_map (λ k h. (object_moved t rule k h).1) (each_marked v) in
      record {
        order = map (new_place t) p.order;
        viewed = λ m _. view_collected p.order v;
        wrote = subst (λ (x : Said). Wrote x out a o) (sym (paths_said_moved t (collected t) (new_place t) e (collected_kept t e) same (length ends))) p.wrote;
        left = p.left ∙ ap (λ (x : Said). left_of x ends) (sym (ends_said_moved t (collected t) (new_place t) e (collected_kept t e) same (length out)));
      }

  -- and its paths are written with the same bytes and ends before and after
  pub view_paths_same : {out ends o o' es es' : List ℕ} {x y : (Result ℕ Refusal)} → ViewPaths t out ends (says_count x) o es → ViewPaths (collected t) out ends (says_count y) o' es'
      → (x ≡ y) × (o ≡ o') × (es ≡ es')
  view_paths_same {out} {ends} {o} {o'} {es} {es'} {x} {y} p q = one_view_paths (collected t) out ends x y o o' es es' (carried p) q

-- ── after deleting ──

spared_leaving : (ps : List ℕ) (place : ℕ) (l : List ℕ) → spared ps place l ≡ leaving (under ps place) l
unfolding spared
spared_leaving ps place [] = refl
spared_leaving ps place (k ∷ l) = rw (spared_leaving ps place l)

-- the view after is the view before without the places whose way holds the place
pub view_deleted : (t : Table) → Rule t → (place : ℕ) → 0 < place → live (flags t) place ≡ true → (l : List ℕ) → Folders (rows t) (live (flags t)) l
    → Folders (rows (deleted t place)) (live (flags (deleted t place))) (spared (rows t) place l)
view_deleted t r place o h l v = rw (spared_leaving (rows t) place l) (listed_leaving (under (rows t) place) (live_after t r place o h) v)
