-- The loop of the walk: a queue that begins with the root, in order, and at the end the walk.
-- Assumes nothing.
use mathlib.Core.Path.{ap, ◌∙◌}
use mathlib.Core.Bool.{Bool}
use mathlib.Core.List.{List, [], ◌∷◌, ◌++◌}
use Prim.Native.Nat.{ℕ, ◌+◌, ◌≤◌, ◌<◌}
use native.Mathlib.Omega.{arith}
use lib.ListN.{length, get_or, set}
use lib.Seq.{drop-set-lt}
use Rattle.layout.specs.Written.{Put}
use Rattle.tree.specs.Facts.{Ruled, Marks}
use Rattle.tree.specs.Kids.{kids}
use Rattle.tree.specs.Listed.{none, Sorted, done, next}
use Rattle.tree.specs.Way.{Before}
use Rattle.tree.specs.Says.{Walks}
use Rattle.tree.proofs.laws.Queued.{Queue, queue_start, queue_turn}
use Rattle.tree.proofs.Grown.{order_turn, order_end}

pub record Walking (ps : List ℕ) (has : ℕ → Bool) (old now : List ℕ) (n i : ℕ) : Type 0 where
  pub list : List ℕ
  pub queue : Queue ps has 0 list old now n i
  pub order : Sorted (Before ps) list

module _ (ps : List ℕ) (rule : Ruled ps) (has : ℕ → Bool) (marks : Marks ps has) where
  pub walking_start : (old : List ℕ) → 0 < length old → Walking ps has (set old 0 0) (set old 0 0) 1 0
  walking_start old h = record { list = 0 ∷ []; queue = queue_start ps rule has marks marks.root old h; order = next none done }

  pub walking_turn : {old now new : List ℕ} {n i m : ℕ} → Walking ps has old now n i → i < n → length ps ≤ length old → Put now n (kids ps has (get_or now i 0)) new m
      → Walking ps has old new m (i + 1)
  walking_turn {i = i} w h f a = record {
    list = w.list ++ kids ps has (get_or w.list i 0);
    queue = queue_turn ps rule has marks marks.root w.queue h f a;
    order = order_turn ps rule has marks w.queue.growing (let e = w.queue.count in omega arith) w.order;
  }

  -- the first store of the code changed the root's place alone
  pub walking_end : {old now : List ℕ} {n i : ℕ} → Walking ps has (set old 0 0) now n i → n ≤ i → Walks ps has old n now
  walking_end {old} w h =
      let q = w.queue in
      let e = q.count in
      let p : 0 < length w.list = rw q.growing.grows (omega arith) in
      record {
        list = w.list;
        walk = order_end ps rule has marks q.growing (omega arith) w.order;
        places = q.places ∙ ap (λ (x : List ℕ). w.list ++ x) (drop-set-lt (length w.list) old 0 0 p);
        count = e;
      }
