-- What collecting leaves: a table that is accepted, with the same walk, the same handles and the same paths but for place numbers.
-- Assumes nothing.
use Rattle.layout.specs.Answer.{says_count}
use Rattle.std.specs.declared.result.Result.{Result}
use Rattle.layout.specs.declared.Refusal.{Refusal}
use mathlib.Core.Path.{◌≡◌, refl, sym, ap, subst, ◌∙◌}
use mathlib.Core.Bool.{true}
use mathlib.Core.List.{List, [], ◌∷◌, map}
use Prim.Native.Nat.{ℕ, zero, suc, ◌+◌, ◌≤◌, ◌<◌}
use native.Mathlib.Nat.{zero-add}
use native.Mathlib.Omega.{arith}
use borrow.Author.Tests.{lt-ltb}
use lib.Dec.{eqb}
use lib.ListN.{length, get_or, take, drop, replicate, length-replicate, get_or-replicate, length-map}
use lib.Seq.{get_or-take}
use Rattle.layout.specs.Answer.{Answer, got, bare}
use Rattle.layout.specs.Refusals.{TABLE}
use Rattle.layout.specs.Written.{Said, Wrote, left_of}
use Rattle.layout.proofs.laws.Reading.{parted, picked, one_got}
use Rattle.tree.specs.Listed.{Every, none, more}
use Rattle.tree.specs.Path.{name_of, path_of, joined, ends_from, paths_said, ends_said, AllPaths}
use Rattle.tree.specs.Rule.{Rule, Live}
use Rattle.tree.specs.Table.{Table, table, rows, stops, flags, live, parent, start_of, end_of, name_bytes, table_at}
use Rattle.tree.specs.Way.{Walk}
use Rattle.tree.proofs.laws.Accepted.{Read, table_got, table_all}
use Rattle.tree.proofs.laws.Moved.{Moves, each_marked, path_moved, walk_moved}
use Rattle.tree.proofs.laws.Ruled.{rule_ok, name_cut}
use Rattle.tree.proofs.laws.Sound.{Sound, sound, marked_there, rows_long, marks_long}
use Rattle.tree.proofs.laws.Unique.{one_paths}
use Rattle.shots.specs.Collected.{alive, kept_by, ends_kept, ahead, places, new_place, live_names, collected, lent_at, collect_at, Collected}
use Rattle.shots.proofs.Additions.{last_of, live_short, last_inside}
use Rattle.shots.proofs.Fits.{fit_by}
use Rattle.shots.proofs.Gatherings.{alive_few, ahead_long, ahead_at}
use Rattle.shots.proofs.Ranked.{place_of, rank_rises, rank_below, rank_covers, rank_above, kept_at, kept_long, NameKept, name_kept, same_spelling}

start_ahead : (front old : List ℕ) (k : ℕ) → k ≤ length front → start_of (ahead front old) k ≡ start_of front k
start_ahead front old zero h = refl
start_ahead front old (suc k) h = ahead_at front old k h

-- the count of live ones before a place
abbrev rank : Table → ℕ → ℕ
rank t k = alive (take k (flags t))

rank_root : (t : Table) → rank t 0 ≡ 0
unfolding alive
rank_root t = refl

module _ (t : Table) (r : Rule t) where
  s : Sound t
  s = sound t (rule_ok t r)

  flags_count : length (flags t) ≡ t.count
  flags_count = sym (marks_long s)

  many : alive (flags t) ≤ 1024
  many = let a = alive_few (flags t) in let b = r.few in let n = flags_count in omega arith

  pub new_is : (k : ℕ) → live (flags t) k ≡ true → new_place t k ≡ rank t k
  new_is k e = place_of 0 (flags t) k e ∙ zero-add (rank t k)

  there : (k : ℕ) → live (flags t) k ≡ true → k < t.count
  there k e = let h = marked_there (flags t) k e in let n = flags_count in omega arith

  -- ── list by list ──

  -- of a list kept through f
  kept_of : (f : ℕ → ℕ) (xs : List ℕ) → length xs ≡ 1024 → (k : ℕ) → live (flags t) k ≡ true → get_or (ahead (kept_by f (flags t) xs) xs) (rank t k) 0 ≡ f (get_or xs k 0)
  kept_of f xs l k e =
      let n = flags_count in
      let few = r.few in
      let h = there k e in
      let long = kept_long f (flags t) xs (omega arith) in
      ahead_at (kept_by f (flags t) xs) xs (rank t k) (omega (arith, rank_below (flags t) k e)) ∙ kept_at f (flags t) xs k e (omega arith)

  kept_fits : (f : ℕ → ℕ) (xs : List ℕ) → length xs ≡ 1024 → length (ahead (kept_by f (flags t) xs) xs) ≡ 1024
  kept_fits f xs l =
      let n = flags_count in
      let few = r.few in
      let m = many in
      ahead_long (kept_by f (flags t) xs) xs (omega (arith, kept_long f (flags t) xs (omega arith))) ∙ l

  ends_count : length (ends_kept 0 0 (flags t) t.ends) ≡ alive (flags t)
  ends_count = (last_of (fit_by r)).1

  mark_one : (j : ℕ) → j < alive (flags t) → get_or (collected t).marks j 0 ≡ 1
  mark_one j h =
      ahead_at (replicate (alive (flags t)) 1) t.marks j (omega (arith, length-replicate {A = ℕ} (alive (flags t)) 1)) ∙ get_or-replicate (alive (flags t)) j 1 0 h

  kept_name : (k : ℕ) → live (flags t) k ≡ true → NameKept (flags t) t.ends t.names (drop (length (live_names t)) t.names) [] 0 0 k
  kept_name k e =
      let n = flags_count in
      let few = r.few in
      let l = r.ended in
      name_kept (flags t) t.ends t.names (drop (length (live_names t)) t.names) [] 0 0 k refl (omega arith) (λ j h. (r.rises j (omega arith), r.within j (omega arith))) e

  end-of : (k : ℕ) → live (flags t) k ≡ true → end_of (collected t).ends (rank t k) ≡ get_or (ends_kept 0 0 (flags t) t.ends) (rank t k) 0
  end-of k e = ahead_at (ends_kept 0 0 (flags t) t.ends) t.ends (rank t k) (omega (arith, ends_count, rank_below (flags t) k e))

  start-of : (k : ℕ) → live (flags t) k ≡ true → start_of (collected t).ends (rank t k) ≡ get_or (0 ∷ ends_kept 0 0 (flags t) t.ends) (rank t k) 0
  start-of k e = start_ahead (ends_kept 0 0 (flags t) t.ends) t.ends (rank t k) (omega (arith, ends_count, rank_below (flags t) k e))

  pub name-of : (k : ℕ) → live (flags t) k ≡ true → name_bytes (collected t).ends (collected t).names (rank t k) ≡ name_bytes t.ends t.names k
  unfolding ahead
  name-of k e = rw (end-of k e, start-of k e) (kept_name k e).bytes

  -- ── the rule ──

  parent_of : (k : ℕ) → 0 < k → live (flags t) k ≡ true → (live (flags t) (parent (rows t) k) ≡ true) × (parent (rows t) k < k) × (parent (collected t).parents (rank t k) ≡ rank t (parent (rows t) k))
  parent_of k o e =
      let h = there k e in
      let up = s.marks.up k o e in
      let less = s.kept.ruling.smaller k o (omega (arith, rows_long s)) in
      let same = get_or-take t.count t.parents k 0 h in
      (up, less, kept_of (new_place t) t.parents r.parented k e ∙ ap (new_place t) (sym same) ∙ new_is (parent (rows t) k) up)

  pub collected_rule : Rule (collected t)
  collected_rule =
      let root = s.marks.root in
      let some : 0 < alive (flags t) = omega (arith, rank_below (flags t) 0 root) in
      record {
        handled = kept_fits (λ h. h) t.handles r.handled;
        parented = kept_fits (new_place t) t.parents r.parented;
        ended = ahead_long (ends_kept 0 0 (flags t) t.ends) t.ends (omega (arith, ends_count, many, r.ended)) ∙ r.ended;
        marked = ahead_long (replicate (alive (flags t)) 1) t.marks (omega (arith, length-replicate {A = ℕ} (alive (flags t)) 1, many, r.marked)) ∙ r.marked;
        some = some;
        few = many;
        root = ap (parent (collected t).parents) (sym (rank_root t)) ∙ kept_of (new_place t) t.parents r.parented 0 root ∙ ap (new_place t) r.root ∙ new_is 0 root ∙ rank_root t;
        smaller = λ j o h. let (k, e, z) = rank_covers (flags t) j h in
            let p = parent_of k (rank_above (flags t) k (omega arith)) e in
            let b = rank_rises (flags t) (parent (rows t) k) k p.0 p.1 in
            subst (λ i. parent (collected t).parents i < i) z (omega (arith, p.2));
        root_live = omega (arith, mark_one 0 some);
        up = λ j o h l. let (k, e, z) = rank_covers (flags t) j h in
            let p = parent_of k (rank_above (flags t) k (omega arith)) e in
            let b = rank_below (flags t) (parent (rows t) k) p.0 in
            let one = mark_one (rank t (parent (rows t) k)) b in
            let w : Live (collected t) (rank t (parent (rows t) k)) = omega arith in
            let q : parent (collected t).parents j ≡ rank t (parent (rows t) k) = subst (λ i. parent (collected t).parents i ≡ rank t (parent (rows t) k)) z p.2 in
            rw q w;
        rises = λ j h. let (k, e, z) = rank_covers (flags t) j h in
            subst (λ i. start_of (collected t).ends i ≤ end_of (collected t).ends i) z (omega (arith, start-of k e, end-of k e, (kept_name k e).rises));
        within = λ j h. let (k, e, z) = rank_covers (flags t) j h in
            let w = (kept_name k e).within in
            let n = end-of k e in
            let fits = ahead_long (live_names t) t.names (omega (arith, live_short (fit_by r), last_inside (fit_by r))) in
            let short = live_short (fit_by r) in
            let inside = last_inside (fit_by r) in
            subst (λ i. end_of (collected t).ends i ≤ length (collected t).names) z (omega arith);
      }

  -- ── what was moved ──

  live_there : (k : ℕ) → live (flags t) k ≡ true → live (flags (collected t)) (rank t k) ≡ true
  live_there k e =
      let b = rank_below (flags t) k e in
      lt-ltb 0 (get_or (flags (collected t)) (rank t k) 0) (omega (arith, get_or-take (alive (flags t)) (collected t).marks (rank t k) 0 b, mark_one (rank t k) b))

  s' : Sound (collected t)
  s' = sound (collected t) (rule_ok (collected t) collected_rule)

  pub moved : Moves (rows t) (live (flags t)) (rows (collected t)) (live (flags (collected t))) (new_place t)
  moved = record {
    root = new_is 0 s.marks.root ∙ rank_root t;
    rises = λ a b p q h. rw (new_is a p, new_is b q) (rank_rises (flags t) a b p h);
    keeps = λ k e. rw (new_is k e) (live_there k e);
    covers = λ j y. let (k, e, z) = rank_covers (flags t) j (omega (arith, marked_there (flags (collected t)) j y, marks_long s')) in (k, e, new_is k e ∙ z);
    parents = λ k o e. let p = parent_of k o e in
        rw (new_is k e, new_is (parent (rows t) k) p.0) (get_or-take (alive (flags t)) (collected t).parents (rank t k) 0 (rank_below (flags t) k e) ∙ p.2);
  }

  -- the walk after is the walk before, each place put through the new places
  pub walk_collected : (l : List ℕ) → Walk (rows t) (live (flags t)) l → Walk (rows (collected t)) (live (flags (collected t))) (map (new_place t) l)
  walk_collected = walk_moved (rows t) (live (flags t)) s.kept.ruling s.marks (rows (collected t)) (live (flags (collected t))) s'.kept.ruling s'.marks (new_place t) moved

  same_name : (k : ℕ) → live (flags t) k ≡ true → name_of (stops (collected t)) (collected t).names (new_place t k) ≡ name_of (stops t) t.names k
  same_name k e = same_spelling (stops t) t.names (stops (collected t)) (collected t).names (new_place t k) k (
      ap (name_bytes (stops (collected t)) (collected t).names) (new_is k e)
      ∙ name_cut (alive (flags t)) (collected t).ends (collected t).names (rank t k) (rank_below (flags t) k e)
      ∙ name-of k e
      ∙ sym (name_cut t.count t.ends t.names k (there k e))
      )

  same_path : (k : ℕ) → live (flags t) k ≡ true → path_of (rows (collected t)) (stops (collected t)) (collected t).names (new_place t k) ≡ path_of (rows t) (stops t) t.names k
  same_path = path_moved (rows t) (live (flags t)) s.kept.ruling s.marks (rows (collected t)) (live (flags (collected t))) s'.kept.ruling s'.marks (new_place t) moved
      (stops t) t.names (stops (collected t)) (collected t).names same_name

  -- each live object's handle and path are the same
  pub object_moved : (k : ℕ) → live (flags t) k ≡ true
      → (get_or (collected t).handles (new_place t k) 0 ≡ get_or t.handles k 0) × (path_of (rows (collected t)) (stops (collected t)) (collected t).names (new_place t k) ≡ path_of (rows t) (stops t) t.names k)
  object_moved k e = (ap (λ (j : ℕ). get_or (collected t).handles j 0) (new_is k e) ∙ kept_of (λ h. h) t.handles r.handled k e, same_path k e)

  same_joined : {l : List ℕ} → Every (λ k. live (flags t) k ≡ true) l → joined (rows (collected t)) (stops (collected t)) (collected t).names (map (new_place t) l) ≡ joined (rows t) (stops t) t.names l
  unfolding joined
  same_joined none = refl
  same_joined (more {x} e f) = rw (same_path x e, same_joined f)

  same_ends : (at : ℕ) {l : List ℕ} → Every (λ k. live (flags t) k ≡ true) l → ends_from at (rows (collected t)) (stops (collected t)) (collected t).names (map (new_place t) l) ≡ ends_from at (rows t) (stops t) t.names l
  unfolding ends_from
  same_ends at none = refl
  same_ends at (more {x} e f) = rw (same_path x e, same_ends (at + length (path_of (rows t) (stops t) t.names x)) f)

-- ── of a table that is accepted ──

module _ (t : Table) {n : ℕ} (e : table_at t ≡ got tt n) where
  rule : Rule t
  rule = (table_got t e).1

  pub collected_kept : table_at (collected t) ≡ got tt (alive (flags t))
  collected_kept = table_all (collected t) (collected_rule t rule) (λ j h.
      let (k, l, z) = rank_covers (flags t) j h in
      subst Read (sym (name-of t rule k l) ∙ ap (name_bytes (collected t).ends (collected t).names) z) ((table_got t e).2 k (there t rule k l)))

  -- so all paths are the same bytes with the same ends
  module _ {l : List ℕ} (each : Every (λ k. live (flags t) k ≡ true) l) (room : ℕ) where
    same_bytes : paths_said (collected t) (map (new_place t) l) room ≡ paths_said t l room
    unfolding paths_said
    same_bytes = rw (collected_kept, e, length-map l (new_place t), same_joined t rule each)

    same_stops : ends_said (collected t) (map (new_place t) l) room ≡ ends_said t l room
    unfolding ends_said
    same_stops = rw (collected_kept, e, same_joined t rule each, same_ends t rule 0 each)

  carried : {out ends o es : List ℕ} {a : Answer (Unit {0})} → AllPaths t out ends a o es → AllPaths (collected t) out ends a o es
  carried {out} {ends} {o} {es} {a} p =
      let w = p.walked n e in
      let each = each_marked w in
      record {
        order = map (new_place t) p.order;
        walked = λ m _. walk_collected t rule p.order w;
        wrote = subst (λ (x : Said). Wrote x out a o) (sym (same_bytes each (length ends))) p.wrote;
        left = p.left ∙ ap (λ (x : Said). left_of x ends) (sym (same_stops each (length out)));
      }

  pub paths_same : {out ends o o' es es' : List ℕ} {x y : (Result ℕ Refusal)} → AllPaths t out ends (says_count x) o es → AllPaths (collected t) out ends (says_count y) o' es'
      → (x ≡ y) × (o ≡ o') × (es ≡ es')
  paths_same {out} {ends} {o} {o'} {es} {es'} {x} {y} p q = one_paths (collected t) out ends x y o o' es es' (carried p) q

-- what is left where it was not refused
pub collected_left : {t : Table} {old hs ps es ms ns new : List ℕ} {m : ℕ} → Collected t old (got tt m) hs ps es ms ns new
    → (n : ℕ) × (table_at t ≡ got tt n) × (table hs ps es ms m ns ≡ collected t) × (new ≡ ahead (places t) old)
unfolding collect_at lent_at
collected_left {t} {old} {m = m} c =
    let x = parted (lent_at t old) _ (sym c.answers) in
    let y = picked (eqb (length old) 1024) (table_at t) (bare TABLE) x.2 in
    let l = c.lists in
    let count : m ≡ alive (flags t) = sym (one_got x.3).1 in
    (x.1, y.1, rw (l.handles, l.parents, l.ends, l.marks, l.names, count), c.news)
