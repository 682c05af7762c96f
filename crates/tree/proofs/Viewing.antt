-- The folder view as the code makes it: links lead down, so the cycle lists what hangs below the root by the parents; and what is given of it.
-- Assumes nothing.
use mathlib.Core.Path.{◌≡◌, refl, sym, ap, ◌∙◌}
use mathlib.Core.Bool.{Bool}
use mathlib.Core.List.{List, [], ◌∷◌}
use Prim.Native.Nat.{ℕ, zero, suc, ◌+◌, ◌-◌, ◌≤◌, ◌<◌}
use native.Mathlib.Omega.{arith}
use lib.ListN.{length, get_or, take, drop}
use lib.Seq.{sets-eq, take_at}
use Rattle.layout.specs.Answer.{Told, Answer, got, refused}
use Rattle.layout.specs.Written.{says, put, Put, Wrote}
use Rattle.layout.proofs.laws.Numbers.{zero_one}
use Rattle.layout.proofs.laws.Writing.{long}
use Rattle.tree.specs.Facts.{Ruled, Marks, Listing, PathsGiven}
use Rattle.tree.specs.Kids.{kids}
use Rattle.tree.specs.Links.{Lowest, lowest, nobody, Child, Links, Linking}
use Rattle.tree.specs.Path.{paths_said, ends_said}
use Rattle.tree.specs.Table.{Table, rows, stops, flags, live, parent, table_at}
use Rattle.tree.specs.Way.{way, Left}
use Rattle.tree.specs.View.{Folders, Viewed, ViewPaths}
use Rattle.tree.specs.Below.{join, under, chained, full, Down, view_of}
use Rattle.tree.proofs.Linked.{chain_is}
use Rattle.tree.proofs.Trails.{listed_few, listing_by, walk_refused, all_refused}
use Rattle.tree.proofs.laws.Below.{by_mark}
use Rattle.tree.proofs.laws.Counts.{equal}
use Rattle.tree.proofs.laws.Links.{linking_links}
use Rattle.tree.proofs.laws.Sound.{Sound}
use Rattle.tree.proofs.laws.Views.{left_stop, view_listed}
use Rattle.tree.proofs.laws.Ways.{left_never, way_step}

-- ── links lead down ──

child : {ps : List ℕ} {has : ℕ → Bool} {p m x : ℕ} → Lowest ps has p m x → (x ≡ 0 → ⊥) → Child ps has p m x
child (lowest c f) e = c
child (nobody f) e = absurd (e refl)

module _ {ps : List ℕ} {has : ℕ → Bool} (rule : Ruled ps) (marks : Marks ps has) where
  lowest_in : {p m x : ℕ} → Lowest ps has p m x → x < 1024
  lowest_in {x = x} (lowest c f) = let a = marks.place x c.living in let b = rule.few in omega arith
  lowest_in (nobody f) = omega arith

  module _ {fs ns : List ℕ} (links : Links ps has fs ns) where
    links_down : Down fs ns
    links_down = record {
      few = let n = links.firsts in omega arith;
      long = links.nexts ∙ sym links.firsts;
      first_in = λ p l. let n = links.firsts in by_mark (has p)
          (λ e. let i = lowest_in (links.first p e) in omega arith)
          (λ e. let z = (links.ended p e).0 in omega arith);
      first_up = λ p l z. by_mark (has p)
          (λ e. let c = child (links.first p e) z in
          let r = rule.smaller (get_or fs p 0) c.least (marks.place (get_or fs p 0) c.living) in
          let u = c.up in
          omega arith)
          (λ e. absurd (z (links.ended p e).0));
      next_in = λ k l. let n = links.firsts in by_mark (has k)
          (λ e. equal k 0
          (λ q. rw q (let z = links.root in omega arith))
          (λ q. let i = lowest_in (links.next k (omega arith) e) in omega arith))
          (λ e. let z = (links.ended k e).1 in omega arith);
      next_up = λ k l z. by_mark (has k)
          (λ e. equal k 0
          (λ q. absurd (z (rw q links.root)))
          (λ q. (child (links.next k (omega arith) e) z).least))
          (λ e. absurd (z (links.ended k e).1));
    }

-- ── by links and by parents ──

join_same : (g h : ℕ → List ℕ) → ((c : ℕ) → g c ≡ h c) → (l : List ℕ) → join g l ≡ join h l
join_same g h e [] = refl
join_same g h e (c ∷ l) = rw (e c, join_same g h e l)

-- where the children are the same, so is all below
module _ (held kept : ℕ → List ℕ) (same : (p : ℕ) → held p ≡ kept p) where
  under_same : (f p : ℕ) → under f held p ≡ under f kept p
  unfolding under
  under_same zero p = refl
  under_same (suc f) p =
      ap (λ (w : List ℕ). p ∷ w) (ap (join (under f held)) (same p) ∙ join_same (under f held) (under f kept) (under_same f) (kept p))

module _ {ps : List ℕ} {has : ℕ → Bool} (rule : Ruled ps) (marks : Marks ps has) where
  module _ {fs ns : List ℕ} (s : Linking ps has 1 fs ns) where
    pub made_view : full fs ns 0 ≡ view_of ps has
    unfolding full view_of
    made_view =
        let m : length fs - 0 ≡ 1024 = let n = s.firsts in omega arith in
        ap (λ (f : ℕ). under f (chained fs ns) 0) m ∙ under_same (chained fs ns) (kids ps has) (chain_is rule marks (linking_links marks s)) 1024 0

    pub made_down : Down fs ns
    made_down = links_down rule marks (linking_links marks s)

  pub view_room : length (view_of ps has) ≤ length ps
  view_room = listed_few marks (view_listed ps rule has marks)

  -- a parent is before its children
  up_first : (k : ℕ) → 0 < k → k < length ps → Left (way ps (parent ps k)) (way ps k)
  up_first k s l = rw (way_step ps rule k s l) (left_stop (way ps (parent ps k)) k [])

-- ── what is given of it ──

-- the front of a list of 1,024 places that it was put to
pub view_front : {t : Table} → Sound t → {old new : List ℕ} {n : ℕ} → Put old 0 (view_of (rows t) (live (flags t))) new n → length old ≡ 1024
    → Folders (rows t) (live (flags t)) (take n new) × (length (take n new) ≡ n) × (n ≤ length new)
unfolding put
view_front {t} s {old} {new} {n} p h =
    let l = view_of (rows t) (live (flags t)) in
    let r = view_room s.kept.ruling s.marks in
    let f = s.kept.ruling.few in
    let c : length l ≡ n = omega (arith, p.place) in
    let e : take n new ≡ l = rw (p.bytes ∙ sets-eq l old 0 (omega arith)) (take_at l (drop (0 + length l) old) n c) in
    (rw e (view_listed (rows t) s.kept.ruling (live (flags t)) s.marks), ap length e ∙ c, omega (arith, long p))

-- its parents stand before
pub view_listing : {t : Table} → Sound t → {l : List ℕ} → Folders (rows t) (live (flags t)) l → Listing (rows t) (stops t) t.names l
view_listing s v = listing_by s.marks v s.kept (λ a b. left_never) (up_first s.kept.ruling s.marks)

module _ (t : Table) where
  pub view_refused : (out : List ℕ) {why : Told} → refused why ≡ table_at t → Viewed t out (refused why) out
  view_refused out e = let a = walk_refused t out e in record { order = a.order; viewed = λ n f. zero_one (cc); wrote = a.wrote }

  pub view_given : (out : List ℕ) {n : ℕ} {l new : List ℕ} {a : Answer (Unit {0})} → got tt n ≡ table_at t → Folders (rows t) (live (flags t)) l → Wrote (says l) out a new → Viewed t out a new
  view_given out {l = l} e v h = record { order = l; viewed = λ n f. v; wrote = rw (← e) h }

  pub view_paths_refused : (out ends : List ℕ) {why : Told} → refused why ≡ table_at t → ViewPaths t out ends (refused why) out ends
  view_paths_refused out ends e = let a = all_refused t out ends e in record { order = a.order; viewed = λ n f. zero_one (cc); wrote = a.wrote; left = a.left }

  pub view_paths_given : (out ends : List ℕ) {n : ℕ} {l out' ends' : List ℕ} {a : Answer (Unit {0})} → got tt n ≡ table_at t → Folders (rows t) (live (flags t)) l
      → PathsGiven (rows t) (stops t) t.names l out ends a out' ends' → ViewPaths t out ends a out' ends'
  unfolding paths_said ends_said
  view_paths_given out ends {l = l} e v g = record { order = l; viewed = λ n f. v; wrote = rw (← e) g.wrote; left = rw (← e) g.left }
