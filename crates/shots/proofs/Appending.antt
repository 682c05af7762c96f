-- Adding a place with its links: along the parent's chain to its end, and there one link more.
-- Assumes nothing.
use mathlib.Core.Path.{◌≡◌, refl, sym, ap, subst, ◌∙◌}
use mathlib.Core.Bool.{Bool, true, false}
use mathlib.Core.List.{List}
use Prim.Native.Nat.{ℕ, suc, ◌≤◌, ◌<◌}
use native.Mathlib.Omega.{arith}
use borrow.Author.Tests.{lt-ltb}
use lib.ListN.{get_or, take, set, length-set}
use lib.Dec.{ltb}
use lib.Seq.{get_or-set_same, get_or-set_other, get_or-take, length-take-le}
use Rattle.layout.specs.Answer.{got}
use Rattle.tree.specs.Facts.{Ruled, Marks}
use Rattle.tree.specs.Links.{Child, Lowest, lowest, nobody, Links}
use Rattle.tree.specs.Rule.{Rule}
use Rattle.tree.specs.Table.{Table, table, rows, flags, live, parent, table_at}
use Rattle.tree.proofs.laws.Accepted.{table_got}
use Rattle.tree.proofs.laws.Below.{by_less, by_mark, clash}
use Rattle.tree.proofs.laws.Counts.{equal}
use Rattle.tree.proofs.laws.Ruled.{rule_ok}
use Rattle.tree.proofs.laws.Sound.{Sound, sound, behind, rows_long, marked_there}
use Rattle.shots.specs.Added.{with, base, new_places}
use Rattle.shots.specs.Facts.{Appended, only, last, LinksOf, Room, Based}
use Rattle.shots.proofs.Adding.{base_carries}
use Rattle.shots.proofs.Additions.{parent_new}
use Rattle.shots.proofs.Falls.{named, lowest_of, next_from}
use Rattle.shots.proofs.Fits.{fit_by}

-- ── along the chain ──

module _ {ps : List ℕ} {has : ℕ → Bool} {fs ns : List ℕ} (links : Links ps has fs ns) {p : ℕ} (up : has p ≡ true) where
  pub child_first : (get_or fs p 0 ≡ 0 → ⊥) → Child ps has p 1 (get_or fs p 0)
  child_first f = named (links.first p up) (omega arith)

  pub child_next : {k : ℕ} → Child ps has p 1 k → (get_or ns k 0 ≡ 0 → ⊥) → Child ps has p 1 (get_or ns k 0) × (k < get_or ns k 0)
  child_next c f = let d = named (next_from links c) (omega arith) in let l = d.least in (record { least = omega arith; living = d.living; up = d.up }, l)

  -- only the last has none behind it
  last_one : {j k : ℕ} → Child ps has p 1 j → Child ps has p 1 k → get_or ns j 0 ≡ 0 → k ≤ j
  last_one {j} {k} c d e =
      by_less j k _ refl
      (λ l. absurd (let b = (lowest_of (next_from links c) (omega arith) (record { least = l; living = d.living; up = d.up })).0 in omega arith))
      (λ l. l)

-- ── one place more ──

-- beside ps and has there is one place more, behind the others, with the parent p
record Longer (ps : List ℕ) (has : ℕ → Bool) (qs : List ℕ) (now : ℕ → Bool) (p place : ℕ) : Type 0 where
  apart : (k : ℕ) → (k ≡ place → ⊥) → now k ≡ has k
  here : now place ≡ true
  same : (k : ℕ) → k < place → parent qs k ≡ parent ps k
  above : parent qs place ≡ p
  below : (k : ℕ) → has k ≡ true → k < place
  some : 0 < place

module _ {ps : List ℕ} {has : ℕ → Bool} {qs : List ℕ} {now : ℕ → Bool} {p place : ℕ} (longer : Longer ps has qs now p place) (marks : Marks ps has) (up : has p ≡ true) where
  child_grown : {x m k : ℕ} → Child ps has x m k → Child qs now x m k
  child_grown {k = k} c =
      let b = longer.below k c.living in
      record { least = c.least; living = longer.apart k (λ e. omega arith) ∙ c.living; up = longer.same k b ∙ c.up }

  child_old : {x m k : ℕ} → Child qs now x m k → (k ≡ place → ⊥) → Child ps has x m k
  child_old {k = k} c f =
      let l : has k ≡ true = sym (longer.apart k f) ∙ c.living in
      record { least = c.least; living = l; up = sym (longer.same k (longer.below k l)) ∙ c.up }

  child_it : {x m k : ℕ} → Child qs now x m k → k ≡ place → x ≡ p
  child_it c e = sym c.up ∙ ap (parent qs) e ∙ longer.above

  -- of another parent
  lowest_apart : {x m k : ℕ} → (x ≡ p → ⊥) → Lowest ps has x m k → Lowest qs now x m k
  lowest_apart {k = k} f (lowest c g) = lowest {k = k} (child_grown c) (λ y d. g y (child_old d (λ e. f (child_it d e))))
  lowest_apart f (nobody g) = nobody (λ y d. g y (child_old d (λ e. f (child_it d e))))

  -- where there is one before it
  lowest_still : {x m k : ℕ} → 0 < k → Lowest ps has x m k → Lowest qs now x m k
  lowest_still {k = k} o (lowest c g) =
      lowest {k = k} (child_grown c) (λ y d. equal y place (λ e. let b = longer.below k c.living in omega arith) (λ e. g y (child_old d e)))
  lowest_still o (nobody g) = absurd (omega arith)

  -- where there is none
  lowest_new : {m k : ℕ} → k ≡ 0 → 0 < m → m ≤ place → Lowest ps has p m k → Lowest qs now p m place
  lowest_new e o h (lowest c g) = absurd (let l = c.least in omega arith)
  lowest_new e o h (nobody g) =
      lowest {k = place} (record { least = h; living = longer.here; up = longer.above }) (λ y d. equal y place (λ z. omega arith) (λ z. absurd (g y (child_old d z))))

  -- nothing hangs under it, and nothing stands behind it
  childless : Lowest qs now place 1 0
  childless = nobody (λ y d. equal y place
      (λ e. let z = child_it d e in let b = longer.below p up in omega arith)
      (λ e. let c = child_old d e in let b = longer.below place (rw c.up at (marks.up y c.least c.living)) in omega arith))

  last_there : Lowest qs now (parent qs place) (suc place) 0
  last_there = nobody (λ y d. let l = d.least in equal y place (λ e. omega arith) (λ e. let b = longer.below y (child_old d e).living in omega arith))

  not_yet : has place ≡ false
  not_yet = by_mark (has place) (λ e. absurd (let b = longer.below place e in omega arith)) (λ e. e)

  was : {k : ℕ} → (k ≡ place → ⊥) → now k ≡ true → has k ≡ true
  was {k} f e = sym (longer.apart k f) ∙ e

  never : {k : ℕ} → now k ≡ false → has k ≡ false
  never {k} e = equal k place (λ z. absurd (clash (now k) (rw z longer.here) e)) (λ z. sym (longer.apart k z) ∙ e)

  module _ {fs ns : List ℕ} (links : Links ps has fs ns) (free : place < 1024) where
    old_next : {k : ℕ} → 0 < k → (k ≡ place → ⊥) → now k ≡ true → Lowest ps has (parent qs k) (suc k) (get_or ns k 0)
    old_next {k} o f e = let l = was f e in rw (longer.same k (longer.below k l)) (links.next k o l)

    -- p had no child
    only_links : get_or fs p 0 ≡ 0 → Links qs now (set fs p place) ns
    only_links z = record {
      firsts = length-set fs p place ∙ links.firsts;
      nexts = links.nexts;
      first = λ x e. equal x p
          (λ q. rw (q, get_or-set_same fs p place 0 (let n = links.firsts in let b = longer.below p up in omega arith)) (lowest_new z (omega arith) longer.some (links.first p up)))
          (λ q. rw (get_or-set_other fs p x place 0 q) (equal x place
          (λ w. rw (w, (links.ended place not_yet).0) childless)
          (λ w. lowest_apart q (links.first x (was w e)))));
      next = λ k o e. equal k place
          (λ w. rw (w, (links.ended place not_yet).1) last_there)
          (λ w. lowest_apart (λ q. none k o (was w e) (sym (longer.same k (longer.below k (was w e))) ∙ q)) (old_next o w e));
      root = links.root;
      ended = λ k e. let h = never e in (get_or-set_other fs p k place 0 (λ q. clash (has k) (rw q up) h) ∙ (links.ended k h).0, (links.ended k h).1);
    }
      where
        none : (k : ℕ) → 0 < k → has k ≡ true → parent ps k ≡ p → ⊥
        none k o e q = let b = (lowest_of (links.first p up) (omega arith) (record { least = o; living = e; up = q })).0 in omega arith

    -- k was its last
    last_links : {k : ℕ} → Child ps has p 1 k → get_or ns k 0 ≡ 0 → Links qs now fs (set ns k place)
    last_links {k} c z = record {
      firsts = links.firsts;
      nexts = length-set ns k place ∙ links.nexts;
      first = λ x e. equal x place
          (λ w. rw (w, (links.ended place not_yet).0) childless)
          (λ w. equal x p
          (λ q. lowest_still (rw q (lowest_of (links.first p up) (omega arith) c).0) (links.first x (was w e)))
          (λ q. lowest_apart q (links.first x (was w e))));
      next = λ j o e. equal j k
          (λ q. rw (q, get_or-set_same ns k place 0 (let n = links.nexts in let b = in_it in omega arith), longer.same k in_it, c.up) (lowest_new z (omega arith) in_it (next_from links c)))
          (λ q. rw (get_or-set_other ns k j place 0 q) (equal j place
          (λ w. rw (w, (links.ended place not_yet).1) last_there)
          (λ w. equal (parent qs j) p
          (λ u. lowest_still (more j o q (was w e) (sym (longer.same j (longer.below j (was w e))) ∙ u)) (old_next o w e))
          (λ u. lowest_apart u (old_next o w e)))));
      root = get_or-set_other ns k 0 place 0 (λ q. let l = c.least in omega arith) ∙ links.root;
      ended = λ j e. let h = never e in ((links.ended j h).0, get_or-set_other ns k j place 0 (λ q. clash (has j) (rw q c.living) h) ∙ (links.ended j h).1);
    }
      where
        in_it : k < place
        in_it = longer.below k c.living

        more : (j : ℕ) → 0 < j → (j ≡ k → ⊥) → has j ≡ true → parent ps j ≡ p → 0 < get_or ns j 0
        more j o f e u =
            let d : Child ps has p 1 j = record { least = o; living = e; up = u } in
            equal (get_or ns j 0) 0
            (λ y. absurd (f (let a = last_one links up c d z in let b = last_one links up d c y in omega arith)))
            (λ y. omega arith)

    appended_links : {fs' ns' : List ℕ} → Appended ps has p place fs ns fs' ns' → Links qs now fs' ns'
    appended_links (only z) = only_links z
    appended_links (last c z) = last_links c z

-- ── of a table ──

with_links : (u : Table) (r : Rule u) (p handle : ℕ) (name : List ℕ) → u.count < 1024 → live (flags u) p ≡ true → {fs ns fs' ns' : List ℕ} → Links (rows u) (live (flags u)) fs ns
    → Appended (rows u) (live (flags u)) p u.count fs ns fs' ns' → LinksOf (with u p handle name) fs' ns'
with_links u r p handle name free up links a = record { links = appended_links longer s.marks up links free a }
  where
    s : Sound u
    s = sound u (rule_ok u r)

    there : (k : ℕ) → live (flags u) k ≡ true → k < u.count
    there k e = let h = s.marks.place k e in let n = rows_long s in omega arith

    dead : (k : ℕ) → u.count < k → live (flags (with u p handle name)) k ≡ false
    dead k h = by_mark (live (flags (with u p handle name)) k) (λ e. absurd (let m = marked_there (flags (with u p handle name)) k e in let n = length-take-le (suc u.count) (set u.marks u.count 1) (let l = length-set u.marks u.count 1 in omega (arith, s.flagged)) in omega arith)) (λ e. e)

    longer : Longer (rows u) (live (flags u)) (rows (with u p handle name)) (live (flags (with u p handle name))) p u.count
    longer = record {
      apart = λ k f. by_less k u.count _ refl
          (λ h. ap (ltb 0) (get_or-take (suc u.count) (set u.marks u.count 1) k 0 (omega arith) ∙ get_or-set_other u.marks u.count k 1 0 f ∙ sym (get_or-take u.count u.marks k 0 h)))
          (λ h. dead k (omega arith) ∙ sym (behind s h));
      here = lt-ltb 0 (get_or (flags (with u p handle name)) u.count 0) (omega (arith, get_or-take (suc u.count) (set u.marks u.count 1) u.count 0 (omega arith), get_or-set_same u.marks u.count 1 0 (omega (arith, s.flagged))));
      same = λ k h. get_or-take (suc u.count) (set u.parents u.count p) k 0 (omega arith) ∙ get_or-set_other u.parents u.count k p 0 (λ e. omega arith) ∙ sym (get_or-take u.count u.parents k 0 h);
      above = get_or-take (suc u.count) (set u.parents u.count p) u.count 0 (omega arith) ∙ get_or-set_same u.parents u.count p 0 (omega (arith, s.parented));
      below = there;
      some = r.some;
    }

-- ── of the table that the object is put into ──

module _ (t : Table) {m : ℕ} (acc : table_at t ≡ got tt m) (parent : ℕ) {size : ℕ} (up : live (flags t) parent ≡ true) (room : Room (base t size) size)
    {old hs ps es ms bs new : List ℕ} {n : ℕ} (b : Based t size old n hs ps es ms bs new) {fs ns : List ℕ} (l : LinksOf (base t size) fs ns) where
  into_rule : Rule (base t size)
  into_rule = (table_got (base t size) (base_carries t acc size).accepted).1

  into_is : base t size ≡ table hs ps es ms n bs
  into_is = rw (b.handles, b.parents, b.ends, b.marks, b.count, b.names)

  parent_there : get_or new parent 0 ≡ get_or (new_places t size) parent 0
  parent_there =
      let r = (table_got t acc).1 in
      let s = sound t (rule_ok t r) in
      let h = s.marks.place parent up in
      let n = rows_long s in
      parent_new (fit_by r) size old b.news parent (omega arith)

  parent_lives : live (flags (base t size)) (get_or new parent 0) ≡ true
  parent_lives = rw parent_there ((base_carries t acc size).still parent up)

  pub append_needs : Ruled (take n ps) × (Marks (take n ps) (live (take n ms)) × (Links (take n ps) (live (take n ms)) fs ns × ((live (take n ms) (get_or new parent 0) ≡ true) × (n < 1024))))
  append_needs =
      let s = sound (base t size) (rule_ok (base t size) into_rule) in
      subst (λ (u : Table). Ruled (rows u) × (Marks (rows u) (live (flags u)) × (Links (rows u) (live (flags u)) fs ns × ((live (flags u) (get_or new parent 0) ≡ true) × (u.count < 1024)))))
      into_is (s.kept.ruling, (s.marks, (l.links, (parent_lives, room.free))))

  pub added_links : {fs' ns' : List ℕ} → Appended (take n ps) (live (take n ms)) (get_or new parent 0) n fs ns fs' ns' → (handle : ℕ) (name : List ℕ)
      → LinksOf (with (base t size) (get_or (new_places t size) parent 0) handle name) fs' ns'
  added_links {fs'} {ns'} a handle name =
      let x = subst (λ (u : Table). Appended (rows u) (live (flags u)) (get_or new parent 0) u.count fs ns fs' ns') (sym into_is) a in
      subst (λ (p : ℕ). LinksOf (with (base t size) p handle name) fs' ns') parent_there (with_links (base t size) into_rule (get_or new parent 0) handle name room.free parent_lives l.links x)
