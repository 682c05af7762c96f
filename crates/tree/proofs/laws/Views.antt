-- The folder view: a place, and then all that hangs below it, place by place, is listed in the order of the ways; each live place stands there as often as the way to it
-- holds the first one.
-- Assumes nothing.
use mathlib.Core.Path.{◌≡◌, refl, sym, ap, ◌∙◌}
use mathlib.Core.Bool.{Bool, true, false, ◌&&◌, and-eq-true_iff}
use mathlib.Core.List.{List, [], ◌∷◌, ◌++◌, append-nil, append_assoc}
use Prim.Native.Nat.{ℕ, zero, suc, ◌+◌, ◌≤◌, ◌<◌}
use native.Mathlib.Nat.{not-suc-le-zero}
use native.Mathlib.Omega.{arith}
use lib.Dec.{eqb, ltb}
use lib.ListN.{length, length-append}
use lib.Seq.{append_snoc}
use Rattle.layout.specs.Answer.{pick}
use Rattle.tree.specs.Facts.{Ruled, Marks}
use Rattle.tree.specs.Table.{parent}
use Rattle.tree.specs.Listed.{times, Every, none, more, Sorted, done, next, Listed}
use Rattle.tree.specs.Kids.{hangs, kids}
use Rattle.tree.specs.Way.{way, depth, Left, here, there, stops}
use Rattle.tree.specs.View.{Folders}
use Rattle.tree.specs.Below.{join, under, view_of}
use Rattle.tree.proofs.Grown.{sorted_append, every_kid, rising_kids, kids_listed, root_by}
use Rattle.tree.proofs.laws.Below.{by_mark, clash, kids_root, kids_once}
use Rattle.tree.proofs.laws.Counts.{equal, hit, miss, times_append, every_map, every_both, every_append}
use Rattle.tree.proofs.laws.Moved.{each_marked}
use Rattle.tree.proofs.laws.Queued.{flip, way_few, one_or_none}
use Rattle.tree.proofs.laws.Ways.{Kid, way_root, way_step, kid_way}

-- ── lists end to end ──

every_join : {P Q : ℕ → Type 0} (g : ℕ → List ℕ) {l : List ℕ} → ((c : ℕ) → P c → Every Q (g c)) → Every P l → Every Q (join g l)
every_join g f none = none
every_join g f (more p e) = every_append (f _ p) (every_join g f e)

-- how often those of l stand in w, all in all
abbrev tally : List ℕ → List ℕ → ℕ
tally [] w = 0
tally (c ∷ l) w = times c w + tally l w

times_join : (g : ℕ → List ℕ) (x : ℕ) (w : List ℕ) {l : List ℕ} → Every (λ c. times x (g c) ≡ times c w) l → times x (join g l) ≡ tally l w
times_join g x w none = refl
times_join g x w (more {x = c} {l = l} p e) =
    let a = times_append x (g c) (join g l) in let b = times_join g x w e in omega arith

none_join : (g : ℕ → List ℕ) (x : ℕ) {l : List ℕ} → Every (λ c. times x (g c) ≡ 0) l → times x (join g l) ≡ 0
none_join g x none = refl
none_join g x (more {x = c} {l = l} p e) =
    let a = times_append x (g c) (join g l) in let b = none_join g x e in omega arith

tally_append : (l a b : List ℕ) → tally l (a ++ b) ≡ tally l a + tally l b
tally_append [] a b = refl
tally_append (c ∷ l) a b = let h = times_append c a b in let i = tally_append l a b in omega arith

tally_one : (l : List ℕ) (y : ℕ) → tally l (y ∷ []) ≡ times y l
tally_one [] y = refl
tally_one (c ∷ l) y = let h = tally_one l y in let f = flip c y in omega arith

-- one of those that stand end to end
found : (g : ℕ → List ℕ) (x : ℕ) {P : ℕ → Type 0} {l : List ℕ} → Every P l → 0 < times x (join g l)
    → (c : ℕ) × P c × (0 < times x (g c)) × (b : List ℕ) × (a : List ℕ) × (join g l ≡ b ++ g c ++ a)
found g x none h = absurd (not-suc-le-zero h)
found g x (more {x = c} {l = l} p e) h =
    equal (times x (g c)) 0
    (λ z. let i = found g x e (let t = times_append x (g c) (join g l) in omega arith) in (
      i.0,
      i.1,
      i.2,
      g c ++ i.3,
      i.4,
      ap (λ (w : List ℕ). g c ++ w) i.5 ∙ rw (append_assoc (g c) i.3 (g i.0), append_assoc (g c) (i.3 ++ g i.0) i.4),
    ))
    (λ z. (c, p, omega arith, [], join g l, refl))

regroup : (a b c d e : List ℕ) → a ++ (b ++ c ++ d) ++ e ≡ a ++ b ++ c ++ (d ++ e)
regroup a b c d e = simp append_assoc

-- ── in order ──

-- the way to x goes on from the way to p
record Under (ps : List ℕ) (p x : ℕ) : Type 0 where
  on : List ℕ
  goes : way ps x ≡ way ps p ++ on

pub left_stop : (s : List ℕ) (c : ℕ) (u : List ℕ) → Left s (s ++ c ∷ u)
left_stop [] c u = stops
left_stop (x ∷ s) c u = there (left_stop s c u)

left_fork : (s : List ℕ) {a b : ℕ} (u v : List ℕ) → a < b → Left (s ++ a ∷ u) (s ++ b ∷ v)
left_fork [] u v h = here h
left_fork (x ∷ s) u v h = there (left_fork s u v h)

module _ (ps : List ℕ) (rule : Ruled ps) (has : ℕ → Bool) (marks : Marks ps has) where
  -- the way to what is under c, a place under p, by the way to p
  through : {p c x : ℕ} → Kid ps p c → (u : Under ps c x) → way ps x ≡ way ps p ++ c ∷ u.on
  through {p} {c} {x} k u =
      u.goes ∙ ap (λ (w : List ℕ). w ++ u.on) (kid_way ps rule k) ∙ append_snoc (way ps p) c u.on

  all_under : (f p : ℕ) → Every (Under ps p) (under f (kids ps has) p)
  unfolding under
  all_under zero p = none
  all_under (suc f) p =
      more (record { on = []; goes = sym (append-nil (way ps p)) })
      (every_join (under f (kids ps has))
      (λ c k. every_map (λ x u. record { on = c ∷ u.on; goes = through k u }) (all_under f c))
      (every_kid ps rule has marks p))

  in_order : (f p : ℕ) → Sorted (λ a b. Left (way ps a) (way ps b)) (under f (kids ps has) p)
  unfolding under
  in_order zero p = done
  in_order (suc f) p =
      next {x = p}
      (every_join (under f (kids ps has))
      (λ c (k : Kid ps p c). every_map
      (λ x u. let a : way ps x ≡ way ps p ++ c ∷ u.on = through k u in rw a (left_stop (way ps p) c u.on))
      (all_under f c))
      (every_kid ps rule has marks p))
      (go (λ c. in_order f c) (every_kid ps rule has marks p) (rising_kids ps rule has marks p))
    where
      go : ((c : ℕ) → Sorted (λ a b. Left (way ps a) (way ps b)) (under f (kids ps has) c)) → {l : List ℕ} → Every (Kid ps p) l → Sorted ◌<◌ l
          → Sorted (λ a b. Left (way ps a) (way ps b)) (join (under f (kids ps has)) l)
      go r none done = done
      go r (more {x = c} k e) (next h s) =
          sorted_append (r c) (go r e s)
          (every_join (under f (kids ps has))
          (λ d (z : (c < d) × Kid ps p d). every_map
          (λ y v. every_map
          (λ x u.
          let a : way ps x ≡ way ps p ++ c ∷ u.on = through k u in
          let b : way ps y ≡ way ps p ++ d ∷ v.on = through z.1 v in
          rw (a, b) (left_fork (way ps p) u.on v.on z.0))
          (all_under f c))
          (all_under f d))
          (every_both h e))

  -- ── how often ──

  -- a place stands on the way to x, unless it is x, as often as its children do
  passed : (f p x : ℕ) → x < f → has x ≡ true → pick (eqb x p) 1 0 + tally (kids ps has p) (way ps x) ≡ times p (way ps x)
  passed zero p x h m = absurd (not-suc-le-zero h)
  passed (suc f) p x h m =
      equal x 0
      (λ e. rw (e, way_root ps) (let a = tally_one (kids ps has p) 0 in let b = kids_root ps has p in let d = flip 0 p in omega arith))
      (λ e. let s : 0 < x = omega arith in
      let l = marks.place x m in
      let r = rule.smaller x s l in
      let i = passed f p (parent ps x) (omega arith) (marks.up x s m) in
      let o = kids_once ps has p x m r l in
      let t = tally_append (kids ps has p) (way ps (parent ps x)) (x ∷ []) in
      let u = tally_one (kids ps has p) x in
      let v = times_append p (way ps (parent ps x)) (x ∷ []) in
      let d = flip x p in
      rw (way_step ps rule x s l) (omega arith))

  often : (f p x : ℕ) → length ps ≤ p + f → p < length ps → has x ≡ true → times x (under f (kids ps has) p) ≡ times p (way ps x)
  unfolding under
  often zero p x h j m = absurd (omega arith)
  often (suc f) p x h j m =
      let a : times x (join (under f (kids ps has)) (kids ps has p)) ≡ tally (kids ps has p) (way ps x) =
      times_join (under f (kids ps has)) x (way ps x)
      (every_map (λ c k. often f c x (let z = rule.smaller c k.some k.there in let y = k.up in omega arith) k.there m) (every_kid ps rule has marks p)) in
      let b = passed (suc x) p x (omega arith) m in
      omega arith

  every_live : (p : ℕ) → Every (λ c. has c ≡ true) (kids ps has p)
  every_live p =
      every_map (λ c e. ((and-eq-true_iff (has c) (eqb (parent ps c) p)).0 ((and-eq-true_iff (ltb 0 c) (hangs ps has p c)).0 e).1).0)
      (each_marked (kids_listed ps rule has marks p))

  never_there : (f p x : ℕ) → has p ≡ true → has x ≡ false → times x (under f (kids ps has) p) ≡ 0
  unfolding under
  never_there zero p x h m = refl
  never_there (suc f) p x h m =
      miss x p (join (under f (kids ps has)) (kids ps has p)) (λ e. clash (has p) h (rw e at m))
      ∙ none_join (under f (kids ps has)) x (every_map (λ c k. never_there f c x k m) (every_live p))

  -- the root and all below it is the folder view
  pub view_listed : Folders ps has (view_of ps has)
  unfolding view_of
  view_listed = record {
    once = λ k. by_mark (has k)
        (λ m. often 1024 0 k (let h = rule.few in omega arith) rule.some m ∙ root_by ps rule has marks (suc k) k (omega arith) (marks.place k m)
        ∙ sym (ap (λ (b : Bool). pick {A = ℕ} b 1 0) m))
        (λ m. never_there 1024 0 k marks.root m ∙ sym (ap (λ (b : Bool). pick {A = ℕ} b 1 0) m));
    order = in_order 1024 0;
  }

  -- ── together ──

  -- what hangs below a place that stands there stands there together
  together : (f q p : ℕ) → length ps ≤ q + f → 0 < times p (under f (kids ps has) q)
      → (g : ℕ) × (length ps ≤ p + g) × (b : List ℕ) × (a : List ℕ) × (under f (kids ps has) q ≡ b ++ under g (kids ps has) p ++ a)
  unfolding under
  together zero q p h t = absurd (not-suc-le-zero t)
  together (suc f) q p h t =
      equal p q
      (λ e. (suc f, omega arith, [], [], rw e (sym (append-nil (under (suc f) (kids ps has) q)))))
      (λ e. let n = miss p q (join (under f (kids ps has)) (kids ps has q)) e in
      let i = found (under f (kids ps has)) p (every_kid ps rule has marks q) (omega arith) in
      let up = i.1.up in
      let z = rule.smaller i.0 i.1.some i.1.there in
      let j = together f i.0 p (omega arith) i.2 in (
        j.0,
        j.1,
        q ∷ (i.3 ++ j.2),
        j.3 ++ i.4,
        ap (λ (w : List ℕ). q ∷ w)
            (i.5 ∙ ap (λ (w : List ℕ). i.3 ++ w ++ i.4) j.4 ∙ regroup i.3 j.2 (under j.0 (kids ps has) p) j.3 i.4),
      ))

  -- a place, and behind it deeper ones
  headed : (g p : ℕ) → length ps ≤ p + g → p < length ps → (i : List ℕ) × (under g (kids ps has) p ≡ p ∷ i) × Every (λ x. depth ps p < depth ps x) i
  unfolding under depth
  headed zero p h l = absurd (omega arith)
  headed (suc g) p h l = (
    join (under g (kids ps has)) (kids ps has p),
    refl,
    every_join (under g (kids ps has))
        (λ c k. every_map
        (λ x u. let a = ap length (through k u) in let b = length-append (way ps p) (c ∷ u.on) in omega arith)
        (all_under g c))
        (every_kid ps rule has marks p),
  )

  -- a live place, and right behind it all others that have it on their way, which are deeper
  pub block : (p : ℕ) → has p ≡ true
      → (b : List ℕ) × (i : List ℕ) × (a : List ℕ) × (view_of ps has ≡ b ++ (p ∷ i) ++ a)
      × ((x : ℕ) → times x (p ∷ i) ≡ pick (has x && ltb 0 (times p (way ps x))) 1 0) × Every (λ x. depth ps p < depth ps x) i
  unfolding view_of
  block p live =
      let l = marks.place p live in
      let t = together 1024 0 p (let h = rule.few in omega arith) (let o = view_listed.once p ∙ ap (λ (b : Bool). pick {A = ℕ} b 1 0) live in omega arith) in
      let h = headed t.0 p t.1 l in (
        t.2,
        h.0,
        t.3,
        t.4 ∙ ap (λ (w : List ℕ). t.2 ++ w ++ t.3) h.1,
        λ x. ap (times x) (sym h.1) ∙ by_mark (has x)
            (λ m. let w = way_few ps rule p x (marks.place x m) in
            rw m (often t.0 p x t.1 l m ∙ one_or_none (times p (way ps x)) w))
            (λ m. rw m (never_there t.0 p x live m)),
        h.2,
      )

-- ── without some places ──

-- a list without what is left out
abbrev pub leaving : (ℕ → Bool) → List ℕ → List ℕ
leaving out [] = []
leaving out (x ∷ l) = pick (out x) (leaving out l) (x ∷ leaving out l)

module _ (out : ℕ → Bool) where
  leaving_times : (k : ℕ) (l : List ℕ) → times k (leaving out l) ≡ pick (out k) 0 (times k l)
  leaving_times k [] = by (out k)
    where
      by : (b : Bool) → 0 ≡ pick {A = ℕ} b 0 0
      by true = refl
      by false = refl
  leaving_times k (x ∷ l) = equal k x
      (λ z. rw (← z) (same (out k) (leaving_times k l)))
      (λ z. other (out x) z (leaving_times k l) ∙ ap (pick (out k) 0) (sym (miss k x l z)))
    where
      same : (b : Bool) → times k (leaving out l) ≡ pick b 0 (times k l) → times k (pick b (leaving out l) (k ∷ leaving out l)) ≡ pick b 0 (times k (k ∷ l))
      same true e = e
      same false e = hit k k (leaving out l) refl ∙ ap suc e ∙ sym (hit k k l refl)

      other : (b : Bool) → (k ≡ x → ⊥) → times k (leaving out l) ≡ pick (out k) 0 (times k l) → times k (pick b (leaving out l) (x ∷ leaving out l)) ≡ pick (out k) 0 (times k l)
      other true z e = e
      other false z e = miss k x (leaving out l) z ∙ e

  leaving_every : {P : ℕ → Type 0} {l : List ℕ} → Every P l → Every P (leaving out l)
  leaving_every none = none
  leaving_every {P} (more {x} {l} p e) = by (out x) (leaving_every e)
    where
      by : (b : Bool) → Every P (leaving out l) → Every P (pick b (leaving out l) (x ∷ leaving out l))
      by true f = f
      by false f = more p f

  leaving_sorted : {B : ℕ → ℕ → Type 0} {l : List ℕ} → Sorted B l → Sorted B (leaving out l)
  leaving_sorted done = done
  leaving_sorted {B} (next {x} {l} e s) = by (out x) (leaving_every e) (leaving_sorted s)
    where
      by : (b : Bool) → Every (B x) (leaving out l) → Sorted B (leaving out l) → Sorted B (pick b (leaving out l) (x ∷ leaving out l))
      by true f g = g
      by false f g = next f g

  -- in any order, so of the view: what is left is listed as it was
  pub listed_leaving : {has now : ℕ → Bool} {B : ℕ → ℕ → Type 0} {l : List ℕ} → ((k : ℕ) → now k ≡ pick (out k) false (has k)) → Listed has B l → Listed now B (leaving out l)
  listed_leaving {has} {now} {B} {l} e w = record {
    once = λ k. leaving_times k l ∙ ap (pick (out k) 0) (w.once k) ∙ by (out k) (has k) ∙ ap (λ (b : Bool). pick {A = ℕ} b 1 0) (sym (e k));
    order = leaving_sorted w.order;
  }
    where
      by : (b c : Bool) → pick {A = ℕ} b 0 (pick c 1 0) ≡ pick (pick b false c) 1 0
      by true c = refl
      by false c = refl
