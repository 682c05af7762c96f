-- What the folder view is worth, of the functions' own answers: it is what the cycle lists; it holds each live place once, a place right before all that it holds; and it has
-- the walk's places and paths, each as often, so that both need the same room.
-- Assumes nothing.
use Rattle.layout.specs.Answer.{says_count}
use Rattle.std.specs.declared.result.Result.{Result}
use Rattle.layout.specs.declared.Refusal.{Refusal}
use mathlib.Core.Path.{◌≡◌, refl, sym, ap, ◌∙◌}
use mathlib.Core.Bool.{Bool, true, false, ◌&&◌}
use mathlib.Core.List.{List, [], ◌∷◌, ◌++◌, map, append_assoc}
use Prim.Native.Nat.{ℕ, ◌+◌, ◌-◌, ◌≤◌, ◌<◌}
use native.Mathlib.Nat.{not-suc-le-zero}
use native.Mathlib.Omega.{arith}
use borrow.Author.Tests.{eq-eqb, ne_eqb, le-leb, leb-true}
use lib.Dec.{eqb, leb, ltb}
use lib.ListN.{length, get_or, take, drop, length-append}
use lib.Seq.{take_at, drop_at}
use Rattle.layout.specs.Answer.{Answer, got, refused, bare, pick}
use Rattle.layout.specs.Refusals.{ROOM}
use Rattle.layout.specs.Written.{says, no, Wrote, answer_of, left_of}
use Rattle.layout.proofs.laws.Determined.{tells_written}
use Rattle.layout.proofs.laws.Did.{Whole, whole}
use Rattle.layout.proofs.laws.Numbers.{zero_one}
use Rattle.layout.proofs.laws.Writing.{wrote_so}
use Rattle.tree.specs.Below.{view_of}
use Rattle.tree.specs.Listed.{times, Every}
use Rattle.tree.specs.Path.{path_of, joined, ends_from, said_if, paths_said, ends_said, Walked, AllPaths}
use Rattle.tree.specs.Table.{Table, rows, stops, flags, live, parent, table_at}
use Rattle.tree.specs.View.{Folders, Viewed, ViewPaths}
use Rattle.tree.specs.Way.{way, depth, Walk}
use Rattle.tree.proofs.Trails.{ends_long}
use Rattle.tree.proofs.Viewing.{view_listing}
use Rattle.tree.proofs.laws.Counts.{equal, hit, miss, same_size}
use Rattle.tree.proofs.laws.Sound.{accepted}
use Rattle.tree.proofs.laws.Views.{view_listed, block}
use Rattle.tree.proofs.laws.Ways.{one_view}

-- ── places ──

-- what was given of a table as places: it was accepted, and they stand at the front
read_places : (t : Table) (l : List ℕ) {old new : List ℕ} {n : ℕ} → Wrote (said_if (table_at t) (says l)) old (got tt n) new → (m : ℕ) × (table_at t ≡ got tt m) × (take n new ≡ l) × (n ≡ length l)
read_places t l {old} {new} {n} w = of (table_at t) refl g.due
  where
    g : Whole (said_if (table_at t) (says l)) old n new
    g = whole w

    of : (a : Answer (Unit {0})) → table_at t ≡ a → said_if a (says l) ≡ says g.bs → (m : ℕ) × (table_at t ≡ got tt m) × (take n new ≡ l) × (n ≡ length l)
    of (refused why) e d = zero_one (cc)
    of (got u m) e d =
        let same : g.bs ≡ l = cc in
        (m, e, ap (take n) g.left ∙ take_at g.bs (drop (length g.bs) old) n (sym g.count) ∙ same, g.count ∙ ap length same)

-- the list that the cycle makes is the folder view, for every table that is accepted
pub view : (t : Table) {n : ℕ} → table_at t ≡ got tt n → Folders (rows t) (live (flags t)) (view_of (rows t) (live (flags t)))
view t e = let s = accepted t (sym e) in view_listed (rows t) s.kept.ruling (live (flags t)) s.marks

-- in it each place but the root has its parent before it
pub parent_first : (t : Table) {n : ℕ} → table_at t ≡ got tt n → {l : List ℕ} → Folders (rows t) (live (flags t)) l → (i : ℕ) → i < length l → (get_or l i 0 ≡ 0 → ⊥)
    → 0 < times (parent (rows t) (get_or l i 0)) (take i l)
parent_first t e v = (view_listing (accepted t (sym e)) v).above

module _ (t : Table) {old new : List ℕ} {n : ℕ} (p : Viewed t old (got tt n) new) where
  answered : (m : ℕ) × (table_at t ≡ got tt m) × Folders (rows t) (live (flags t)) (take n new) × (n ≡ length (take n new))
  answered =
      let r = read_places t p.order p.wrote in
      (r.0, r.1, rw r.2 (p.viewed r.0 r.1), r.3 ∙ ap length (sym r.2))

  -- each live place once, and nothing else
  pub once : (k : ℕ) → times k (take n new) ≡ pick (live (flags t) k) 1 0
  once k = answered.2.once k

  -- the walk's places, each as often, and so many
  pub same_places : {old' new' : List ℕ} {m : ℕ} → Walked t old' (got tt m) new' → ((k : ℕ) → times k (take n new) ≡ times k (take m new')) × (n ≡ m)
  same_places {new' = new'} {m} q =
      let r = read_places t q.order q.wrote in
      let w : Walk (rows t) (live (flags t)) (take m new') = rw r.2 (q.walked r.0 r.1) in
      let each : (k : ℕ) → times k (take n new) ≡ times k (take m new') = λ k. once k ∙ sym (w.once k) in
      (each, answered.3 ∙ same_size (take n new) (take m new') each ∙ ap length r.2 ∙ sym r.3)

  -- a live place, and right behind it, together, all others that have it on their way; these are deeper, so the next place at its level comes behind them
  pub folder_first : (k : ℕ) → live (flags t) k ≡ true
      → (before : List ℕ) × (below : List ℕ) × (after : List ℕ) × (take n new ≡ before ++ (k ∷ below) ++ after)
      × ((x : ℕ) → times x (k ∷ below) ≡ pick (live (flags t) x && ltb 0 (times k (way (rows t) x))) 1 0) × Every (λ x. depth (rows t) k < depth (rows t) x) below
  folder_first k h =
      let a = answered in
      let s = accepted t (sym a.1) in
      let b = block (rows t) s.kept.ruling (live (flags t)) s.marks k h in
      let e = one_view (rows t) (live (flags t)) (take n new) (view_of (rows t) (live (flags t))) a.2 (view t a.1) in
      (b.0, b.1, b.2, e ∙ b.3, b.4, b.5)

-- ── what places are worth, all in all ──

abbrev total : (ℕ → ℕ) → List ℕ → ℕ
total f [] = 0
total f (x ∷ l) = f x + total f l

-- without the first x
abbrev without_one : ℕ → List ℕ → List ℕ
without_one x [] = []
without_one x (y ∷ l) = pick (eqb x y) l (y ∷ without_one x l)

one_gone : (x k : ℕ) (l : List ℕ) → 0 < times x l → times k l ≡ pick (eqb k x) 1 0 + times k (without_one x l)
one_gone x k [] h = absurd (not-suc-le-zero h)
one_gone x k (y ∷ l) h =
    equal x y
    (λ e. let z : pick {A = ℕ} (eqb k x) 1 0 ≡ pick {A = ℕ} (eqb k y) 1 0 = rw e in rw (eq-eqb x y e) (omega arith))
    (λ e. let i = one_gone x k l (let m = miss x y l e in omega arith) in rw (ne_eqb x y e) (omega arith))

total_gone : (f : ℕ → ℕ) (x : ℕ) (l : List ℕ) → 0 < times x l → total f l ≡ f x + total f (without_one x l)
total_gone f x [] h = absurd (not-suc-le-zero h)
total_gone f x (y ∷ l) h =
    equal x y
    (λ e. let z : f x ≡ f y = ap f e in rw (eq-eqb x y e) (omega arith))
    (λ e. let i = total_gone f x l (let m = miss x y l e in omega arith) in rw (ne_eqb x y e) (omega arith))

-- it goes by how often each stands there
total_same : (f : ℕ → ℕ) (a b : List ℕ) → ((k : ℕ) → times k a ≡ times k b) → total f a ≡ total f b
total_same f [] [] e = refl
total_same f [] (y ∷ b) e = absurd (let h = hit y y b refl in let g = e y in omega arith)
total_same f (x ∷ a) b e =
    let h = hit x x a refl in
    let g : 0 < times x b = let q = e x in omega arith in
    let i = total_same f a (without_one x b) (λ k. let p = e k in let q = one_gone x k b g in omega arith) in
    let j = total_gone f x b g in
    omega arith

-- ── paths ──

-- bytes cut at these ends, the first from a place on
abbrev pub parts : ℕ → List ℕ → List ℕ → List (List ℕ)
parts at [] bytes = []
parts at (e ∷ ends) bytes = take (e - at) bytes ∷ parts e ends (drop (e - at) bytes)

-- how many of these a test takes
abbrev pub taken : (List ℕ → Bool) → List (List ℕ) → ℕ
taken test [] = 0
taken test (x ∷ l) = pick (test x) 1 0 + taken test l

module _ (ps es ns : List ℕ) where
  joined_total : (l : List ℕ) → length (joined ps es ns l) ≡ total (λ k. length (path_of ps es ns k)) l
  unfolding joined
  joined_total [] = refl
  joined_total (k ∷ l) = let a = length-append (path_of ps es ns k) (joined ps es ns l) in let i = joined_total l in omega arith

  parts_joined : (at : ℕ) (l more : List ℕ) → parts at (ends_from at ps es ns l) (joined ps es ns l ++ more) ≡ map (path_of ps es ns) l
  unfolding joined ends_from
  parts_joined at [] more = refl
  parts_joined at (k ∷ l) more =
      let path = path_of ps es ns k in
      let n : (at + length path) - at ≡ length path = omega arith in
      let e = append_assoc path (joined ps es ns l) more in
      let a = take_at path (joined ps es ns l ++ more) (length path) refl in
      let b = drop_at path (joined ps es ns l ++ more) (length path) refl in
      rw (n, e, a, b) (ap (λ (r : List (List ℕ)). path ∷ r) (parts_joined (at + length path) l more))

  taken_total : (test : List ℕ → Bool) (l : List ℕ) → taken test (map (path_of ps es ns) l) ≡ total (λ k. pick (test (path_of ps es ns k)) 1 0) l
  taken_total test [] = refl
  taken_total test (k ∷ l) = let i = taken_total test l in omega arith

-- what was given of a table as paths: it was accepted, and they stand at the front, with an end for each
module _ (t : Table) (l out ends : List ℕ) {o e : List ℕ} {n : ℕ} (w : Wrote (paths_said t l (length ends)) out (got tt n) o) (left : e ≡ left_of (ends_said t l (length out)) ends) where
  abbrev bytes : List ℕ
  bytes = joined (rows t) (stops t) t.names l

  abbrev stopped : List ℕ
  stopped = ends_from 0 (rows t) (stops t) t.names l

  abbrev PathsRead : Type 0
  PathsRead = (m : ℕ) × (table_at t ≡ got tt m) × (parts 0 (take (length l) e) o ≡ map (path_of (rows t) (stops t) t.names) l)

  read_paths : PathsRead
  unfolding paths_said ends_said
  read_paths = of (table_at t) refl g.due
    where
      g : Whole (paths_said t l (length ends)) out n o
      g = whole w

      go : (m : ℕ) → table_at t ≡ got tt m → (b : Bool) → leb (length l) (length ends) ≡ b → pick b (says bytes) (no (bare ROOM)) ≡ says g.bs → PathsRead
      go m q false h d = zero_one (cc)
      go m q true h d =
          let same : g.bs ≡ bytes = cc in
          let long = ends_long (rows t) (stops t) t.names l 0 in
          let many = leb-true (length l) (length ends) h in
          let fits : length bytes ≤ length out = omega (arith, g.fits, ap length same) in
          let due : ends_said t l (length out) ≡ says stopped = rw (q, le-leb (length bytes) (length out) fits) in
          let put = (wrote_so {old = ends} {new = e} due (omega arith) (record { answers = refl; leaves = left })).1 in
          let front : take (length l) e ≡ stopped = ap (take (length l)) put ∙ take_at stopped (drop (length stopped) ends) (length l) long in (
            m,
            q,
            ap (λ (x : List ℕ). parts 0 x o) front ∙ ap (parts 0 stopped) (g.left ∙ ap (λ (x : List ℕ). x ++ drop (length x) out) same)
                ∙ parts_joined (rows t) (stops t) t.names 0 l (drop (length bytes) out),
          )

      of : (a : Answer (Unit {0})) → table_at t ≡ a → said_if a (pick (leb (length l) (length ends)) (says bytes) (no (bare ROOM))) ≡ says g.bs → PathsRead
      of (refused why) q d = zero_one (cc)
      of (got u m) q d = go m q (leb (length l) (length ends)) refl d

module _ (t : Table) where
  -- the paths that are written are the walk's, each as often: any test takes as many of the one as of the other. There is one for each live place
  pub same_paths : {out ends o e out' ends' o' e' l : List ℕ} {n m : ℕ} → Walk (rows t) (live (flags t)) l → ViewPaths t out ends (got tt n) o e → AllPaths t out' ends' (got tt m) o' e'
      → (test : List ℕ → Bool) → taken test (parts 0 (take (length l) e) o) ≡ taken test (parts 0 (take (length l) e') o')
  same_paths {out} {ends} {o} {e} {out'} {ends'} {o'} {e'} {l} w p q test =
      let r = read_paths t p.order out ends p.wrote p.left in
      let s = read_paths t q.order out' ends' q.wrote q.left in
      let v = p.viewed r.0 r.1 in
      let u = q.walked s.0 s.1 in
      let c = same_size l p.order (λ k. w.once k ∙ sym (v.once k)) in
      let d = same_size l q.order (λ k. w.once k ∙ sym (u.once k)) in
      let each : (k : ℕ) → times k p.order ≡ times k q.order = λ k. v.once k ∙ sym (u.once k) in
      ap (λ (x : ℕ). taken test (parts 0 (take x e) o)) c ∙ ap (taken test) r.2 ∙ taken_total (rows t) (stops t) t.names test p.order
      ∙ total_same (λ k. pick (test (path_of (rows t) (stops t) t.names k)) 1 0) p.order q.order each
      ∙ sym (ap (λ (x : ℕ). taken test (parts 0 (take x e') o')) d ∙ ap (taken test) s.2 ∙ taken_total (rows t) (stops t) t.names test q.order)

  -- with as much room for bytes and for ends `folder_paths` answers what `paths` answers: so many bytes, or the same refusal
  pub same_room : {out ends o e out' ends' o' e' : List ℕ} (x y : (Result ℕ Refusal)) → length out ≡ length out' → length ends ≡ length ends'
      → ViewPaths t out ends (says_count x) o e → AllPaths t out' ends' (says_count y) o' e' → x ≡ y
  unfolding paths_said answer_of
  same_room {out} {ends} {out' = out'} {ends'} x y f g p q = tells_written x y (p.wrote.answers ∙ of (table_at t) refl ∙ sym q.wrote.answers)
    where
      of : (a : Answer (Unit {0})) → table_at t ≡ a → answer_of (paths_said t p.order (length ends)) out ≡ answer_of (paths_said t q.order (length ends')) out'
      of (refused why) z = rw z
      of (got u n) z =
          let v = p.viewed n z in
          let w = q.walked n z in
          let each : (k : ℕ) → times k p.order ≡ times k q.order = λ k. v.once k ∙ sym (w.once k) in
          let long = same_size p.order q.order each in
          let bytes : length (joined (rows t) (stops t) t.names p.order) ≡ length (joined (rows t) (stops t) t.names q.order) =
          joined_total (rows t) (stops t) t.names p.order ∙ total_same (λ k. length (path_of (rows t) (stops t) t.names k)) p.order q.order each
          ∙ sym (joined_total (rows t) (stops t) t.names q.order) in
          rw (z, long, g) (go (leb (length q.order) (length ends')) bytes)
        where
          go : (b : Bool) → length (joined (rows t) (stops t) t.names p.order) ≡ length (joined (rows t) (stops t) t.names q.order)
              → answer_of (pick b (says (joined (rows t) (stops t) t.names p.order)) (no (bare ROOM))) out
              ≡ answer_of (pick b (says (joined (rows t) (stops t) t.names q.order)) (no (bare ROOM))) out'
          go true h = rw (h, f)
          go false h = refl
