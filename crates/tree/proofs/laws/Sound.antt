-- What an accepted table keeps: the test of its rule as facts, by induction over the entries.
-- Assumes nothing.
use mathlib.Core.Path.{◌≡◌, refl, sym, ◌∙◌}
use mathlib.Core.Bool.{Bool, true, false, ◌&&◌, and-eq-true_iff}
use mathlib.Core.List.{List, [], ◌∷◌}
use Prim.Native.Nat.{ℕ, zero, suc, ◌+◌, ◌≤◌, ◌<◌}
use native.Mathlib.Nat.{add-zero, zero-add, add-suc, suc-add, not-suc-le-zero}
use native.Mathlib.Omega.{arith}
use borrow.Author.Tests.{ne_eqb, eqb-true, ltb-true, leb-true, lt-ltb, le-ltb}
use lib.ListN.{length, get_or, take, drop}
use lib.Dec.{ltb, leb, eqb}
use lib.Seq.{length-take-le, get_or-take}
use Rattle.layout.specs.Answer.{got, refused, bare, pick}
use Rattle.layout.specs.Refusals.{TABLE}
use Rattle.layout.proofs.laws.Numbers.{zero_one}
use Rattle.tree.specs.Facts.{Ruled, Rising, Kept, Marks}
use Rattle.tree.specs.Table.{Table, rows, stops, flags, live, upheld, upheld_from, marks_ok, lists_ok, parent, kept, kept_from, parents_ok, rises_from, table_ok, names_from, table_at}

-- ── the parent entries ──

kept_lt : (i p : ℕ) → 0 < i → kept i p ≡ true → p < i
kept_lt i p h e = ltb-true p i (rw (ne_eqb i 0 (λ z. omega arith)) at e)

all : (ps : List ℕ) (i : ℕ) → kept_from i ps ≡ true → (k : ℕ) → 0 < i + k → k < length ps → get_or ps k 0 < i + k
unfolding kept_from
all [] i e k h l = absurd (not-suc-le-zero l)
all (p ∷ ps) i e zero h l = rw add-zero (kept_lt i p (omega arith) ((and-eq-true_iff (kept i p) _).0 e).0)
all (p ∷ ps) i e (suc k) h l =
    let r = all ps (suc i) ((and-eq-true_iff (kept i p) (kept_from (suc i) ps)).0 e).1 k (omega arith) (omega arith) in
    omega arith

pub ruled : (ps : List ℕ) → parents_ok ps ≡ true → Ruled ps
ruled ps e =
    let a = (and-eq-true_iff (ltb 0 (length ps) && leb (length ps) 1024) (kept_from 0 ps)).0 e in
    let b = (and-eq-true_iff (ltb 0 (length ps)) (leb (length ps) 1024)).0 a.0 in
    record {
      some = ltb-true 0 (length ps) b.0;
      few = leb-true (length ps) 1024 b.1;
      smaller = λ k h l. rw zero-add at (all ps 0 a.1 k (omega arith) l);
    }

-- the root's entry is 0
pub rooted : (ps : List ℕ) → parents_ok ps ≡ true → parent ps 0 ≡ 0
unfolding kept_from
rooted [] e = refl
rooted (p ∷ ps) e =
    let a = (and-eq-true_iff (ltb 0 (length (p ∷ ps)) && leb (length (p ∷ ps)) 1024) (kept_from 0 (p ∷ ps))).0 e in
    eqb-true p 0 ((and-eq-true_iff (eqb p 0) (kept_from 1 ps)).0 a.1).0

-- ── the live marks ──

up_each : (ps ms : List ℕ) (i : ℕ) → upheld_from i ps ms ≡ true → (k : ℕ) → k < length ps → live ms (i + k) ≡ true → live ms (get_or ps k 0) ≡ true
unfolding upheld_from
up_each [] ms i e k l h = absurd (not-suc-le-zero l)
up_each (p ∷ ps) ms i e zero l h =
    let a = ((and-eq-true_iff (upheld ms i p) (upheld_from (suc i) ps ms)).0 e).0 in
    let g : live ms i ≡ true = rw add-zero at h in
    rw g at a
up_each (p ∷ ps) ms i e (suc k) l h =
    up_each ps ms (suc i) ((and-eq-true_iff (upheld ms i p) (upheld_from (suc i) ps ms)).0 e).1 k (omega arith) (rw (add-suc, ← suc-add) at h)

-- a mark is of a place
pub marked_there : (ms : List ℕ) (k : ℕ) → live ms k ≡ true → k < length ms
marked_there [] k e = zero_one (cc)
marked_there (m ∷ ms) zero e = omega arith
marked_there (m ∷ ms) (suc k) e = let h = marked_there ms k e in omega arith

pub marked : (ps ms : List ℕ) → length ms ≡ length ps → marks_ok ps ms ≡ true → Marks ps (live ms)
marked ps ms l e =
    let a = (and-eq-true_iff (live ms 0) (upheld_from 1 (drop 1 ps) ms)).0 e in
    record { root = a.0; place = λ k h. let t = marked_there ms k h in omega arith; up = λ k s h. up ps k s l a.1 h }
  where
    up : (ps : List ℕ) (k : ℕ) → 0 < k → length ms ≡ length ps → upheld_from 1 (drop 1 ps) ms ≡ true → live ms k ≡ true → live ms (parent ps k) ≡ true
    up ps zero s l a h = absurd (omega arith)
    up [] (suc k) s l a h = absurd (let t = marked_there ms (suc k) h in omega arith)
    up (p ∷ ps) (suc k) s l a h = let t = marked_there ms (suc k) h in up_each ps ms 1 a k (omega arith) (rw (suc-add, zero-add) h)

-- ── the ends of the names ──

each : (from : ℕ) (es : List ℕ) (size : ℕ) → rises_from from es size ≡ true → (k : ℕ) → k < length es → (get_or (from ∷ es) k 0 ≤ get_or es k 0) × (get_or es k 0 ≤ size)
unfolding rises_from
each from [] size e k h = absurd (not-suc-le-zero h)
each from (x ∷ es) size e zero h =
    let a = ((and-eq-true_iff (leb from x && leb x size) (rises_from x es size)).0 e).0 in
    let b = (and-eq-true_iff (leb from x) (leb x size)).0 a in
    (leb-true from x b.0, leb-true x size b.1)
each from (x ∷ es) size e (suc k) h =
    each x es size ((and-eq-true_iff (leb from x && leb x size) (rises_from x es size)).0 e).1 k (omega arith)

pub rising : (es : List ℕ) (size : ℕ) → rises_from 0 es size ≡ true → Rising es size
rising es size e = record { rises = λ k h. (each 0 es size e k h).0; within = λ k h. (each 0 es size e k h).1 }

-- ── the table ──

-- what the rule gives of a table
pub record Sound (t : Table) : Type 0 where
  pub kept : Kept (rows t) (stops t) t.names
  pub root : parent (rows t) 0 ≡ 0
  pub marks : Marks (rows t) (live (flags t))
  pub few : t.count ≤ 1024
  pub handled : length t.handles ≡ 1024
  pub parented : length t.parents ≡ 1024
  pub ended : length t.ends ≡ 1024
  pub flagged : length t.marks ≡ 1024

-- a list of 1,024 places has one below the count
pub cut : (n : ℕ) (l : List ℕ) → length l ≡ 1024 → n ≤ 1024 → length (take n l) ≡ n
cut n l e h = length-take-le n l (omega arith)

module _ {t : Table} (s : Sound t) where
  pub rows_long : t.count ≡ length (rows t)
  rows_long = sym (cut t.count t.parents s.parented s.few)

  pub stops_long : t.count ≡ length (stops t)
  stops_long = sym (cut t.count t.ends s.ended s.few)

  pub marks_long : t.count ≡ length (flags t)
  marks_long = sym (cut t.count t.marks s.flagged s.few)

  pub even : length (flags t) ≡ length (rows t)
  even = sym marks_long ∙ rows_long

-- a place is live exactly if it is below the count and its mark is not 0
dead : (b : Bool) → (b ≡ true → ⊥) → b ≡ false
dead true f = absurd (f refl)
dead false f = refl

module _ {t : Table} (s : Sound t) {k : ℕ} where
  pub behind : t.count ≤ k → live (flags t) k ≡ false
  behind h = dead (live (flags t) k) (λ e. let j = marked_there (flags t) k e in let m = marks_long s in omega arith)

  pub ended_at : k < t.count → get_or t.marks k 0 ≡ 0 → live (flags t) k ≡ false
  ended_at h z = le-ltb 0 (get_or (flags t) k 0) (let g = get_or-take t.count t.marks k 0 h in omega arith)

  pub live_at : k < t.count → (get_or t.marks k 0 ≡ 0 → ⊥) → live (flags t) k ≡ true
  live_at h z = lt-ltb 0 (get_or (flags t) k 0) (let g = get_or-take t.count t.marks k 0 h in omega arith)

pub listed : (hs ps es ms : List ℕ) → lists_ok hs ps es ms ≡ true → (length hs ≡ 1024) × (length ps ≡ 1024) × (length es ≡ 1024) × (length ms ≡ 1024)
listed hs ps es ms e =
    let g = (and-eq-true_iff (eqb (length hs) 1024 && eqb (length ps) 1024 && eqb (length es) 1024) _).0 e in
    let h = (and-eq-true_iff (eqb (length hs) 1024 && eqb (length ps) 1024) _).0 g.0 in
    let i = (and-eq-true_iff (eqb (length hs) 1024) _).0 h.0 in
    (eqb-true (length hs) 1024 i.0, eqb-true (length ps) 1024 i.1, eqb-true (length es) 1024 h.1, eqb-true (length ms) 1024 g.1)

pub sound : (t : Table) → table_ok t ≡ true → Sound t
unfolding table_ok
sound t e =
    let a = (and-eq-true_iff (lists_ok t.handles t.parents t.ends t.marks && leb t.count 1024 && parents_ok (rows t) && rises_from 0 (stops t) (length t.names)) _).0 e in
    let b = (and-eq-true_iff (lists_ok t.handles t.parents t.ends t.marks && leb t.count 1024 && parents_ok (rows t)) _).0 a.0 in
    let d = (and-eq-true_iff (lists_ok t.handles t.parents t.ends t.marks && leb t.count 1024) _).0 b.0 in
    let f = (and-eq-true_iff (lists_ok t.handles t.parents t.ends t.marks) _).0 d.0 in
    let g = listed t.handles t.parents t.ends t.marks f.0 in
    let few = leb-true t.count 1024 f.1 in
    let p = g.1 in
    let n = g.2 in
    let m = g.3 in
    let cp = cut t.count t.parents p few in
    let cn = cut t.count t.ends n few in
    let cm = cut t.count t.marks m few in
    record {
      kept = record { ruling = ruled (rows t) d.1; ended = omega arith; spaced = rising (stops t) (length t.names) b.1 };
      root = rooted (rows t) d.1;
      marks = marked (rows t) (flags t) (omega arith) a.1;
      few = few;
      handled = g.0;
      parented = p;
      ended = n;
      flagged = m;
    }

-- an accepted table keeps the rule
pub accepted : (t : Table) {n : ℕ} → got tt n ≡ table_at t → Sound t
unfolding table_at
accepted t {n} e = sound t (go (table_ok t) e)
  where
    go : (b : Bool) → got tt n ≡ pick b (names_from 0 (length (stops t)) (stops t) t.names) (refused (bare TABLE)) → b ≡ true
    go true e = refl
    go false e = zero_one (cc)
