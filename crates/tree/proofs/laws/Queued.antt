-- A queue that begins with a live place and takes at each turn what hangs under the place whose turn it is. It holds a live place at most as often as the way
-- from the root to it holds the first one, so nothing twice; and once every turn is taken just as often: exactly what the first place is above, each once.
-- Assumes nothing.
use mathlib.Core.Path.{◌≡◌, refl, sym, ap, ◌∙◌}
use mathlib.Core.Bool.{Bool, true, false, ◌&&◌}
use mathlib.Core.List.{List, [], ◌∷◌, ◌++◌, append-nil}
use Prim.Native.Nat.{ℕ, zero, suc, ◌+◌, ◌≤◌, ◌<◌}
use native.Mathlib.Nat.{not-suc-le-zero}
use native.Mathlib.Numerals.{add-one}
use native.Mathlib.Omega.{arith}
use borrow.Author.Tests.{eq-eqb, ne_eqb, lt-ltb, le-ltb}
use lib.Dec.{eqb, ltb}
use lib.ListN.{length, get_or, take, drop, set, length-append, length-drop, get_or-append}
use lib.Seq.{sets, sets-eq, take-suc, take_all, take-append-le, take-append_seam, drop-append-add, drop-drop}
use Rattle.layout.specs.Answer.{pick}
use Rattle.layout.specs.Written.{put, Put}
use Rattle.tree.specs.Facts.{Ruled, Marks}
use Rattle.tree.specs.Listed.{times}
use Rattle.tree.specs.Table.{parent}
use Rattle.tree.specs.Kids.{kids}
use Rattle.tree.specs.Way.{way}
use Rattle.tree.proofs.laws.Below.{by_mark, clash, below, below_append, below_not, below_root, below_times}
use Rattle.tree.proofs.laws.Counts.{equal, hit, miss, times_append, times_take, pigeon}
use Rattle.tree.proofs.laws.Ways.{way_root, way_step}

-- ── how often a way holds a place ──

pub flip : (a b : ℕ) → pick {A = ℕ} (eqb a b) 1 0 ≡ pick {A = ℕ} (eqb b a) 1 0
flip a b =
    equal a b
    (λ e. ap (λ (c : Bool). pick {A = ℕ} c 1 0) (eq-eqb a b e ∙ sym (eq-eqb b a (sym e))))
    (λ e. ap (λ (c : Bool). pick {A = ℕ} c 1 0) (ne_eqb a b e ∙ sym (ne_eqb b a (λ z. e (sym z)))))

module _ (ps : List ℕ) (rule : Ruled ps) (y : ℕ) where
  way_first : times y (way ps 0) ≡ times y (0 ∷ [])
  way_first = ap (times y) (way_root ps)

  pub way_on : (x : ℕ) → 0 < x → x < length ps → times y (way ps x) ≡ times y (way ps (parent ps x)) + times y (x ∷ [])
  way_on x s l = ap (times y) (way_step ps rule x s l) ∙ times_append y (way ps (parent ps x)) (x ∷ [])

  past_by : (f x : ℕ) → x < f → x < y → x < length ps → times y (way ps x) ≡ 0
  past_by zero x h j l = absurd (not-suc-le-zero h)
  past_by (suc f) x h j l =
      let z = miss y x [] (λ e. omega arith) in
      equal x 0
      (λ e. rw e (let w = way_first in let z : times y (0 ∷ []) ≡ 0 = miss y 0 [] (λ q. omega arith) in omega arith))
      (λ e. let s : 0 < x = omega arith in
      let r = rule.smaller x s l in
      let w = way_on x s l in
      let i = past_by f (parent ps x) (omega arith) (omega arith) (omega arith) in
      omega arith)

  -- a way holds nothing past its end
  pub way_past : (x : ℕ) → x < y → x < length ps → times y (way ps x) ≡ 0
  way_past x j l = past_by (suc x) x (omega arith) j l

  few_by : (f x : ℕ) → x < f → x < length ps → times y (way ps x) ≤ 1
  few_by zero x h l = absurd (not-suc-le-zero h)
  few_by (suc f) x h l =
      equal x 0
      (λ e. rw (e, way_root ps) (one 0))
      (λ e. let s : 0 < x = omega arith in
      let r = rule.smaller x s l in
      let w = way_on x s l in
      equal y x
      (λ q. let z = way_past (parent ps x) (omega arith) (omega arith) in let o = one x in omega arith)
      (λ q. let z = miss y x [] q in let i = few_by f (parent ps x) (omega arith) (omega arith) in omega arith))
    where
      one : (k : ℕ) → times y (k ∷ []) ≤ 1
      one k = equal y k (λ e. let a = hit y k [] e in omega arith) (λ e. let a = miss y k [] e in omega arith)

  -- and nothing twice
  pub way_few : (x : ℕ) → x < length ps → times y (way ps x) ≤ 1
  way_few x l = few_by (suc x) x (omega arith) l

-- ── the queue ──

-- its first i are done: it is the place that it began with, and then what hangs under those i in turn
pub record Growing (ps : List ℕ) (has : ℕ → Bool) (place i : ℕ) (q : List ℕ) : Type 0 where
  pub fits : i ≤ length q
  pub grows : q ≡ place ∷ below ps has (take i q)

times_at : (q : List ℕ) (j : ℕ) → j < length q → 0 < times (get_or q j 0) q
times_at [] j h = absurd (not-suc-le-zero h)
times_at (x ∷ q) zero h = let a = hit x x q refl in omega arith
times_at (x ∷ q) (suc j) h = let r = times_at q j (omega arith) in omega arith

-- how often what begins with a place and goes on with what hangs under a list holds the root, and another live place
module _ (ps : List ℕ) (rule : Ruled ps) (has : ℕ → Bool) (marks : Marks ps has) (place : ℕ) (l : List ℕ) where
  holds_root : times 0 (place ∷ below ps has l) ≡ times place (way ps 0)
  holds_root = let b = below_root ps rule has marks l in let d = flip 0 place in let w = way_first ps rule place in omega arith

  holds_other : (x : ℕ) → 0 < x → has x ≡ true → times x (place ∷ below ps has l) + times place (way ps (parent ps x)) ≡ times (parent ps x) l + times place (way ps x)
  holds_other x s m =
      let b = below_times ps rule has marks x l s m in
      let d = flip x place in
      let w = way_on ps rule place x s (marks.place x m) in
      omega arith

module _ (ps : List ℕ) (rule : Ruled ps) (has : ℕ → Bool) (marks : Marks ps has) (place : ℕ) (living : has place ≡ true) where
  module _ {i : ℕ} {q : List ℕ} (g : Growing ps has place i q) where
    count_grown : (x : ℕ) → times x q ≡ times x (place ∷ below ps has (take i q))
    count_grown x = ap (times x) g.grows

    -- what is not live does not stand there
    pub not_there : (x : ℕ) → has x ≡ false → times x q ≡ 0
    not_there x e =
        let a = count_grown x in
        let b = miss x place (below ps has (take i q)) (λ z. clash (has place) living (rw z at e)) in
        let d = below_not ps rule has marks x (take i q) e in omega arith

    most_by : (f x : ℕ) → x < f → has x ≡ true → times x q ≤ times place (way ps x)
    most_by zero x h m = absurd (not-suc-le-zero h)
    most_by (suc f) x h m =
        equal x 0
        (λ e. rw e (let a = count_grown 0 in let b = holds_root ps rule has marks place (take i q) in omega arith))
        (λ e. let s : 0 < x = omega arith in
        let a = count_grown x in
        let r = rule.smaller x s (marks.place x m) in
        let b = holds_other ps rule has marks place (take i q) x s m in
        let t = times_take (parent ps x) i q in
        let o = most_by f (parent ps x) (omega arith) (marks.up x s m) in
        omega arith)

    -- no place stands twice
    few : (x : ℕ) → times x q ≤ 1
    few x =
        by_mark (has x)
        (λ m. let a = most_by (suc x) x (omega arith) m in let b = way_few ps rule place x (marks.place x m) in omega arith)
        (λ m. let z = not_there x m in omega arith)

    pub room : length q ≤ length ps
    room = pigeon (length ps) q few (λ x l. by_mark (has x) (λ m. absurd (let h = marks.place x m in omega arith)) (not_there x))

    pub live_there : (j : ℕ) → j < length q → has (get_or q j 0) ≡ true
    live_there j h = by_mark (has (get_or q j 0)) (λ m. m) (λ m. absurd (let a = times_at q j h in let z = not_there (get_or q j 0) m in omega arith))

    module _ (h : i < length q) where
      pub longer : q ++ kids ps has (get_or q i 0) ≡ place ∷ below ps has (take (suc i) q)
      longer =
          let a : take (suc i) q ≡ take i q ++ (get_or q i 0 ∷ []) = take-suc q i 0 h in
          let b = below_append ps has (take i q) (get_or q i 0 ∷ []) in
          let e : q ++ kids ps has (get_or q i 0) ≡ (place ∷ below ps has (take i q)) ++ kids ps has (get_or q i 0) = ap (λ (l : List ℕ). l ++ kids ps has (get_or q i 0)) g.grows in
          e ∙ ap (λ (l : List ℕ). place ∷ l) (sym (rw a (b ∙ ap (λ (l : List ℕ). below ps has (take i q) ++ l) (append-nil (kids ps has (get_or q i 0))))))

      turn : Growing ps has place (i + 1) (q ++ kids ps has (get_or q i 0))
      turn =
          let t : take (i + 1) (q ++ kids ps has (get_or q i 0)) ≡ take (suc i) q = rw (add-one i) (take-append-le (suc i) q (kids ps has (get_or q i 0)) (omega arith)) in
          record {
            fits = rw length-append (omega arith);
            grows = longer ∙ ap (λ (l : List ℕ). place ∷ below ps has l) (sym t);
          }

    -- every turn is taken
    pub closed : length q ≤ i → q ≡ place ∷ below ps has q
    closed h = g.grows ∙ ap (λ (l : List ℕ). place ∷ below ps has l) (take_all i q h)

-- where a queue is the place and what hangs under each of its places, a live place stands in it as often as the place stands on its way
module _ (ps : List ℕ) (rule : Ruled ps) (has : ℕ → Bool) (marks : Marks ps has) (place : ℕ) (q : List ℕ) (closed : q ≡ place ∷ below ps has q) where
  fallen_by : (f x : ℕ) → x < f → has x ≡ true → times x q ≡ times place (way ps x)
  fallen_by zero x h m = absurd (not-suc-le-zero h)
  fallen_by (suc f) x h m =
      equal x 0
      (λ e. rw e (ap (times 0) closed ∙ holds_root ps rule has marks place q))
      (λ e. let s : 0 < x = omega arith in
      let a : times x q ≡ times x (place ∷ below ps has q) = ap (times x) closed in
      let r = rule.smaller x s (marks.place x m) in
      let b = holds_other ps rule has marks place q x s m in
      let o = fallen_by f (parent ps x) (omega arith) (marks.up x s m) in
      omega arith)

  pub fallen : (x : ℕ) → has x ≡ true → times x q ≡ times place (way ps x)
  fallen x m = fallen_by (suc x) x (omega arith) m

pub one_or_none : (n : ℕ) → n ≤ 1 → n ≡ pick {A = ℕ} (ltb 0 n) 1 0
one_or_none n l = equal n 0 (λ e. e ∙ sym (ap (λ (b : Bool). pick {A = ℕ} b 1 0) (le-ltb 0 n (omega arith)))) (λ e. let o : n ≡ 1 = omega arith in o ∙ sym (ap (λ (b : Bool). pick {A = ℕ} b 1 0) (lt-ltb 0 n (omega arith))))

-- so a queue of which every turn is taken holds exactly the live places that have the place on their way, each once
pub fallen_once : (ps : List ℕ) (rule : Ruled ps) (has : ℕ → Bool) (marks : Marks ps has) (place : ℕ) → has place ≡ true → {i : ℕ} {q : List ℕ} → Growing ps has place i q → length q ≤ i
    → (x : ℕ) → times x q ≡ pick (has x && ltb 0 (times place (way ps x))) 1 0
fallen_once ps rule has marks place living {i} {q} g h x =
    by_mark (has x)
    (λ m. let a = fallen ps rule has marks place q (closed ps rule has marks place living g h) x m in
    let b = way_few ps rule place x (marks.place x m) in
    rw m (a ∙ one_or_none (times place (way ps x)) b))
    (λ m. rw m (not_there ps rule has marks place living g x m))

-- ── the queue in memory ──

-- it stands at the front of `now`, and behind it is what was in `old`
pub record Queue (ps : List ℕ) (has : ℕ → Bool) (place : ℕ) (q old now : List ℕ) (n i : ℕ) : Type 0 where
  pub growing : Growing ps has place i q
  pub places : now ≡ q ++ drop (length q) old
  pub count : n ≡ length q

put_sets : {old l new : List ℕ} {n m : ℕ} → Put old n l new m → new ≡ sets old n l
unfolding put
put_sets p = p.bytes

-- a run stored behind the front
stored : (q k old : List ℕ) → length q + length k ≤ length old
    → sets (q ++ drop (length q) old) (length q) k ≡ (q ++ k) ++ drop (length (q ++ k)) old
stored q k old h =
    let a : length (q ++ drop (length q) old) ≡ length old = simp (length-append, length-drop) (omega arith) in
    sets-eq k (q ++ drop (length q) old) (length q) (omega arith)
    ∙ rw (take-append_seam q (drop (length q) old), drop-append-add q (drop (length q) old) (length k), drop-drop (length k) (length q) old, length-append q k)

module _ (ps : List ℕ) (rule : Ruled ps) (has : ℕ → Bool) (marks : Marks ps has) {place : ℕ} (living : has place ≡ true) where
  pub queue_start : (old : List ℕ) → 0 < length old → Queue ps has place (place ∷ []) (set old 0 place) (set old 0 place) 1 0
  queue_start [] h = absurd (omega arith)
  queue_start (x ∷ old) h = record { growing = record { fits = omega arith; grows = refl }; places = refl; count = refl }

  module _ {q old now : List ℕ} {n i : ℕ} (w : Queue ps has place q old now n i) where
    few_of : length q ≤ length ps
    few_of = room ps rule has marks place living w.growing

    queue_at : i < n → get_or now i 0 ≡ get_or q i 0
    queue_at h = let e = w.count in rw w.places (get_or-append q (drop (length q) old) 0 i (omega arith))

    pub queue_live : i < n → has (get_or now i 0) ≡ true
    queue_live h = rw (queue_at h) (live_there ps rule has marks place living w.growing i (let e = w.count in omega arith))

    pub queue_place : i < n → get_or now i 0 < length ps
    queue_place h = marks.place (get_or now i 0) (queue_live h)

    pub queue_fits : n ≤ length ps
    queue_fits = let e = w.count in let r = few_of in omega arith

    pub queue_long : length ps ≤ length old → length now ≡ length old
    queue_long f = let r = few_of in ap length w.places ∙ simp (length-append, length-drop) (omega arith)

    module _ (h : i < n) where
      next : Growing ps has place (i + 1) (q ++ kids ps has (get_or q i 0))
      next = turn ps rule has marks place living w.growing (let e = w.count in omega arith)

      pub queue_room : n + length (kids ps has (get_or now i 0)) ≤ length ps
      queue_room =
          rw (queue_at h)
          (let r = room ps rule has marks place living next in
          let l = length-append q (kids ps has (get_or q i 0)) in
          let e = w.count in
          omega arith)

      pub queue_turn : {new : List ℕ} {m : ℕ} → length ps ≤ length old → Put now n (kids ps has (get_or now i 0)) new m → Queue ps has place (q ++ kids ps has (get_or q i 0)) old new m (i + 1)
      queue_turn {new} {m} f a =
          let e = w.count in
          let r = room ps rule has marks place living next in
          let k = kids ps has (get_or q i 0) in
          let l : length (q ++ k) ≡ length q + length k = length-append q k in
          let s : kids ps has (get_or now i 0) ≡ k = ap (kids ps has) (queue_at h) in
          let z : length (kids ps has (get_or now i 0)) ≡ length k = ap length s in
          let c = a.place in
          record {
            growing = next;
            places = put_sets a ∙ ap (λ (x : List ℕ). sets now n x) s ∙ ap (λ (x : List ℕ). sets x n k) w.places
                ∙ ap (λ (x : ℕ). sets (q ++ drop (length q) old) x k) e ∙ stored q k old (omega arith);
            count = omega arith;
          }
