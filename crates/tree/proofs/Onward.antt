-- All paths by copying: what was put stands, so the path of a place is its parent's, which is found where it was put, the slash, and the name.
-- Assumes nothing.
use mathlib.Core.Path.{◌≡◌, refl, sym, ap, subst, ◌∙◌}
use mathlib.Core.Bool.{Bool, true, false}
use mathlib.Core.List.{List, [], ◌∷◌, ◌++◌, append_assoc}
use Prim.Native.Nat.{ℕ, zero, suc, ◌+◌, ◌≤◌, ◌<◌}
use native.Mathlib.Numerals.{add-one}
use native.Mathlib.Omega.{arith}
use lib.ListN.{length, get_or, take, drop, set, length-append, take-append-drop}
use lib.Seq.{sets-eq, take-suc, take_all, drop-cons, take_at, drop_at, length-take-le, get_or-set_same, get_or-set_other}
use Rattle.layout.specs.Answer.{pick}
use Rattle.layout.specs.Written.{put, Put}
use Rattle.tree.specs.Facts.{Ruled, Marks, Long, Stands, Above, All}
use Rattle.tree.specs.Listed.{times, Every, none, more, Sorted, done, next, Listed}
use Rattle.tree.specs.Table.{parent}
use Rattle.tree.specs.Way.{way, depth, Before, higher}
use Rattle.tree.specs.Path.{path_of}
use Rattle.tree.proofs.laws.Counts.{equal, hit, miss, times_append, every_at, every_map, every_append}
use Rattle.tree.proofs.laws.Ways.{way_step}
use Rattle.tree.proofs.Copied.{within_front}

-- ── the parent stands before ──

sorted_drop : {B : ℕ → ℕ → Type 0} {l : List ℕ} (i : ℕ) → Sorted B l → Sorted B (drop i l)
sorted_drop zero s = s
sorted_drop (suc i) done = done
sorted_drop (suc i) (next f s) = sorted_drop i s

first_before : {B : ℕ → ℕ → Type 0} {x : ℕ} {m : List ℕ} → Sorted B (x ∷ m) → (p : ℕ) → 0 < times p m → B x p
first_before (next f s) p h = every_at p f h

pub deeper : (ps : List ℕ) → Ruled ps → (k : ℕ) → 0 < k → k < length ps → Before ps (parent ps k) k
unfolding depth
deeper ps rule k s l =
    higher (let e = ap length (way_step ps rule k s l) in let a = length-append (way ps (parent ps k)) (k ∷ []) in omega arith)

live_if : (b : Bool) (n : ℕ) → 0 < n → n ≡ pick b 1 0 → b ≡ true
live_if true n h e = refl
live_if false n h e = absurd (omega arith)

once_if : (b : Bool) (n : ℕ) → b ≡ true → n ≡ pick b 1 0 → n ≡ 1
once_if b n h e = e ∙ rw h

-- in any order in which no two are each before the other, and a parent is before its children
pub above_it : (ps : List ℕ) → Ruled ps → {has : ℕ → Bool} → Marks ps has → {B : ℕ → ℕ → Type 0} → ((a b : ℕ) → B a b → B b a → ⊥) → ((k : ℕ) → 0 < k → k < length ps → B (parent ps k) k)
    → {l : List ℕ} → Listed has B l → (i : ℕ) → i < length l → (get_or l i 0 ≡ 0 → ⊥) → 0 < times (parent ps (get_or l i 0)) (take i l)
above_it ps rule {has} marks {B} not_both up_first {l} w i h ne =
    let k = get_or l i 0 in
    let p = parent ps (get_or l i 0) in
    let c = drop-cons l i 0 h in
    let parts : (q : ℕ) → times q l ≡ times q (take i l) + times q (drop i l) = λ q. ap (times q) (sym (take-append-drop i l)) ∙ times_append q (take i l) (drop i l) in
    let self : times k (drop i l) ≡ suc (times k (drop (suc i) l)) = ap (times k) c ∙ hit k k (drop (suc i) l) refl in
    let mine = live_if (has k) (times k l) (let a = parts k in omega arith) (w.once k) in
    let s : 0 < k = omega arith in
    let there = marks.place k mine in
    let less = rule.smaller k s there in
    let up = once_if (has p) (times p l) (marks.up k s mine) (w.once p) in
    let other : times p (drop i l) ≡ times p (drop (suc i) l) = ap (times p) c ∙ miss p k (drop (suc i) l) (λ e. omega arith) in
    let sorted : Sorted B (k ∷ drop (suc i) l) = subst (λ (m : List ℕ). Sorted B m) c (sorted_drop i w.order) in
    let both = parts p in
    equal (times p (drop (suc i) l)) 0
    (λ z. omega arith)
    (λ z. absurd (not_both p k (up_first k s there) (first_before sorted p (omega arith))))

-- ── what holds of the first i, and of one more ──

pub one_on : {P Q : ℕ → Type 0} (l : List ℕ) (i : ℕ) → Every P (take i l) → i < length l → ((k : ℕ) → P k → Q k) → Q (get_or l i 0) → Every Q (take (i + 1) l)
one_on {P} {Q} l i e h f q =
    let t : take (i + 1) l ≡ take i l ++ (get_or l i 0 ∷ []) = rw add-one (take-suc l i 0 h) in
    rw t (every_append (every_map f e) (more q none))

pub all_on : {P : ℕ → Type 0} (l : List ℕ) (i : ℕ) → Every P (take i l) → length l ≤ i → All P l
all_on {P} l i e h = record { each = rw (take_all i l h) at e }

pub up_of : {P : ℕ → Type 0} (ps l : List ℕ) (i : ℕ) → Every P (take i l) → ((get_or l i 0 ≡ 0 → ⊥) → 0 < times (parent ps (get_or l i 0)) (take i l)) → Above ps P (get_or l i 0)
up_of ps l i e f = record { up = λ z. every_at (parent ps (get_or l i 0)) e (f z) }

pub up_all : {P : ℕ → Type 0} (ps l : List ℕ) (i : ℕ) → All P l → ((get_or l i 0 ≡ 0 → ⊥) → 0 < times (parent ps (get_or l i 0)) (take i l)) → Above ps P (get_or l i 0)
up_all ps l i a f = record { up = λ z. every_at (parent ps (get_or l i 0)) a.each (let t = times_append (parent ps (get_or l i 0)) (take i l) (drop i l) in let e : times (parent ps (get_or l i 0)) (take i l ++ drop i l) ≡ times (parent ps (get_or l i 0)) l = ap (times (parent ps (get_or l i 0))) (take-append-drop i l) in let g = f z in omega arith) }

-- ── lengths ──

pub long_on : (ps es ns lens : List ℕ) (p n : ℕ) → n ≡ length (path_of ps es ns p) → p < length lens → (k : ℕ) → Long ps es ns lens k → Long ps es ns (set lens p n) k
long_on ps es ns lens p n e h k l =
    equal k p
    (λ q. record { size = rw q (get_or-set_same lens p n 0 h ∙ e) })
    (λ q. record { size = get_or-set_other lens p k n 0 q ∙ l.size })

pub long_new : (ps es ns lens : List ℕ) (p n : ℕ) → n ≡ length (path_of ps es ns p) → p < length lens → Long ps es ns (set lens p n) p
long_new ps es ns lens p n e h = record { size = get_or-set_same lens p n 0 h ∙ e }

-- ── what was put stands ──

put_parts : {out bs out' : List ℕ} {o o' : ℕ} → Put out o bs out' o' → o + length bs ≤ length out → out' ≡ take o out ++ (bs ++ drop (o + length bs) out)
unfolding put
put_parts {out} {bs} {out'} {o} p h = p.bytes ∙ sets-eq bs out o h ∙ append_assoc (take o out) bs (drop (o + length bs) out)

module _ (ps es ns starts : List ℕ) {out out' : List ℕ} (p : ℕ) {o o' : ℕ} (w : Put out o (path_of ps es ns p) out' o') (room : o + length (path_of ps es ns p) ≤ length out) (there : p < length starts) where
  front_same : take o out' ≡ take o out
  front_same =
      let t = length-take-le o out (omega arith) in
      rw (put_parts w room) (take_at (take o out) (path_of ps es ns p ++ drop (o + length (path_of ps es ns p)) out) o t)

  pub stands_new : Stands ps es ns (set starts p o) out' o' p
  stands_new =
      let t = length-take-le o out (omega arith) in
      let s = get_or-set_same starts p o 0 there in
      let e = w.place in
      record {
        before = omega arith;
        bytes = rw (s, put_parts w room, drop_at (take o out) (path_of ps es ns p ++ drop (o + length (path_of ps es ns p)) out) o t) (take_at (path_of ps es ns p) (drop (o + length (path_of ps es ns p)) out) (length (path_of ps es ns p)) refl);
      }

  pub stands_on : (k : ℕ) → Stands ps es ns starts out o k → Stands ps es ns (set starts p o) out' o' k
  stands_on k s =
      equal k p
      (λ q. subst (λ (x : ℕ). Stands ps es ns (set starts p o) out' o' x) (sym q) stands_new)
      (λ q. let g = get_or-set_other starts p k o 0 q in
      let e = w.place in
      let b = s.before in
      record {
        before = omega arith;
        bytes = rw g (within_front o (get_or starts k 0) (length (path_of ps es ns k)) out' b ∙ ap (λ (x : List ℕ). take (length (path_of ps es ns k)) (drop (get_or starts k 0) x)) front_same
            ∙ sym (within_front o (get_or starts k 0) (length (path_of ps es ns k)) out b) ∙ s.bytes);
      })

-- the parent's path put again
pub copied_path : {ps es ns lens starts out out' : List ℕ} {p o a : ℕ} → Stands ps es ns starts out o p → Long ps es ns lens p → Put out o (take (get_or lens p 0) (drop (get_or starts p 0) out)) out' a
    → Put out o (path_of ps es ns p) out' a
copied_path {ps} {es} {ns} {lens} {starts} {out} {out'} {p} {o} {a} s l w =
    let e : take (get_or lens p 0) (drop (get_or starts p 0) out) ≡ path_of ps es ns p = ap (λ (n : ℕ). take n (drop (get_or starts p 0) out)) l.size ∙ s.bytes in
    subst (λ (bs : List ℕ). Put out o bs out' a) e w
