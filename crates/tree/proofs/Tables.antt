-- The table's rule as a test that goes entry by entry, so that a loop may carry "what is left of the test is the test". (laws/Sound has the facts that it gives.)
-- Assumes nothing.
use mathlib.Core.Path.{◌≡◌, refl, sym, ◌∙◌}
use mathlib.Core.Bool.{Bool, true, false, ◌&&◌, and-eq-true_iff}
use mathlib.Core.List.{List, [], ◌∷◌}
use Prim.Native.Nat.{ℕ, zero, suc, ◌+◌, ◌-◌, ◌≤◌, ◌<◌}
use native.Mathlib.Nat.{add-zero, zero-add, add-suc, suc-add, not-suc-le-zero}
use native.Mathlib.Numerals.{add-one}
use Rattle.std.specs.Prelude.{◌↔◌}
use native.Mathlib.Omega.{arith}
use borrow.Author.Tests.{lt-ltb, le-ltb, le-leb, lt-leb}
use lib.ListN.{length, get_or, take, drop, drop_of_length-le}
use lib.Dec.{leb}
use lib.Seq.{drop-cons}
use Rattle.layout.specs.Answer.{Told, got, refused, bare}
use Rattle.layout.proofs.laws.Reading.{follow, stop}
use Rattle.layout.specs.Refusals.{TABLE}
use Rattle.tree.specs.Facts.{Ruled}
use Rattle.tree.specs.Table.{Table, rows, stops, flags, upheld, upheld_from, marks_ok, lists_ok, kept, kept_from, parents_ok, rises_from, start_of, end_of, table_ok, name_at, names_from, table_at}
use Rattle.tree.proofs.laws.Ruled.{kept_all}
use Rattle.tree.proofs.laws.Sound.{ruled, cut, listed}

-- ── the parent entries ──

kept_each : (i : ℕ) (ps : List ℕ) → kept_from i ps ≡ true → (k : ℕ) → k < length ps → kept (i + k) (get_or ps k 0) ≡ true
unfolding kept_from
kept_each i [] e k h = absurd (not-suc-le-zero h)
kept_each i (p ∷ ps) e zero h = rw add-zero ((and-eq-true_iff (kept i p) (kept_from (suc i) ps)).0 e).0
kept_each i (p ∷ ps) e (suc k) h = rw (add-suc, ← suc-add) (kept_each (suc i) ps ((and-eq-true_iff (kept i p) (kept_from (suc i) ps)).0 e).1 k (omega arith))

-- a test that says whether all are kept
pub kept_said : (ps : List ℕ) (b : Bool) → (b ≡ true ↔ ((k : ℕ) → k < length ps → kept k (get_or ps k 0) ≡ true)) → b ≡ kept_from 0 ps
kept_said ps b e = same b (kept_from 0 ps) (λ t. kept_all ps (e.0 t)) (λ t. e.1 (λ k h. rw zero-add at (kept_each 0 ps t k h)))
  where
    same : (b d : Bool) → (b ≡ true → d ≡ true) → (d ≡ true → b ≡ true) → b ≡ d
    same true d f g = sym (f refl)
    same false true f g = g refl
    same false false f g = refl

-- ── the live marks ──

module _ (k : ℕ) (ps ms : List ℕ) (h : k < length ps) where
  pub upheld_no : upheld ms k (get_or ps k 0) ≡ false → false ≡ upheld_from k (drop k ps) ms
  unfolding upheld_from
  upheld_no e = rw (drop-cons ps k 0, e)

  pub upheld_on : upheld ms k (get_or ps k 0) ≡ true → upheld_from (k + 1) (drop (k + 1) ps) ms ≡ upheld_from k (drop k ps) ms
  unfolding upheld_from
  upheld_on e = rw (add-one, drop-cons ps k 0, e)

pub upheld_end : (k : ℕ) (ps ms : List ℕ) → length ps ≤ k → true ≡ upheld_from k (drop k ps) ms
unfolding upheld_from
upheld_end k ps ms h = rw (drop_of_length-le ps)

-- ── the ends of the names ──

module _ (from k : ℕ) (es : List ℕ) (size : ℕ) (h : k < length es) where
  pub rises_no : (leb from (get_or es k 0) && leb (get_or es k 0) size) ≡ false → false ≡ rises_from from (drop k es) size
  unfolding rises_from
  rises_no e = rw (drop-cons es k 0, e)

  pub rises_on : (leb from (get_or es k 0) && leb (get_or es k 0) size) ≡ true → rises_from (get_or es k 0) (drop (k + 1) es) size ≡ rises_from from (drop k es) size
  unfolding rises_from
  rises_on e = rw (add-one, drop-cons es k 0, e)

pub rises_end : (from k : ℕ) (es : List ℕ) (size : ℕ) → length es ≤ k → true ≡ rises_from from (drop k es) size
unfolding rises_from
rises_end from k es size h = rw (drop_of_length-le es)

-- ── the names ──

-- where `from` is the start, the part up to the end is the name
module _ (k : ℕ) (es ns : List ℕ) (h : k < length es) (from : ℕ) (start : from ≡ start_of es k) where
  pub names_stop : (f : Told) → refused f ≡ name_at (take (end_of es k - from) (drop from ns)) → refused f ≡ names_from k (length es - k) es ns
  unfolding names_from
  names_stop f e =
      let m : length es - k ≡ suc (length es - suc k) = omega arith in
      rw (m, ← start) (stop _ e)

  pub names_on : (n : ℕ) → got tt n ≡ name_at (take (end_of es k - from) (drop from ns)) → names_from (k + 1) (length es - (k + 1)) es ns ≡ names_from k (length es - k) es ns
  unfolding names_from
  names_on n e =
      let m : length es - k ≡ suc (length es - suc k) = omega arith in
      rw (add-one, m, ← start) (follow _ e refl)

pub names_end : (k : ℕ) (es ns : List ℕ) → length es ≤ k → got tt k ≡ names_from k (length es - k) es ns
unfolding names_from
names_end k es ns h = let m : length es - k ≡ 0 = omega arith in rw m

-- ── the table ──

-- each test of the rule, in the order of the code
module _ (t : Table) where
  pub no_lists : lists_ok t.handles t.parents t.ends t.marks ≡ false → false ≡ table_ok t
  unfolding table_ok
  no_lists e = rw e

  module _ (a : lists_ok t.handles t.parents t.ends t.marks ≡ true) where
    pub over : 1024 < t.count → false ≡ table_ok t
    unfolding table_ok
    over h = rw (a, lt-leb t.count 1024 h)

    module _ (h : t.count ≤ 1024) where
      counted : (length (rows t) ≡ t.count)
      counted = cut t.count t.parents (listed t.handles t.parents t.ends t.marks a).1 h

      pub none : t.count ≡ 0 → false ≡ table_ok t
      unfolding table_ok
      none z = rw (a, le-leb t.count 1024 h, le-ltb 0 (length (rows t)) (let n = counted in omega arith))

      module _ (s : t.count ≡ 0 → ⊥) where
        parents_is : parents_ok (rows t) ≡ kept_from 0 (rows t)
        parents_is = let n = counted in rw (lt-ltb 0 (length (rows t)) (omega arith), le-leb (length (rows t)) 1024 (omega arith))

        pub no_parents : kept_from 0 (rows t) ≡ false → false ≡ table_ok t
        unfolding table_ok
        no_parents e = let f = parents_is ∙ e in rw (a, le-leb t.count 1024 h, f)

        module _ (b : kept_from 0 (rows t) ≡ true) where
          pub rule_of : Ruled (rows t)
          rule_of = ruled (rows t) (parents_is ∙ b)

          pub flags_long : length (flags t) ≡ length (rows t)
          flags_long = cut t.count t.marks (listed t.handles t.parents t.ends t.marks a).3 h ∙ sym counted

          pub no_ends : rises_from 0 (stops t) (length t.names) ≡ false → false ≡ table_ok t
          unfolding table_ok
          no_ends e = let f = parents_is ∙ b in rw (a, le-leb t.count 1024 h, f, e)

          pub by_marks : rises_from 0 (stops t) (length t.names) ≡ true → marks_ok (rows t) (flags t) ≡ table_ok t
          unfolding table_ok
          by_marks e = let f = parents_is ∙ b in rw (a, le-leb t.count 1024 h, f, e)

pub table_no : (t : Table) → table_ok t ≡ false → refused (bare TABLE) ≡ table_at t
unfolding table_at
table_no t e = rw e

pub table_names : (t : Table) → table_ok t ≡ true → names_from 0 (length (stops t)) (stops t) t.names ≡ table_at t
unfolding table_at
table_names t e = rw e
