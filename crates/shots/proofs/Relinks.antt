-- What each function on a table that keeps its links answers, case by case.
-- Assumes nothing.
use mathlib.Core.Path.{◌≡◌, refl, sym, ap, ◌∙◌}
use mathlib.Core.Bool.{true, false, ◌&&◌, and-eq-true_iff}
use mathlib.Core.List.{List}
use Prim.Native.Nat.{ℕ}
use borrow.Author.Tests.{ltb-true}
use lib.Dec.{ltb}
use lib.ListN.{length}
use Rattle.layout.specs.Answer.{Told, got, refused, bare}
use Rattle.layout.specs.Written.{Put}
use Rattle.layout.specs.Refusals.{PLACE, TABLE}
use Rattle.tree.specs.Links.{Links, relinked, as_before, kept_at}
use Rattle.tree.specs.Table.{Table, rows, flags, live, name_at, table_at}
use Rattle.tree.proofs.laws.Accepted.{table_got}
use Rattle.tree.proofs.laws.Kept.{kept_got, keeping_got, keeping_refused}
use Rattle.tree.proofs.laws.Sound.{accepted}
use Rattle.shots.specs.Deleted.{ended}
use Rattle.shots.specs.Linked.{DeletedLinked, CollectedLinked, AddsLinked}
use Rattle.shots.specs.Collected.{collected, Lists}
use Rattle.shots.specs.Added.{added_to, room_at, Adds}
use Rattle.shots.specs.Facts.{Gathered, LinksOf, object_at}
use Rattle.shots.proofs.Deleting.{flags_are}
use Rattle.shots.proofs.Replies.{delete_refused, delete_no, delete_done, lent_no, lent_is, collect_refused, collect_done, add-refused, add-no, add-through}

-- ── delete ──

module _ (t : Table) (fs ns : List ℕ) (place : ℕ) where
  pub unlinked_refused : {why : Told} → refused why ≡ kept_at t fs ns → DeletedLinked t fs ns place (refused why) t.marks fs ns
  unlinked_refused e = keeping_refused t fs ns e (λ f. (delete_refused t place t.marks f, as_before)) (refl, refl, refl)

  module _ {n : ℕ} (e : got tt n ≡ kept_at t fs ns) where
    sure : got tt n ≡ table_at t
    sure = (kept_got t fs ns e).1

    pub unlinked_no : (ltb 0 place && live (flags t) place) ≡ false → {why : Told} → why ≡ bare PLACE → DeletedLinked t fs ns place (refused why) t.marks fs ns
    unlinked_no h f = keeping_got t fs ns e (delete_no t place sure h f, as_before)

    pub unlinked_done : (ltb 0 place && live (flags t) place) ≡ true → {new fs' ns' : List ℕ} {k : ℕ} → Put t.marks 0 (ended t place) new k → Links (rows t) (live (ended t place)) fs' ns'
        → DeletedLinked t fs ns place (got tt k) new fs' ns'
    unlinked_done h p l =
        let a = (and-eq-true_iff (ltb 0 place) (live (flags t) place)).0 h in
        let r = (table_got t (sym sure)).1 in
        keeping_got t fs ns e (delete_done t place sure (accepted t sure) h p, relinked (rw (flags_are t r place (ltb-true 0 place a.0) a.1) l))

-- ── collect ──

unchanged : {t : Table} {fs ns old : List ℕ} → Lists t t.handles t.parents t.ends t.marks t.names × (fs ≡ fs) × (ns ≡ ns) × (old ≡ old)
unchanged = (record { handles = refl; parents = refl; ends = refl; marks = refl; names = refl }, refl, refl, refl)

module _ (t : Table) (fs ns old : List ℕ) where
  pub recollected_lent : (length old ≡ 1024 → ⊥) → {why : Told} → why ≡ bare TABLE → CollectedLinked t fs ns old (refused why) t.handles t.parents t.ends t.marks t.names fs ns old
  recollected_lent h f = record { own = λ _. (collect_refused t old (lent_no t old h f), as_before); other = λ _. (ap refused f, unchanged) }

  module _ (h : length old ≡ 1024) where
    pub recollected_refused : {why : Told} → refused why ≡ kept_at t fs ns → CollectedLinked t fs ns old (refused why) t.handles t.parents t.ends t.marks t.names fs ns old
    recollected_refused e = keeping_refused t fs ns e (λ f. (collect_refused t old (f ∙ lent_is t old h), as_before)) unchanged

    pub recollected_done : {m n : ℕ} → got tt m ≡ kept_at t fs ns → {hs ps es ms bs fs' ns' new : List ℕ} → Gathered t old n hs ps es ms bs new → LinksOf (collected t) fs' ns'
        → CollectedLinked t fs ns old (got tt n) hs ps es ms bs fs' ns' new
    recollected_done e g l = keeping_got t fs ns e (collect_done t old ((kept_got t fs ns e).1 ∙ lent_is t old h) g, relinked l.links)

-- ── add ──

module _ (t : Table) (fs ns old : List ℕ) {parent handle : ℕ} {name : List ℕ} where
  pub added_lent : (length old ≡ 1024 → ⊥) → {why : Told} → why ≡ bare TABLE → AddsLinked t fs ns old parent handle name (refused why) t.handles t.parents t.ends t.marks t.names fs ns old
  added_lent h f = record { own = λ _. (add-refused (lent_no t old h f), as_before); other = λ _. (ap refused f, unchanged) }

  module _ (h : length old ≡ 1024) where
    pub added_refused : {why : Told} → refused why ≡ kept_at t fs ns → AddsLinked t fs ns old parent handle name (refused why) t.handles t.parents t.ends t.marks t.names fs ns old
    added_refused e = keeping_refused t fs ns e (λ f. (add-refused (f ∙ lent_is t old h), as_before)) unchanged

    module _ {m : ℕ} (e : got tt m ≡ kept_at t fs ns) where
      pub added_no : {why : Told} → refused why ≡ object_at (flags t) t.ends t.names parent name
          → AddsLinked t fs ns old parent handle name (refused why) t.handles t.parents t.ends t.marks t.names fs ns old
      added_no f = keeping_got t fs ns e (add-no ((kept_got t fs ns e).1 ∙ lent_is t old h) f, as_before)

      pub added_done : live (flags t) parent ≡ true → {k n : ℕ} → got tt k ≡ name_at name → {hs ps es ms bs fs' ns' new : List ℕ}
          → Adds (room_at t (length name)) t old parent handle name (got tt n) hs ps es ms bs new → LinksOf (added_to t parent handle name) fs' ns'
          → AddsLinked t fs ns old parent handle name (got tt n) hs ps es ms bs fs' ns' new
      added_done l f a g = keeping_got t fs ns e (add-through ((kept_got t fs ns e).1 ∙ lent_is t old h) l f a, relinked g.links)
