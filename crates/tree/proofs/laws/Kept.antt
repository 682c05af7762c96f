-- A table that keeps its links: its refusals test by test, and what is promised of it, by its answer.
-- Assumes nothing.
use mathlib.Core.Path.{◌≡◌, refl, sym, ◌∙◌}
use mathlib.Core.Bool.{true, false}
use mathlib.Core.List.{List}
use Prim.Native.Nat.{ℕ}
use lib.ListN.{length}
use Rattle.layout.specs.Answer.{Told, Answer, got, refused, bare}
use Rattle.layout.specs.Refusals.{TABLE}
use Rattle.layout.proofs.laws.Numbers.{zero_one}
use Rattle.layout.proofs.laws.Reading.{pick_alike, picked}
use Rattle.tree.specs.Table.{Table, rows, flags, live, table_at}
use Rattle.tree.specs.Links.{Links, pair_ok, links_ok, link_at, relinked, as_before, Relinked, Linked, kept_at, Keeping}
use Rattle.tree.proofs.laws.Below.{by_mark}
use Rattle.tree.proofs.laws.Links.{pair_first, pair_next, pair_both, one_pair, links-ok}
use Rattle.tree.proofs.laws.Sound.{Sound}

module _ (t : Table) (fs ns : List ℕ) where
  pub kept_ok : links_ok t fs ns ≡ true → kept_at t fs ns ≡ table_at t
  unfolding kept_at
  kept_ok e = rw e

  pub kept_other : links_ok t fs ns ≡ false → kept_at t fs ns ≡ refused (bare TABLE)
  unfolding kept_at
  kept_other e = rw e

  pub kept_first : (length fs ≡ 1024 → ⊥) → kept_at t fs ns ≡ refused (bare TABLE)
  unfolding kept_at links_ok
  kept_first e = rw (pair_first fs ns e)

  pub kept_next : length fs ≡ 1024 → (length ns ≡ 1024 → ⊥) → kept_at t fs ns ≡ refused (bare TABLE)
  unfolding kept_at links_ok
  kept_next f e = rw (pair_next fs ns f e)

  pub kept_table : table_at t ≡ refused (bare TABLE) → kept_at t fs ns ≡ refused (bare TABLE)
  unfolding kept_at
  kept_table e = rw e (pick_alike (links_ok t fs ns) (refused (bare TABLE)))

  pub link_first : (length fs ≡ 1024 → ⊥) → link_at t fs ns ≡ refused (bare TABLE)
  unfolding link_at
  link_first e = rw (pair_first fs ns e)

  module _ (f : length fs ≡ 1024) where
    pub link_next : (length ns ≡ 1024 → ⊥) → link_at t fs ns ≡ refused (bare TABLE)
    unfolding link_at
    link_next e = rw (pair_next fs ns f e)

    pub link_both : length ns ≡ 1024 → link_at t fs ns ≡ table_at t
    unfolding link_at
    link_both e = rw (pair_both fs ns f e)

  pub link_got : {n : ℕ} → got tt n ≡ link_at t fs ns → got tt n ≡ table_at t
  unfolding link_at
  link_got e = sym (picked (pair_ok fs ns) (table_at t) (bare TABLE) (sym e)).1

  pub linked_refused : {why : Told} → refused why ≡ link_at t fs ns → Linked t fs ns (refused why) fs ns
  linked_refused e = record { answers = e; left = as_before }

  -- accepted: the links are right, and the table is accepted
  pub kept_got : {n : ℕ} → got tt n ≡ kept_at t fs ns → (links_ok t fs ns ≡ true) × (got tt n ≡ table_at t)
  unfolding kept_at
  kept_got e = let x = picked (links_ok t fs ns) (table_at t) (bare TABLE) (sym e) in (x.0, sym x.1)

  module _ {Promise Unchanged : Type 0} where
    -- so what is promised of the table is promised
    pub keeping_got : {n : ℕ} {answer : Answer (Unit {0})} → got tt n ≡ kept_at t fs ns → Promise → Keeping t fs ns answer Promise Unchanged
    keeping_got e p = record { own = λ _. p; other = λ o. zero_one (cc (e, kept_other o)) }

    -- refused: where the links are right, by the table; else with 11
    pub keeping_refused : {why : Told} → refused why ≡ kept_at t fs ns → (refused why ≡ table_at t → Promise) → Unchanged → Keeping t fs ns (refused why) Promise Unchanged
    keeping_refused e p u = record { own = λ o. p (e ∙ kept_ok o); other = λ o. (e ∙ kept_other o, u) }

-- two answers that the promises of a kept table allow are the same where those of the table are, and where nothing is changed
pub one_keeping : {t : Table} {fs ns : List ℕ} {a b : Answer (Unit {0})} {P Q U W Same : Type 0} → Keeping t fs ns a P U → Keeping t fs ns b Q W
    → (P → Q → Same) → (a ≡ b → U → W → Same) → Same
one_keeping {t} {fs} {ns} x y p u =
    by_mark (links_ok t fs ns)
    (λ e. p (x.own e) (y.own e))
    (λ e. u ((x.other e).0 ∙ sym (y.other e).0) (x.other e).1 (y.other e).1)

-- ── the links after ──

pub relinked_got : {u : Table} {fs ns f m : List ℕ} {a : Answer (Unit {0})} {n : ℕ} → a ≡ got tt n → Relinked u fs ns a f m → Links (rows u) (live (flags u)) f m
relinked_got e (relinked p) = p
relinked_got e as_before = zero_one (cc)

pub relinked_refused : {u : Table} {fs ns f m : List ℕ} {a : Answer (Unit {0})} {why : Told} → a ≡ refused why → Relinked u fs ns a f m → (f ≡ fs) × (m ≡ ns)
relinked_refused e (relinked p) = zero_one (cc)
relinked_refused e as_before = (refl, refl)

-- one pair is left
pub one_relinked : {u : Table} {fs ns : List ℕ} {a : Answer (Unit {0})} {f n g m : List ℕ} → Sound u → Relinked u fs ns a f n → Relinked u fs ns a g m → (f ≡ g) × (n ≡ m)
one_relinked s (relinked p) (relinked q) = one_pair s.marks p q
one_relinked s as_before as_before = (refl, refl)

-- with which the table that is left is a kept table again
pub kept_again : {u : Table} {fs ns f m : List ℕ} {a : Answer (Unit {0})} {n : ℕ} → Sound u → a ≡ got tt n → Relinked u fs ns a f m → links_ok u f m ≡ true
kept_again s e r = links-ok s (relinked_got e r)
