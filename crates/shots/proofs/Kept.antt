-- Tables that keep their links: each answer is that of the table alone, and what is left is a kept table again.
-- Assumes nothing.
use mathlib.Core.Path.{◌≡◌, refl, sym, subst, ◌∙◌}
use mathlib.Core.Bool.{true}
use mathlib.Core.List.{List}
use Prim.Native.Nat.{ℕ, suc}
use lib.ListN.{length}
use Rattle.layout.specs.Answer.{Answer, got}
use Rattle.layout.specs.Bytes.{Bytes}
use Rattle.layout.specs.Written.{Wrote}
use Rattle.layout.proofs.laws.Numbers.{zero_one}
use Rattle.tree.specs.Links.{Links, links_ok, Relinked, kept_at, Keeping}
use Rattle.tree.specs.Table.{Table, table, rows, flags, live, table_at}
use Rattle.tree.proofs.laws.Accepted.{table_got}
use Rattle.tree.proofs.laws.Below.{by_mark}
use Rattle.tree.proofs.laws.Kept.{kept_ok, kept_again}
use Rattle.tree.proofs.laws.Links.{links-ok}
use Rattle.tree.proofs.laws.Sound.{Sound, accepted}
use Rattle.shots.specs.Deleted.{delete_said}
use Rattle.shots.specs.Collected.{alive, Collected}
use Rattle.shots.specs.Added.{base, add_at, Adds}
use Rattle.shots.specs.Linked.{DeletedLinked, CollectedLinked, AddsLinked}
use Rattle.shots.proofs.Adding.{added_left}
use Rattle.shots.proofs.Collecting.{collected_kept, collected_left}
use Rattle.shots.proofs.Deleting.{deleted_kept, deleted_left}
use Rattle.shots.proofs.laws.Unique.{one_deleted, one_collected, one_added, deleted_sound, collected_sound, added_got, added_sound}

-- ── as the table alone ──

module _ (t : Table) {fs ns : List ℕ} {n : ℕ} (e : table_at t ≡ got tt n) (links : Links (rows t) (live (flags t)) fs ns) where
  right : links_ok t fs ns ≡ true
  right = links-ok (accepted t (sym e)) links

  pub delete_alike : (place : ℕ) {a b : Answer (Unit {0})} {ms ms' f m : List ℕ} → DeletedLinked t fs ns place a ms f m → Wrote (delete_said t place) t.marks b ms' → (a ≡ b) × (ms ≡ ms')
  delete_alike place k w = one_deleted t place (k.own right).0 w

  module _ {old hs ps es ms bs f m new hs' ps' es' ms' bs' new' : List ℕ} {a b : Answer (Unit {0})} where
    pub collect_alike : CollectedLinked t fs ns old a hs ps es ms bs f m new → Collected t old b hs' ps' es' ms' bs' new'
        → (a ≡ b) × ((hs ≡ hs') × (ps ≡ ps') × (es ≡ es') × (ms ≡ ms') × (bs ≡ bs')) × (new ≡ new')
    collect_alike k w = one_collected (k.own right).0 w

    pub add-alike : {parent handle : ℕ} {name : List ℕ} → AddsLinked t fs ns old parent handle name a hs ps es ms bs f m new → Adds (add_at t old parent name) t old parent handle name b hs' ps' es' ms' bs' new'
        → (a ≡ b) × ((hs ≡ hs') × (ps ≡ ps') × (es ≡ es') × (ms ≡ ms') × (bs ≡ bs')) × (new ≡ new')
    add-alike k w = one_added (k.own right).0 w

-- ── a kept table again ──

-- where it was not refused the links were right
granted : {t : Table} {fs ns : List ℕ} {k : ℕ} {P U : Type 0} → Keeping t fs ns (got tt k) P U → P
granted {t} {fs} {ns} x = by_mark (links_ok t fs ns) x.own (λ e. let z = (x.other e).0 in zero_one (cc))

again : {u v : Table} {fs ns f m : List ℕ} {k n : ℕ} → Sound u → Relinked u fs ns (got tt k) f m → v ≡ u → table_at u ≡ got tt n → kept_at v f m ≡ got tt n
again {u = u} {f = f} {m} {n = n} s r q e = subst (λ (x : Table). kept_at x f m ≡ got tt n) (sym q) (kept_ok u f m (kept_again s refl r) ∙ e)

pub deleted_again : (t : Table) (fs ns : List ℕ) (place : ℕ) {k : ℕ} {ms f m : List ℕ} → DeletedLinked t fs ns place (got tt k) ms f m
    → kept_at (table t.handles t.parents t.ends ms t.count t.names) f m ≡ got tt t.count
deleted_again t fs ns place x =
    let p = granted x in
    let (n, e, o, l, q) = deleted_left t place p.0 in
    again (deleted_sound t place p.0 _ refl) p.1 q (deleted_kept t (table_got t e).1 place o l e)

pub collected_again : (t : Table) (fs ns old : List ℕ) {k : ℕ} {hs ps es ms bs f m new : List ℕ} → CollectedLinked t fs ns old (got tt k) hs ps es ms bs f m new
    → kept_at (table hs ps es ms k bs) f m ≡ got tt (alive (flags t))
collected_again t fs ns old x =
    let p = granted x in
    let (n, e, q, w) = collected_left p.0 in
    again (collected_sound p.0 _ refl) p.1 q (collected_kept t e)

pub added_again : (t : Table) (fs ns old : List ℕ) {parent handle : ℕ} {name : List ℕ} → Bytes t.names → Bytes name → {k : ℕ} {hs ps es ms bs f m new : List ℕ}
    → AddsLinked t fs ns old parent handle name (got tt k) hs ps es ms bs f m new → kept_at (table hs ps es ms (suc k) bs) f m ≡ got tt (suc (base t (length name)).count)
added_again t fs ns old h g x =
    let p = granted x in
    again (added_sound h g p.0 _ refl) p.1 (added_left p.0).table (added_got h g p.0)
