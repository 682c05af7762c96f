-- Two answers that a promise allows are equal, all lent lists included. (The enum that `add` answers is determined by what it says; the other two answer tree's.)
-- Assumes nothing.
use Rattle.layout.specs.Answer.{says_count}
use Rattle.std.specs.Prelude.{Ok, Err}
use mathlib.Core.Path.{◌≡◌, refl, sym, ap, subst, ◌∙◌}
use mathlib.Core.List.{List}
use Prim.Native.Nat.{ℕ, suc}
use lib.ListN.{length}
use Rattle.layout.specs.Answer.{Answer, got, refused}
use Rattle.layout.specs.Bytes.{Bytes}
use Rattle.layout.specs.Written.{Wrote}
use Rattle.layout.proofs.laws.Determined.{Tells}
use Rattle.layout.proofs.laws.Numbers.{zero_one}
use Rattle.tree.specs.Links.{Relinked}
use Rattle.tree.specs.Table.{Table, table_at}
use Rattle.tree.proofs.laws.Accepted.{table_got}
use Rattle.tree.proofs.laws.Kept.{one_keeping, relinked_got, relinked_refused}
use Rattle.tree.proofs.laws.Links.{one_pair}
use Rattle.tree.proofs.laws.Sound.{Sound, accepted}
use Rattle.shots.specs.Deleted.{deleted, delete_said}
use Rattle.shots.specs.Collected.{ahead, places, collected, leaves, Leaves, Lists, Collected}
use Rattle.shots.specs.Added.{base, new_places, added_to, add_at, Adds}
use Rattle.shots.specs.Linked.{DeletedLinked, CollectedLinked, AddsLinked}
use Rattle.shots.proofs.Adding.{added_kept, added_left}
use Rattle.shots.proofs.Collecting.{collected_kept, collected_left}
use Rattle.shots.proofs.Deleting.{deleted_kept, deleted_left}

pub tells_added : Tells says_count
tells_added (Ok n) (Ok m) e = cc
tells_added (Ok n) (Err t) e = zero_one (cc)
tells_added (Err t) (Ok n) e = zero_one (cc)
tells_added (Err t) (Err u) e = cc

pub one_deleted : (t : Table) (place : ℕ) {a b : Answer (Unit {0})} {ms ms' : List ℕ} → Wrote (delete_said t place) t.marks a ms → Wrote (delete_said t place) t.marks b ms' → (a ≡ b) × (ms ≡ ms')
one_deleted t place p q = (p.answers ∙ sym q.answers, p.leaves ∙ sym q.leaves)

-- five lists, and the answer that they go by
one_lists : {t u : Table} {a b : Answer (Unit {0})} {hs hs' ps ps' es es' ms ms' ns ns' : List ℕ} → a ≡ b → Leaves a t u hs ps es ms ns → Leaves b t u hs' ps' es' ms' ns'
    → (hs ≡ hs') × (ps ≡ ps') × (es ≡ es') × (ms ≡ ms') × (ns ≡ ns')
one_lists {t} {u} {a} {b} e p q =
    let both : (x y : List ℕ) → leaves a x y ≡ leaves b x y = λ x y. ap (λ (o : Answer (Unit {0})). leaves o x y) e in (
      p.handles ∙ both u.handles t.handles ∙ sym q.handles,
      p.parents ∙ both u.parents t.parents ∙ sym q.parents,
      p.ends ∙ both u.ends t.ends ∙ sym q.ends,
      p.marks ∙ both u.marks t.marks ∙ sym q.marks,
      p.names ∙ both u.names t.names ∙ sym q.names,
    )

pub one_collected : {t : Table} {old : List ℕ} {a b : Answer (Unit {0})} {hs hs' ps ps' es es' ms ms' ns ns' new new' : List ℕ} → Collected t old a hs ps es ms ns new → Collected t old b hs' ps' es' ms' ns' new'
    → (a ≡ b) × ((hs ≡ hs') × (ps ≡ ps') × (es ≡ es') × (ms ≡ ms') × (ns ≡ ns')) × (new ≡ new')
one_collected {t} {old} p q =
    let e = p.answers ∙ sym q.answers in
    (e, one_lists e p.lists q.lists, p.news ∙ ap (λ (o : Answer (Unit {0})). leaves o (ahead (places t) old) old) e ∙ sym q.news)

pub one_added : {x : Answer (Unit {0})} {t : Table} {old name : List ℕ} {parent handle : ℕ} {a b : Answer (Unit {0})} {hs hs' ps ps' es es' ms ms' ns ns' new new' : List ℕ}
    → Adds x t old parent handle name a hs ps es ms ns new → Adds x t old parent handle name b hs' ps' es' ms' ns' new'
    → (a ≡ b) × ((hs ≡ hs') × (ps ≡ ps') × (es ≡ es') × (ms ≡ ms') × (ns ≡ ns')) × (new ≡ new')
one_added {x} {t} {old} {name} p q =
    let e = p.answers ∙ sym q.answers in
    (e, one_lists e p.lists q.lists, p.news ∙ ap (λ (o : Answer (Unit {0})). leaves o (ahead (new_places t (length name)) old) old) e ∙ sym q.news)

-- ── a table that keeps its links ──

-- the table that is left keeps its rule
pub deleted_sound : (t : Table) (place : ℕ) {a : Answer (Unit {0})} {ms : List ℕ} → Wrote (delete_said t place) t.marks a ms → (n : ℕ) → a ≡ got tt n → Sound (deleted t place)
deleted_sound t place {a} {ms} w n z =
    let (k, e, o, l, q) = deleted_left t place (subst (λ (x : Answer (Unit {0})). Wrote (delete_said t place) t.marks x ms) z w) in
    accepted (deleted t place) (sym (deleted_kept t (table_got t e).1 place o l e))

pub collected_sound : {t : Table} {old hs ps es ms bs new : List ℕ} {a : Answer (Unit {0})} → Collected t old a hs ps es ms bs new → (n : ℕ) → a ≡ got tt n → Sound (collected t)
collected_sound {t} {old} {hs} {ps} {es} {ms} {bs} {new} w n z =
    let (k, e, q, p) = collected_left (subst (λ (x : Answer (Unit {0})). Collected t old x hs ps es ms bs new) z w) in
    accepted (collected t) (sym (collected_kept t e))

module _ {t : Table} {old name : List ℕ} {parent handle : ℕ} (h : Bytes t.names) (g : Bytes name) {hs ps es ms bs new : List ℕ} where
  pub added_got : {k : ℕ} → Adds (add_at t old parent name) t old parent handle name (got tt k) hs ps es ms bs new → table_at (added_to t parent handle name) ≡ got tt (suc (base t (length name)).count)
  added_got w = let x = added_left w in added_kept t x.accepted h parent handle name g x.named.1 x.hangs x.free x.fits

  pub added_sound : {a : Answer (Unit {0})} → Adds (add_at t old parent name) t old parent handle name a hs ps es ms bs new → (n : ℕ) → a ≡ got tt n → Sound (added_to t parent handle name)
  added_sound w n z = accepted (added_to t parent handle name) (sym (added_got (subst (λ (x : Answer (Unit {0})). Adds (add_at t old parent name) t old parent handle name x hs ps es ms bs new) z w)))

-- and one pair of links is left
one_left : {u : Table} {fs ns : List ℕ} {a b : Answer (Unit {0})} {f g m o : List ℕ} → a ≡ b → ((n : ℕ) → a ≡ got tt n → Sound u) → Relinked u fs ns a f m → Relinked u fs ns b g o → (f ≡ g) × (m ≡ o)
one_left {a = a} {f = f} {g} {m} {o} e s p q = go a refl
  where
    go : (x : Answer (Unit {0})) → a ≡ x → (f ≡ g) × (m ≡ o)
    go (got u n) z = one_pair (s n z).marks (relinked_got z p) (relinked_got (sym e ∙ z) q)
    go (refused why) z =
        let x = relinked_refused z p in
        let y = relinked_refused (sym e ∙ z) q in
        (x.0 ∙ sym y.0, x.1 ∙ sym y.1)

same_lists : {t : Table} {hs hs' ps ps' es es' ms ms' bs bs' : List ℕ} → Lists t hs ps es ms bs → Lists t hs' ps' es' ms' bs' → (hs ≡ hs') × (ps ≡ ps') × (es ≡ es') × (ms ≡ ms') × (bs ≡ bs')
same_lists p q = (p.handles ∙ sym q.handles, p.parents ∙ sym q.parents, p.ends ∙ sym q.ends, p.marks ∙ sym q.marks, p.names ∙ sym q.names)

pub one_deleted_linked : (t : Table) (fs ns : List ℕ) (place : ℕ) {a b : Answer (Unit {0})} {ms ms' f g m o : List ℕ} → DeletedLinked t fs ns place a ms f m → DeletedLinked t fs ns place b ms' g o
    → (a ≡ b) × (ms ≡ ms') × (f ≡ g) × (m ≡ o)
one_deleted_linked t fs ns place x y =
    one_keeping x y
    (λ p q. let d = one_deleted t place p.0 q.0 in let l = one_left d.0 (deleted_sound t place p.0) p.1 q.1 in (d.0, d.1, l.0, l.1))
    (λ e u w. (e, u.0 ∙ sym w.0, u.1 ∙ sym w.1, u.2 ∙ sym w.2))

module _ (t : Table) (fs ns old : List ℕ) {a b : Answer (Unit {0})} {hs hs' ps ps' es es' ms ms' bs bs' f g m o new new' : List ℕ} where
  pub one_collected_linked : CollectedLinked t fs ns old a hs ps es ms bs f m new → CollectedLinked t fs ns old b hs' ps' es' ms' bs' g o new'
      → (a ≡ b) × ((hs ≡ hs') × (ps ≡ ps') × (es ≡ es') × (ms ≡ ms') × (bs ≡ bs')) × (f ≡ g) × (m ≡ o) × (new ≡ new')
  one_collected_linked x y =
      one_keeping x y
      (λ p q. let d = one_collected p.0 q.0 in let l = one_left d.0 (collected_sound p.0) p.1 q.1 in (d.0, d.1, l.0, l.1, d.2))
      (λ e u w. (e, same_lists u.0 w.0, u.1 ∙ sym w.1, u.2 ∙ sym w.2, u.3 ∙ sym w.3))

  pub one_added_linked : (parent handle : ℕ) (name : List ℕ) → Bytes t.names → Bytes name → AddsLinked t fs ns old parent handle name a hs ps es ms bs f m new → AddsLinked t fs ns old parent handle name b hs' ps' es' ms' bs' g o new'
      → (a ≡ b) × ((hs ≡ hs') × (ps ≡ ps') × (es ≡ es') × (ms ≡ ms') × (bs ≡ bs')) × (f ≡ g) × (m ≡ o) × (new ≡ new')
  one_added_linked parent handle name h i x y =
      one_keeping x y
      (λ p q. let d = one_added p.0 q.0 in let l = one_left d.0 (added_sound h i p.0) p.1 q.1 in (d.0, d.1, l.0, l.1, d.2))
      (λ e u w. (e, same_lists u.0 w.0, u.1 ∙ sym w.1, u.2 ∙ sym w.2, u.3 ∙ sym w.3))
