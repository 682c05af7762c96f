-- What each public function answers, case by case.
-- Assumes nothing.
use mathlib.Core.Path.{◌≡◌, refl, sym, ap, ◌∙◌}
use mathlib.Core.Bool.{Bool, true, false, ◌&&◌}
use mathlib.Core.List.{List}
use Prim.Native.Nat.{ℕ, ◌+◌, ◌-◌, ◌≤◌, ◌<◌}
use native.Mathlib.Omega.{arith}
use borrow.Author.Tests.{lt-ltb, le-ltb, ltb-false, eq-eqb, ne_eqb, eqb-false}
use lib.Dec.{ltb, eqb}
use lib.ListN.{length, get_or, set}
use Rattle.layout.specs.Answer.{Told, Answer, got, refused, bare, pick, after}
use Rattle.layout.specs.Written.{Wrote, Put, put}
use Rattle.layout.specs.Refusals.{PLACE, TABLE, ROOM}
use Rattle.layout.proofs.laws.Numbers.{zero_one}
use Rattle.layout.proofs.laws.Reading.{parted, picked}
use Rattle.layout.proofs.laws.Writing.{refusal, done}
use Rattle.tree.specs.Table.{Table, table, rows, flags, live, start_of, name_at, table_at}
use Rattle.shots.specs.Deleted.{ended_from, delete_said}
use Rattle.shots.specs.Collected.{alive, names_kept, live_names, lent_at, Leaves, Lists, collect_at, Collected}
use Rattle.shots.specs.Refusals.{TAKEN}
use Rattle.shots.specs.Added.{with, base, new_places, room_at, add_at, Adds}
use Rattle.shots.specs.Facts.{Gathered, Room, Based, spare_at, object_at}
use Rattle.tree.proofs.laws.Sound.{Sound, marks_long}
use Rattle.shots.proofs.Endings.{ended_long}

-- ── delete ──

pub delete_refused : (t : Table) (place : ℕ) (ms : List ℕ) {why : Told} → refused why ≡ table_at t → Wrote (delete_said t place) ms (refused why) ms
unfolding delete_said
delete_refused t place ms e = refusal (rw (← e))

module _ (t : Table) (place : ℕ) {n : ℕ} (e : got tt n ≡ table_at t) where
  pub delete_no : (ltb 0 place && live (flags t) place) ≡ false → {why : Told} → why ≡ bare PLACE → Wrote (delete_said t place) t.marks (refused why) t.marks
  unfolding delete_said
  delete_no h f = refusal (rw (← e, h, f))

  pub delete_done : Sound t → (ltb 0 place && live (flags t) place) ≡ true → {new : List ℕ} {k : ℕ} → Put t.marks 0 (ended_from 0 (rows t) place (flags t)) new k → Wrote (delete_said t place) t.marks (got tt k) new
  unfolding delete_said
  delete_done s h p =
      let long = ended_long 0 (rows t) place (flags t) in
      let m = marks_long s in
      let few = s.few in
      let whole = s.flagged in
      done (rw (← e, h)) (omega arith) p

-- ── collect ──

-- a table and a list of new places: 11 for the list, else as the table is
pub lent_no : (t : Table) (old : List ℕ) → (length old ≡ 1024 → ⊥) → {why : Told} → why ≡ bare TABLE → refused why ≡ lent_at t old
unfolding lent_at
lent_no t old h f = rw (ne_eqb (length old) 1024 h, f)

pub lent_is : (t : Table) (old : List ℕ) → length old ≡ 1024 → table_at t ≡ lent_at t old
unfolding lent_at
lent_is t old h = rw (eq-eqb (length old) 1024 h)

pub same_lists : {t u : Table} {why : Told} → Leaves (refused why) t u t.handles t.parents t.ends t.marks t.names
same_lists = record { handles = refl; parents = refl; ends = refl; marks = refl; names = refl }

pub collect_refused : (t : Table) (old : List ℕ) {why : Told} → refused why ≡ lent_at t old → Collected t old (refused why) t.handles t.parents t.ends t.marks t.names old
unfolding collect_at after
collect_refused t old e = record { answers = rw (← e); lists = same_lists; news = refl }

pub collect_done : (t : Table) (old : List ℕ) {m : ℕ} → got tt m ≡ lent_at t old → {n : ℕ} {hs ps es ms ns new : List ℕ} → Gathered t old n hs ps es ms ns new → Collected t old (got tt n) hs ps es ms ns new
unfolding collect_at after
collect_done t old e g = record {
  answers = rw (← e, g.count);
  lists = record { handles = g.handles; parents = g.parents; ends = g.ends; marks = g.marks; names = g.names };
  news = g.news;
}

-- ── add ──

pub based_room : {t : Table} {size n : ℕ} {old hs ps es ms ns new : List ℕ} → Based t size old n hs ps es ms ns new → Room (base t size) size → Room (table hs ps es ms n ns) size
based_room {t} {size} {n} {old} {hs} {ps} {es} {ms} {ns} {new} b r =
    let e : start_of es n ≡ start_of (base t size).ends (base t size).count = ap (λ (x : List ℕ). start_of x n) b.ends ∙ ap (λ (k : ℕ). start_of (base t size).ends k) b.count in
    let l = ap length b.names in
    let c = b.count in
    let f = r.free in
    let h = r.holds in
    let s = r.short in
    record {
      free = omega arith;
      handled = ap length b.handles ∙ r.handled;
      parented = ap length b.parents ∙ r.parented;
      ended = ap length b.ends ∙ r.ended;
      flagged = ap length b.marks ∙ r.flagged;
      holds = omega arith;
      short = omega arith;
    }

module _ {t : Table} {parent handle : ℕ} {name old : List ℕ} where
  pub add_done : (alive (flags t) ≡ 1024 → ⊥) → length name ≤ length t.names - length (live_names t) → {n p : ℕ} {hs ps es ms ns new : List ℕ} → Based t (length name) old n hs ps es ms ns new
      → p ≡ get_or (new_places t (length name)) parent 0 → {hs' ps' es' ms' ns' : List ℕ} → Lists (with (table hs ps es ms n ns) p handle name) hs' ps' es' ms' ns'
      → Adds (room_at t (length name)) t old parent handle name (got tt n) hs' ps' es' ms' ns' new
  unfolding room_at
  add_done a h {n} {p} {hs} {ps} {es} {ms} {ns} b q l =
      let e : start_of es n ≡ start_of (base t (length name)).ends (base t (length name)).count
      = ap (λ (x : List ℕ). start_of x n) b.ends ∙ ap (λ (k : ℕ). start_of (base t (length name)).ends k) b.count in
      record {
        answers = rw (ne_eqb (alive (flags t)) 1024 a, le-ltb (length t.names - length (live_names t)) (length name) h) (ap (got tt) b.count);
        lists = record {
          handles = l.handles ∙ ap (λ (x : List ℕ). set x n handle) b.handles ∙ ap (λ (k : ℕ). set (base t (length name)).handles k handle) b.count;
          parents = l.parents ∙ ap (λ (x : List ℕ). set x n p) b.parents ∙ ap (λ (k : ℕ). set (base t (length name)).parents k p) b.count
              ∙ ap (λ (k : ℕ). set (base t (length name)).parents (base t (length name)).count k) q;
          ends = l.ends ∙ ap (λ (x : List ℕ). set x n (start_of es n + length name)) b.ends ∙ ap (λ (k : ℕ). set (base t (length name)).ends k (start_of es n + length name)) b.count
              ∙ ap (λ (k : ℕ). set (base t (length name)).ends (base t (length name)).count (k + length name)) e;
          marks = l.marks ∙ ap (λ (x : List ℕ). set x n 1) b.marks ∙ ap (λ (k : ℕ). set (base t (length name)).marks k 1) b.count;
          names = l.names ∙ ap (λ (x : List ℕ). put x (start_of es n) name) b.names ∙ ap (λ (k : ℕ). put (base t (length name)).names k name) e;
        };
        news = b.news;
      }

  pub add-refused : {why : Told} → refused why ≡ lent_at t old → Adds (add_at t old parent name) t old parent handle name (refused why) t.handles t.parents t.ends t.marks t.names old
  unfolding add_at after
  add-refused e = record { answers = rw (← e); lists = same_lists; news = refl }

  module _ {m : ℕ} (e : got tt m ≡ lent_at t old) where
    pub add-no : {why : Told} → refused why ≡ object_at (flags t) t.ends t.names parent name → Adds (add_at t old parent name) t old parent handle name (refused why) t.handles t.parents t.ends t.marks t.names old
    unfolding add_at after room_at object_at spare_at
    add-no {why} f = record {
      answers = rw (← e) (same (live (flags t) parent) (name_at name) (eqb (alive (flags t)) 1024) (ltb (length t.names - length (live_names t)) (length name)) (base t (length name)).count f);
      lists = same_lists;
      news = refl;
    }
      where
        same : (b : Bool) (x : Answer (Unit {0})) (c d : Bool) (n : ℕ) → refused why ≡ pick b (after x λ _ _. pick c (refused (bare TAKEN)) (pick d (refused (bare ROOM)) (got (tt {0}) 0))) (refused (bare PLACE))
            → refused why ≡ pick b (after x λ _ _. pick c (refused (bare TAKEN)) (pick d (refused (bare ROOM)) (got (tt {0}) n))) (refused (bare PLACE))
        same false x c d n h = h
        same true (refused w) c d n h = h
        same true (got u m) true d n h = h
        same true (got u m) false true n h = h
        same true (got u m) false false n h = zero_one (cc)

    pub add-through : live (flags t) parent ≡ true → {k : ℕ} → got tt k ≡ name_at name → {answer : Answer (Unit {0})} {hs ps es ms ns new : List ℕ} → Adds (room_at t (length name)) t old parent handle name answer hs ps es ms ns new
        → Adds (add_at t old parent name) t old parent handle name answer hs ps es ms ns new
    unfolding add_at after
    add-through l f a = record { answers = a.answers ∙ rw (← e, l, ← f); lists = a.lists; news = a.news }

-- ── what an object is refused with ──

module _ (ms es bs : List ℕ) (size : ℕ) where
  pub spare_taken : alive ms ≡ 1024 → {why : Told} → why ≡ bare TAKEN → refused why ≡ spare_at ms es bs size
  unfolding spare_at
  spare_taken h f = rw (eq-eqb (alive ms) 1024 h, f)

  module _ (a : alive ms ≡ 1024 → ⊥) where
    pub spare_short : length bs - length (names_kept 0 ms es bs) < size → {why : Told} → why ≡ bare ROOM → refused why ≡ spare_at ms es bs size
    unfolding spare_at
    spare_short h f = rw (ne_eqb (alive ms) 1024 a, lt-ltb (length bs - length (names_kept 0 ms es bs)) size h, f)

    pub spare_fits : size ≤ length bs - length (names_kept 0 ms es bs) → got tt 0 ≡ spare_at ms es bs size
    unfolding spare_at
    spare_fits h = rw (ne_eqb (alive ms) 1024 a, le-ltb (length bs - length (names_kept 0 ms es bs)) size h)

  pub spare_got : {n : ℕ} → got tt n ≡ spare_at ms es bs size → (alive ms ≡ 1024 → ⊥) × (size ≤ length bs - length (names_kept 0 ms es bs)) × (got tt 0 ≡ spare_at ms es bs size)
  unfolding spare_at
  spare_got {n} e = let x = may (eqb (alive ms) 1024) refl (ltb (length bs - length (names_kept 0 ms es bs)) size) refl e in (x.0, x.1, spare_fits x.0 x.1)
    where
      may : (b : Bool) → eqb (alive ms) 1024 ≡ b → (c : Bool) → ltb (length bs - length (names_kept 0 ms es bs)) size ≡ c
          → got (tt {0}) n ≡ pick b (refused (bare TAKEN)) (pick c (refused (bare ROOM)) (got tt 0)) → (alive ms ≡ 1024 → ⊥) × (size ≤ length bs - length (names_kept 0 ms es bs))
      may true p c q h = zero_one (cc)
      may false p true q h = zero_one (cc)
      may false p false q h = (eqb-false (alive ms) 1024 p, ltb-false (length bs - length (names_kept 0 ms es bs)) size q)

module _ (ms es bs : List ℕ) (parent : ℕ) (name : List ℕ) where
  pub object_place : live ms parent ≡ false → {why : Told} → why ≡ bare PLACE → refused why ≡ object_at ms es bs parent name
  unfolding object_at
  object_place h f = rw (h, f)

  module _ (l : live ms parent ≡ true) where
    pub object_name : {why : Told} → refused why ≡ name_at name → refused why ≡ object_at ms es bs parent name
    unfolding object_at after
    object_name e = rw (l, ← e)

    pub object_room : {k : ℕ} → got tt k ≡ name_at name → {a : Answer (Unit {0})} → a ≡ spare_at ms es bs (length name) → a ≡ object_at ms es bs parent name
    unfolding object_at after
    object_room e s = s ∙ rw (l, ← e)

  pub object_got : {n : ℕ} → got tt n ≡ object_at ms es bs parent name → (live ms parent ≡ true) × (k : ℕ) × (got tt k ≡ name_at name) × (got tt n ≡ spare_at ms es bs (length name))
  unfolding object_at
  object_got e =
      let x = picked (live ms parent) (after (name_at name) λ _ _. spare_at ms es bs (length name)) (bare PLACE) (sym e) in
      let y = parted (name_at name) _ x.1 in
      (x.0, y.1, sym y.2, sym y.3)
