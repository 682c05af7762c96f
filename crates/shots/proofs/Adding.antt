-- What adding leaves: a table that is accepted, in which every live object's path is the same, and the new one's is its parent's, the slash, its name.
-- Assumes nothing.
use mathlib.Core.Path.{◌≡◌, refl, sym, ap, subst, ◌∙◌}
use mathlib.Core.Bool.{Bool, true, false}
use mathlib.Core.List.{List, ◌++◌, append_assoc}
use mathlib.Core.Logic.{◌↔◌}
use Prim.Native.Nat.{ℕ, zero, suc, ◌+◌, ◌-◌, ◌≤◌, ◌<◌}
use native.Mathlib.Nat.{le_refl, zero-add, not-suc-le-zero}
use native.Mathlib.Omega.{arith}
use borrow.Author.Tests.{eq-eqb, ne_eqb, eqb-true, eqb-false, lt-ltb, ltb-true, ltb-false}
use lib.Dec.{ltb, eqb}
use lib.ListN.{length, get_or, take, drop, set, length-set, length-drop, take-append-drop}
use lib.Seq.{get_or-set_same, get_or-set_other, get_or-take, take-append_seam, drop-append_seam, take-append-le, drop-append-le, length-take-le, sets-eq, length-sets}
use Rattle.layout.specs.Answer.{Told, Answer, got, refused, bare, pick, after}
use Rattle.layout.specs.Bytes.{Bytes}
use Rattle.layout.specs.Refusals.{ROOM, PLACE, TABLE}
use Rattle.layout.specs.Written.{put, spelling}
use Rattle.layout.proofs.laws.Numbers.{zero_one}
use Rattle.layout.proofs.laws.Reading.{parted, picked, one_got}
use Rattle.layout.proofs.laws.Told.{bare_no}
use Rattle.wire.specs.Utf8.{utf8_at}
use Rattle.tree.specs.Facts.{Marks}
use Rattle.tree.specs.Path.{name_of, slash_after, path_of}
use Rattle.tree.specs.Rule.{Rule, Live}
use Rattle.tree.specs.Table.{Table, table, rows, stops, flags, live, parent, start_of, end_of, name_bytes, name_at, table_at}
use Rattle.tree.proofs.laws.Accepted.{Read, table_got, table_all}
use Rattle.tree.proofs.laws.Counts.{equal}
use Rattle.tree.proofs.laws.Moved.{Moves, path_moved}
use Rattle.tree.proofs.laws.Ruled.{rule_ok, name_cut}
use Rattle.tree.proofs.laws.Sound.{Sound, sound, marked_there, rows_long, marks_long}
use Rattle.tree.proofs.laws.Ways.{by_parent}
use Rattle.shots.specs.Refusals.{TAKEN}
use Rattle.shots.specs.Collected.{alive, places, live_names, collected, ahead, lent_at}
use Rattle.shots.specs.Added.{up_from, last_end, tight, base, new_places, with, added_to, room_at, add_at, Adds}
use Rattle.shots.specs.Facts.{Room}
use Rattle.shots.proofs.Additions.{room_of}
use Rattle.shots.proofs.Collecting.{collected_kept, moved, object_moved}
use Rattle.shots.proofs.Fits.{fit_by, name_short, ends_short}
use Rattle.shots.proofs.Ranked.{same_spelling}

-- bytes that end in the front of a list are the front's
front_bytes : (xs ys : List ℕ) (from till : ℕ) → from ≤ till → till ≤ length xs → take (till - from) (drop from (xs ++ ys)) ≡ take (till - from) (drop from xs)
front_bytes xs ys from till a b = rw (drop-append-le from xs ys (omega arith)) (take-append-le (till - from) (drop from xs) ys (omega (arith, length-drop from xs)))

module _ (t : Table) (r : Rule t) (p handle : ℕ) (name : List ℕ) (free : t.count < 1024) (holds : last_end t + length name ≤ length t.names) (up : live (flags t) p ≡ true) where
  s : Sound t
  s = sound t (rule_ok t r)

  below : p < t.count
  below = omega (arith, marked_there (flags t) p up, marks_long s)

  -- a list with one entry more behind the count
  other_at : (l : List ℕ) (x k : ℕ) → k < t.count → get_or (set l t.count x) k 0 ≡ get_or l k 0
  other_at l x k h = get_or-set_other l t.count k x 0 (λ e. omega arith)

  one_at : (l : List ℕ) (x : ℕ) → length l ≡ 1024 → get_or (set l t.count x) t.count 0 ≡ x
  one_at l x e = get_or-set_same l t.count x 0 (omega arith)

  start_at : (x k : ℕ) → k ≤ t.count → start_of (set t.ends t.count x) k ≡ start_of t.ends k
  start_at x zero h = refl
  start_at x (suc k) h = other_at t.ends x k h

  mark_live : (k : ℕ) → k < t.count → Live t k → Live (with t p handle name) k
  mark_live k h l = omega (arith, other_at t.marks 1 k h)

  live_mark : (k : ℕ) → k < t.count → live (flags t) k ≡ true → Live t k
  live_mark k h e = omega (arith, ltb-true 0 (get_or (flags t) k 0) e, get_or-take t.count t.marks k 0 h)

  names_long : length (with t p handle name).names ≡ length t.names
  unfolding put
  names_long = length-sets t.names (last_end t) name

  pub with_rule : Rule (with t p handle name)
  with_rule =
      let some = r.some in
      record {
        handled = length-set t.handles t.count handle ∙ r.handled;
        parented = length-set t.parents t.count p ∙ r.parented;
        ended = length-set t.ends t.count (last_end t + length name) ∙ r.ended;
        marked = length-set t.marks t.count 1 ∙ r.marked;
        some = omega arith;
        few = omega arith;
        root = other_at t.parents p 0 some ∙ r.root;
        smaller = λ k o h. equal k t.count
            (λ z. subst (λ i. parent (set t.parents t.count p) i < i) (sym z) (omega (arith, one_at t.parents p r.parented, below)))
            (λ z. omega (arith, other_at t.parents p k (omega arith), r.smaller k o (omega arith)));
        root_live = mark_live 0 some r.root_live;
        up = λ k o h l. equal k t.count
            (λ z. subst (λ i. Live (with t p handle name) (parent (set t.parents t.count p) i)) (sym z)
            (subst (Live (with t p handle name)) (sym (one_at t.parents p r.parented)) (mark_live p below (live_mark p below up))))
            (λ z. let b : k < t.count = omega arith in
            let less = r.smaller k o b in
            subst (Live (with t p handle name)) (sym (other_at t.parents p k b)) (mark_live (parent t.parents k) (omega arith) (r.up k o b (omega (arith, other_at t.marks 1 k b)))));
        rises = λ k h. equal k t.count
            (λ z. subst (λ i. start_of (with t p handle name).ends i ≤ end_of (with t p handle name).ends i) (sym z)
            (omega (arith, start_at (last_end t + length name) t.count (le_refl t.count), one_at t.ends (last_end t + length name) r.ended)))
            (λ z. let b : k < t.count = omega arith in
            omega (arith, start_at (last_end t + length name) k (omega arith), other_at t.ends (last_end t + length name) k b, r.rises k b));
        within = λ k h. equal k t.count
            (λ z. subst (λ i. end_of (with t p handle name).ends i ≤ length (with t p handle name).names) (sym z)
            (omega (arith, one_at t.ends (last_end t + length name) r.ended, names_long)))
            (λ z. let b : k < t.count = omega arith in
            omega (arith, other_at t.ends (last_end t + length name) k b, r.within k b, names_long));
      }

  -- ── names ──

  climbs : (j k : ℕ) → k ≤ j → j ≤ t.count → start_of t.ends k ≤ start_of t.ends j
  climbs zero k a b = let z : k ≡ 0 = omega arith in rw z (omega arith)
  climbs (suc j) k a b = equal k (suc j)
      (λ z. rw z (le_refl (end_of t.ends j)))
      (λ z. omega (arith, climbs j k (omega arith) (omega arith), r.rises j (omega arith)))

  abbrev rest : List ℕ
  rest = drop (last_end t + length name) t.names

  names_are : (with t p handle name).names ≡ take (last_end t) t.names ++ (name ++ rest)
  unfolding put
  names_are = sets-eq name t.names (last_end t) holds ∙ append_assoc (take (last_end t) t.names) name rest

  front_long : length (take (last_end t) t.names) ≡ last_end t
  front_long = length-take-le (last_end t) t.names (omega arith)

  name_below : (k : ℕ) → k < t.count → name_bytes (with t p handle name).ends (with t p handle name).names k ≡ name_bytes t.ends t.names k
  name_below k h =
      let a = start_at (last_end t + length name) k (omega arith) in
      let b = other_at t.ends (last_end t + length name) k h in
      let up = r.rises k h in
      let in_front = climbs t.count (suc k) h (le_refl t.count) in
      rw (a, b, names_are) (
      front_bytes (take (last_end t) t.names) (name ++ rest) (start_of t.ends k) (end_of t.ends k) up (omega (arith, front_long))
      ∙ sym (front_bytes (take (last_end t) t.names) (drop (last_end t) t.names) (start_of t.ends k) (end_of t.ends k) up (omega (arith, front_long)))
      ∙ ap (λ (l : List ℕ). take (end_of t.ends k - start_of t.ends k) (drop (start_of t.ends k) l)) (take-append-drop (last_end t) t.names)
      )

  name_new : name_bytes (with t p handle name).ends (with t p handle name).names t.count ≡ name
  name_new =
      let a = start_at (last_end t + length name) t.count (le_refl t.count) in
      let b = one_at t.ends (last_end t + length name) r.ended in
      let size : last_end t + length name - last_end t ≡ length name = omega arith in
      let seam : drop (last_end t) (take (last_end t) t.names ++ (name ++ rest)) ≡ name ++ rest =
      ap (λ (n : ℕ). drop n (take (last_end t) t.names ++ (name ++ rest))) (sym front_long) ∙ drop-append_seam (take (last_end t) t.names) (name ++ rest) in
      rw (a, b, names_are, size, seam) (take-append_seam name rest)

  with_kept : ((k : ℕ) → k < t.count → Read (name_bytes t.ends t.names k)) → Read name → table_at (with t p handle name) ≡ got tt (suc t.count)
  with_kept f g = table_all (with t p handle name) with_rule (λ k h. equal k t.count
      (λ z. subst Read (sym (ap (name_bytes (with t p handle name).ends (with t p handle name).names) z ∙ name_new)) g)
      (λ z. subst Read (sym (name_below k (omega arith))) (f k (omega arith))))

  -- ── paths ──

  s' : Sound (with t p handle name)
  s' = sound (with t p handle name) (rule_ok (with t p handle name) with_rule)

  row_at : (k : ℕ) → k < t.count → parent (rows (with t p handle name)) k ≡ parent (rows t) k
  row_at k h = get_or-take (suc t.count) (set t.parents t.count p) k 0 (omega arith) ∙ other_at t.parents p k h ∙ sym (get_or-take t.count t.parents k 0 h)

  there : (k : ℕ) → live (flags t) k ≡ true → k < t.count
  there k e = omega (arith, marked_there (flags t) k e, marks_long s)

  still : Marks (rows (with t p handle name)) (live (flags t))
  still = record {
    root = s.marks.root;
    place = λ k e. omega (arith, there k e, rows_long s');
    up = λ k o e. subst (λ i. live (flags t) i ≡ true) (sym (row_at k (there k e))) (s.marks.up k o e);
  }

  stay : Moves (rows t) (live (flags t)) (rows (with t p handle name)) (live (flags t)) (λ k. k)
  stay = record {
    root = refl;
    rises = λ a b _ _ h. h;
    keeps = λ k e. e;
    covers = λ k e. (k, e, refl);
    parents = λ k o e. row_at k (there k e);
  }

  pub path_with : (k : ℕ) → live (flags t) k ≡ true
      → path_of (rows (with t p handle name)) (stops (with t p handle name)) (with t p handle name).names k ≡ path_of (rows t) (stops t) t.names k
  path_with = path_moved (rows t) (live (flags t)) s.kept.ruling s.marks (rows (with t p handle name)) (live (flags t)) s'.kept.ruling still (λ k. k) stay
      (stops t) t.names (stops (with t p handle name)) (with t p handle name).names same
    where
      same : (k : ℕ) → live (flags t) k ≡ true → name_of (stops (with t p handle name)) (with t p handle name).names k ≡ name_of (stops t) t.names k
      same k e = same_spelling (stops t) t.names (stops (with t p handle name)) (with t p handle name).names k k (
          name_cut (suc t.count) (with t p handle name).ends (with t p handle name).names k (omega (arith, there k e))
          ∙ name_below k (there k e) ∙ sym (name_cut t.count t.ends t.names k (there k e))
          )

  new_parent : parent (rows (with t p handle name)) t.count ≡ p
  new_parent = get_or-take (suc t.count) (set t.parents t.count p) t.count 0 (omega arith) ∙ one_at t.parents p r.parented

  new_name : name_of (stops (with t p handle name)) (with t p handle name).names t.count ≡ spelling (utf8_at name 0)
  unfolding name_of
  new_name = ap (λ (b : List ℕ). spelling (utf8_at b 0)) (name_cut (suc t.count) (with t p handle name).ends (with t p handle name).names t.count (omega arith) ∙ name_new)

  -- a path in the new table, and one joined to the new name
  abbrev path : ℕ → List ℕ
  path j = path_of (rows (with t p handle name)) (stops (with t p handle name)) (with t p handle name).names j

  abbrev then_name : List ℕ → List ℕ
  then_name w = w ++ slash_after w ++ name_of (stops (with t p handle name)) (with t p handle name).names t.count

  new_step : path t.count ≡ then_name (path (parent (rows (with t p handle name)) t.count))
  unfolding path_of
  new_step = by_parent _ _ (rows (with t p handle name)) s'.kept.ruling t.count r.some (omega (arith, rows_long s'))

  pub path_new : path_of (rows (with t p handle name)) (stops (with t p handle name)) (with t p handle name).names t.count
      ≡ path_of (rows t) (stops t) t.names p ++ slash_after (path_of (rows t) (stops t) t.names p) ++ spelling (utf8_at name 0)
  path_new =
      new_step ∙ ap (λ (j : ℕ). then_name (path j)) new_parent ∙ ap then_name (path_with p up)
      ∙ ap (λ (l : List ℕ). path_of (rows t) (stops t) t.names p ++ slash_after (path_of (rows t) (stops t) t.names p) ++ l) new_name

-- ── the table that the object is put into ──

own_at : (k m i : ℕ) → i < m → get_or (up_from k m) i 0 ≡ k + i
unfolding up_from
own_at k zero i h = absurd (not-suc-le-zero h)
own_at k (suc m) zero h = omega arith
own_at k (suc m) (suc i) h = own_at (suc k) m i (omega arith) ∙ omega arith

-- a table and new places in which each live object of t is live, with its handle and its path
pub record Carries (t u : Table) (new : List ℕ) : Type 0 where
  pub accepted : table_at u ≡ got tt u.count
  pub still : (k : ℕ) → live (flags t) k ≡ true → live (flags u) (get_or new k 0) ≡ true
  pub handle : (k : ℕ) → live (flags t) k ≡ true → get_or u.handles (get_or new k 0) 0 ≡ get_or t.handles k 0
  pub path : (k : ℕ) → live (flags t) k ≡ true → path_of (rows u) (stops u) u.names (get_or new k 0) ≡ path_of (rows t) (stops t) t.names k

module _ (t : Table) {n : ℕ} (e : table_at t ≡ got tt n) where
  rule : Rule t
  rule = (table_got t e).1

  own : (k : ℕ) → live (flags t) k ≡ true → get_or (up_from 0 t.count) k 0 ≡ k
  own k h = own_at 0 t.count k (omega (arith, marked_there (flags t) k h, marks_long (sound t (rule_ok t rule)))) ∙ zero-add k

  pub base_carries : (size : ℕ) → Carries t (base t size) (new_places t size)
  base_carries size = by (tight t size)
    where
      by : (b : Bool) → Carries t (pick b (collected t) t) (pick b (places t) (up_from 0 t.count))
      by true = record {
        accepted = collected_kept t e;
        still = (moved t rule).keeps;
        handle = λ k h. (object_moved t rule k h).0;
        path = λ k h. (object_moved t rule k h).1;
      }
      by false = record {
        accepted = e ∙ ap (got tt) (table_got t e).0;
        still = λ k h. subst (λ i. live (flags t) i ≡ true) (sym (own k h)) h;
        handle = λ k h. ap (λ (i : ℕ). get_or t.handles i 0) (own k h);
        path = λ k h. ap (path_of (rows t) (stops t) t.names) (own k h);
      }

  module _ (h : Bytes t.names) (parent handle : ℕ) (name : List ℕ) (g : Bytes name) {m : ℕ} (named : name_at name ≡ got tt m) (up : live (flags t) parent ≡ true)
      (a : alive (flags t) ≡ 1024 → ⊥) (b : length name ≤ length t.names - length (live_names t)) where
    -- the table, and the parent's place in it
    abbrev into : Table
    into = base t (length name)

    abbrev at : ℕ
    at = get_or (new_places t (length name)) parent 0

    -- where neither 19 nor 9 is given there is a place, and room for the name
    pub room : Room into (length name)
    room = room_of (fit_by rule) (length name) a b (ends_short t (sym e) h t.count (le_refl t.count)) (name_short name g (sym named))

    carries : Carries t into (new_places t (length name))
    carries = base_carries (length name)

    into_rule : Rule into
    into_rule = (table_got into carries.accepted).1

    pub added_kept : table_at (added_to t parent handle name) ≡ got tt (suc into.count)
    added_kept = with_kept into into_rule at handle name room.free room.holds (carries.still parent up) (table_got into carries.accepted).2 (m, named)

    -- every live object's path is the same
    pub path_added : (k : ℕ) → live (flags t) k ≡ true
        → path_of (rows (added_to t parent handle name)) (stops (added_to t parent handle name)) (added_to t parent handle name).names (get_or (new_places t (length name)) k 0) ≡ path_of (rows t) (stops t) t.names k
    path_added k l = path_with into into_rule at handle name room.free room.holds (carries.still parent up) (get_or (new_places t (length name)) k 0) (carries.still k l) ∙ carries.path k l

    -- the new one's is its parent's, the slash, its name
    pub path_of_added : path_of (rows (added_to t parent handle name)) (stops (added_to t parent handle name)) (added_to t parent handle name).names into.count
        ≡ path_of (rows t) (stops t) t.names parent ++ slash_after (path_of (rows t) (stops t) t.names parent) ++ spelling (utf8_at name 0)
    path_of_added =
        path_new into into_rule at handle name room.free room.holds (carries.still parent up)
        ∙ ap (λ (w : List ℕ). w ++ slash_after w ++ spelling (utf8_at name 0)) (carries.path parent up)

-- ── 19 and 9 ──

differ : bare ROOM ≡ bare TAKEN → ⊥
differ e = let n : ROOM ≡ TAKEN = sym (bare_no ROOM) ∙ ap (λ (w : Told). w.no) e ∙ bare_no TAKEN in omega arith

-- of an accepted table, with a live parent and a name that is read: 19 exactly with 1,024 live objects; else 9 exactly where the name has no room beside the live ones
module _ (t : Table) (old : List ℕ) (parent : ℕ) (name : List ℕ) {n m : ℕ} (e : lent_at t old ≡ got tt n) (up : live (flags t) parent ≡ true) (named : name_at name ≡ got tt m) where
  by_room : add_at t old parent name ≡ room_at t (length name)
  unfolding add_at after
  by_room = rw (e, up, named)

  pub taken_exactly : add_at t old parent name ≡ refused (bare TAKEN) ↔ (alive (flags t) ≡ 1024)
  unfolding room_at
  taken_exactly = (λ f. is (eqb (alive (flags t)) 1024) refl (sym by_room ∙ f), λ f. by_room ∙ rw (eq-eqb (alive (flags t)) 1024 f))
    where
      no : (b : Bool) → pick b (refused (bare ROOM)) (got (tt {0}) (base t (length name)).count) ≡ refused (bare TAKEN) → ⊥
      no true f = let same : bare ROOM ≡ bare TAKEN = cc in differ same
      no false f = zero_one (cc)

      is : (b : Bool) → eqb (alive (flags t)) 1024 ≡ b → pick b (refused (bare TAKEN)) (pick (ltb (length t.names - length (live_names t)) (length name)) (refused (bare ROOM)) (got (tt {0}) (base t (length name)).count)) ≡ refused (bare TAKEN)
          → alive (flags t) ≡ 1024
      is true g f = eqb-true (alive (flags t)) 1024 g
      is false g f = absurd (no (ltb (length t.names - length (live_names t)) (length name)) f)

  pub room_exactly : (alive (flags t) ≡ 1024 → ⊥) → add_at t old parent name ≡ refused (bare ROOM) ↔ (length t.names - length (live_names t) < length name)
  unfolding room_at
  room_exactly a = (λ f. is (ltb (length t.names - length (live_names t)) (length name)) refl (sym behind ∙ f), λ l. behind ∙ rw (lt-ltb (length t.names - length (live_names t)) (length name) l))
    where
      behind : add_at t old parent name ≡ pick (ltb (length t.names - length (live_names t)) (length name)) (refused (bare ROOM)) (got (tt {0}) (base t (length name)).count)
      behind = by_room ∙ rw (ne_eqb (alive (flags t)) 1024 a)

      is : (b : Bool) → ltb (length t.names - length (live_names t)) (length name) ≡ b → pick b (refused (bare ROOM)) (got (tt {0}) (base t (length name)).count) ≡ refused (bare ROOM)
          → length t.names - length (live_names t) < length name
      is true g f = ltb-true (length t.names - length (live_names t)) (length name) g
      is false g f = zero_one (cc)

-- ── what is left where it was not refused ──

passed : {A : Type 0} (b : Bool) (w : Told) (x : Answer A) {a : A} {n : ℕ} → pick b (refused w) x ≡ got a n → (b ≡ false) × (x ≡ got a n)
passed true w x e = zero_one (cc)
passed false w x e = (refl, e)

pub record AddedLeft (t : Table) (old : List ℕ) (parent handle : ℕ) (name : List ℕ) (place : ℕ) (left : Table) (new : List ℕ) : Type 0 where
  pub size : ℕ
  pub accepted : table_at t ≡ got tt size
  pub hangs : live (flags t) parent ≡ true
  pub named : Read name
  pub free : alive (flags t) ≡ 1024 → ⊥
  pub fits : length name ≤ length t.names - length (live_names t)
  pub behind : place ≡ (base t (length name)).count
  pub table : left ≡ added_to t parent handle name
  pub places : new ≡ ahead (new_places t (length name)) old

pub added_left : {t : Table} {old name : List ℕ} {parent handle place : ℕ} {hs ps es ms ns new : List ℕ} → Adds (add_at t old parent name) t old parent handle name (got tt place) hs ps es ms ns new
    → AddedLeft t old parent handle name place (table hs ps es ms (suc place) ns) new
unfolding add_at room_at lent_at
added_left {t} {old} {name} {parent} {handle} {place} c =
    let x = parted (lent_at t old) _ (sym c.answers) in
    let z = picked (eqb (length old) 1024) (table_at t) (bare TABLE) x.2 in
    let y = picked (live (flags t) parent) _ (bare PLACE) x.3 in
    let n = parted (name_at name) _ y.1 in
    let p = passed (eqb (alive (flags t)) 1024) (bare TAKEN) _ n.3 in
    let q = passed (ltb (length t.names - length (live_names t)) (length name)) (bare ROOM) (got (tt {0}) (base t (length name)).count) p.1 in
    let l = c.lists in
    let count : place ≡ (base t (length name)).count = sym (one_got q.1).1 in
    record {
      size = x.1;
      accepted = z.1;
      hangs = y.0;
      named = (n.1, n.2);
      free = eqb-false (alive (flags t)) 1024 p.0;
      fits = omega (arith, ltb-false (length t.names - length (live_names t)) (length name) q.0);
      behind = count;
      table = rw (l.handles, l.parents, l.ends, l.marks, l.names, count);
      places = c.news;
    }
