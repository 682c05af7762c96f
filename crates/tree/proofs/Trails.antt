-- All paths, end to end, one at a time: what is left after the first i is the paths of the places that are left. And what is said of all of them.
-- Assumes nothing.
use mathlib.Core.Path.{◌≡◌, refl, sym, ap, ◌∙◌}
use mathlib.Core.Bool.{Bool, true, false}
use mathlib.Core.List.{List, [], ◌∷◌, ◌++◌}
use Prim.Native.Nat.{ℕ, suc, ◌+◌, ◌*◌, ◌≤◌, ◌<◌}
use native.Mathlib.Numerals.{add-one}
use native.Mathlib.Omega.{arith}
use borrow.Author.Tests.{le-leb, lt-leb, leb-true, leb-false}
use lib.Dec.{leb}
use lib.ListN.{length, get_or, take, drop, length-append, drop_of_length-le}
use lib.Seq.{drop-cons, take_at}
use Rattle.layout.specs.Answer.{Told, Answer, got, refused, bare, pick}
use Rattle.layout.specs.Bytes.{Bytes}
use Rattle.layout.specs.Written.{says, no, Wrote, Put, left_of}
use Rattle.layout.proofs.laws.Numbers.{zero_one}
use Rattle.layout.proofs.laws.Writing.{refusal, no_room, done}
use Rattle.layout.specs.Refusals.{ROOM}
use Rattle.tree.specs.Facts.{Ruled, Kept, Marks, Listing, PathsGiven}
use Rattle.tree.specs.Listed.{times, Every, none, more, Listed}
use Rattle.tree.specs.Table.{Table, rows, stops, flags, live, parent, table_at}
use Rattle.tree.specs.Way.{Walk}
use Rattle.tree.specs.Path.{path_of, joined, ends_from, paths_said, ends_said, Walked, AllPaths}
use Rattle.tree.specs.Says.{Walks}
use Rattle.tree.proofs.laws.Counts.{hit, pigeon}
use Rattle.tree.proofs.Onward.{deeper, above_it}
use Rattle.tree.proofs.Routes.{path_short}
use Rattle.tree.proofs.laws.Ways.{never}

-- ── one at a time ──

module _ (ps es ns l : List ℕ) (i : ℕ) where
  pub joined_step : i < length l → joined ps es ns (drop i l) ≡ path_of ps es ns (get_or l i 0) ++ joined ps es ns (drop (i + 1) l)
  unfolding joined
  joined_step h = rw (add-one, drop-cons l i 0)

  pub joined_none : length l ≤ i → joined ps es ns (drop i l) ≡ []
  unfolding joined
  joined_none h = rw (drop_of_length-le l)

  pub ends_step : i < length l → (at o : ℕ) → o ≡ at + length (path_of ps es ns (get_or l i 0)) → ends_from at ps es ns (drop i l) ≡ o ∷ ends_from o ps es ns (drop (i + 1) l)
  unfolding ends_from
  ends_step h at o e = rw (add-one, drop-cons l i 0, e)

  pub ends_none : length l ≤ i → (at : ℕ) → ends_from at ps es ns (drop i l) ≡ []
  unfolding ends_from
  ends_none h at = rw (drop_of_length-le l)

pub ends_long : (ps es ns l : List ℕ) (at : ℕ) → length (ends_from at ps es ns l) ≡ length l
unfolding ends_from
ends_long ps es ns [] at = refl
ends_long ps es ns (k ∷ l) at = ap suc (ends_long ps es ns l (at + length (path_of ps es ns k)))

-- ── how long they can be ──

joined_few : (ps es ns : List ℕ) → Ruled ps → Bytes ns → {l : List ℕ} → Every (λ k. k < length ps) l → length (joined ps es ns l) ≤ length l * 1041408
unfolding joined
joined_few ps es ns rule h none = omega arith
joined_few ps es ns rule h (more {x = k} {l = l} p e) =
    omega (arith, length-append (path_of ps es ns k) (joined ps es ns l), path_short ps es ns rule h k p, joined_few ps es ns rule h e)

-- 32 bits are enough for an end
pub joined_short : {ps es ns l : List ℕ} → Listing ps es ns l → Bytes ns → length (joined ps es ns l) ≤ 1066401792
joined_short {ps} {es} {ns} {l} g h = omega (arith, joined_few ps es ns g.kept.ruling h g.places, g.few)

-- ── the places that are listed ──

every_there : {P : ℕ → Type 0} (l : List ℕ) → ((k : ℕ) → 0 < times k l → P k) → Every P l
every_there [] f = none
every_there (x ∷ l) f = more (f x (omega (arith, hit x x l refl))) (every_there l (λ k h. f k (omega arith)))

once_there : (n k t : ℕ) (b : Bool) → (b ≡ true → k < n) → t ≡ pick b 1 0 → (t ≤ 1) × (0 < t → k < n) × (n ≤ k → t ≡ 0)
once_there n k t true e h = let j = e refl in (omega arith, λ p. j, λ p. absurd (omega arith))
once_there n k t false e h = (omega arith, λ p. absurd (omega arith), λ p. h)

module _ {ps l : List ℕ} {has : ℕ → Bool} {B : ℕ → ℕ → Type 0} (marks : Marks ps has) (w : Listed has B l) where
  listed_at : (k : ℕ) → (times k l ≤ 1) × (0 < times k l → k < length ps) × (length ps ≤ k → times k l ≡ 0)
  listed_at k = once_there (length ps) k (times k l) (has k) (marks.place k) (w.once k)

  pub listed_few : length l ≤ length ps
  listed_few = pigeon (length ps) l (λ k. (listed_at k).0) (λ k. (listed_at k).2)

  -- listed in an order in which a parent is before its children
  pub listing_by : {es ns : List ℕ} → Kept ps es ns → ((a b : ℕ) → B a b → B b a → ⊥) → ((k : ℕ) → 0 < k → k < length ps → B (parent ps k) k) → Listing ps es ns l
  listing_by kept not_both up_first =
      let few = listed_few in
      let most = kept.ruling.few in
      record { kept = kept; places = every_there l (λ k. (listed_at k).1); above = above_it ps kept.ruling marks not_both up_first w; few = omega arith }

pub listing : {ps es ns l : List ℕ} {has : ℕ → Bool} → Kept ps es ns → Marks ps has → Walk ps has l → Listing ps es ns l
listing {ps} kept marks w = listing_by marks w kept (never ps) (deeper ps kept.ruling)

-- the front of the queue is the walk
pub front : {ps old new : List ℕ} {has : ℕ → Bool} {n : ℕ} → Walks ps has old n new → Walk ps has (take n new) × (length (take n new) ≡ n) × (n ≤ length new)
front {ps} {old} {new} {has} {n} w =
    let e : take n new ≡ w.list = rw w.places (take_at w.list (drop (length w.list) old) n (sym w.count)) in
    (rw e w.walk, ap length e ∙ sym w.count, omega (arith, w.count, simp length-append at (ap length w.places)))

-- ── what is given of the walk ──

module _ (t : Table) (out : List ℕ) where
  pub walk_refused : {why : Told} → refused why ≡ table_at t → Walked t out (refused why) out
  walk_refused e = record { order = []; walked = λ n f. zero_one (cc); wrote = refusal (rw (← e)) }

  pub walk_given : {n : ℕ} {l new : List ℕ} {a : Answer (Unit {0})} → got tt n ≡ table_at t → Walk (rows t) (live (flags t)) l → Wrote (says l) out a new → Walked t out a new
  walk_given {l = l} e w h = record { order = l; walked = λ n f. w; wrote = rw (← e) h }

-- ── what is said of all ──

module _ (t : Table) (out ends : List ℕ) where
  pub all_refused : {why : Told} → refused why ≡ table_at t → AllPaths t out ends (refused why) out ends
  unfolding paths_said ends_said left_of
  all_refused e = record {
    order = [];
    walked = λ n f. zero_one (cc);
    wrote = refusal (rw (← e));
    left = rw (← e);
  }

  pub all_given : {n : ℕ} {l out' ends' : List ℕ} {a : Answer (Unit {0})} → got tt n ≡ table_at t → Walk (rows t) (live (flags t)) l
      → PathsGiven (rows t) (stops t) t.names l out ends a out' ends' → AllPaths t out ends a out' ends'
  unfolding paths_said ends_said
  all_given {l = l} e w g = record { order = l; walked = λ n f. w; wrote = rw (← e) g.wrote; left = rw (← e) g.left }

-- by the room that the outputs have
module _ (ps es ns l out ends : List ℕ) where
  abbrev bytes : List ℕ
  bytes = joined ps es ns l

  abbrev places : List ℕ
  places = ends_from 0 ps es ns l

  said_ends : length bytes ≤ length out → pick (leb (length bytes) (length out)) (says places) (no (bare ROOM)) ≡ says places
  said_ends k = rw (le-leb (length bytes) (length out) k)

  said_no_ends : length out < length bytes → pick (leb (length bytes) (length out)) (says places) (no (bare ROOM)) ≡ no (bare ROOM)
  said_no_ends k = rw (lt-leb (length bytes) (length out) k)

  -- too few ends: they are left as they are, whether the bytes have room or not
  pub given_no_ends : {why : Told} → why ≡ bare ROOM → length ends < length l → PathsGiven ps es ns l out ends (refused why) out ends
  given_no_ends f h = record {
    wrote = refusal (rw (lt-leb (length l) (length ends) h) (ap no (sym f)));
    left = either (leb (length bytes) (length out)) refl;
  }
    where
      either : (b : Bool) → leb (length bytes) (length out) ≡ b → ends ≡ left_of (pick (leb (length bytes) (length out)) (says places) (no (bare ROOM))) ends
      either true q = (no_room {out = ends} (said_ends (leb-true (length bytes) (length out) q)) (omega (arith, ends_long ps es ns l 0)) refl).leaves
      either false q = (refusal (said_no_ends (leb-false (length bytes) (length out) q))).leaves

  module _ (h : length l ≤ length ends) where
    said_paths : pick (leb (length l) (length ends)) (says bytes) (no (bare ROOM)) ≡ says bytes
    said_paths = rw (le-leb (length l) (length ends) h)

    pub given_no_room : {why : Told} → why ≡ bare ROOM → length out < length bytes → PathsGiven ps es ns l out ends (refused why) out ends
    given_no_room f k = record {
      wrote = no_room said_paths k f;
      left = (refusal (said_no_ends k)).leaves;
    }

    pub given_done : {out' ends' : List ℕ} {n m : ℕ} → length bytes ≤ length out → Put out 0 bytes out' n → Put ends 0 places ends' m → PathsGiven ps es ns l out ends (got tt n) out' ends'
    given_done k p q = record {
      wrote = done said_paths k p;
      left = (done (said_ends k) (omega (arith, ends_long ps es ns l 0)) q).leaves;
    }
