-- Collecting a table with its links: each is carried with its place, and where live places are moved in their order the links of the new table are the new places of the old ones.
-- Assumes nothing.
use mathlib.Core.Path.{◌≡◌, refl, sym, ap, subst, ◌∙◌}
use mathlib.Core.Bool.{Bool, true, false}
use mathlib.Core.List.{List, [], ◌++◌, append-nil}
use Prim.Native.Nat.{ℕ, suc, ◌+◌, ◌-◌, ◌≤◌, ◌<◌}
use native.Mathlib.Omega.{arith}
use borrow.Rule.Slice.PartMut.{put_mid}
use lib.ListN.{length, get_or, take, drop, replicate, length-replicate, get_or-replicate, length-append, length-drop, get_or-append, get_or-eq_default, drop_of_length-le}
use lib.Seq.{length-take-le, get_or-take, get_or-append-add}
use Rattle.tree.specs.Facts.{Marks}
use Rattle.tree.specs.Links.{Child, Lowest, lowest, nobody, Links}
use Rattle.tree.specs.Rule.{Rule}
use Rattle.tree.specs.Table.{Table, rows, flags, live, parent}
use Rattle.tree.proofs.laws.Below.{by_less, by_mark, clash}
use Rattle.tree.proofs.laws.Counts.{equal}
use Rattle.tree.proofs.laws.Moved.{Moves}
use Rattle.tree.proofs.laws.Ruled.{rule_ok}
use Rattle.tree.proofs.laws.Sound.{sound, rows_long, marked_there}
use Rattle.shots.specs.Collected.{alive, kept_by, ahead, places, new_place, collected}
use Rattle.shots.specs.Facts.{Fronted, Hung, Blank, Carried, LinksOf}
use Rattle.shots.proofs.Collecting.{new_is, moved}
use Rattle.shots.proofs.Fits.{fit_by}
use Rattle.shots.proofs.Gatherings.{places_long, flags_long, fronted_long, ahead_at}
use Rattle.shots.proofs.Ranked.{rank_below, rank_covers, kept_at, kept_long}

-- ── one list ──

-- behind the first n nothing but 0
pub blank : (l : List ℕ) (n : ℕ) → n ≤ length l → Blank n l (put_mid n (length l - n) l (replicate (length l - n) 0))
blank l n h =
    let zeros = replicate {A = ℕ} (length l - n) 0 in
    let front = length-take-le n l h in
    let past : drop (length l - n) (drop n l) ≡ [] = drop_of_length-le (drop n l) (omega (arith, length-drop n l)) in
    let all : put_mid n (length l - n) l (replicate (length l - n) 0) ≡ take n l ++ replicate (length l - n) 0 = rw (past, append-nil) in
    rw all record {
      long = omega (arith, length-append (take n l) zeros, length-replicate {A = ℕ} (length l - n) 0);
      before = λ k b. get_or-append (take n l) zeros 0 k (omega arith) ∙ get_or-take n l k 0 b;
      none = λ k b.
          let at : k ≡ length (take n l) + (k - n) = omega arith in
          ap (λ (i : ℕ). get_or (take n l ++ zeros) i 0) at ∙ get_or-append-add (take n l) zeros (k - n) 0
          ∙ by_less (k - n) (length l - n) _ refl
          (λ c. get_or-replicate {A = ℕ} (length l - n) (k - n) 0 0 c)
          (λ c. get_or-eq_default zeros 0 (omega (arith, length-replicate {A = ℕ} (length l - n) 0)));
    }

pub carried : {ms news old mid new : List ℕ} {n : ℕ} → length ms ≤ length old → Fronted (kept_by (λ p. get_or news p 0) ms old) old mid n → Blank n mid new → Carried ms news old new
carried {ms} {news} {old} {mid} {new} {n} fits f b =
    let long = kept_long (λ p. get_or news p 0) ms old fits in
    let size = f.size in
    record {
      long = b.long ∙ fronted_long f;
      each = λ k e.
          let less = rank_below ms k e in
          let there = marked_there ms k e in
          b.before (alive (take k ms)) (omega arith) ∙ ap (λ (l : List ℕ). get_or l (alive (take k ms)) 0) f.list
          ∙ ahead_at (kept_by (λ p. get_or news p 0) ms old) old (alive (take k ms)) (omega arith) ∙ kept_at (λ p. get_or news p 0) ms old k e (omega arith);
      none = λ k h. b.none k (omega arith);
    }

-- ── links of places that were moved ──

module _ {ps : List ℕ} {has : ℕ → Bool} {qs : List ℕ} {now : ℕ → Bool} {new : ℕ → ℕ} (moves : Moves ps has qs now new) (marks : Marks ps has) where
  not_before : {a b : ℕ} → has a ≡ true → has b ≡ true → a ≤ b → new a ≤ new b
  not_before {a} {b} p q h = equal a b (λ e. rw e (omega arith)) (λ e. let r = moves.rises a b p q (omega arith) in omega arith)

  back_less : {a b : ℕ} → has a ≡ true → has b ≡ true → new a < new b → a < b
  back_less {a} {b} p q h = by_less a b _ refl (λ l. l) (λ l. absurd (let r = not_before q p l in omega arith))

  back_same : {a b : ℕ} → has a ≡ true → has b ≡ true → new a ≡ new b → a ≡ b
  back_same {a} {b} p q e =
      equal a b (λ z. z) (λ z. absurd (by_less a b _ refl (λ l. let r = moves.rises a b p q l in omega arith) (λ l. let r = moves.rises b a q p (omega arith) in omega arith)))

  -- from behind a live place on
  module _ {p q : ℕ} (up : has p ≡ true) (at : has q ≡ true) where
    child_moved : {x : ℕ} → Child ps has p (suc q) x → Child qs now (new p) (suc (new q)) (new x)
    child_moved {x} c =
        let l = c.least in
        record { least = moves.rises q x at c.living l; living = moves.keeps x c.living; up = moves.parents x (omega arith) c.living ∙ ap new c.up }

    child_back : {j : ℕ} → Child qs now (new p) (suc (new q)) j → (x : ℕ) × Child ps has p (suc q) x × (new x ≡ j)
    child_back {j} c =
        let (x, e, z) = moves.covers j c.living in
        let l = c.least in
        let less = back_less at e (omega arith) in
        let o : 0 < x = omega arith in
        let u : new (parent ps x) ≡ new p = sym (moves.parents x o e) ∙ ap (parent qs) z ∙ c.up in
        (x, record { least = less; living = e; up = back_same (marks.up x o e) up u }, z)

    lowest_moved : {k : ℕ} → Lowest ps has p (suc q) k → Lowest qs now (new p) (suc (new q)) (new k)
    lowest_moved {k} (lowest c f) =
        lowest {k = new k} (child_moved c) (λ j d. let (x, b, z) = child_back d in let l = not_before c.living b.living (f x b) in omega arith)
    lowest_moved (nobody f) = rw moves.root (nobody (λ j d. let (x, b, z) = child_back d in f x b))

  module _ {fs ns : List ℕ} (links : Links ps has fs ns) (fs' ns' : List ℕ) (long : length fs' ≡ 1024) (long' : length ns' ≡ 1024)
      (first : (k : ℕ) → has k ≡ true → get_or fs' (new k) 0 ≡ new (get_or fs k 0)) (next : (k : ℕ) → has k ≡ true → get_or ns' (new k) 0 ≡ new (get_or ns k 0))
      (none : (k : ℕ) → now k ≡ false → (get_or fs' k 0 ≡ 0) × (get_or ns' k 0 ≡ 0)) where
    first-at : (k : ℕ) → has k ≡ true → Lowest qs now (new k) 1 (get_or fs' (new k) 0)
    first-at k e = let l = lowest_moved e marks.root (links.first k e) in rw (first k e) (subst (λ i. Lowest qs now (new k) (suc i) (new (get_or fs k 0))) moves.root l)

    next-at : (k : ℕ) → 0 < k → has k ≡ true → Lowest qs now (parent qs (new k)) (suc (new k)) (get_or ns' (new k) 0)
    next-at k o e = rw (next k e, moves.parents k o e) (lowest_moved (marks.up k o e) e (links.next k o e))

    links_moved : Links qs now fs' ns'
    links_moved = record {
      firsts = long;
      nexts = long';
      first = λ j e. let (k, h, z) = moves.covers j e in subst (λ i. Lowest qs now i 1 (get_or fs' i 0)) z (first-at k h);
      next = λ j o e. let (k, h, z) = moves.covers j e in
          let u : 0 < k = equal k 0 (λ q. absurd (let y : new k ≡ 0 = rw q moves.root in omega arith)) (λ q. omega arith) in
          subst (λ i. Lowest qs now (parent qs i) (suc i) (get_or ns' i 0)) z (next-at k u h);
      root = ap (λ (i : ℕ). get_or ns' i 0) (sym moves.root) ∙ next 0 marks.root ∙ ap new links.root ∙ moves.root;
      ended = none;
    }

-- ── of a table ──

module _ {ps : List ℕ} {has : ℕ → Bool} {fs ns : List ℕ} (marks : Marks ps has) (links : Links ps has fs ns) where
  some : 0 < length ps
  some = marks.place 0 marks.root

  lowest_in : {p m k : ℕ} → Lowest ps has p m k → k < length ps
  lowest_in {k = k} (lowest c f) = marks.place k c.living
  lowest_in (nobody f) = some

  -- a link is a place
  first_in : (k : ℕ) → get_or fs k 0 < length ps
  first_in k = by_mark (has k) (λ e. lowest_in (links.first k e)) (λ e. let z = (links.ended k e).0 in let o = some in omega arith)

  next_in : (k : ℕ) → get_or ns k 0 < length ps
  next_in k =
      by_mark (has k)
      (λ e. equal k 0 (λ z. rw z (let r = links.root in let o = some in omega arith)) (λ z. lowest_in (links.next k (omega arith) e)))
      (λ e. let z = (links.ended k e).1 in let o = some in omega arith)

module _ {t : Table} (r : Rule t) {fs ns : List ℕ} (links : Links (rows t) (live (flags t)) fs ns) where
  marks_of : Marks (rows t) (live (flags t))
  marks_of = (sound t (rule_ok t r)).marks

  below : {k : ℕ} → k < length (rows t) → k < t.count
  below h = let n = rows_long (sound t (rule_ok t r)) in omega arith

  pub first_hung : {size : ℕ} → 1024 ≤ size → Hung (length (flags t)) fs size
  first_hung h = let few = r.few in record { hung = λ k _. let l = below (first_in marks_of links k) in omega arith }

  pub next_hung : {size : ℕ} → 1024 ≤ size → Hung (length (flags t)) ns size
  next_hung h = let few = r.few in record { hung = λ k _. let l = below (next_in marks_of links k) in omega arith }

  module _ (old : List ℕ) {new : List ℕ} (news : new ≡ ahead (places t) old) where
    -- the new place of a link
    carried_at : {l l' : List ℕ} → Carried (flags t) new l l' → ((k : ℕ) → get_or l k 0 < t.count) → (k : ℕ) → live (flags t) k ≡ true → get_or l' (new_place t k) 0 ≡ new_place t (get_or l k 0)
    carried_at {l} {l'} c inside k e =
        let n = flags_long (fit_by r) in
        let m = places_long 0 (flags t) in
        let i = inside k in
        ap (λ (j : ℕ). get_or l' j 0) (new_is t r k e) ∙ c.each k e ∙ ap (λ (x : List ℕ). get_or x (get_or l k 0) 0) news ∙ ahead_at (places t) old (get_or l k 0) (omega arith)

    ended_behind : (k : ℕ) → live (flags (collected t)) k ≡ false → alive (flags t) ≤ k
    ended_behind k e = by_less k (alive (flags t)) _ refl
        (λ h. absurd (let (j, a, z) = rank_covers (flags t) k h in
        clash (live (flags (collected t)) k) (subst (λ i. live (flags (collected t)) i ≡ true) (new_is t r j a ∙ z) ((moved t r).keeps j a)) e))
        (λ h. h)

    pub collected_links : {fs' ns' : List ℕ} → Carried (flags t) new fs fs' → Carried (flags t) new ns ns' → LinksOf (collected t) fs' ns'
    collected_links {fs'} {ns'} a b = record {
      links = links_moved (moved t r) marks_of links fs' ns' (a.long ∙ links.firsts) (b.long ∙ links.nexts)
          (carried_at a (λ k. below (first_in marks_of links k))) (carried_at b (λ k. below (next_in marks_of links k)))
          (λ k e. (a.none k (ended_behind k e), b.none k (ended_behind k e)));
    }
