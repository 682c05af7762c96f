-- Links as they are reckoned are those of the paper, of which a table has one pair; and the test of links holds exactly for these.
-- Assumes nothing.
use mathlib.Core.Path.{◌≡◌, refl, sym, ap, ◌∙◌}
use mathlib.Core.Bool.{Bool, true, false, ◌&&◌, and-eq-true_iff}
use mathlib.Core.List.{List, [], ◌∷◌}
use Prim.Native.Nat.{ℕ, zero, suc, ◌+◌, ◌≤◌, ◌<◌}
use native.Mathlib.Nat.{add-zero, zero-add, add-suc, suc-add, not-suc-le-zero}
use native.Mathlib.Omega.{arith}
use borrow.Author.Tests.{eq-eqb, ne_eqb, eqb-true, le-leb, lt-leb}
use lib.Dec.{eqb, leb}
use lib.ListN.{length, get_or, get_or-eq_default}
use lib.Seq.{ext_get_or}
use Rattle.layout.specs.Answer.{pick}
use Rattle.tree.specs.Facts.{Marks}
use Rattle.tree.specs.Table.{Table, rows, flags, live, parent}
use Rattle.tree.specs.Links.{Lowest, nobody, Links, first_of, from, first_at, next_at, Linking, agrees, pair_ok, links_ok}
use Rattle.tree.proofs.laws.Below.{by_mark, clash, by_less}
use Rattle.tree.proofs.laws.Chains.{lowest_one, lowest_from}
use Rattle.tree.proofs.laws.Counts.{equal}
use Rattle.tree.proofs.laws.Sound.{Sound}

-- ── place by place ──

module _ (ps : List ℕ) (has : ℕ → Bool) where
  next_live : (j : ℕ) → 0 < j → has j ≡ true → next_at ps has 1 j ≡ first_of (from ps has (suc j) (parent ps j))
  next_live j h e = rw (le-leb 1 j h, e)

  next_root : next_at ps has 1 0 ≡ 0
  next_root = ap (λ (b : Bool). pick {A = ℕ} (b && has 0) (first_of (from ps has 1 (parent ps 0))) 0) (lt-leb 1 0 (omega arith))

  pub next_ended : (k j : ℕ) → has j ≡ false → next_at ps has k j ≡ 0
  next_ended k j e = rw e (go (leb k j))
    where
      go : (b : Bool) → pick {A = ℕ} (b && false) (first_of (from ps has (suc j) (parent ps j))) 0 ≡ 0
      go true = refl
      go false = refl

module _ {ps : List ℕ} {has : ℕ → Bool} (marks : Marks ps has) where
  -- nobody hangs under a place that is not live
  childless : (p : ℕ) → has p ≡ false → Lowest ps has p 1 0
  childless p e = nobody (λ x c. clash (has p) (rw c.up at (marks.up x c.least c.living)) e)

  first_ended : (p : ℕ) → has p ≡ false → first_at ps has 1 p ≡ 0
  first_ended p e = lowest_one (lowest_from ps has marks.place p 1) (childless p e)

  module _ {fs ns : List ℕ} where
    pub linking_links : Linking ps has 1 fs ns → Links ps has fs ns
    linking_links s = record {
      firsts = s.firsts;
      nexts = s.nexts;
      first = λ p e. rw (s.first p) (lowest_from ps has marks.place p 1);
      next = λ k h e. rw (s.next k ∙ next_live ps has k h e) (lowest_from ps has marks.place (parent ps k) (suc k));
      root = s.next 0 ∙ next_root ps has;
      ended = λ k e. (s.first k ∙ first_ended k e, s.next k ∙ next_ended ps has 1 k e);
    }

    pub links_linking : Links ps has fs ns → Linking ps has 1 fs ns
    links_linking s = record {
      firsts = s.firsts;
      nexts = s.nexts;
      first = λ p. by_mark (has p)
          (λ e. lowest_one (s.first p e) (lowest_from ps has marks.place p 1))
          (λ e. (s.ended p e).0 ∙ sym (first_ended p e));
      next = λ j. by_mark (has j)
          (λ e. equal j 0
          (λ z. rw z (s.root ∙ sym (next_root ps has)))
          (λ z. lowest_one (s.next j (omega arith) e) (lowest_from ps has marks.place (parent ps j) (suc j)) ∙ sym (next_live ps has j (omega arith) e)))
          (λ e. (s.ended j e).1 ∙ sym (next_ended ps has 1 j e));
    }

  -- a table has at most one pair of links
  pub one_pair : {fs ns fs' ns' : List ℕ} → Links ps has fs ns → Links ps has fs' ns' → (fs ≡ fs') × (ns ≡ ns')
  one_pair {fs} {ns} {fs'} {ns'} p q =
      let a = links_linking p in
      let b = links_linking q in (
        ext_get_or 0 fs fs' (a.firsts ∙ sym b.firsts) (λ i h. a.first i ∙ sym (b.first i)),
        ext_get_or 0 ns ns' (a.nexts ∙ sym b.nexts) (λ i h. a.next i ∙ sym (b.next i)),
      )

-- ── the test ──

agrees_at : (k : ℕ) (f : ℕ → ℕ) (l : List ℕ) → agrees k f l ≡ true → (i : ℕ) → i < length l → get_or l i 0 ≡ f (k + i)
unfolding agrees
agrees_at k f [] e i h = absurd (not-suc-le-zero h)
agrees_at k f (x ∷ l) e zero h = rw add-zero (eqb-true x (f k) ((and-eq-true_iff (eqb x (f k)) (agrees (suc k) f l)).0 e).0)
agrees_at k f (x ∷ l) e (suc i) h =
    rw (add-suc, ← suc-add) (agrees_at (suc k) f l ((and-eq-true_iff (eqb x (f k)) (agrees (suc k) f l)).0 e).1 i (omega arith))

agrees_all : (k : ℕ) (f : ℕ → ℕ) (l : List ℕ) → ((i : ℕ) → i < length l → get_or l i 0 ≡ f (k + i)) → agrees k f l ≡ true
unfolding agrees
agrees_all k f [] g = refl
agrees_all k f (x ∷ l) g =
    rw (eq-eqb x (f k) (rw add-zero at (g 0 (omega arith)))) (agrees_all (suc k) f l (λ i h. rw (suc-add, ← add-suc) (g (suc i) (omega arith))))

-- it goes by what f says of the places that there are
pub agrees_same : (k : ℕ) (f g : ℕ → ℕ) (l : List ℕ) → ((i : ℕ) → f i ≡ g i) → agrees k f l ≡ agrees k g l
unfolding agrees
agrees_same k f g [] e = refl
agrees_same k f g (x ∷ l) e = rw (e k, agrees_same (suc k) f g l e)

pub pair_long : (fs ns : List ℕ) → pair_ok fs ns ≡ true → (length fs ≡ 1024) × (length ns ≡ 1024)
pair_long fs ns e =
    let a = (and-eq-true_iff (eqb (length fs) 1024) (eqb (length ns) 1024)).0 e in
    (eqb-true (length fs) 1024 a.0, eqb-true (length ns) 1024 a.1)

module _ (fs ns : List ℕ) where
  pub pair_first : (length fs ≡ 1024 → ⊥) → pair_ok fs ns ≡ false
  pair_first e = rw (ne_eqb (length fs) 1024 e)

  module _ (f : length fs ≡ 1024) where
    pub pair_next : (length ns ≡ 1024 → ⊥) → pair_ok fs ns ≡ false
    pair_next e = rw (eq-eqb (length fs) 1024 f, ne_eqb (length ns) 1024 e)

    pub pair_both : length ns ≡ 1024 → pair_ok fs ns ≡ true
    pair_both e = rw (eq-eqb (length fs) 1024 f, eq-eqb (length ns) 1024 e)

-- of two lists of 1,024 places
pub links_by : (t : Table) (fs ns : List ℕ) → length fs ≡ 1024 → length ns ≡ 1024
    → links_ok t fs ns ≡ (agrees 0 (first_at (rows t) (live (flags t)) 1) fs && agrees 0 (next_at (rows t) (live (flags t)) 1) ns)
unfolding links_ok
links_by t fs ns f n = rw (pair_both fs ns f n)

-- past 1,024 places nothing is live
past : {t : Table} → Sound t → (k : ℕ) → 1024 ≤ k → live (flags t) k ≡ false
past {t} s k h = by_mark (live (flags t) k) (λ e. absurd (let l = s.marks.place k e in let f = s.kept.ruling.few in omega arith)) (λ e. e)

module _ {t : Table} (s : Sound t) {fs ns : List ℕ} where
  -- it is enough to say what stands at each place that the lists have
  linking_within : length fs ≡ 1024 → length ns ≡ 1024 → ((p : ℕ) → p < 1024 → get_or fs p 0 ≡ first_at (rows t) (live (flags t)) 1 p)
      → ((j : ℕ) → j < 1024 → get_or ns j 0 ≡ next_at (rows t) (live (flags t)) 1 j) → Linking (rows t) (live (flags t)) 1 fs ns
  linking_within n m f g = record {
    firsts = n;
    nexts = m;
    first = λ p. by_less p 1024 _ refl (f p) (λ h. get_or-eq_default fs 0 (omega arith) ∙ sym (first_ended s.marks p (past s p h)));
    next = λ j. by_less j 1024 _ refl (g j) (λ h. get_or-eq_default ns 0 (omega arith) ∙ sym (next_ended (rows t) (live (flags t)) 1 j (past s j h)));
  }

  pub ok_linking : links_ok t fs ns ≡ true → Linking (rows t) (live (flags t)) 1 fs ns
  unfolding links_ok
  ok_linking e =
      let has = live (flags t) in
      let a = (and-eq-true_iff (pair_ok fs ns && agrees 0 (first_at (rows t) has 1) fs) (agrees 0 (next_at (rows t) has 1) ns)).0 e in
      let b = (and-eq-true_iff (pair_ok fs ns) (agrees 0 (first_at (rows t) has 1) fs)).0 a.0 in
      let n = pair_long fs ns b.0 in
      linking_within n.0 n.1
      (λ p h. rw zero-add at (agrees_at 0 (first_at (rows t) has 1) fs b.1 p (omega arith)))
      (λ j h. rw zero-add at (agrees_at 0 (next_at (rows t) has 1) ns a.1 j (omega arith)))

  -- the test holds exactly for the table's links
  pub ok_links : links_ok t fs ns ≡ true → Links (rows t) (live (flags t)) fs ns
  ok_links e = linking_links s.marks (ok_linking e)

  pub links-ok : Links (rows t) (live (flags t)) fs ns → links_ok t fs ns ≡ true
  unfolding links_ok
  links-ok l =
      let a = links_linking s.marks l in
      let has = live (flags t) in
      rw (
        pair_both fs ns l.firsts l.nexts,
        agrees_all 0 (first_at (rows t) has 1) fs (λ i h. rw zero-add (a.first i)),
        agrees_all 0 (next_at (rows t) has 1) ns (λ i h. rw zero-add (a.next i)),
      )

-- ── there is a pair ──

-- m entries, those of the places from k on
placed : ℕ → ℕ → (ℕ → ℕ) → List ℕ
placed k zero f = []
placed k (suc m) f = f k ∷ placed (suc k) m f

placed_long : (k m : ℕ) (f : ℕ → ℕ) → length (placed k m f) ≡ m
unfolding placed
placed_long k zero f = refl
placed_long k (suc m) f = ap suc (placed_long (suc k) m f)

placed_at : (k m : ℕ) (f : ℕ → ℕ) (i : ℕ) → i < m → get_or (placed k m f) i 0 ≡ f (k + i)
unfolding placed
placed_at k zero f i h = absurd (not-suc-le-zero h)
placed_at k (suc m) f zero h = rw add-zero refl
placed_at k (suc m) f (suc i) h = rw (add-suc, ← suc-add) (placed_at (suc k) m f i (omega arith))

pub some_pair : {t : Table} → Sound t → (fs : List ℕ) × (ns : List ℕ) × Links (rows t) (live (flags t)) fs ns
some_pair {t} s =
    let first = first_at (rows t) (live (flags t)) 1 in
    let next = next_at (rows t) (live (flags t)) 1 in (
      placed 0 1024 first,
      placed 0 1024 next,
      linking_links s.marks (linking_within s (placed_long 0 1024 first) (placed_long 0 1024 next)
          (λ p h. rw zero-add at (placed_at 0 1024 first p h)) (λ j h. rw zero-add at (placed_at 0 1024 next j h))),
    )
