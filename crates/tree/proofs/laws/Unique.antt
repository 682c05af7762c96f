-- The promises determine the answer: two answers that a promise allows for the same table are equal.
-- Of an accepted table both hold its walk, or its folder view, of which there is one each; the tables that are accepted are not those that are refused. (`path` has layout's
-- one_written.)
-- Assumes nothing.
use Rattle.layout.specs.Answer.{says_count}
use Rattle.std.specs.declared.result.Result.{Result}
use Rattle.layout.specs.declared.Refusal.{Refusal}
use mathlib.Core.Path.{◌≡◌, refl, sym, ap, ◌∙◌}
use mathlib.Core.Bool.{Bool}
use mathlib.Core.List.{List, ◌++◌}
use Prim.Native.Nat.{ℕ}
use lib.ListN.{length, drop}
use Rattle.layout.specs.Answer.{Told, Answer, got, refused}
use Rattle.layout.specs.Written.{Said, says, no, Wrote, left_of}
use Rattle.layout.proofs.laws.Determined.{tells_written, tells_checked, one_written}
use Rattle.layout.proofs.laws.Numbers.{zero_one}
use Rattle.tree.specs.Table.{Table, rows, flags, live, table_at}
use Rattle.tree.specs.Way.{Walk}
use Rattle.tree.specs.Path.{said_if, paths_said, ends_said, Walked, AllPaths}
use Rattle.tree.specs.View.{Folders, Viewed, ViewPaths}
use Rattle.tree.specs.Links.{link_at, Linked, Keeping}
use Rattle.tree.specs.Says.{Walks, OrderSays, order, no_order}
use Rattle.tree.specs.declared.Order.{Order}
use Rattle.tree.proofs.laws.Kept.{link_got, one_keeping, relinked_got, relinked_refused}
use Rattle.tree.proofs.laws.Links.{one_pair}
use Rattle.tree.proofs.laws.Sound.{accepted}
use Rattle.tree.proofs.laws.Ways.{one_walk, one_view}

module _ {ps old : List ℕ} {has : ℕ → Bool} {r s : ℕ} {l m : List ℕ} (p : Walks ps has old r l) (q : Walks ps has old s m) where
  pub lists : p.list ≡ q.list
  lists = one_walk ps has p.list q.list p.walk q.walk

  pub counts : r ≡ s
  counts = p.count ∙ ap length lists ∙ sym q.count

  pub places : l ≡ m
  places = p.places ∙ ap (λ (x : List ℕ). x ++ drop (length x) old) lists ∙ sym q.places

abbrev made : Told → ℕ → List ℕ → Order
made a b c = record { refusal = a; count = b; places = c }

orders : (r s : Order) → r.refusal ≡ s.refusal → r.count ≡ s.count → r.places ≡ s.places → r ≡ s
orders r s a b c =
    ap (λ (x : Told). made x r.count r.places) a
    ∙ ap (λ (x : ℕ). made s.refusal x r.places) b
    ∙ ap (made s.refusal s.count) c

pub one_order : (t : Table) (r s : Order) → OrderSays t r → OrderSays t s → r ≡ s
one_order t r s (order a e w) (order b f v) = orders r s (e ∙ sym f) (counts w v) (places w v)
one_order t r s (order a e w) (no_order b f g h) = zero_one (cc)
one_order t r s (no_order a e g h) (order b f w) = zero_one (cc)
one_order t r s (no_order {why = x} a e g h) (no_order {why = y} b f i j) =
    let same : x ≡ y = cc in
    orders r s (e ∙ same ∙ sym f) (g ∙ sym i) (h ∙ sym j)

-- what is said of places and of all paths goes by the table alone, where an accepted one has them in one order
module _ (t : Table) (l m : List ℕ) (room : ℕ) (one : (n : ℕ) → table_at t ≡ got tt n → l ≡ m) where
  alike : (said : List ℕ → Said) → ((why : Told) → table_at t ≡ refused why → (k : List ℕ) → said k ≡ no why) → said l ≡ said m
  alike said refuses = go (table_at t) refl
    where
      go : (a : Answer (Unit {0})) → table_at t ≡ a → said l ≡ said m
      go (got u n) e = ap said (one n e)
      go (refused why) e = refuses why e l ∙ sym (refuses why e m)

  same_paths : paths_said t l room ≡ paths_said t m room
  unfolding paths_said
  same_paths = alike (λ k. paths_said t k room) (λ why e k. rw e)

  same_ends : ends_said t l room ≡ ends_said t m room
  unfolding ends_said
  same_ends = alike (λ k. ends_said t k room) (λ why e k. rw e)

  same_order : said_if (table_at t) (says l) ≡ said_if (table_at t) (says m)
  same_order = alike (λ k. said_if (table_at t) (says k)) (λ why e k. rw e)

module _ (t : Table) {l m : List ℕ} where
  walks_one : ((n : ℕ) → table_at t ≡ got tt n → Walk (rows t) (live (flags t)) l) → ((n : ℕ) → table_at t ≡ got tt n → Walk (rows t) (live (flags t)) m) → (n : ℕ) → table_at t ≡ got tt n → l ≡ m
  walks_one p q n e = one_walk (rows t) (live (flags t)) l m (p n e) (q n e)

  views_one : {has : ℕ → Bool} → ((n : ℕ) → table_at t ≡ got tt n → Folders (rows t) has l) → ((n : ℕ) → table_at t ≡ got tt n → Folders (rows t) has m) → (n : ℕ) → table_at t ≡ got tt n → l ≡ m
  views_one {has} p q n e = one_view (rows t) has l m (p n e) (q n e)

pub one_walked : (t : Table) (old new new' : List ℕ) (x y : (Result ℕ Refusal)) → Walked t old (says_count x) new → Walked t old (says_count y) new' → (x ≡ y) × (new ≡ new')
one_walked t old new new' x y p q =
    one_written (said_if (table_at t) (says q.order)) old new new' x y (rw (same_order t p.order q.order 0 (walks_one t p.walked q.walked)) at p.wrote) q.wrote

pub one_viewed : (t : Table) (old new new' : List ℕ) (x y : (Result ℕ Refusal)) → Viewed t old (says_count x) new → Viewed t old (says_count y) new' → (x ≡ y) × (new ≡ new')
one_viewed t old new new' x y p q =
    one_written (said_if (table_at t) (says q.order)) old new new' x y (rw (same_order t p.order q.order 0 (views_one t p.viewed q.viewed)) at p.wrote) q.wrote

-- of paths that stand in one order
module _ (t : Table) (out ends : List ℕ) (x y : (Result ℕ Refusal)) (o o' e e' : List ℕ) where
  one_given : (l m : List ℕ) → ((n : ℕ) → table_at t ≡ got tt n → l ≡ m)
      → Wrote (paths_said t l (length ends)) out (says_count x) o → Wrote (paths_said t m (length ends)) out (says_count y) o'
      → e ≡ left_of (ends_said t l (length out)) ends → e' ≡ left_of (ends_said t m (length out)) ends → (x ≡ y) × (o ≡ o') × (e ≡ e')
  one_given l m one p q a b =
      let both = one_written (paths_said t m (length ends)) out o o' x y (rw (same_paths t l m (length ends) one) at p) q in
      (both.0, both.1, a ∙ ap (λ (s : Said). left_of s ends) (same_ends t l m (length out) one) ∙ sym b)

  pub one_paths : AllPaths t out ends (says_count x) o e → AllPaths t out ends (says_count y) o' e' → (x ≡ y) × (o ≡ o') × (e ≡ e')
  one_paths p q = one_given p.order q.order (walks_one t p.walked q.walked) p.wrote q.wrote p.left q.left

  pub one_view_paths : ViewPaths t out ends (says_count x) o e → ViewPaths t out ends (says_count y) o' e' → (x ≡ y) × (o ≡ o') × (e ≡ e')
  one_view_paths p q = one_given p.order q.order (views_one t p.viewed q.viewed) p.wrote q.wrote p.left q.left

-- ── links, and a table that keeps them ──

pub one_linked : (t : Table) {fs ns f g m o : List ℕ} (x y : (Result ℕ Refusal)) → Linked t fs ns (says_count x) f m → Linked t fs ns (says_count y) g o → (x ≡ y) × (f ≡ g) × (m ≡ o)
one_linked t {fs} {ns} {f} {g} {m} {o} x y p q = let left = go (link_at t fs ns) refl in (tells_checked x y (p.answers ∙ sym q.answers), left.0, left.1)
  where
    go : (a : Answer (Unit {0})) → link_at t fs ns ≡ a → (f ≡ g) × (m ≡ o)
    go (got u n) e = one_pair (accepted t (link_got t fs ns (sym e))).marks (relinked_got (p.answers ∙ e) p.left) (relinked_got (q.answers ∙ e) q.left)
    go (refused why) e =
        let a = relinked_refused (p.answers ∙ e) p.left in
        let b = relinked_refused (q.answers ∙ e) q.left in
        (a.0 ∙ sym b.0, a.1 ∙ sym b.1)

pub one_walk_linked : (t : Table) {fs ns old new new' : List ℕ} (x y : (Result ℕ Refusal)) → Keeping t fs ns (says_count x) (Walked t old (says_count x) new) (new ≡ old)
    → Keeping t fs ns (says_count y) (Walked t old (says_count y) new') (new' ≡ old) → (x ≡ y) × (new ≡ new')
one_walk_linked t {old = old} {new} {new'} x y p q = one_keeping p q (one_walked t old new new' x y) (λ e u w. (tells_written x y e, u ∙ sym w))

pub one_paths_linked : (t : Table) {fs ns out ends o o' b b' : List ℕ} (x y : (Result ℕ Refusal))
    → Keeping t fs ns (says_count x) (AllPaths t out ends (says_count x) o b) ((o ≡ out) × (b ≡ ends))
    → Keeping t fs ns (says_count y) (AllPaths t out ends (says_count y) o' b') ((o' ≡ out) × (b' ≡ ends)) → (x ≡ y) × (o ≡ o') × (b ≡ b')
one_paths_linked t {out = out} {ends} {o} {o'} {b} {b'} x y p q =
    one_keeping p q (one_paths t out ends x y o o' b b') (λ e u w. (tells_written x y e, u.0 ∙ sym w.0, u.1 ∙ sym w.1))
