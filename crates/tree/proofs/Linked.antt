-- What a table's links are worth: it has one pair, `link` writes it, and chains are the children; what is asked of a table that keeps them is answered as it
-- is answered by request 8's functions; and a walk along them goes to each live place once.
-- Assumes nothing.
use Rattle.layout.specs.Answer.{says_count}
use Rattle.std.specs.declared.result.Result.{Result}
use Rattle.layout.specs.declared.Refusal.{Refusal}
use mathlib.Core.Path.{◌≡◌, refl, sym, ap, ◌∙◌}
use mathlib.Core.Bool.{Bool, true, false, ◌&&◌}
use mathlib.Core.List.{List, [], ◌∷◌, ◌++◌}
use Prim.Native.Nat.{ℕ, zero, suc, ◌-◌, ◌≤◌, ◌<◌}
use native.Mathlib.Omega.{arith}
use borrow.Author.Tests.{lt-ltb, le-ltb}
use lib.Dec.{ltb}
use lib.ListN.{length, get_or}
use Rattle.layout.specs.Answer.{Told, Answer, got, refused, bare, pick}
use Rattle.layout.specs.Refusals.{TABLE}
use Rattle.tree.specs.Facts.{Ruled, Marks}
use Rattle.tree.specs.Kids.{hangs, kids_in, kids}
use Rattle.tree.specs.Links.{Links, chain, links_ok, link_at, Linked, kept_at, Keeping}
use Rattle.tree.specs.Listed.{times, Listed}
use Rattle.tree.specs.Path.{Walked, AllPaths}
use Rattle.tree.specs.Rule.{Rule}
use Rattle.tree.specs.Table.{Table, rows, flags, live, parent, table_at}
use Rattle.tree.specs.Way.{Walk}
use Rattle.tree.proofs.Grown.{kids_listed}
use Rattle.tree.proofs.laws.Below.{by_mark, below, below_root, below_not, below_times}
use Rattle.tree.proofs.laws.Chains.{chain_kids}
use Rattle.tree.proofs.laws.Counts.{equal, hit, miss, same_size}
use Rattle.tree.proofs.laws.Kept.{kept_other, link_both, relinked_got, relinked_refused}
use Rattle.tree.proofs.laws.Links.{links_linking, one_pair, links-ok, ok_links}
use Rattle.tree.proofs.laws.Ruled.{rule_ok}
use Rattle.tree.proofs.laws.Sound.{sound, accepted}
use Rattle.tree.proofs.laws.Unique.{one_walked, one_paths}

-- ── the one pair ──

kids_few : (ps : List ℕ) (has : ℕ → Bool) (m k p : ℕ) → length (kids_in m ps has k p) ≤ m
unfolding kids_in
kids_few ps has zero k p = omega arith
kids_few ps has (suc m) k p = go (hangs ps has p k) (kids_few ps has m (suc k) p)
  where
    go : (b : Bool) → length (kids_in m ps has (suc k) p) ≤ m → length (pick b (k ∷ kids_in m ps has (suc k) p) (kids_in m ps has (suc k) p)) ≤ suc m
    go true h = omega arith
    go false h = omega arith

module _ {ps : List ℕ} (rule : Ruled ps) {has : ℕ → Bool} (marks : Marks ps has) {fs ns : List ℕ} (s : Links ps has fs ns) where
  -- the chain from a place's first child is its children
  pub chain_is : (p : ℕ) → chain ns (get_or fs p 0) ≡ kids ps has p
  unfolding kids
  chain_is p = chain_kids (links_linking marks s) p rule (length ns) (let f = kids_few ps has (length ps - suc p) (suc p) p in let n = s.nexts in let r = rule.few in omega arith)

  -- the live places whose parent it is, each once, in rising order
  pub chain_listed : (p : ℕ) → Listed (λ x. ltb 0 x && hangs ps has p x) ◌<◌ (chain ns (get_or fs p 0))
  chain_listed p = rw (chain_is p) (kids_listed ps rule has marks p)

-- a table that request 8 accepts has one pair of links, and `link` writes it
pub one_links : (t : Table) {n : ℕ} {fs ns fs' ns' : List ℕ} (r : (Result ℕ Refusal)) → table_at t ≡ got tt n → length fs ≡ 1024 → length ns ≡ 1024 → Linked t fs ns (says_count r) fs' ns'
    → (says_count r ≡ got tt n) × Links (rows t) (live (flags t)) fs' ns' × ((f m : List ℕ) → Links (rows t) (live (flags t)) f m → (f ≡ fs') × (m ≡ ns'))
one_links t {n} {fs} {ns} {fs'} {ns'} r e f m l =
    let said : says_count r ≡ got tt n = l.answers ∙ link_both t fs ns f m ∙ e in
    let made = relinked_got said l.left in
    (said, made, λ g h p. one_pair (accepted t (sym e)).marks p made)

-- and any other is refused as the table is, or with 11 for its lists, and leaves them
pub no_links : (t : Table) {fs ns fs' ns' : List ℕ} (r : (Result ℕ Refusal)) {why : Told} → link_at t fs ns ≡ refused why → Linked t fs ns (says_count r) fs' ns'
    → (says_count r ≡ refused why) × (fs' ≡ fs) × (ns' ≡ ns)
no_links t r e l = let said = l.answers ∙ e in let same = relinked_refused said l.left in (said, same.0, same.1)

-- ── a table that keeps its links answers as it does without them ──

module _ (t : Table) {n : ℕ} (e : table_at t ≡ got tt n) {fs ns : List ℕ} (s : Links (rows t) (live (flags t)) fs ns) where
  right : links_ok t fs ns ≡ true
  right = links-ok (accepted t (sym e)) s

  pub walk_alike : {old new new' : List ℕ} (x y : (Result ℕ Refusal)) → Keeping t fs ns (says_count x) (Walked t old (says_count x) new) (new ≡ old) → Walked t old (says_count y) new'
      → (x ≡ y) × (new ≡ new')
  walk_alike {old} {new} {new'} x y k w = one_walked t old new new' x y (k.own right) w

  pub paths_alike : {out ends o o' b b' : List ℕ} (x y : (Result ℕ Refusal)) → Keeping t fs ns (says_count x) (AllPaths t out ends (says_count x) o b) ((o ≡ out) × (b ≡ ends))
      → AllPaths t out ends (says_count y) o' b' → (x ≡ y) × (o ≡ o') × (b ≡ b')
  paths_alike {out} {ends} {o} {o'} {b} {b'} x y k w = one_paths t out ends x y o o' b b' (k.own right) w

-- with other links it is refused with 11 whatever its names are, and nothing is changed
module _ (t : Table) (r : Rule t) {fs ns : List ℕ} (no : Links (rows t) (live (flags t)) fs ns → ⊥) where
  wrong : links_ok t fs ns ≡ false
  wrong = by_mark (links_ok t fs ns) (λ e. absurd (no (ok_links (sound t (rule_ok t r)) e))) (λ e. e)

  pub wrong_links : {answer : Answer (Unit {0})} {Promise Unchanged : Type 0} → Keeping t fs ns answer Promise Unchanged → (answer ≡ refused (bare TABLE)) × Unchanged
  wrong_links k = k.other wrong

  pub wrong_checked : (x : (Result ℕ Refusal)) → says_count x ≡ kept_at t fs ns → says_count x ≡ refused (bare TABLE)
  wrong_checked x e = e ∙ kept_other t fs ns wrong

-- ── a walk is linear ──

-- the chains of these places, one after the other
abbrev pub chains : List ℕ → List ℕ → List ℕ → List ℕ
chains fs ns [] = []
chains fs ns (p ∷ l) = chain ns (get_or fs p 0) ++ chains fs ns l

module _ {ps : List ℕ} (rule : Ruled ps) {has : ℕ → Bool} (marks : Marks ps has) {fs ns : List ℕ} (s : Links ps has fs ns) where
  chains_below : (l : List ℕ) → chains fs ns l ≡ below ps has l
  chains_below [] = refl
  chains_below (p ∷ l) = rw (chain_is rule marks s p, chains_below l)

  module _ {l : List ℕ} (w : Walk ps has l) where
    -- over a whole walk they hold each live place but the root once
    pub chains_once : (k : ℕ) → times k (chains fs ns l) ≡ pick (ltb 0 k && has k) 1 0
    chains_once k =
        rw (chains_below l)
        (equal k 0
        (λ e. rw e (below_root ps rule has marks l ∙ sym (ap (λ (b : Bool). pick {A = ℕ} (b && has 0) 1 0) (le-ltb 0 0 (omega arith)))))
        (λ e. let h : 0 < k = omega arith in
        by_mark (has k)
        (λ m. rw (lt-ltb 0 k h, m) (below_times ps rule has marks k l h m ∙ w.once (parent ps k) ∙ ap (λ (b : Bool). pick {A = ℕ} b 1 0) (marks.up k h m)))
        (λ m. rw (lt-ltb 0 k h, m) (below_not ps rule has marks k l m))))

    -- so that the loop over the queue and the loops along the chains make together fewer than twice as many turns as there are live places
    pub turns : suc (length (chains fs ns l)) ≡ length l
    turns =
        same_size (0 ∷ chains fs ns l) l
        (λ k. equal k 0
        (λ e.
        let z : times 0 (chains fs ns l) ≡ 0 = rw (chains_below l) (below_root ps rule has marks l) in
        let o : times 0 l ≡ 1 = w.once 0 ∙ ap (λ (b : Bool). pick {A = ℕ} b 1 0) marks.root in
        hit k 0 (chains fs ns l) e ∙ ap suc (ap (λ (x : ℕ). times x (chains fs ns l)) e ∙ z) ∙ sym (ap (λ (x : ℕ). times x l) e ∙ o))
        (λ e. let h : 0 < k = omega arith in miss k 0 (chains fs ns l) e ∙ rw (lt-ltb 0 k h) at (chains_once k) ∙ sym (w.once k)))
