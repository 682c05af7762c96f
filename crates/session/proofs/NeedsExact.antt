-- `needed` by the functions' own answers: one number is the least, it is what is lacking by the containers, and it is 0 exactly where the answer is settled.
-- Assumes nothing.
use Rattle.std.specs.Prelude.{Err}
use Rattle.wire.specs.Read.{Read}
use Rattle.std.proofs.Common.{◌≡◌, ℕ, ◌≤◌, Bool, true, false, eqb, leb, ◌↔◌, List, ◌++◌, length, drop, sym, refl, subst, inl, inr, append-nil, arith, eqb-true, leb-false, leb-true}
use borrow.Author.Tests.{eqb-false}
use Rattle.layout.specs.Answer.{Told, Answer, got, refused}
use Rattle.layout.specs.Bytes.{Bytes}
use Rattle.layout.proofs.laws.Words.{no_bytes}
use Rattle.wire.specs.Refused.{kind_in, number_in}
use Rattle.wire.specs.declared.container.Container.{Container}
use Rattle.session.specs.Search.{Reply, answer_in, says_found}
use Rattle.session.specs.Answered.{Front, none, one, Fails}
use Rattle.session.specs.Needs.{Waits, Needs, Cut, Lacks, head, rest, rest_and_head, Needed, nothing, bytes}
use Rattle.session.specs.declared.search.Found.{Found}
use Rattle.session.proofs.Answered.{goes, found_refused}
use Rattle.session.proofs.NeedsLaws.{settled, answered_settled, lacks_needs, settled_needs}
use Rattle.session.proofs.NeedsRead.{Standing, early, cut_there, closed, stop_standing}

-- ── of the functions' own answers ──

module _ (number' : ℕ) (s : List ℕ) where
  -- one number is the least
  pub needs_one : {n m : ℕ} → Needs number' s n → Needs number' s m → n ≡ m
  needs_one {n} {m} a b = go (leb n m) refl (leb m n) refl
    where
      go : (p : Bool) → leb n m ≡ p → (q : Bool) → leb m n ≡ q → n ≡ m
      go true e true f = let u = leb-true n m e in let v = leb-true m n f in omega arith
      go false e q f = let l = leb-false n m e in absurd (b.enough.3 (a.fewer b.enough.0 (omega (arith, b.enough.2))))
      go true e false f = let l = leb-false m n f in absurd (a.enough.3 (b.fewer a.enough.0 (omega (arith, a.enough.2))))

  needed_needs : Bytes s → {n : ℕ} → Needed number' s n → Needs number' s n
  needed_needs h (nothing f) = settled_needs number' s f
  needed_needs h (bytes f w l) = lacks_needs number' s h f w l

  -- by the containers: the number that is needed is the number that is lacking, and no other
  lacking_there : (d : List ℕ) → Cut d → (n : ℕ) × Lacks number' d n
  lacking_there d c = go (leb 12 (length d)) refl (eqb (number_in d) number') refl (eqb (kind_in d) 3) refl
    where
      go : (a : Bool) → leb 12 (length d) ≡ a → (b : Bool) → eqb (number_in d) number' ≡ b → (k : Bool) → eqb (kind_in d) 3 ≡ k → (n : ℕ) × Lacks number' d n
      go false e b f k g = (_, rest c (inl (leb-false 12 (length d) e)))
      go true e false f k g = (_, rest c (inr (inl (eqb-false (number_in d) number' f))))
      go true e true f true g = (_, rest c (inr (inr (eqb-true (kind_in d) 3 g))))
      go true e true f false g = (_, rest_and_head c (leb-true 12 (length d) e) (eqb-true (number_in d) number' f) (eqb-false (kind_in d) 3 g))

  front_within : {at n : ℕ} {cs : List Container} → Front number' s at cs n → at ≤ length s → n ≤ length s
  front_within none h = h
  front_within (one g o k f) h = front_within f (goes number' s g).1

  some_needed : (n : ℕ) × Needed number' s n
  some_needed = go (answer_in number' s) refl
    where
      by : {t : Told} (f : Fails number' s t) → answer_in number' s ≡ refused t → Standing (drop f.place s) t → (n : ℕ) × Needed number' s n
      by f e (early l) = (_, bytes f.front (front_within f.front (omega arith)) (head l))
      by f e (cut_there i c) = let l = lacking_there (drop f.place s) c in (l.0, bytes f.front (front_within f.front (omega arith)) l.1)
      by f e (closed i o) = (0, nothing (settled e o))

      go : (y : Answer Reply) → answer_in number' s ≡ y → (n : ℕ) × Needed number' s n
      go (got x n) e = (0, nothing (answered_settled e))
      go (refused t) e = let f = (found_refused number' s (Err t) (sym e) t).0 refl in by f e (stop_standing number' s f.place f.stop)

  pub needs_exact : Bytes s → (n : ℕ) → Needs number' s n ↔ Needed number' s n
  needs_exact h n = (λ a. let m = some_needed in subst (Needed number' s) (needs_one (needed_needs h m.1) a) m.1, needed_needs h)

  module _ (f : Read Found) (promised : says_found f ≡ answer_in number' s) where
    -- nothing is needed exactly where the answer is none of 1, 6 and 8
    pub nothing_needed : {n : ℕ} → Needs number' s n → (n ≡ 0) ↔ (Waits (says_found f) → ⊥)
    nothing_needed {n} a = (
      λ e w.
          let b = subst (Needs number' s) e a in
          let more = b.enough.0 in
          b.enough.3 (subst (λ l. Waits (answer_in number' (s ++ l))) (sym (no_bytes more (omega (arith, b.enough.2)))) (subst (λ l. Waits (answer_in number' l)) (sym (append-nil s)) (subst Waits promised w))),
      λ h. needs_one a (settled_needs number' s (λ w. h (subst Waits (sym promised) w))),
    )
