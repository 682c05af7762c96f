-- The promises determine the answer: two words that a promise allows, and what they leave, are the same.
-- A word is that of an answer, and the answer that is allowed is one: by the rule of writers, of the walk, of all paths, of tables that change, of commands.
-- Assumes nothing.
use Rattle.layout.specs.Answer.{says_count}
use Rattle.std.specs.Prelude.{Ok, Err}
use Rattle.std.specs.declared.result.Result.{Result}
use Rattle.layout.specs.declared.Refusal.{Refusal}
use Rattle.std.proofs.Common.{◌≡◌, ℕ, List, ◌∷◌, ◌++◌, length, drop, sym, refl, ap, ◌∙◌}
use Rattle.layout.specs.Answer.{Answer, got, refused, means}
use Rattle.layout.specs.Bytes.{Bytes}
use Rattle.layout.specs.Written.{Said, left_of}
use Rattle.recording.specs.Copied.{copy_said}
use Rattle.session.specs.Transaction.{turn}
use Rattle.tree.specs.Links.{Keeping, Linked}
use Rattle.tree.specs.Path.{Walked, AllPaths}
use Rattle.tree.specs.Table.{Table}
use Rattle.tree.specs.View.{Viewed, ViewPaths}
use Rattle.tree.proofs.laws.Unique.{one_walked, one_paths, one_viewed, one_view_paths, one_linked, one_walk_linked, one_paths_linked}
use Rattle.shots.specs.Added.{Adds}
use Rattle.shots.specs.Collected.{Collected}
use Rattle.shots.specs.Linked.{DeletedLinked, CollectedLinked, AddsLinked}
use Rattle.shots.proofs.laws.Unique.{one_collected, one_added, one_deleted_linked, one_collected_linked, one_added_linked}
use Rattle.abi.specs.Answered.{word, Tells, Gives}
use Rattle.abi.specs.Copied.{unless_refused, CopiesInto}
use Rattle.listing.specs.Window.{Windowed}
use Rattle.abi.specs.Listed.{ListsInto}
use Rattle.abi.specs.Rows.{side}
use Rattle.abi.specs.Sent.{session_at, number_after, command_end, end_after, Parts}

-- one answer is one word
same_word : {A : Type 0} {P Q : Answer A → Type 0} {r s : ℕ} (x : Tells P r) (y : Tells Q s) → x.answer ≡ y.answer → r ≡ s
same_word x y e = x.told ∙ ap word e ∙ sym y.told

pub one_given : (said : Said) (old new new' : List ℕ) (r s : ℕ) → Gives said old r new → Gives said old s new' → (r ≡ s) × (new ≡ new')
one_given said old new new' r s x y =
    (same_word x y (x.allows.answers ∙ sym y.allows.answers), x.allows.leaves ∙ sym y.allows.leaves)

-- every answer is that of a case
abbrev spoken : Answer (Unit {0}) → Result ℕ Refusal
spoken (got u n) = Ok n
spoken (refused t) = Err t

says_spoken : (a : Answer (Unit {0})) → says_count (spoken a) ≡ a
says_spoken (got u n) = refl
says_spoken (refused t) = refl

spoken_one : (a b : Answer (Unit {0})) → spoken a ≡ spoken b → a ≡ b
spoken_one a b e = sym (says_spoken a) ∙ ap says_count e ∙ says_spoken b

pub one_walk_given : (t : Table) (old new new' : List ℕ) (r s : ℕ)
    → Tells (λ a. Walked t old a new) r → Tells (λ a. Walked t old a new') s → (r ≡ s) × (new ≡ new')
one_walk_given t old new new' r s x y =
    let both = one_walked t old new new' (spoken x.answer) (spoken y.answer) (rw says_spoken x.allows) (rw says_spoken y.allows) in
    (same_word x y (spoken_one x.answer y.answer both.0), both.1)

pub one_paths_given : (t : Table) (out ends o o' e e' : List ℕ) (r s : ℕ)
    → Tells (λ a. AllPaths t out ends a o e) r → Tells (λ a. AllPaths t out ends a o' e') s → (r ≡ s) × (o ≡ o') × (e ≡ e')
one_paths_given t out ends o o' e e' r s x y =
    let all = one_paths t out ends (spoken x.answer) (spoken y.answer) o o' e e' (rw says_spoken x.allows) (rw says_spoken y.allows) in
    (same_word x y (spoken_one x.answer y.answer all.0), all.1, all.2)

pub one_view_given : (t : Table) (old new new' : List ℕ) (r s : ℕ)
    → Tells (λ a. Viewed t old a new) r → Tells (λ a. Viewed t old a new') s → (r ≡ s) × (new ≡ new')
one_view_given t old new new' r s x y =
    let both = one_viewed t old new new' (spoken x.answer) (spoken y.answer) (rw says_spoken x.allows) (rw says_spoken y.allows) in
    (same_word x y (spoken_one x.answer y.answer both.0), both.1)

pub one_view_paths_given : (t : Table) (out ends o o' e e' : List ℕ) (r s : ℕ)
    → Tells (λ a. ViewPaths t out ends a o e) r → Tells (λ a. ViewPaths t out ends a o' e') s → (r ≡ s) × (o ≡ o') × (e ≡ e')
one_view_paths_given t out ends o o' e e' r s x y =
    let all = one_view_paths t out ends (spoken x.answer) (spoken y.answer) o o' e e' (rw says_spoken x.allows) (rw says_spoken y.allows) in
    (same_word x y (spoken_one x.answer y.answer all.0), all.1, all.2)

pub one_walk_linked_given : (t : Table) {fs ns old new new' : List ℕ} {r s : ℕ}
    → Tells (λ a. Keeping t fs ns a (Walked t old a new) (new ≡ old)) r → Tells (λ a. Keeping t fs ns a (Walked t old a new') (new' ≡ old)) s → (r ≡ s) × (new ≡ new')
one_walk_linked_given t {fs} {ns} {old} {new} {new'} x y =
    let both = one_walk_linked t {fs = fs} {ns = ns} {old = old} {new = new} {new' = new'} (spoken x.answer) (spoken y.answer) (rw says_spoken x.allows) (rw says_spoken y.allows) in
    (same_word x y (spoken_one x.answer y.answer both.0), both.1)

pub one_paths_linked_given : (t : Table) {fs ns out ends o o' b b' : List ℕ} {r s : ℕ}
    → Tells (λ a. Keeping t fs ns a (AllPaths t out ends a o b) ((o ≡ out) × (b ≡ ends))) r
    → Tells (λ a. Keeping t fs ns a (AllPaths t out ends a o' b') ((o' ≡ out) × (b' ≡ ends))) s → (r ≡ s) × (o ≡ o') × (b ≡ b')
one_paths_linked_given t {fs} {ns} {out} {ends} {o} {o'} {b} {b'} x y =
    let all = one_paths_linked t {fs = fs} {ns = ns} {out = out} {ends = ends} {o = o} {o' = o'} {b = b} {b' = b'} (spoken x.answer) (spoken y.answer) (rw says_spoken x.allows) (rw says_spoken y.allows) in
    (same_word x y (spoken_one x.answer y.answer all.0), all.1, all.2)

pub one_linked_given : (t : Table) {fs ns f g m o : List ℕ} {r s : ℕ} → Tells (λ a. Linked t fs ns a f m) r → Tells (λ a. Linked t fs ns a g o) s → (r ≡ s) × (f ≡ g) × (m ≡ o)
one_linked_given t {fs} {ns} {f} {g} {m} {o} x y =
    let all = one_linked t {fs = fs} {ns = ns} {f = f} {g = g} {m = m} {o = o} (spoken x.answer) (spoken y.answer) (rw says_spoken x.allows) (rw says_spoken y.allows) in
    (same_word x y (sym (says_spoken x.answer) ∙ ap says_count all.0 ∙ says_spoken y.answer), all.1, all.2)

pub one_collected_given : {t : Table} {old hs hs' ps ps' es es' ms ms' ns ns' new new' : List ℕ} {r s : ℕ}
    → Tells (λ a. Collected t old a hs ps es ms ns new) r → Tells (λ a. Collected t old a hs' ps' es' ms' ns' new') s
    → (r ≡ s) × ((hs ≡ hs') × (ps ≡ ps') × (es ≡ es') × (ms ≡ ms') × (ns ≡ ns')) × (new ≡ new')
one_collected_given x y = let all = one_collected x.allows y.allows in (same_word x y all.0, all.1, all.2)

pub one_added_given : {asked : Answer (Unit {0})} {t : Table} {old name hs hs' ps ps' es es' ms ms' ns ns' new new' : List ℕ} {parent handle r s : ℕ}
    → Tells (λ a. Adds asked t old parent handle name a hs ps es ms ns new) r → Tells (λ a. Adds asked t old parent handle name a hs' ps' es' ms' ns' new') s
    → (r ≡ s) × ((hs ≡ hs') × (ps ≡ ps') × (es ≡ es') × (ms ≡ ms') × (ns ≡ ns')) × (new ≡ new')
one_added_given x y = let all = one_added x.allows y.allows in (same_word x y all.0, all.1, all.2)

pub one_deleted_linked_given : (t : Table) (fs ns : List ℕ) (place : ℕ) {ms ms' f g m o : List ℕ} {r s : ℕ}
    → Tells (λ a. DeletedLinked t fs ns place a ms f m) r → Tells (λ a. DeletedLinked t fs ns place a ms' g o) s → (r ≡ s) × (ms ≡ ms') × (f ≡ g) × (m ≡ o)
one_deleted_linked_given t fs ns place x y =
    let all = one_deleted_linked t fs ns place x.allows y.allows in
    (same_word x y all.0, all.1, all.2, all.3)

module _ (t : Table) (fs ns old : List ℕ) {hs hs' ps ps' es es' ms ms' bs bs' f g m o new new' : List ℕ} {r s : ℕ} where
  pub one_collected_linked_given : Tells (λ a. CollectedLinked t fs ns old a hs ps es ms bs f m new) r → Tells (λ a. CollectedLinked t fs ns old a hs' ps' es' ms' bs' g o new') s
      → (r ≡ s) × ((hs ≡ hs') × (ps ≡ ps') × (es ≡ es') × (ms ≡ ms') × (bs ≡ bs')) × (f ≡ g) × (m ≡ o) × (new ≡ new')
  one_collected_linked_given x y =
      let all = one_collected_linked t fs ns old x.allows y.allows in
      (same_word x y all.0, all.1, all.2, all.3, all.4)

  pub one_added_linked_given : (parent handle : ℕ) (name : List ℕ) → Bytes t.names → Bytes name
      → Tells (λ a. AddsLinked t fs ns old parent handle name a hs ps es ms bs f m new) r → Tells (λ a. AddsLinked t fs ns old parent handle name a hs' ps' es' ms' bs' g o new') s
      → (r ≡ s) × ((hs ≡ hs') × (ps ≡ ps') × (es ≡ es') × (ms ≡ ms') × (bs ≡ bs')) × (f ≡ g) × (m ≡ o) × (new ≡ new')
  one_added_linked_given parent handle name h i x y =
      let all = one_added_linked t fs ns old parent handle name h i x.allows y.allows in
      (same_word x y all.0, all.1, all.2, all.3, all.4)

pub one_sent : (n end code count : ℕ) (said : ℕ → Said) (old new new' : List ℕ) (n' n'' end' end'' r s : ℕ)
    → Tells (Parts n end code count said old n' end' new) r → Tells (Parts n end code count said old n'' end'' new') s → (r ≡ s) × (n' ≡ n'') × (end' ≡ end'') × (new ≡ new')
one_sent n end code count said old new new' n' n'' end' end'' r s x y =
    let a = x.allows in
    let b = y.allows in
    let p = a.sent.makes in
    let q = b.sent.makes in
    let same : x.answer ≡ y.answer = p.answers ∙ ap (means (λ _. turn (session_at n) code)) (p.wrote.answers ∙ sym q.wrote.answers) ∙ sym q.answers in (
      same_word x y same,
      a.sent.number ∙ ap (number_after n) same ∙ sym b.sent.number,
      a.parted ∙ ap (end_after end (command_end count)) same ∙ sym b.parted,
      p.wrote.leaves ∙ sym q.wrote.leaves,
    )

pub one_copied_into : (s out left o o' l l' : List ℕ) (r r' : ℕ) → Tells (CopiesInto s out left o l) r → Tells (CopiesInto s out left o' l') r' → (r ≡ r') × (o ≡ o') × (l ≡ l')
one_copied_into s out left o o' l l' r r' x y =
    let p = x.allows in
    let q = y.allows in
    let same : x.answer ≡ y.answer = p.answers ∙ sym q.answers in (
      same_word x y same,
      p.leaves ∙ ap (λ a. unless_refused a (λ _. left_of (copy_said s) out) out) same ∙ sym q.leaves,
      p.counts ∙ ap (λ a. unless_refused a (λ k. k.records ∷ k.bytes ∷ drop 2 left) left) same ∙ sym q.counts,
    )

pub one_listed_into : (w : Windowed) (out row o o' c c' : List ℕ) (r r' : ℕ) → Tells (ListsInto w out row o c) r → Tells (ListsInto w out row o' c') r' → (r ≡ r') × (o ≡ o') × (c ≡ c')
one_listed_into w out row o o' c c' r r' x y =
    let p = x.allows in
    let q = y.allows in
    let same : x.answer ≡ y.answer = p.answers ∙ sym q.answers in (
      same_word x y same,
      p.leaves ∙ ap (λ a. unless_refused a (λ _. w.text ++ drop (length w.text) out) out) same ∙ sym q.leaves,
      p.counts ∙ ap (λ a. unless_refused a (λ _. w.used ∷ w.place ∷ w.records ∷ side w.stopped ∷ drop 4 row) row) same ∙ sym q.counts,
    )
