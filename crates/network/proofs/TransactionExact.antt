-- Bytes are due exactly where they are a transaction's, and then its words on the other side; so however its data are cut, the same containers come.
-- Assumes nothing.
use Rattle.layout.specs.Answer.{says_count}
use Rattle.std.specs.declared.result.Result.{Result}
use Rattle.layout.specs.declared.Refusal.{Refusal}
use mathlib.Core.Path.{◌≡◌, refl, sym, ap, subst, ◌∙◌}
use mathlib.Core.Logic.{◌↔◌}
use mathlib.Core.List.{List}
use Prim.Native.Nat.{ℕ}
use Rattle.layout.specs.Bytes.{Bytes}
use Rattle.layout.specs.Written.{says, Wrote}
use Rattle.layout.proofs.laws.Determined.{one_written}
use Rattle.network.specs.Transaction.{Transaction, Containers, containers_word, Packets, tidy_word}
use Rattle.network.specs.Translated.{to_said, from_said}
use Rattle.network.specs.declared.translate.Direction.{Direction}
use Rattle.network.proofs.FromComplete.{from_complete}
use Rattle.network.proofs.FromSound.{from_sound}
use Rattle.network.proofs.ToComplete.{to_complete, containers_one}
use Rattle.network.proofs.ToSound.{to_sound}

-- bytes are due exactly where the containers are those of a transaction, and then its tidy packets
pub exactly_such_to : (d : Direction) (s p : List ℕ) → Bytes s → (to_said d s ≡ says p) ↔ ((t : Transaction) × Containers s t × (p ≡ tidy_word d t))
exactly_such_to d s p h = (to_sound d s h p, λ x. to_complete d s x.0 x.1 ∙ ap says (sym x.2))

-- and back, exactly where the packets are those of a transaction, and then its containers
pub exactly_such_from : (p w : List ℕ) → Bytes p → (from_said p ≡ says w) ↔ ((t : Transaction) × Packets p t × (w ≡ containers_word t))
exactly_such_from p w h = (from_sound p h w, λ x. from_complete p x.0 x.1 ∙ ap says (sym x.2))

-- of one transaction, on either side
pub packets_one : (p : List ℕ) (t u : Transaction) → Packets p t → Packets p u → t ≡ u
packets_one p t u x y =
    let e = sym (from_complete p t x) ∙ from_complete p u y in
    let same : containers_word t ≡ containers_word u = cc in
    containers_one (containers_word t) t u (record { fits = x.fits; word = refl }) (record { fits = y.fits; word = same })

pub cuts_join : (p q : List ℕ) (t : Transaction) → Packets p t → Packets q t → from_said p ≡ from_said q
cuts_join p q t x y = from_complete p t x ∙ sym (from_complete q t y)

-- of the functions' own answers: with the same output before it, the same answer and the same output after it
pub cuts_join_written : (p q : List ℕ) (t : Transaction) → Packets p t → Packets q t → (old new new' : List ℕ) (a b : Result ℕ Refusal) → Wrote (from_said p) old (says_count a) new → Wrote (from_said q) old (says_count b) new' → (a ≡ b) × (new ≡ new')
cuts_join_written p q t x y old new new' a b u v = one_written (from_said p) old new new' a b u (subst (λ said. Wrote said old (says_count b) new') (sym (cuts_join p q t x y)) v)
