-- Layouts whose every word is tidy. Their writer gives back the bytes that were read.
-- Assumes nothing.
use mathlib.Core.Path.{◌≡◌, sym, subst}
use mathlib.Core.List.{List, []}
use Prim.Native.Nat.{ℕ, zero, suc}
use lib.ListN.{length}
use Rattle.layout.specs.Answer.{got}
use Rattle.layout.specs.Bytes.{Bytes}
use Rattle.layout.specs.Grammar.{loose, tidy, Grammar, Empty, empty, Number, num, ◌then◌, both, Lead, lead, As, as', Repeat, Counted}
use Rattle.layout.specs.Codec.{Codec}
use Rattle.layout.specs.Format.{Format, Stands, Sound, word}
use Rattle.layout.proofs.laws.Make.{repeat_length}

abbrev pub Single : {R : Type 0} → Grammar R → Type 0
Single {R} G = (w : List ℕ) (r : R) → G loose w r → G tidy w r

-- what is read of such a layout is written back as it stood
pub copied : {R : Type 0} {G : Grammar R} {F : Codec R} → Format G F → Single G → (s : List ℕ) → Bytes s → (at : ℕ) (r : R) (n : ℕ) → got r n ≡ F.read s at → Stands s at n (F.write r)
copied {G} {F} f single s h at r n e = of (subst (Sound G s at) (sym e) (f.sound s h at))
  where
    of : Sound G s at (got r n) → Stands s at n (F.write r)
    of (word {w} st g) = subst (Stands s at n) (f.one (single w r g)) st

pub single_empty : {R : Type 0} (r : R) → Single (Empty r)
single_empty r w x empty = empty

pub single_number : (k : ℕ) → Single (Number k)
single_number k w x (num h) = num h

single_then : {A B : Type 0} {G : Grammar A} {H : A → Grammar B} → Single G → ((a : A) → Single (H a)) → Single (G then H)
single_then f g w x (both {u} {v} {a} {b} p q) = both (f u a p) (g a v b q)

pub single_as : {A B : Type 0} {G : Grammar A} (f : A → B) → Single G → Single (As f G)
single_as f g w x (as' {a} p) = as' (g w a p)

single_lead : {A R : Type 0} {G : Grammar A} {H : A → Grammar R} (c : R → A) → ((a : A) (w : List ℕ) (r : R) → H a loose w r → a ≡ c r) → Single G → ((a : A) → Single (H a)) → Single (Lead G c H)
single_lead c e f g w x (lead {u} {v} {a} p q r) = lead (f u a p) (e a v x r) (g a v x r)

pub single_repeat : {R : Type 0} (G : Grammar R) (n : ℕ) → Single G → Single (Repeat n G)
single_repeat G zero g = single_empty []
single_repeat G (suc n) g = single_as _ (single_then g λ _. single_repeat G n g)

pub single_counted : {R : Type 0} {G : Grammar R} (k : ℕ) → Single G → Single (Counted k G)
single_counted {G} k g = single_lead length (λ n w r p. sym (repeat_length G loose n w r p)) (single_number k) λ n. single_repeat G n g
