-- A payload that one layout must fill, by the grammar: no reader stands here.
-- Assumes nothing.
use Rattle.std.specs.Prelude.{◌≡◌, ℕ, ◌<◌, ◌↔◌, List, length}
use Rattle.layout.specs.Answer.{Told, Answer, got, refused, bare}
use Rattle.layout.specs.Faithful.{Prefix}
use Rattle.layout.specs.Fault.{Fault, Begins}
use Rattle.layout.specs.Grammar.{loose, Grammar, Number, Counted}
use Rattle.layout.specs.Refusals.{TRAIL}
use Rattle.layout.specs.Spot.{Spot, Points}

-- handles and storage IDs: a count of four bytes, then as many numbers of four; object counts: one such number
abbrev pub Handles : Grammar (List ℕ)
Handles = Counted 4 (Number 4)

abbrev pub ObjectCount : Grammar ℕ
ObjectCount = Number 4

-- a word begins the payload, and bytes follow it
pub record Shorter {R : Type 0} (G : Grammar R) (s : List ℕ) : Type 0 where
  pub reading : R
  pub size : ℕ
  pub front : Prefix G s reading size
  pub more : size < length s

-- the answer x on the payload s
pub record Fills {R L : Type 0} (G : Grammar R) (B : Fault) (P : Spot) (mean : L → R) (s : List ℕ) (x : Answer L) : Type 0 where
  -- accepted exactly where the whole payload is a word, with its reading
  pub accepts : (l : L) (n : ℕ) → x ≡ got l n → (n ≡ length s) × G loose s (mean l)
  pub reaches : (r : R) → G loose s r → (l : L) × (x ≡ got l (length s)) × (mean l ≡ r)
  -- 3 exactly where a proper prefix is one
  pub trails : x ≡ refused (bare TRAIL) ↔ Shorter G s
  -- where no word begins it: refused, told of the first field that it is not read as; 2 where it begins with a text that is refused, else 1
  pub unread : (Begins G s → ⊥) → ((t : Told) × (x ≡ refused t)) × Points B P s 0 x
