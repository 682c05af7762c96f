-- Which place a refusal is told of, said with no reader: the first field that the bytes are not read as, END and TEXT alike.
-- Assumes nothing.
use Rattle.std.specs.Prelude.{◌≡◌, List, ◌++◌, ℕ, zero, suc, ◌+◌, length, drop}
use Rattle.layout.specs.Answer.{Told, Answer, got, refused, end_at, bad_text}
use Rattle.layout.specs.Bytes.{Bytes}
use Rattle.layout.specs.Codec.{Codec}
use Rattle.layout.specs.Fault.{Fault, Begins, Spoilt}
use Rattle.layout.specs.Grammar.{loose, Grammar, Number}

-- ── spots: no reader stands here ──

-- of bytes s and a number q: the field that starts q bytes on is the first that s is not read as
abbrev pub Spot : Type 1
Spot = List ℕ → ℕ → Type 0

-- of a layout without a field
pub data Nowhere : List ℕ → ℕ → Type 0 where

-- of one field: no word of it begins here
pub data Here {R : Type 0} (G : Grammar R) : List ℕ → ℕ → Type 0 where
  here : {s : List ℕ} → (Begins G s → ⊥) → Here G s 0

-- of one layout after another: a spot of the first, or a word of the first and then a spot of the second
pub data Past {A : Type 0} (G : Grammar A) (P : Spot) (Q : A → Spot) : List ℕ → ℕ → Type 0 where
  early : {s : List ℕ} {q : ℕ} → P s q → Past G P Q s q
  later : {u v : List ℕ} {a : A} {q : ℕ} → G loose u a → Q a v q → Past G P Q (u ++ v) (length u + q)

-- of n words, and of a count of k bytes with as many words
abbrev pub AmongSpot : {R : Type 0} → ℕ → Grammar R → Spot → Spot
AmongSpot zero G P = Nowhere
AmongSpot (suc n) G P = Past G P (λ _. AmongSpot n G P)

abbrev pub CountSpot : {R : Type 0} → ℕ → Grammar R → Spot → Spot
CountSpot k G P = Past (Number k) (Here (Number k)) (λ n. AmongSpot n G P)

-- ── the demand on an answer about the bytes s, which start at a place: refused, it is told of the spot, as TEXT where s begins with a fault, else as END ──

pub record Points {L : Type 0} (B : Fault) (P : Spot) (s : List ℕ) (at : ℕ) (x : Answer L) : Type 0 where
  pub some : (t : Told) → x ≡ refused t → (q : ℕ) × P s q
  pub end_there : (q : ℕ) → P s q → (Spoilt B s → ⊥) → x ≡ refused (end_at (at + q))
  pub text_there : (q : ℕ) → P s q → Spoilt B s → x ≡ refused (bad_text (at + q))

-- ── the laws that are carried from field to field ──

-- an answer of one field: a refusal is told of its place
pub data Own {R : Type 0} (at : ℕ) : Answer R → Type 0 where
  own_read : {r : R} {n : ℕ} → Own at (got r n)
  own_end : Own at (refused (end_at at))
  own_text : Own at (refused (bad_text at))

pub record Owned {R : Type 0} (F : Codec R) : Type 0 where
  pub own : (s : List ℕ) → Bytes s → (at : ℕ) → Own at (F.read s at)

-- a refusal told of a place
pub data Of {R : Type 0} (p : ℕ) : Answer R → Type 0 where
  of_end : Of p (refused (end_at p))
  of-text : Of p (refused (bad_text p))

pub data Spots {R : Type 0} (P : Spot) (s : List ℕ) (at : ℕ) : Answer R → Type 0 where
  no_spot : {r : R} {n : ℕ} → Spots P s at (got r n)
  spot : {x : Answer R} (q : ℕ) → P (drop at s) q → Of (at + q) x → Spots P s at x

pub record Spotted {R : Type 0} (P : Spot) (F : Codec R) : Type 0 where
  pub spots : (s : List ℕ) → Bytes s → (at : ℕ) → Spots P s at (F.read s at)
  pub found : (s : List ℕ) → Bytes s → (at q : ℕ) → P (drop at s) q → Of (at + q) (F.read s at)
