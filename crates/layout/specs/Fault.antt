-- Which refusal is given, said with no reader. A layout has faults beside its words: bytes that are whole up to a test, and fail it.
-- TEXT is given exactly where the bytes begin with a fault, END exactly where they begin with neither a word nor a fault.
-- (The grammar alone does not tell: proofs/Undetermined has one grammar, and two readers of it that differ.)
-- Assumes nothing.
use Rattle.std.specs.Prelude.{◌≡◌, Bool, not, ◌↔◌, ◌⊎◌, List, ◌++◌, ℕ, zero, suc, ◌≤◌, T, length, take}
use Rattle.layout.specs.Answer.{Told, Answer, got, refused, Reader, end_at, bad_text}
use Rattle.layout.specs.Bytes.{Bytes}
use Rattle.layout.specs.Codec.{Codec}
use Rattle.layout.specs.Faithful.{Prefix}
use Rattle.layout.specs.Format.{Stands}
use Rattle.layout.specs.Grammar.{loose, Grammar, Number}

-- ── faults: no reader stands here ──

abbrev pub Fault : Type 1
Fault = List ℕ → Type 0

-- of a layout without a test
pub data Clean : List ℕ → Type 0 where

-- of a test: a fault of the layout, or a word of it whose reading fails
pub data Fails {R : Type 0} (test : R → Bool) (G : Grammar R) (B : Fault) : List ℕ → Type 0 where
  inner : {w : List ℕ} → B w → Fails test G B w
  fails : {w : List ℕ} {r : R} → T (not (test r)) → G loose w r → Fails test G B w

-- of one layout after another: a fault of the first, or a word of the first and then a fault of the second
pub data Along {A : Type 0} (G : Grammar A) (B : Fault) (C : A → Fault) : List ℕ → Type 0 where
  first : {w : List ℕ} → B w → Along G B C w
  second : {u v : List ℕ} {a : A} → G loose u a → C a v → Along G B C (u ++ v)

-- of n words, and of a count of k bytes with as many words
abbrev pub Among : {R : Type 0} → ℕ → Grammar R → Fault → Fault
Among zero G B = Clean
Among (suc n) G B = Along G B (λ _. Among n G B)

abbrev pub Counts : {R : Type 0} → ℕ → Grammar R → Fault → Fault
Counts k G B = Along (Number k) Clean (λ n. Among n G B)

-- ── what bytes begin with ──

-- with a word
abbrev pub Begins : {R : Type 0} → Grammar R → List ℕ → Type 0
Begins {R} G s = (r : R) × ((n : ℕ) × Prefix G s r n)

-- with a fault
pub record Spoilt (B : Fault) (s : List ℕ) : Type 0 where
  pub size : ℕ
  pub within : size ≤ length s
  pub fault : B (take size s)

-- ── the demand on an answer: which refusal it is ──

abbrev pub Ends : {L : Type 0} → Answer L → Type 0
Ends x = (p : ℕ) × (x ≡ refused (end_at p))

abbrev pub BadText : {L : Type 0} → Answer L → Type 0
BadText x = (p : ℕ) × (x ≡ refused (bad_text p))

pub record Refuses {R L : Type 0} (G : Grammar R) (B : Fault) (s : List ℕ) (x : Answer L) : Type 0 where
  pub text : BadText x ↔ Spoilt B s
  pub ends : Ends x ↔ ((Begins G s → ⊥) × (Spoilt B s → ⊥))
  -- and no other refusal is given
  pub either : (t : Told) → x ≡ refused t → Ends x ⊎ BadText x

-- ── the demand on a reader: bytes that follow ──

-- what is read of more bytes: the same answer, unless it was END
pub data Stays {A : Type 0} : Answer A → Answer A → Type 0 where
  same : {x : Answer A} → Stays x x
  more : (p : ℕ) {y : Answer A} → Stays (refused (end_at p)) y

-- an answer other than END
pub data Settled {A : Type 0} : Answer A → Type 0 where
  good : {a : A} {n : ℕ} → Settled (got a n)
  bad : (p : ℕ) → Settled (refused (bad_text p))

-- an answer other than END is not changed by any bytes that follow
abbrev pub Final : {A : Type 0} → Reader A → Type 0
Final read = (s t : List ℕ) (at : ℕ) → Stays (read s at) (read (s ++ t) at)

-- after some bytes that follow there is one
abbrev pub Open : {A : Type 0} → Reader A → Type 0
Open read = (s : List ℕ) (at : ℕ) → (t : List ℕ) × (Bytes t × Settled (read (s ++ t) at))

-- ── all of it, of a reader of G with the faults B ──

pub record Decides {R : Type 0} (G : Grammar R) (B : Fault) (F : Codec R) : Type 0 where
  pub refuses : (s : List ℕ) → Bytes s → Refuses G B s (F.read s 0)
  pub final : Final F.read
  pub opens : Open F.read
  -- of the layout alone: no bytes begin with a word and with a fault, and all bytes can be carried on until they begin with one of the two
  pub apart : (s : List ℕ) → Begins G s → Spoilt B s → ⊥
  pub carried : (s : List ℕ) → Bytes s → (t : List ℕ) × (Bytes t × (Begins G (s ++ t) ⊎ Spoilt B (s ++ t)))

-- two answers of one kind: the same reading and length, or END both, or TEXT both
pub data Alike {R : Type 0} : Answer R → Answer R → Type 0 where
  both_read : {r : R} {n : ℕ} → Alike (got r n) (got r n)
  both_end : (p q : ℕ) → Alike (refused (end_at p)) (refused (end_at q))
  both_text : (p q : ℕ) → Alike (refused (bad_text p)) (refused (bad_text q))

-- ── the laws that are carried from field to field, as Format's are: at every place ──

-- what a refusal is of: a fault that stands there, or the end
pub data Blames {R : Type 0} (B : Fault) (s : List ℕ) (at : ℕ) : Answer R → Type 0 where
  fine : {r : R} {n : ℕ} → Blames B s at (got r n)
  fault : {w : List ℕ} {n : ℕ} (p : ℕ) → Stands s at n w → B w → Blames B s at (refused (bad_text p))
  cut : (p : ℕ) → Blames B s at (refused (end_at p))

pub record Faulted {R : Type 0} (B : Fault) (F : Codec R) : Type 0 where
  pub final : Final F.read
  pub opens : Open F.read
  pub blames : (s : List ℕ) → Bytes s → (at : ℕ) → Blames B s at (F.read s at)
  pub spoils : {s w : List ℕ} {at n : ℕ} → Stands s at n w → B w → (p : ℕ) × (F.read s at ≡ refused (bad_text p))
