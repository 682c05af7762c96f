-- Tests in their order: the first that holds gives the answer. A row of them says what is answered with no reader: each answer by its own condition,
-- and that none earlier holds.
-- Assumes nothing.

infixr 1 ◌gives◌else◌
-- the answer a where C holds; where it does not, what the rest says
pub data ◌gives◌else◌ {A : Type 0} (C : Type 0) (a : A) (rest : A → Type 0) : A → Type 0 where
  holds : C → ◌gives◌else◌ C a rest a
  fails : {x : A} → (C → ⊥) → rest x → ◌gives◌else◌ C a rest x

-- the answer where none holds
pub data Otherwise {A : Type 0} (a : A) : A → Type 0 where
  otherwise : Otherwise a a
