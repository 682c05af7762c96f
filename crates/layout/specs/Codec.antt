-- A reader and a tidy writer for each way to make a grammar. That each is faithful to its grammar is proved in proofs/Make.
-- Assumes nothing.
use Rattle.std.specs.Prelude.{Bool, List, [], ◌∷◌, ◌++◌, ℕ, zero, suc, ◌*◌, length}
use Rattle.layout.specs.Answer.{Told, got, refused, Reader, pick, after, means, located, field_at}
use Rattle.layout.specs.Bytes.{bytes, number, cells}

pub record Codec (R : Type 0) : Type 0 where
  pub read : Reader R
  pub write : R → List ℕ

-- no byte
abbrev pub nothing : {R : Type 0} → R → Codec R
nothing r = record { read = λ s at. got r at; write = λ x. [] }

-- a number in k bytes
abbrev pub numbered : ℕ → Codec ℕ
numbered k = record { read = field_at k number; write = bytes k }

infixr 20 ◌and◌
-- one after the other
abbrev pub ◌and◌ : {A B : Type 0} → Codec A → (A → Codec B) → Codec (A × B)
F and K = record {
  read = λ s at. after (F.read s at) λ a n. means (λ b. (a, b)) ((K a).read s n);
  write = λ x. F.write x.0 ++ (K x.0).write x.1;
}

-- the first picks the second, and is not kept; what is written first is `c` of the reading
abbrev pub leading : {A R : Type 0} → Codec A → (R → A) → (A → Codec R) → Codec R
leading F c K = record {
  read = λ s at. after (F.read s at) λ a n. (K a).read s n;
  write = λ r. F.write (c r) ++ (K (c r)).write r;
}

-- a test; refused, it is told by `why` of the place
abbrev pub only : {R : Type 0} → (ℕ → Told) → (R → Bool) → Codec R → Codec R
only why test F = record {
  read = λ s at. after (F.read s at) λ r n. pick (test r) (got r n) (refused (why at));
  write = F.write;
}

-- read through f; `out` writes what f made
abbrev pub through : {A B : Type 0} → (A → B) → Codec A → (B → List ℕ) → Codec B
through f F out = record { read = λ s at. means f (F.read s at); write = out }

-- the same layout as one field
abbrev pub field : {R : Type 0} → Codec R → Codec R
field F = record { read = λ s at. located at (F.read s at); write = F.write }

-- ── made of these ──

abbrev pub cons_write : {R : Type 0} → (R → List ℕ) → (List R → List ℕ) → List R → List ℕ
cons_write f g [] = []
cons_write f g (x ∷ xs) = f x ++ g xs

-- n words
abbrev pub repeated : {R : Type 0} → ℕ → Codec R → Codec (List R)
repeated zero F = nothing []
repeated (suc n) F = through (λ x. x.0 ∷ x.1) (F and λ _. repeated n F) (λ xs. cons_write F.write (λ ys. (repeated n F).write ys) xs)

-- k bytes that are not looked at, written as 0
abbrev pub spared : ℕ → Codec (Unit {0})
spared k = leading (numbered k) (λ _. 0) (λ _. nothing tt)

-- a row of n numbers of k bytes, by one test for the end
abbrev pub celled : ℕ → ℕ → Codec (List ℕ)
celled k n = record { read = field_at (n * k) (cells k n); write = λ xs. (repeated n (numbered k)).write xs }

-- a count of k bytes, then what `row` reads of that many
abbrev pub counted : {R : Type 0} → ℕ → (ℕ → Codec (List R)) → Codec (List R)
counted k row = leading (numbered k) length row
