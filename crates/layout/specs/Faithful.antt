-- The demand on a reader and a tidy writer, whole. That every format meets it is proved in proofs/Meets.
-- Assumes nothing.
use Rattle.std.specs.Prelude.{◌≡◌, ◌↔◌, List, ◌++◌, ℕ, ◌≤◌, length, take, drop}
use Rattle.layout.specs.Answer.{Told, Answer, got, refused}
use Rattle.layout.specs.Codec.{Codec}
use Rattle.layout.specs.Bytes.{Bytes}
use Rattle.layout.specs.Grammar.{loose, tidy, Grammar}
use Rattle.layout.specs.Placed.{Lies}
use Rattle.layout.specs.Written.{Said, says, no, Wrote, tidied}

-- the first n of the bytes s are a word of G, read as r
pub record Prefix {R : Type 0} (G : Grammar R) (s : List ℕ) (r : R) (n : ℕ) : Type 0 where
  pub within : n ≤ length s
  pub reads : G loose (take n s) r

pub record Faithful {R : Type 0} (G : Grammar R) (F : Codec R) : Type 0 where
  -- bytes are accepted, with a reading and a length, exactly when that prefix is in the grammar with that reading
  pub exact : (s : List ℕ) → Bytes s → (r : R) (n : ℕ) → F.read s 0 ≡ got r n ↔ Prefix G s r n
  -- only one prefix is, and it has one reading
  pub unique : (s : List ℕ) (r r' : R) (n n' : ℕ) → Prefix G s r n → Prefix G s r' n' → (n ≡ n') × (r ≡ r')
  -- writing a reading gives a tidy word of that reading
  pub writes : (w : List ℕ) (r : R) → G loose w r → G tidy (F.write r) r
  -- which is a word, and the only tidy one
  pub a_word : (w : List ℕ) (r : R) → G tidy w r → G loose w r
  pub one_only : (v w : List ℕ) (r : R) → G tidy v r → G tidy w r → v ≡ w
  -- so it gives the word back exactly when the word was tidy
  pub gives_back : (w : List ℕ) (r : R) → G loose w r → F.write r ≡ w ↔ G tidy w r

-- an answer of places, exactly: what it accepts means a prefix in the grammar, with that reading and length; and every prefix in the grammar is accepted so
pub record Exact {R L : Type 0} (G : Grammar R) (mean : L → R) (s : List ℕ) (x : Answer L) : Type 0 where
  pub accepts : (l : L) (n : ℕ) → x ≡ got l n → Prefix G s (mean l) n
  pub reaches : (r : R) (n : ℕ) → Prefix G s r n → (l : L) × (x ≡ got l n) × (mean l ≡ r)

-- what a tidy writer has to say, exactly: the writer's word of that reading, which is the prefix itself exactly when the prefix is tidy
pub record Tidies {R L : Type 0} (G : Grammar R) (mean : L → R) (write : R → List ℕ) (s : List ℕ) (x : Answer L) (said : Said) : Type 0 where
  pub owes : (l : L) (n : ℕ) → x ≡ got l n → said ≡ says (write (mean l))
  pub declines : (t : Told) → x ≡ refused t → said ≡ no t
  pub tidy-word : (l : L) (n : ℕ) → x ≡ got l n → G tidy (write (mean l)) (mean l)
  pub gives_back : (l : L) (n : ℕ) → x ≡ got l n → write (mean l) ≡ take n s ↔ G tidy (take n s) (mean l)

-- all of demand 3 for a reader of places that answered x of the bytes s, and for the tidy writer beside it
pub record Kept {R L : Type 0} (G : Grammar R) (F : Codec R) (mean : L → R) (parts : L → List (ℕ × ℕ)) (s : List ℕ) (x : Answer L) : Type 0 where
  pub exact : Exact G mean s x
  pub inside : Lies parts 0 x
  pub tidies : Tidies G mean F.write s x (tidied F s)
  -- with room enough the tidy word stands at the front of the output, and nothing else is changed
  pub writes : (old new : List ℕ) (answer : Answer (Unit {0})) → Wrote (tidied F s) old answer new → (l : L) (n : ℕ) → x ≡ got l n → length (F.write (mean l)) ≤ length old
      → (answer ≡ got tt (length (F.write (mean l)))) × (new ≡ F.write (mean l) ++ drop (length (F.write (mean l))) old)
