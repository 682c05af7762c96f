-- A word that was read, by its length and by its bytes; and that a tidy word is no longer than what was read.
-- Assumes nothing.
use mathlib.Core.Path.{◌≡◌, refl, ap}
use mathlib.Core.Bool.{true}
use mathlib.Core.List.{List, [], ◌++◌}
use Prim.Native.Nat.{ℕ, zero, suc, ◌+◌, ◌-◌, ◌≤◌}
use native.Mathlib.Omega.{arith}
use lib.ListN.{length, length-append}
use Rattle.layout.specs.Answer.{Told, Answer, got, refused, means}
use Rattle.layout.specs.Bytes.{Bytes, bytes}
use Rattle.layout.specs.Grammar.{loose, Grammar, Empty, Number, ◌then◌, both, lead, As, as', Repeat, Counted}
use Rattle.layout.specs.Codec.{Codec, nothing, numbered, ◌and◌, through, repeated, counted}
use Rattle.layout.specs.Format.{Format, Sound, word, none}
use Rattle.layout.specs.Written.{says, no, said_of, word_at, took, spelling}
use Rattle.layout.proofs.laws.Make.{num_size, repeat_length}
use Rattle.layout.proofs.laws.Numbers.{length_bytes, zero_one}
use Rattle.layout.proofs.laws.Words.{fits}

module _ (x : Answer (List ℕ)) where
  -- measured, it is there
  pub measured : (t n : ℕ) → got t n ≡ means length x → (x ≡ got (spelling x) n) × (t ≡ length (spelling x))
  unfolding means
  measured t n e = go x e
    where
      go : (x : Answer (List ℕ)) → got t n ≡ means length x → (x ≡ got (spelling x) n) × (t ≡ length (spelling x))
      go (got bs m) e = (cc, cc)
      go (refused f) e = zero_one (cc)

  pub unmeasured : (t : Told) → refused t ≡ means length x → x ≡ refused t
  unfolding means
  unmeasured t e = go x e
    where
      go : (x : Answer (List ℕ)) → refused t ≡ means length x → x ≡ refused t
      go (got bs m) e = zero_one (cc)
      go (refused f) e = cc

  -- what it says
  pub said_got : (t n : ℕ) → got t n ≡ means length x → (said_of x ≡ says (spelling x)) × (took x ≡ true) × (t ≡ length (spelling x))
  unfolding said_of
  said_got t n e = let m = measured t n e in (rw m.0, ap took m.0, m.1)

  pub said_refused : (t : Told) → refused t ≡ means length x → said_of x ≡ no t
  unfolding said_of
  said_refused t e = rw (unmeasured t e)

  -- taken, it was not refused
  pub never : {X : Type 0} (t : Told) → x ≡ refused t → took x ≡ true → X
  never t e h = let f : took (refused t) ≡ true = rw e at h in zero_one (cc)

-- a part, and what is taken after it
pub took_more : (bs : List ℕ) (x : Answer (List ℕ)) → took (means (λ cs. bs ++ cs) x) ≡ true → (took x ≡ true) × (spelling (means (λ cs. bs ++ cs) x) ≡ bs ++ spelling x)
unfolding means
took_more bs (got cs n) e = (refl, refl)
took_more bs (refused t) e = zero_one (cc)

-- no reading's tidy word is longer than any word of it
pub record Shrinks {R : Type 0} (G : Grammar R) (F : Codec R) : Type 0 where
  pub small : (w : List ℕ) (r : R) → G loose w r → length (F.write r) ≤ length w

-- made of layouts that do, a layout does
pub number_shrinks : (k : ℕ) → Shrinks (Number k) (numbered k)
number_shrinks k = record { small = λ w n g. omega (arith, length_bytes k n, (num_size k w n g).0) }

pub nothing_shrinks : {R : Type 0} (r : R) → Shrinks (Empty r) (nothing r)
nothing_shrinks r = record { small = λ w x g. omega arith }

pub then_shrinks : {A B : Type 0} {G : Grammar A} {H : A → Grammar B} {F : Codec A} {K : A → Codec B} → Shrinks G F → ((a : A) → Shrinks (H a) (K a)) → Shrinks (G then H) (F and K)
then_shrinks {A} {B} {G} {H} {F} {K} f k = record { small = go }
  where
    go : (w : List ℕ) (x : A × B) → (G then H) loose w x → length ((F and K).write x) ≤ length w
    go w x (both {u} {v} {a} {b} g h) = omega (arith, length-append u v, length-append (F.write a) ((K a).write b), f.small u a g, (k a).small v b h)

pub as_shrinks : {A B : Type 0} {G : Grammar A} {F : Codec A} (f : A → B) (out : B → List ℕ) → Shrinks G F → ((a : A) → out (f a) ≡ F.write a) → Shrinks (As f G) (through f F out)
as_shrinks {A} {B} {G} {F} f out k e = record { small = go }
  where
    go : (w : List ℕ) (x : B) → As f G loose w x → length (out x) ≤ length w
    go w x (as' {a} g) = omega (arith, ap length (e a), k.small w a g)

repeat_shrinks : {R : Type 0} {G : Grammar R} {F : Codec R} (n : ℕ) → Shrinks G F → Shrinks (Repeat n G) (repeated n F)
repeat_shrinks zero k = nothing_shrinks []
repeat_shrinks (suc n) k = as_shrinks _ _ (then_shrinks k λ _. repeat_shrinks n k) λ a. refl

pub count_shrinks : {R : Type 0} {G : Grammar R} {F : Codec R} (k : ℕ) → Shrinks G F → Shrinks (Counted k G) (counted k λ n. repeated n F)
count_shrinks {R} {G} {F} k s = record { small = go }
  where
    go : (w : List ℕ) (xs : List R) → Counted k G loose w xs → length ((counted k λ n. repeated n F).write xs) ≤ length w
    go w xs (lead {u} {v} {a = n} g e h) =
        let l : length xs ≡ n = repeat_length G loose n v xs h in
        let r : length ((repeated (length xs) F).write xs) ≤ length v = rw l ((repeat_shrinks n s).small v xs h) in
        omega (arith, length-append u v, length-append (bytes k (length xs)) ((repeated (length xs) F).write xs), length_bytes k (length xs), (num_size k u n g).0)

pub shrunk : {R : Type 0} {G : Grammar R} {F : Codec R} → Format G F → Shrinks G F → (s : List ℕ) → Bytes s → (at t n : ℕ) → got t n ≡ means length (word_at F s at) → (at + t ≤ n) × (n ≤ at + (length s - at))
unfolding means
shrunk {R} {G} {F} f small s h at t n e = go (F.read s at) (f.sound s h at) e
  where
    go : (x : Answer R) → Sound G s at x → got t n ≡ means length (means F.write x) → (at + t ≤ n) × (n ≤ at + (length s - at))
    go (got r m) (word {w} st g) e =
        let a : t ≡ length (F.write r) = cc in
        let b : n ≡ m = cc in
        (omega (arith, small.small w r g, st.till), omega (arith, fits st, st.till))
    go (refused f) none e = zero_one (cc)

-- a reader never goes back
pub ahead : {R : Type 0} {G : Grammar R} {F : Codec R} → Format G F → (s : List ℕ) → Bytes s → (at : ℕ) (r : R) (n : ℕ) → got r n ≡ F.read s at → at ≤ n
ahead {R} {G} {F} f s h at r n e = go (F.read s at) (f.sound s h at) e
  where
    go : (x : Answer R) → Sound G s at x → got r n ≡ x → at ≤ n
    go (got q m) (word st g) e = let f : n ≡ m = cc in omega (arith, st.till)
    go (refused t) none e = zero_one (cc)
