-- Every format meets the demand; what is read of a place is a word there; and what a promise comes to, of a reader of places.
-- Assumes nothing.
use mathlib.Core.Path.{◌≡◌, ap, sym, ◌∙◌, subst}
use mathlib.Core.List.{List}
use Prim.Native.Nat.{ℕ, ◌≤◌}
use native.Mathlib.Omega.{arith}
use lib.ListN.{length, take}
use lib.Seq.{take_all}
use Rattle.layout.specs.Answer.{Answer, got, Reader, after, means}
use Rattle.layout.specs.Bytes.{Bytes}
use Rattle.layout.specs.Codec.{Codec}
use Rattle.layout.specs.Grammar.{loose, tidy, Grammar}
use Rattle.layout.specs.Written.{said_of, tidied}
use Rattle.layout.specs.Format.{Stands, Sound, word, Format}
use Rattle.layout.specs.Faithful.{Prefix, Faithful, Exact, Tidies, Kept}
use Rattle.layout.specs.Placed.{Inside, Lies, lies, nowhere, Placed}
use Rattle.layout.proofs.laws.Reading.{unmeant}
use Rattle.layout.proofs.laws.Words.{fits, part_there}
use Rattle.layout.proofs.laws.Writing.{wrote_so}

-- ── every format is faithful ──

module _ {R : Type 0} {G : Grammar R} {F : Codec R} (f : Format G F) where
  -- what is read at a place is a word that stands there
  pub read_word : {s : List ℕ} → Bytes s → {at n : ℕ} {r : R} → F.read s at ≡ got r n → (w : List ℕ) × Stands s at n w × G loose w r
  read_word {s} h {at} {n} {r} e = of (subst (Sound G s at) e (f.sound s h at))
    where
      of : Sound G s at (got r n) → (w : List ℕ) × Stands s at n w × G loose w r
      of (word {w} st g) = (w, st, g)

  pub answered : (s : List ℕ) (r : R) (n : ℕ) → Prefix G s r n → F.read s 0 ≡ got r n
  answered s r n p = f.complete (part_there s 0 n (omega (arith, p.within))) p.reads ∙ ap (got r) (omega arith)

  pub accepted : (s : List ℕ) → Bytes s → (r : R) (n : ℕ) → F.read s 0 ≡ got r n → Prefix G s r n
  accepted s h r n e =
      let (w, st, g) = read_word h e in
      let l : n ≡ length w = st.till ∙ omega arith in
      record { within = omega (arith, fits st); reads = rw (l, st.is) g }

  unique_prefix : (s : List ℕ) (r r' : R) (n n' : ℕ) → Prefix G s r n → Prefix G s r' n' → (n ≡ n') × (r ≡ r')
  unique_prefix s r r' n n' p p' =
      let a : F.read s 0 ≡ got r n = answered s r n p in
      let b : F.read s 0 ≡ got r' n' = answered s r' n' p' in
      (cc, cc)

  pub faithful : Faithful G F
  faithful = record {
    exact = λ s h r n. (accepted s h r n, answered s r n);
    unique = unique_prefix;
    writes = λ w r g. f.has g;
    a_word = λ w r t. f.inside t;
    one_only = λ v w r a b. f.one a ∙ sym (f.one b);
    gives_back = λ w r g. (λ e. subst (λ v. G tidy v r) e (f.has g), λ t. sym (f.one t));
  }

  module _ {L : Type 0} (mean : L → R) (s : List ℕ) (h : Bytes s) (x : Answer L) (agrees : means mean x ≡ F.read s 0) where
    read_of : (l : L) (n : ℕ) → x ≡ got l n → F.read s 0 ≡ got (mean l) n
    unfolding means
    read_of l n e = sym agrees ∙ rw e

    pub exact : Exact G mean s x
    exact = record { accepts = λ l n e. accepted s h (mean l) n (read_of l n e); reaches = λ r n p. unmeant mean x (agrees ∙ answered s r n p) }

    pub tidies : Tidies G mean F.write s x (tidied F s)
    unfolding means said_of
    tidies = record {
      owes = λ l n e. rw (read_of l n e);
      declines = λ t e. rw (← agrees, e);
      tidy-word = λ l n e. f.has (accepted s h (mean l) n (read_of l n e)).reads;
      gives_back = λ l n e. faithful.gives_back (take n s) (mean l) (accepted s h (mean l) n (read_of l n e)).reads;
    }

-- bytes that one reading fills are a word of it
pub filled : {R : Type 0} {G : Grammar R} {s : List ℕ} {r : R} {n : ℕ} → Prefix G s r n → length s ≤ n → G loose s r
filled {G} {s} {r} {n} p h = rw (take_all n s h) at p.reads

-- a reader of places, at any of them: what it read is a word there, and a word that stands there is read
module _ {R L : Type 0} {G : Grammar R} {F : Codec R} (f : Format G F) (mean : L → R) {s : List ℕ} {at : ℕ} {x : Answer L} (agrees : means mean x ≡ F.read s at) where
  pub sound_at : Bytes s → {l : L} {n : ℕ} → x ≡ got l n → (w : List ℕ) × Stands s at n w × G loose w (mean l)
  unfolding means
  sound_at h e = read_word f h (sym agrees ∙ rw e)

  pub complete_at : {w : List ℕ} {n : ℕ} {r : R} → Stands s at n w → G loose w r → (l : L) × (x ≡ got l n) × (mean l ≡ r)
  complete_at st g = unmeant mean x (agrees ∙ f.complete st g)

-- what was got lies where its parts do
pub lies_got : {L : Type 0} {parts : L → List (ℕ × ℕ)} {at n : ℕ} {x : Answer L} {l : L} → Lies parts at x → x ≡ got l n → (at ≤ n) × Inside at n (parts l)
lies_got {parts} {at} {n} {l} i e = of (subst (Lies parts at) e i)
  where
    of : Lies parts at (got l n) → (at ≤ n) × Inside at n (parts l)
    of (lies l n h i) = (h, i)

-- one field after another
pub lies_after : {A B : Type 0} {pA : A → List (ℕ × ℕ)} {pB : B → List (ℕ × ℕ)} {at from : ℕ} {x : Answer A} (k : A → ℕ → Answer B) → Lies pA at x
    → ((a : A) (n : ℕ) → at ≤ n → Inside at n (pA a) → Lies pB from (k a n)) → Lies pB from (after x k)
unfolding after
lies_after k (lies l n h i) f = f l n h i
lies_after k nowhere f = nowhere

-- ── what promises come to ──

-- of a reader of places, and of the tidy writer beside it: any answer x that the one promise allows of the first place, and any answer and output that the other does
module _ {R L : Type 0} {G : Grammar R} {F : Codec R} (f : Format G F) {mean : List ℕ → L → R} {parts : L → List (ℕ × ℕ)} {place : Reader L} (P : Placed mean parts place F.read)
    (s : List ℕ) (h : Bytes s) (x : Answer L) (promised : x ≡ place s 0) where
  pub reads_exactly : Exact G (mean s) s x
  reads_exactly = exact f (mean s) s h x (ap (means (mean s)) promised ∙ P.agrees s 0)

  pub kept : Kept G F (mean s) parts s x
  kept =
      let tidy-writer = tidies f (mean s) s h x (ap (means (mean s)) promised ∙ P.agrees s 0) in
      record {
        exact = reads_exactly;
        inside = subst (Lies parts 0) (sym promised) (P.inside s 0);
        tidies = tidy-writer;
        writes = λ old new answer wrote l n read room. wrote_so (tidy-writer.owes l n read) room wrote;
      }
