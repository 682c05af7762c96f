-- A reader that begins one place further on, where the bytes are the same, answers the same with each place one more.
-- Assumes nothing.
use mathlib.Core.Path.{◌≡◌, refl, ap, sym, ◌∙◌}
use mathlib.Core.Bool.{Bool, true, false}
use mathlib.Core.List.{List, []}
use Prim.Native.Nat.{ℕ, zero, suc, ◌+◌, ◌-◌, ◌*◌}
use native.Mathlib.Nat.{suc-add}
use native.Mathlib.Omega.{arith}
use lib.ListN.{length, take, drop, length-drop}
use lib.Seq.{drop-drop}
use Rattle.layout.specs.Answer.{Told, Answer, got, refused, pick, after, means, located, of_field, end_at, bad_text, span_at, field_at}
use Rattle.layout.specs.Bytes.{bytes, number, cells}
use Rattle.layout.specs.Codec.{Codec, nothing, numbered, ◌and◌, leading, only, through, field, repeated, celled}
use Rattle.layout.proofs.laws.Make.{Spanned, there, short, spanned, span_there, span_short}
use Rattle.wire.specs.Layout.{width, paired, text_count, Shape, one, many, string, undef, shape}
use Rattle.wire.specs.Codecs.{units, shaped, value}
use Rattle.wire.specs.OneByte.{told_on}

-- from a place on, the bytes of the second stand one place further on
abbrev pub Same : List ℕ → List ℕ → ℕ → Type 0
Same s s' at = drop (suc at) s' ≡ drop at s

same_on : (s s' : List ℕ) (at n : ℕ) → Same s s' at → Same s s' (at + n)
same_on s s' at n e = ap (λ k. drop k s') (sym (suc-add at n)) ∙ sym (drop-drop n (suc at) s') ∙ ap (drop n) e ∙ drop-drop n at s

same_left : (s s' : List ℕ) (at : ℕ) → Same s s' at → length s' - suc at ≡ length s - at
same_left s s' at e = sym (length-drop (suc at) s') ∙ ap length e ∙ length-drop at s

-- the second answer is the first with each place one more, its reading put through f
pub data On {A B : Type 0} (f : A → B) (s s' : List ℕ) : Answer A → Answer B → Type 0 where
  on : (a : A) (n : ℕ) → Same s s' n → On f s s' (got a n) (got (f a) (suc n))
  stopped : (t : Told) → On f s s' (refused t) (refused (told_on t))

module _ {A A' B B' : Type 0} {f : A → A'} {g : B → B'} {s s' : List ℕ} where
  pub on_after : {x : Answer A} {x' : Answer A'} (k : A → ℕ → Answer B) (k' : A' → ℕ → Answer B') → On f s s' x x' → ((a : A) (n : ℕ) → Same s s' n → On g s s' (k a n) (k' (f a) (suc n))) → On g s s' (after x k) (after x' k')
  unfolding after
  on_after k k' (on a n e) h = h a n e
  on_after k k' (stopped t) h = stopped t

on_means : {A B : Type 0} {s s' : List ℕ} {x x' : Answer A} (m : A → B) → On (λ a. a) s s' x x' → On (λ b. b) s s' (means m x) (means m x')
unfolding means
on_means m (on a n e) = on (m a) n e
on_means m (stopped t) = stopped t

on_located : {A : Type 0} {s s' : List ℕ} {x x' : Answer A} (at : ℕ) → On (λ a. a) s s' x x' → On (λ a. a) s s' (located at x) (located (suc at) x')
unfolding located of_field
on_located at (on a n e) = on a n e
on_located {s} {s'} at (stopped t) = rw (same t t.placed refl) (stopped (of_field at t))
  where
    same : (t : Told) (b : Bool) → t.placed ≡ b → of_field (suc at) (told_on t) ≡ told_on (of_field at t)
    same t true e = rw e
    same t false e = rw e

-- ── each way to make a codec keeps it ──

pub record Onward {R : Type 0} (F : Codec R) : Type 0 where
  pub goes : (s s' : List ℕ) (at : ℕ) → Same s s' at → On (λ a. a) s s' (F.read s at) (F.read s' (suc at))

nothing_on : {R : Type 0} (r : R) → Onward (nothing r)
nothing_on r = record { goes = λ s s' at e. on r at e }

field_on : {R : Type 0} (k : ℕ) (mean : List ℕ → R) (out : R → List ℕ) → Onward (record { read = field_at k mean; write = out })
unfolding field_at after end_at
field_on {R} k mean out = record { goes = λ s s' at e. go s s' at e (span_at at k s at) (spanned at k s at) }
  where
    go : (s s' : List ℕ) (at : ℕ) → Same s s' at → (x : Answer (Unit {0})) → Spanned at k s at x
        → On (λ a. a) s s' (after x λ _ next. got (mean (take k (drop at s))) next) (after (span_at (suc at) k s' (suc at)) λ _ next. got (mean (take k (drop (suc at) s'))) next)
    go s s' at e (got t n) (there h) = rw (span_there (suc at) k s' (suc at) (omega (arith, same_left s s' at e)), e, suc-add at k) (on (mean (take k (drop at s))) (at + k) (same_on s s' at k e))
    go s s' at e (refused t) (short h) = rw (span_short (suc at) k s' (suc at) (omega (arith, same_left s s' at e))) (stopped (end_at at))

pub numbered_on : (k : ℕ) → Onward (numbered k)
numbered_on k = field_on k number (bytes k)

and_on : {A B : Type 0} {F : Codec A} {K : A → Codec B} → Onward F → ((a : A) → Onward (K a)) → Onward (F and K)
and_on f k = record { goes = λ s s' at e. on_after _ _ (f.goes s s' at e) λ a n e. on_means _ ((k a).goes s s' n e) }

leading_on : {A R : Type 0} {F : Codec A} {K : A → Codec R} → Onward F → (c : R → A) → ((a : A) → Onward (K a)) → Onward (leading F c K)
leading_on f c k = record { goes = λ s s' at e. on_after _ _ (f.goes s s' at e) λ a n e. (k a).goes s s' n e }

through_on : {A B : Type 0} {F : Codec A} (m : A → B) (out : B → List ℕ) → Onward F → Onward (through m F out)
through_on m out f = record { goes = λ s s' at e. on_means m (f.goes s s' at e) }

paired_on : {F : Codec (List ℕ)} → Onward F → Onward (only bad_text paired F)
unfolding bad_text
paired_on f = record { goes = λ s s' at e. on_after _ _ (f.goes s s' at e) λ r n e. go s s' at r n e (paired r) }
  where
    go : (s s' : List ℕ) (at : ℕ) (r : List ℕ) (n : ℕ) → Same s s' n → (b : Bool) → On (λ a. a) s s' (pick b (got r n) (refused (bad_text at))) (pick b (got r (suc n)) (refused (bad_text (suc at))))
    go s s' at r n e true = on r n e
    go s s' at r n e false = stopped (bad_text at)

as_field_on : {R : Type 0} {F : Codec R} → Onward F → Onward (field F)
as_field_on f = record { goes = λ s s' at e. on_located at (f.goes s s' at e) }

repeated_on : {R : Type 0} {F : Codec R} (n : ℕ) → Onward F → Onward (repeated n F)
repeated_on zero f = nothing_on []
repeated_on (suc n) f = through_on _ _ (and_on f (λ _. repeated_on n f))

-- ── values ──

celled_on : (k n : ℕ) → Onward (celled k n)
celled_on k n = field_on (n * k) (cells k n) _

units_on : (n : ℕ) → Onward (units n)
units_on zero = nothing_on []
units_on (suc n) = paired_on (through_on _ _ (and_on (celled_on 2 n) λ _. leading_on (numbered_on 2) (λ _. 0) λ _. nothing_on tt))

shaped_on : (x : Shape) → Onward (shaped x)
shaped_on (one k) = through_on _ _ (numbered_on (width k))
shaped_on (many k) = through_on _ _ (as_field_on (leading_on (numbered_on 4) length λ n. celled_on (width k) n))
shaped_on string = through_on _ _ (as_field_on (leading_on (numbered_on 1) text_count units_on))
shaped_on undef = nothing_on _

pub values_on : (t n : ℕ) → Onward (repeated n (value t))
values_on t n = repeated_on n (shaped_on (shape t))
