-- Laws of answers, of spans and fields, and of numbers over the width.
-- Assumes nothing.
use mathlib.Core.Path.{◌≡◌, refl, sym, ◌∙◌, ap}
use mathlib.Core.Bool.{Bool, true, false}
use mathlib.Core.List.{List, [], ◌∷◌}
use Prim.Native.Nat.{ℕ, zero, suc, ◌+◌, ◌-◌, ◌*◌, ◌/◌, ◌^◌, ◌≤◌, ◌<◌}
use native.Mathlib.Nat.{pow-succ', pow-le-pow_right, zero-add, suc-add, zero-mul, suc-mul, add-div_right, div-eq_of_lt}
use native.Mathlib.Numerals.{add-one}
use native.Mathlib.Omega.{arith}
use lib.Dec.{lit≤}
use lib.ListN.{length, take, drop, get_or}
use lib.Seq.{drop-cons, take-take}
use Rattle.layout.specs.Answer.{Answer, Told, got, refused, pick, after, means, span_at, field_at}
use Rattle.layout.specs.Bytes.{number, cells}
use Rattle.layout.proofs.laws.Make.{Spanned, short, spanned, there, span_short, span_there}
use Rattle.layout.proofs.laws.Numbers.{zero_one}

-- what an answer says, of the case that it is
pub heard : {R A : Type 0} (says : R → A) {r k : R} {a : A} → r ≡ k → says r ≡ a → says k ≡ a
heard says e h = ap says (sym e) ∙ h

-- a test whose answers are the same
pub pick_alike : {A : Type 0} (b : Bool) (x : A) → pick b x x ≡ x
pick_alike true x = refl
pick_alike false x = refl

-- a row of fields: past one that is there, and stopped at one that is not
pub follow : {A B : Type 0} {x : Answer A} (k : A → ℕ → Answer B) {z : Answer B} {a : A} {p : ℕ} → got a p ≡ x → z ≡ k a p → z ≡ after x k
unfolding after
follow k e h = rw (← e) h

pub stop : {A B : Type 0} {x : Answer A} (k : A → ℕ → Answer B) {t : Told} → refused t ≡ x → refused t ≡ after x k
unfolding after
stop k e = rw (← e)

pub after_after : {A B C : Type 0} (x : Answer A) (f : A → ℕ → Answer B) (k : B → ℕ → Answer C) → after (after x f) k ≡ after x (λ a p. after (f a p) k)
unfolding after
after_after (got a p) f k = refl
after_after (refused t) f k = refl

-- the same answer by its meaning
pub meant : {A B : Type 0} (f : A → B) {x : Answer A} {a : A} {p : ℕ} → got a p ≡ x → got (f a) p ≡ means f x
unfolding means
meant f e = rw (← e)

pub not_meant : {A B : Type 0} (f : A → B) {x : Answer A} {t : Told} → refused t ≡ x → refused t ≡ means f x
unfolding means
not_meant f e = rw (← e)

pub means_means : {A B C : Type 0} (f : B → C) (g : A → B) (x : Answer A) → means f (means g x) ≡ means (λ a. f (g a)) x
unfolding means
means_means f g (got a p) = refl
means_means f g (refused t) = refl

pub means_same : {A : Type 0} (x : Answer A) → means (λ a. a) x ≡ x
unfolding means
means_same (got a p) = refl
means_same (refused t) = refl

-- ── an answer that was got, taken apart ──

pub one_got : {A : Type 0} {a b : A} {n m : ℕ} → got a n ≡ got b m → (a ≡ b) × (n ≡ m)
one_got e = (cc, cc)

-- of two, one after the other, both were
pub parted : {A B : Type 0} (x : Answer A) (k : A → ℕ → Answer B) {b : B} {n : ℕ} → after x k ≡ got b n → (a : A) × (p : ℕ) × (x ≡ got a p) × (k a p ≡ got b n)
unfolding after
parted (got a p) k e = (a, p, refl, e)
parted (refused t) k e = zero_one (cc)

-- past a test that else refuses, it held
pub picked : {A : Type 0} (b : Bool) (x : Answer A) (t : Told) {a : A} {n : ℕ} → pick b x (refused t) ≡ got a n → (b ≡ true) × (x ≡ got a n)
picked true x t e = (refl, e)
picked false x t e = zero_one (cc)

-- by its meaning
pub unmeant : {A B : Type 0} (f : A → B) (x : Answer A) {b : B} {n : ℕ} → means f x ≡ got b n → (a : A) × (x ≡ got a n) × (f a ≡ b)
unfolding means
unmeant f (got a p) e = (a, cc, cc)
unmeant f (refused t) e = zero_one (cc)

-- and one that was refused
pub refused_meant : {A B : Type 0} (f : A → B) (x : Answer A) {t : Told} → means f x ≡ refused t → x ≡ refused t
unfolding means
refused_meant f (got a n) e = zero_one (cc)
refused_meant f (refused t) e = cc

-- ── spans and fields ──

-- a span that is there: it lies within, and ends where it should
pub span_within : (field n : ℕ) (s : List ℕ) (at p : ℕ) → got tt p ≡ span_at field n s at → (n ≤ length s - at) × (p ≡ at + n)
span_within field n s at p e = go (span_at field n s at) (spanned field n s at) e
  where
    go : (x : Answer (Unit {0})) → Spanned field n s at x → got tt p ≡ x → (n ≤ length s - at) × (p ≡ at + n)
    go (got t q) (there h) e = (h, cc)
    go (refused t) (short h) e = zero_one (cc)

-- one that is not there: too few bytes are left
pub span_over : (field n : ℕ) (s : List ℕ) (at : ℕ) (t : Told) → refused t ≡ span_at field n s at → length s - at < n
span_over field n s at t e = go (span_at field n s at) (spanned field n s at) e
  where
    go : (x : Answer (Unit {0})) → Spanned field n s at x → refused t ≡ x → length s - at < n
    go (got u q) (there h) e = zero_one (cc)
    go (refused u) (short h) e = h

module _ {A : Type 0} (w : ℕ) (mean : List ℕ → A) (s : List ℕ) (at : ℕ) where
  pub field_there : w ≤ length s - at → field_at w mean s at ≡ got (mean (take w (drop at s))) (at + w)
  unfolding field_at after
  field_there h = rw (span_there at w s at h)

  pub field_got : (p : ℕ) (a : A) → a ≡ mean (take w (drop at s)) → got tt p ≡ span_at at w s at → got a p ≡ field_at w mean s at
  unfolding field_at
  field_got p a h e = follow _ e (ap (λ x. got x p) h)

  pub field_refused : (t : Told) → refused t ≡ span_at at w s at → refused t ≡ field_at w mean s at
  unfolding field_at
  field_refused t e = stop _ e

-- two fields that were tested as one: both are there, or the refusal is that of the one that is cut
module _ (a b : ℕ) (s : List ℕ) (at : ℕ) where
  pub two_there : (p : ℕ) → got tt p ≡ after (span_at at a s at) (λ _ q. span_at q b s q) → (got tt (at + a) ≡ span_at at a s at) × (got tt p ≡ span_at (at + a) b s (at + a))
  unfolding after
  two_there p e = go (span_at at a s at) (spanned at a s at) e
    where
      go : (x : Answer (Unit {0})) → Spanned at a s at x → got tt p ≡ after x (λ _ q. span_at q b s q) → (got tt (at + a) ≡ x) × (got tt p ≡ span_at (at + a) b s (at + a))
      go (got t q) (there h) e = (refl, e)
      go (refused t) (short h) e = zero_one (cc)

  pub two_cut : {A B C : Type 0} (f : List ℕ → A) (g : List ℕ → B) (k : A → B → ℕ → Answer C) (t : Told)
      → refused t ≡ after (span_at at a s at) (λ _ q. span_at q b s q) → refused t ≡ after (field_at a f s at) (λ x q. after (field_at b g s q) (k x))
  unfolding field_at after
  two_cut f g k t e = go (span_at at a s at) e
    where
      go : (x : Answer (Unit {0})) → refused t ≡ after x (λ _ q. span_at q b s q)
          → refused t ≡ after (after x (λ _ next. got (f (take a (drop at s))) next)) (λ x q. after (after (span_at q b s q) (λ _ next. got (g (take b (drop q s))) next)) (k x))
      go (got u q) e = stop _ (stop _ e)
      go (refused u) e = ap refused (cc)

-- ── numbers, a byte at a time ──

pub number_front : (s : List ℕ) (at w : ℕ) → at < length s → number (take (suc w) (drop at s)) ≡ get_or s at 0 + 256 * number (take w (drop (suc at) s))
unfolding number
number_front s at w h = rw (drop-cons s at 0)

-- a turn of the loop that takes the bytes from the last to the first
pub number_turn :
    (s : List ℕ) (at w k v b : ℕ) → 0 < k → k ≤ w → w ≤ length s - at → v ≡ number (take (w - k) (drop (at + k) s)) → b ≡ get_or s (at + (k - 1)) 0 →
    v * 256 + b ≡ number (take (w - (k - 1)) (drop (at + (k - 1)) s))
number_turn s at w k v b hk hw hs hv hb =
    let more : w - (k - 1) ≡ suc (w - k) = omega arith in
    let next : suc (at + (k - 1)) ≡ at + k = omega arith in
    let within : at + (k - 1) < length s = omega arith in
    rw (more, number_front s (at + (k - 1)) (w - k) within, next) (omega arith)

-- and the number stays below its power
pub below_next : (w k v b : ℕ) → 0 < k → k ≤ w → v < 256 ^ (w - k) → b < 256 → v * 256 + b < 256 ^ (w - (k - 1))
below_next w k v b hk hw hv hb =
    let more : w - (k - 1) ≡ suc (w - k) = omega arith in
    rw (more, pow-succ') (omega arith)

pub at_most : {w : ℕ} (n : ℕ) → w ≤ n → 256 ^ w ≤ 256 ^ n
at_most n h = pow-le-pow_right (lit≤ tt) h

pub drop_take : (k m : ℕ) (s : List ℕ) → drop k (take (k + m) s) ≡ take m (drop k s)
drop_take zero m s = rw zero-add
drop_take (suc k) zero [] = rw suc-add
drop_take (suc k) (suc m) [] = rw suc-add
drop_take (suc k) m (x ∷ s) = rw suc-add (drop_take k m s)

-- cells look at their own bytes only
pub cells_take : (k n : ℕ) (s : List ℕ) → cells k n (take (n * k) s) ≡ cells k n s
unfolding cells
cells_take k zero s = refl
cells_take k (suc n) s =
    let e : suc n * k ≡ k + n * k = omega (arith, suc-mul n k) in
    let t : take k (take (suc n * k) s) ≡ take k s = take-take k (suc n * k) s (omega arith) in
    let d : drop k (take (suc n * k) s) ≡ take (n * k) (drop k s) = rw e (drop_take k (n * k) s) in
    rw (t, d, cells_take k n (drop k s))

-- ── fields of one width, end to end ──

-- where the first of them stands that is not whole
abbrev pub cut_at : ℕ → List ℕ → ℕ → ℕ
cut_at w s at = at + (length s - at) / w * w

module _ (w : ℕ) (some : 0 < w) (n : ℕ) (s : List ℕ) (at : ℕ) where
  -- a field, then n of them as one span, is n + 1 of them as one span
  pub span_more : after (span_at at w s at) (λ _ p. span_at (cut_at w s p) (n * w) s p) ≡ span_at (cut_at w s at) (suc n * w) s at
  unfolding after
  span_more = go (span_at at w s at) (spanned at w s at)
    where
      all : suc n * w ≡ w + n * w
      all = omega (arith, suc-mul n w)

      next : (q : ℕ) → at + w + q * w ≡ at + (q + 1) * w
      next q = omega (arith, suc-mul q w, ap (λ m. m * w) (add-one q))

      rest : w ≤ length s - at → (x : Answer (Unit {0})) → Spanned (cut_at w s (at + w)) (n * w) s (at + w) x → x ≡ span_at (cut_at w s at) (suc n * w) s at
      rest h (got t p) (there k) = ap (got tt) (omega arith) ∙ sym (span_there (cut_at w s at) (suc n * w) s at (omega arith))
      rest h (refused t) (short k) =
          let left : length s - at ≡ length s - (at + w) + w = omega arith in
          let same : cut_at w s (at + w) ≡ cut_at w s at = rw (left, add-div_right (length s - (at + w)) some) (next ((length s - (at + w)) / w)) in
          rw same (sym (span_short (cut_at w s at) (suc n * w) s at (omega arith)))

      go : (x : Answer (Unit {0})) → Spanned at w s at x → after x (λ _ p. span_at (cut_at w s p) (n * w) s p) ≡ span_at (cut_at w s at) (suc n * w) s at
      go (got t p) (there h) = rest h (span_at (cut_at w s (at + w)) (n * w) s (at + w)) (spanned (cut_at w s (at + w)) (n * w) s (at + w))
      go (refused t) (short h) =
          let first : cut_at w s at ≡ at = rw (div-eq_of_lt h) (omega (arith, zero-mul w)) in
          rw first (sym (span_short at (suc n * w) s at (omega arith)))
