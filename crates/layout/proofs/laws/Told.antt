-- Which refusals have a place, and where it may be: carried from field to field, once for both questions.
-- `Telling P` says of an answer that every place in it, of a refusal and after a reading, is in P. With P everywhere it says that 1 and 2
-- have a place and no other refusal has; with P the places up to the end, that they lie in the bytes.
-- Assumes nothing.
use mathlib.Core.Path.{◌≡◌, refl, sym, ◌∙◌, subst}
use mathlib.Core.Bool.{Bool, true, false}
use mathlib.Core.Logic.{◌↔◌, ◌⊎◌, inl, inr}
use mathlib.Core.List.{List}
use Prim.Native.Nat.{ℕ, zero, suc, ◌+◌, ◌-◌, ◌≤◌, ◌<◌}
use native.Mathlib.Nat.{le_refl}
use native.Mathlib.Omega.{arith}
use borrow.Author.Tests.{leb-true}
use lib.Dec.{leb}
use lib.ListN.{length, take, length-take}
use Rattle.layout.specs.Answer.{Told, Answer, got, refused, pick, after, means, end_at, bad_text, bare, span_at, field_at}
use Rattle.layout.specs.Codec.{Codec, repeated}
use Rattle.layout.specs.Refusals.{END, TEXT}
use Rattle.layout.specs.Told.{PlacedExactly, Inside}
use Rattle.layout.proofs.laws.Numbers.{zero_one}

-- every place of an answer is in P
pub data Telling {A : Type 0} (P : ℕ → Type 0) : Answer A → Type 0 where
  read : {a : A} {n : ℕ} → P n → Telling P (got a n)
  ended : (p : ℕ) → P p → Telling P (refused (end_at p))
  spoilt : (p : ℕ) → P p → Telling P (refused (bad_text p))
  other : (n : ℕ) → (n ≡ END → ⊥) → (n ≡ TEXT → ⊥) → Telling P (refused (bare n))

-- from a place in P, bytes that are there lead to one in P
abbrev pub Closed : (ℕ → Type 0) → List ℕ → Type 0
Closed P s = (at n : ℕ) → P at → n ≤ length s - at → P (at + n)

abbrev pub Everywhere : ℕ → Type 0
Everywhere at = Unit {0}

pub everywhere : (s : List ℕ) → Closed Everywhere s
everywhere s at n p h = tt

-- up to the end of bytes that are no fewer
abbrev pub UpTo : ℕ → ℕ → Type 0
UpTo size at = at ≤ size

pub up_to : {size : ℕ} (s : List ℕ) → length s ≤ size → Closed (UpTo size) s
up_to s all at n p h = omega arith

-- and so do the bytes in front of a place
pub front_closed : {P : ℕ → Type 0} (s : List ℕ) → Closed P s → (n : ℕ) → Closed P (take n s)
front_closed s closed n at m i j = closed at m i (omega (arith, j, length-take n s))

-- a refusal that is neither 1 nor 2
pub plainly : {A : Type 0} {P : ℕ → Type 0} (n : ℕ) → TEXT < n → Telling {A = A} P (refused (bare n))
plainly n h = other n (λ e. omega arith) λ e. omega arith

-- an answer that a promise allows is the definition's
pub telling_same : {A : Type 0} {P : ℕ → Type 0} {x y : Answer A} → x ≡ y → Telling P y → Telling P x
telling_same {P} e h = subst (λ z. Telling P z) (sym e) h

-- ── from one to the next ──

module _ {P : ℕ → Type 0} {A : Type 0} where
  pub telling_pick : {x y : Answer A} (b : Bool) → (b ≡ true → Telling P x) → (b ≡ false → Telling P y) → Telling P (pick b x y)
  telling_pick true f g = f refl
  telling_pick false f g = g refl

  pub telling_after : {B : Type 0} {x : Answer A} {k : A → ℕ → Answer B} → Telling P x → ((a : A) (n : ℕ) → P n → Telling P (k a n)) → Telling P (after x k)
  unfolding after
  telling_after (read {a} {n} h) f = f a n h
  telling_after (ended p h) f = ended p h
  telling_after (spoilt p h) f = spoilt p h
  telling_after (other n i j) f = other n i j

  pub telling_means : {B : Type 0} {x : Answer A} (f : A → B) → Telling P x → Telling P (means f x)
  unfolding means
  telling_means f (read h) = read h
  telling_means f (ended p h) = ended p h
  telling_means f (spoilt p h) = spoilt p h
  telling_means f (other n i j) = other n i j

-- ── fields ──

module _ {P : ℕ → Type 0} (s : List ℕ) (closed : Closed P s) where
  pub telling_span : (field n at : ℕ) → P field → P at → Telling P (span_at field n s at)
  unfolding span_at
  telling_span field n at f h = telling_pick (leb n (length s - at)) (λ e. read (closed at n h (leb-true n (length s - at) e))) λ e. ended field f

  pub telling_field : {A : Type 0} (n : ℕ) (mean : List ℕ → A) (at : ℕ) → P at → Telling P (field_at n mean s at)
  unfolding field_at
  telling_field n mean at h = telling_after (telling_span at n at h h) λ _ next i. read i

  -- as many of a codec as there are
  pub telling_repeated : {R : Type 0} (F : Codec R) → ((at : ℕ) → P at → Telling P (F.read s at)) → (n at : ℕ) → P at → Telling P ((repeated n F).read s at)
  telling_repeated F f zero at h = read h
  telling_repeated F f (suc n) at h = telling_means _ (telling_after (f at h) λ a m i. telling_means _ (telling_repeated F f n m i))

-- ── what each refusal tells ──

pub end_no : (p : ℕ) → (end_at p).no ≡ END
unfolding end_at
end_no p = refl

pub end_place : (p : ℕ) → (end_at p).at ≡ p
unfolding end_at
end_place p = refl

end_placed : (p : ℕ) → (end_at p).placed ≡ true
unfolding end_at
end_placed p = refl

text_no : (p : ℕ) → (bad_text p).no ≡ TEXT
unfolding bad_text
text_no p = refl

text_place : (p : ℕ) → (bad_text p).at ≡ p
unfolding bad_text
text_place p = refl

text_placed : (p : ℕ) → (bad_text p).placed ≡ true
unfolding bad_text
text_placed p = refl

pub bare_no : (n : ℕ) → (bare n).no ≡ n
unfolding bare
bare_no n = refl

bare_place : (n : ℕ) → (bare n).at ≡ 0
unfolding bare
bare_place n = refl

bare_unplaced : (n : ℕ) → (bare n).placed ≡ false
unfolding bare
bare_unplaced n = refl

-- ── what is said of an answer ──

module _ {P : ℕ → Type 0} {A : Type 0} (Q : Told → Type 0)
    (end : (p : ℕ) → P p → Q (end_at p)) (text : (p : ℕ) → P p → Q (bad_text p)) (none : (n : ℕ) → (n ≡ END → ⊥) → (n ≡ TEXT → ⊥) → Q (bare n)) where
  told_so : {x : Answer A} → Telling P x → (t : Told) → x ≡ refused t → Q t
  told_so (read h) t e = zero_one (cc)
  told_so (ended p h) t e = let same : end_at p ≡ t = cc in subst Q same (end p h)
  told_so (spoilt p h) t e = let same : bad_text p ≡ t = cc in subst Q same (text p h)
  told_so (other n i j) t e = let same : bare n ≡ t = cc in subst Q same (none n i j)

pub telling_exactly : {A : Type 0} {x : Answer A} → Telling Everywhere x → PlacedExactly x
telling_exactly h = record {
  exactly = told_so (λ t. (t.placed ≡ true) ↔ ((t.no ≡ END) ⊎ (t.no ≡ TEXT)))
      (λ p _. ((λ _. inl (end_no p)), λ _. end_placed p))
      (λ p _. ((λ _. inr (text_no p)), λ _. text_placed p))
      (λ n i j. (
        (λ e. zero_one (cc (e, bare_unplaced n))),
        λ e. elim e [ inl f ↦ absurd (i (sym (bare_no n) ∙ f)) | inr f ↦ absurd (j (sym (bare_no n) ∙ f)) ],
      ))
      h;
  else_none = told_so (λ t. t.placed ≡ false → t.at ≡ 0)
      (λ p _ e. zero_one (cc (e, end_placed p)))
      (λ p _ e. zero_one (cc (e, text_placed p)))
      (λ n _ _ _. bare_place n)
      h;
}

pub telling_inside : {A : Type 0} {size : ℕ} {x : Answer A} → Telling (UpTo size) x → Inside size x
telling_inside {size} h = told_so (λ t. t.at ≤ size) (λ p i. rw (end_place p) i) (λ p i. rw (text_place p) i) (λ n _ _. rw (bare_place n) (omega arith)) h

-- both, of an answer about the bytes from their first on
pub told_from_0 : {A : Type 0} {x y : Answer A} (s : List ℕ) → x ≡ y → ((P : ℕ → Type 0) → Closed P s → P 0 → Telling P y) → PlacedExactly x × Inside (length s) x
told_from_0 s promised telling = (
  telling_exactly (telling_same promised (telling Everywhere (everywhere s) tt)),
  telling_inside (telling_same promised (telling (UpTo (length s)) (up_to s (le_refl (length s))) (omega arith))),
)
