-- Each way to make a codec keeps which place a refusal is told of; words, faults and spots determine the whole answer.
-- Assumes nothing.
use mathlib.Core.Path.{◌≡◌, refl, ap, sym, ◌∙◌, subst}
use mathlib.Core.Logic.{◌⊎◌, inl, inr}
use mathlib.Core.List.{List, [], ◌++◌}
use Prim.Native.Nat.{ℕ, zero, suc, ◌+◌}
use native.Mathlib.Omega.{arith}
use lib.ListN.{length, take, drop, length-drop}
use lib.Seq.{drop-drop, drop-append_seam}
use Rattle.layout.specs.Answer.{Told, Answer, got, refused, Reader, after, means, located, end_at, bad_text, end_of_field, text_of_field, span_at, field_at}
use Rattle.layout.specs.Bytes.{Bytes, number}
use Rattle.layout.specs.Codec.{Codec, nothing, numbered, ◌and◌, leading, through, field, repeated, counted}
use Rattle.layout.specs.Faithful.{Faithful}
use Rattle.layout.specs.Fault.{Fault, Begins, Ends, BadText, Decides, Blames, fine, fault, cut, Faulted}
use Rattle.layout.specs.Format.{Stands, Sound, word, none, Format}
use Rattle.layout.specs.Grammar.{loose, Grammar, Number}
use Rattle.layout.specs.Placed.{Placed}
use Rattle.layout.specs.Spot.{Spot, Nowhere, Here, here, Past, early, later, AmongSpot, Points, Own, own_read, own_end, own_text, Owned, Of, of_end, of-text, Spots, no_spot, spot, Spotted}
use Rattle.layout.proofs.laws.Decided.{refuses}
use Rattle.layout.proofs.laws.Final.{end_not_text}
use Rattle.layout.proofs.laws.Make.{Spanned, there, short, spanned, number_format}
use Rattle.layout.proofs.laws.Reading.{not_meant, refused_meant}
use Rattle.layout.proofs.laws.Numbers.{zero_one}
use Rattle.layout.proofs.laws.Words.{fits, front, part_there, rest_of}

-- ── fields: a refusal is told of their own place ──

pub nothing_owned : {R : Type 0} (r : R) → Owned (nothing r)
nothing_owned r = record { own = λ s h at. own_read }

number_own : (k : ℕ) (s : List ℕ) (at : ℕ) → Own at ((numbered k).read s at)
unfolding field_at after
number_own k s at = go (span_at at k s at) (spanned at k s at)
  where
    go : (x : Answer (Unit {0})) → Spanned at k s at x → Own at (after x λ _ next. got (number (take k (drop at s))) next)
    go (got t n) (there i) = own_read
    go (refused t) (short i) = own_end

pub number_owned : (k : ℕ) → Owned (numbered k)
number_owned k = record { own = λ s h at. number_own k s at }

own_means : {A B : Type 0} {at : ℕ} {x : Answer A} (f : A → B) → Own at x → Own at (means f x)
unfolding means
own_means f own_read = own_read
own_means f own_end = own_end
own_means f own_text = own_text

pub as_owned : {A B : Type 0} {F : Codec A} (f : A → B) (out : B → List ℕ) → Owned F → Owned (through f F out)
as_owned f out o = record { own = λ s h at. own_means f (o.own s h at) }

own_located : {A : Type 0} {B : Fault} {s : List ℕ} {at : ℕ} {x : Answer A} → Blames B s at x → Own at (located at x)
unfolding located
own_located fine = own_read
own_located {at} (fault p st g) = rw (text_of_field at p) own_text
own_located {at} (cut p) = rw (end_of_field at p) own_end

pub field_owned : {R : Type 0} {B : Fault} {F : Codec R} → Faulted B F → Owned (field F)
field_owned b = record { own = λ s h at. own_located (b.blames s h at) }

-- ── from one to the next ──

of_after : {A B : Type 0} {p : ℕ} {x : Answer A} (k : A → ℕ → Answer B) → Of p x → Of p (after x k)
unfolding after
of_after k of_end = of_end
of_after k of-text = of-text

of_means : {A B : Type 0} {p : ℕ} {x : Answer A} (f : A → B) → Of p x → Of p (means f x)
unfolding means
of_means f of_end = of_end
of_means f of-text = of-text

spots_means : {A B : Type 0} {P : Spot} {s : List ℕ} {at : ℕ} {x : Answer A} (f : A → B) → Spots P s at x → Spots P s at (means f x)
unfolding means
spots_means f no_spot = no_spot
spots_means f (spot q p o) = spot q p (of_means f o)

-- what stands before the rest
before : {s u : List ℕ} {at n : ℕ} → Stands s at n u → u ++ drop n s ≡ drop at s
before {s} {u} {at} {n} st = let e : drop (length u) (drop at s) ≡ drop n s = drop-drop (length u) at s ∙ rw (← st.till) in rw (← e) (rest_of st)

-- a spot of the second, seen from the first
spots_second : {A B : Type 0} {G : Grammar A} {P : Spot} {Q : A → Spot} {s u : List ℕ} {at n : ℕ} (a : A) {x : Answer B} → Stands s at n u → G loose u a → Spots (Q a) s n x → Spots (Past G P Q) s at x
spots_second a st g no_spot = no_spot
spots_second {G} {P} {Q} {s} {u} {at} {n} a {x} st g (spot q p o) =
    let place : n + q ≡ at + (length u + q) = omega (arith, st.till) in
    spot (length u + q) (subst (λ l. Past G P Q l (length u + q)) (before st) (later g p)) (subst (λ m. Of m x) place o)

spots_after : {A B : Type 0} {G : Grammar A} {P : Spot} {Q : A → Spot} {s : List ℕ} {at : ℕ} {x : Answer A} (k : A → ℕ → Answer B) → Sound G s at x → Spots P s at x
    → ((a : A) (n : ℕ) → Spots (Q a) s n (k a n)) → Spots (Past G P Q) s at (after x k)
unfolding after
spots_after k (word {w} {r} {n} st g) b f = spots_second r st g (f r n)
spots_after k none (spot q p o) f = spot q (early p) (of_after k o)

-- where the second begins, after a word of the first
module _ {A : Type 0} {G : Grammar A} {F : Codec A} (f : Format G F) (s u v : List ℕ) (at : ℕ) (e : u ++ v ≡ drop at s) where
  first_read : {a : A} → G loose u a → F.read s at ≡ got a (at + length u)
  first_read g = f.complete (front u v (sym e) refl) g

  rest_is : drop (at + length u) s ≡ v
  rest_is = sym (drop-drop (length u) at s) ∙ ap (drop (length u)) (sym e) ∙ drop-append_seam u v

-- ── nothing, and one field ──

pub nothing_spotted : {R : Type 0} (r : R) → Spotted Nowhere (nothing r)
nothing_spotted r = record { spots = λ s h at. no_spot; found = λ s h at q p. elim p [ ] }

module _ {R : Type 0} {G : Grammar R} {F : Codec R} (f : Format G F) (o : Owned F) where
  begun : (s : List ℕ) (at : ℕ) → Begins G (drop at s) → (n : ℕ) × ((r : R) × (F.read s at ≡ got r n))
  begun s at (r, (n, p)) = (at + n, (r, f.complete (part_there s at n (omega (arith, p.within, length-drop at s))) p.reads))

  at_zero : {x : Answer R} {at : ℕ} → Of at x → Of (at + 0) x
  at_zero {x} {at} h = let e : at + 0 ≡ at = omega arith in rw e h

  one_spots : (s : List ℕ) (at : ℕ) (x : Answer R) → F.read s at ≡ x → Own at x → Spots (Here G) s at x
  one_spots s at x e own_read = no_spot
  one_spots s at x e own_end = spot 0 (here λ g. let b = begun s at g in zero_one (cc (e, b.1.1))) (at_zero of_end)
  one_spots s at x e own_text = spot 0 (here λ g. let b = begun s at g in zero_one (cc (e, b.1.1))) (at_zero of-text)

  one_found : (s : List ℕ) → (at : ℕ) (x : Answer R) → Sound G s at x → Own at x → (Begins G (drop at s) → ⊥) → Of (at + 0) x
  one_found s at x (word {w} {r} st g) own_read not-here =
      absurd (not-here (r, (length w, record { within = omega (arith, fits st, length-drop at s); reads = rw st.is g })))
  one_found s at x none own_end not-here = at_zero of_end
  one_found s at x none own_text not-here = at_zero of-text

  pub one_spotted : Spotted (Here G) F
  one_spotted = record { spots = λ s h at. one_spots s at (F.read s at) refl (o.own s h at); found = λ s h at q p. find s h at (drop at s) q refl p }
    where
      find : (s : List ℕ) → Bytes s → (at : ℕ) (l : List ℕ) (q : ℕ) → drop at s ≡ l → Here G l q → Of (at + q) (F.read s at)
      find s h at l q e (here not-here) = one_found s at (F.read s at) (f.sound s h at) (o.own s h at) λ g. not-here (subst (Begins G) e g)

-- ── one after the other; the first picks the second ──

module _ {A B : Type 0} {G : Grammar A} {P : Spot} {Q : A → Spot} {F : Codec A} {K : A → Codec B} (f : Format G F) (p : Spotted P F) (k : (a : A) → Spotted (Q a) (K a)) where
  -- what goes on after the first tells of the second's place
  past_found : {C : Type 0} (s : List ℕ) → Bytes s → (on : A → ℕ → Answer C) → ((a : A) (n place : ℕ) → Of place ((K a).read s n) → Of place (on a n)) → (at : ℕ) (l : List ℕ) (q : ℕ) → l ≡ drop at s → Past G P Q l q
      → Of (at + q) (after (F.read s at) on)
  unfolding after
  past_found s h on tells at l q e (early i) = of_after _ (p.found s h at q (subst (λ m. P m q) e i))
  past_found s h on tells at l q e (later {u} {v} {a} {q = m} g i) =
      let there : F.read s at ≡ got a (at + length u) = first_read f s u v at e g in
      let place : at + length u + m ≡ at + (length u + m) = omega arith in
      let next = (k a).found s h (at + length u) m (subst (λ r. Q a r m) (sym (rest_is f s u v at e)) i) in
      rw (there, ← place) (tells a (at + length u) (at + length u + m) next)

  pub then_spotted : Spotted (Past G P Q) (F and K)
  then_spotted = record {
    spots = λ s h at. spots_after _ (f.sound s h at) (p.spots s h at) λ a n. spots_means _ ((k a).spots s h n);
    found = λ s h at q i. past_found s h _ (λ a n place o. of_means _ o) at (drop at s) q refl i;
  }

module _ {A R : Type 0} {G : Grammar A} {P : Spot} {Q : A → Spot} {F : Codec A} {K : A → Codec R} (f : Format G F) (c : R → A) (p : Spotted P F) (k : (a : A) → Spotted (Q a) (K a)) where
  pub lead_spotted : Spotted (Past G P Q) (leading F c K)
  lead_spotted = record {
    spots = λ s h at. spots_after _ (f.sound s h at) (p.spots s h at) λ a n. (k a).spots s h n;
    found = λ s h at q i. past_found f p k s h _ (λ a n place o. o) at (drop at s) q refl i;
  }

pub as_spotted : {A B : Type 0} {P : Spot} {F : Codec A} (f : A → B) (out : B → List ℕ) → Spotted P F → Spotted P (through f F out)
as_spotted f out p = record { spots = λ s h at. spots_means f (p.spots s h at); found = λ s h at q i. of_means f (p.found s h at q i) }

pub repeat_spotted : {R : Type 0} {G : Grammar R} {P : Spot} {F : Codec R} (n : ℕ) → Format G F → Spotted P F → Spotted (AmongSpot n G P) (repeated n F)
repeat_spotted zero f p = nothing_spotted []
repeat_spotted (suc n) f p = as_spotted _ _ (then_spotted f p λ _. repeat_spotted n f p)

pub number_spotted : (k : ℕ) → Spotted (Here (Number k)) (numbered k)
number_spotted k = one_spotted (number_format k) (number_owned k)

pub count_spotted : {R : Type 0} {Q : ℕ → Spot} {row : ℕ → Codec (List R)} (k : ℕ) → ((n : ℕ) → Spotted (Q n) (row n)) → Spotted (Past (Number k) (Here (Number k)) Q) (counted k row)
count_spotted k rows = lead_spotted (number_format k) length (number_spotted k) rows

-- ── the demand ──

of_some : {R : Type 0} {P : Spot} {s : List ℕ} {at : ℕ} {x : Answer R} → Spots P s at x → (t : Told) → x ≡ refused t → (q : ℕ) × P (drop at s) q
of_some no_spot t e = zero_one (cc)
of_some (spot q p o) t e = (q, p)

end-of : {R : Type 0} {p : ℕ} {x : Answer R} → Of p x → (BadText x → ⊥) → x ≡ refused (end_at p)
end-of of_end not-text = refl
end-of {p} of-text not-text = absurd (not-text (p, refl))

text_of : {R : Type 0} {p : ℕ} {x : Answer R} → Of p x → BadText x → x ≡ refused (bad_text p)
text_of {p} of_end (q, e) = absurd (end_not_text p q (cc))
text_of of-text e = refl

module _ {R : Type 0} {G : Grammar R} {B : Fault} {P : Spot} {F : Codec R} (f : Format G F) (b : Faulted B F) (p : Spotted P F) where
  pub points : (s : List ℕ) → Bytes s → (at : ℕ) → Points B P (drop at s) at (F.read s at)
  points s h at = record {
    some = of_some (p.spots s h at);
    end_there = λ q i not-spoilt. end-of (p.found s h at q i) λ e. not-spoilt ((refuses f b s h at).text.0 e);
    text_there = λ q i spoilt. text_of (p.found s h at q i) ((refuses f b s h at).text.1 spoilt);
  }

  -- any answer that a promise of places allows
  pub points_exactly : {L : Type 0} {mean : List ℕ → L → R} {parts : L → List (ℕ × ℕ)} {place : Reader L} → Placed mean parts place F.read
      → (s : List ℕ) → Bytes s → (at : ℕ) (x : Answer L) → x ≡ place s at → Points B P (drop at s) at x
  points_exactly {mean} Q s h at x promised =
      let o = points s h at in
      let agrees : means (mean s) x ≡ F.read s at = ap (means (mean s)) promised ∙ Q.agrees s at in
      record {
        some = λ t e. o.some t (sym (not_meant (mean s) (sym e) ∙ agrees));
        end_there = λ q i not-spoilt. refused_meant (mean s) x (agrees ∙ o.end_there q i not-spoilt);
        text_there = λ q i spoilt. refused_meant (mean s) x (agrees ∙ o.text_there q i spoilt);
      }

-- ── words, faults and spots determine the whole answer, with the place of a refusal ──

module _ {R : Type 0} {G : Grammar R} {B : Fault} {P : Spot} {F K : Codec R} (f : Faithful G F) (k : Faithful G K) (d : Decides G B F) (s : List ℕ) (h : Bytes s)
    (i : Points B P s 0 (F.read s 0)) (j : Points B P s 0 (K.read s 0)) where
  pub same_answer : F.read s 0 ≡ K.read s 0
  same_answer = go (F.read s 0) refl
    where
      refusing : (q : ℕ) → P s q → Ends (F.read s 0) ⊎ BadText (F.read s 0) → F.read s 0 ≡ K.read s 0
      refusing q p (inl e) = let clean = ((d.refuses s h).ends.0 e).1 in i.end_there q p clean ∙ sym (j.end_there q p clean)
      refusing q p (inr e) = let spoilt = (d.refuses s h).text.0 e in i.text_there q p spoilt ∙ sym (j.text_there q p spoilt)

      go : (x : Answer R) → F.read s 0 ≡ x → F.read s 0 ≡ K.read s 0
      go (got r n) e = e ∙ sym ((k.exact s h r n).1 ((f.exact s h r n).0 e))
      go (refused t) e = let o = i.some t e in refusing o.0 o.1 ((d.refuses s h).either t e)
