-- Each way to make a codec keeps what bytes that follow can do to an answer, and what a refusal is of.
-- Assumes nothing.
use mathlib.Core.Path.{◌≡◌, refl, ap, subst}
use mathlib.Core.Bool.{Bool, true, false, not}
use mathlib.Core.List.{List, [], ◌∷◌, ◌++◌, append_assoc}
use Prim.Native.Nat.{ℕ, zero, suc, ◌+◌, ◌*◌, ◌-◌, ◌≤◌}
use native.Mathlib.Omega.{arith}
use lib.Dec.{T, lit≤}
use lib.ListN.{length, take, drop, replicate, length-append, length-drop, length-replicate}
use lib.Seq.{take-append-le, drop-append-le}
use Rattle.layout.specs.Answer.{Answer, got, refused, Reader, pick, after, means, located, end_at, bad_text, end_of_field, text_of_field, span_at, field_at}
use Rattle.layout.specs.Bytes.{Bytes}
use Rattle.layout.specs.Codec.{Codec, nothing, numbered, ◌and◌, leading, only, through, field, repeated, spared, celled, counted}
use Rattle.layout.specs.Fault.{Fault, Clean, Fails, inner, fails, Along, first, second, Among, Stays, same, more, Settled, good, bad, Final, Open, Blames, fine, fault, cut, Faulted}
use Rattle.layout.specs.Format.{Stands, Sound, word, none, Format}
use Rattle.layout.specs.Grammar.{loose, Grammar, Number}
use Rattle.layout.proofs.laws.Make.{Spanned, there, short, spanned, span_there, number_format}
use Rattle.layout.proofs.laws.Numbers.{zero_one}
use Rattle.layout.proofs.laws.Words.{join, split}

pub end_not_text : (p q : ℕ) → end_at p ≡ bad_text q → ⊥
unfolding end_at bad_text
end_not_text p q e = let z : ◌≡◌ {A = ℕ} 1 2 = ap (λ t. t.no) e in omega arith

-- ── more bytes: what stood there stands there still ──

pub Bytes-append : (s t : List ℕ) → Bytes s → Bytes t → Bytes (s ++ t)
Bytes-append [] t h k = k
Bytes-append (b ∷ s) t h k = (h.0, Bytes-append s t h.1 k)

pub Bytes-zeros : (n : ℕ) → Bytes (replicate n 0)
Bytes-zeros zero = tt
Bytes-zeros (suc n) = (lit≤ tt, Bytes-zeros n)

pub part_stays : (k : ℕ) (s t : List ℕ) (at : ℕ) → k ≤ length s - at → take k (drop at (s ++ t)) ≡ take k (drop at s)
part_stays zero s t at h = refl
part_stays (suc k) s t at h =
    rw (drop-append-le at s t (omega arith)) (take-append-le (suc k) (drop at s) t (omega (arith, length-drop at s)))

-- ── answers that stay, from one to the next ──

pub stays_after : {A B : Type 0} {x y : Answer A} (k l : A → ℕ → Answer B) → Stays x y → ((a : A) (n : ℕ) → Stays (k a n) (l a n)) → Stays (after x k) (after y l)
unfolding after
stays_after {A} {x} k l same f = go x
  where
    go : (x : Answer A) → Stays (after x k) (after x l)
    go (got a n) = f a n
    go (refused t) = same
stays_after k l (more p) f = more p

stays_means : {A B : Type 0} {x y : Answer A} (f : A → B) → Stays x y → Stays (means f x) (means f y)
unfolding means
stays_means f same = same
stays_means f (more p) = more p

stays_located : {A : Type 0} {x y : Answer A} (place : ℕ) → Stays x y → Stays (located place x) (located place y)
unfolding located
stays_located place same = same
stays_located place (more p) = rw (end_of_field place p) (more place)

stays_got : {A : Type 0} {x y : Answer A} {a : A} {n : ℕ} → Stays x y → x ≡ got a n → y ≡ got a n
stays_got same e = e
stays_got (more p) e = zero_one (cc)

pub stays_text : {A : Type 0} {x y : Answer A} (p : ℕ) → Stays x y → x ≡ refused (bad_text p) → y ≡ refused (bad_text p)
stays_text p same e = e
stays_text p (more q) e = absurd (end_not_text q p (cc))

-- ── answers that are settled ──

settled_means : {A B : Type 0} {x : Answer A} (f : A → B) → Settled x → Settled (means f x)
unfolding means
settled_means f good = good
settled_means f (bad p) = bad p

settled_located : {A : Type 0} {x : Answer A} (place : ℕ) → Settled x → Settled (located place x)
unfolding located
settled_located place good = good
settled_located place (bad p) = rw (text_of_field place p) (bad place)

-- one reader after another: carried on until the first is settled, and then, where it has read, until the second is
opens_after : {A B : Type 0} (f : Reader A) (k : A → Reader B) → Final f → Open f → ((a : A) → Open (k a)) → Open (λ s at. after (f s at) λ a n. k a s n)
unfolding after
opens_after {A} {B} f k final open-f open-k s at = let o = open-f s at in go o.0 o.1.0 (f (s ++ o.0) at) refl o.1.1
  where
    go : (t : List ℕ) → Bytes t → (x : Answer A) → f (s ++ t) at ≡ x → Settled x → (t : List ℕ) × (Bytes t × Settled (after (f (s ++ t) at) λ a n. k a (s ++ t) n))
    go t h (got a n) e good =
        let o = open-k a (s ++ t) n in
        let there : f ((s ++ t) ++ o.0) at ≡ got a n = stays_got (final (s ++ t) o.0 at) e in
        let both : f (s ++ (t ++ o.0)) at ≡ got a n = subst (λ l. f l at ≡ got a n) (append_assoc s t o.0) there in
        (t ++ o.0, (Bytes-append t o.0 h o.1.0, rw both (subst (λ l. Settled (k a l n)) (append_assoc s t o.0) o.1.1)))
    go t h (refused u) e (bad p) = (t, (h, rw e (bad p)))

-- ── what a refusal is of, from one answer to the next ──

blames_after : {A B : Type 0} {G : Grammar A} {P Q : Fault} {s : List ℕ} {at from : ℕ} {x : Answer A} (k : A → ℕ → Answer B) → Sound G s at x → Blames P s at x
    → ((w : List ℕ) (n : ℕ) → Stands s at n w → P w → (v : List ℕ) × ((m : ℕ) × (Stands s from m v × Q v)))
    → ((a : A) (n : ℕ) (w : List ℕ) → Stands s at n w → G loose w a → Blames Q s from (k a n)) → Blames Q s from (after x k)
unfolding after
blames_after k (word {w} {r} {n} st g) b early f = f r n w st g
blames_after k none (fault {w} {n} p st b) early f = let o = early w n st b in fault p o.1.1.0 o.1.1.1
blames_after k none (cut p) early f = cut p

blames_means : {A B : Type 0} {P : Fault} {s : List ℕ} {at : ℕ} {x : Answer A} (f : A → B) → Blames P s at x → Blames P s at (means f x)
unfolding means
blames_means f fine = fine
blames_means f (fault p st b) = fault p st b
blames_means f (cut p) = cut p

-- as of a place before it, by a word that stands between
blames_from : {A : Type 0} {P Q : Fault} {s : List ℕ} {at from : ℕ} {x : Answer A} → Blames P s at x
    → ((w : List ℕ) (n : ℕ) → Stands s at n w → P w → (v : List ℕ) × ((m : ℕ) × (Stands s from m v × Q v))) → Blames Q s from x
blames_from fine f = fine
blames_from (fault {w} {n} p st b) f = let o = f w n st b in fault p o.1.1.0 o.1.1.1
blames_from (cut p) f = cut p

blames_located : {A : Type 0} {P : Fault} {s : List ℕ} {at : ℕ} {x : Answer A} (place : ℕ) → Blames P s at x → Blames P s at (located place x)
unfolding located
blames_located place fine = fine
blames_located place (fault p st b) = rw (text_of_field place p) (fault place st b)
blames_located place (cut p) = rw (end_of_field place p) (cut place)

-- ── nothing ──

no_fault : {A : Type 0} {w : List ℕ} → Clean w → A
no_fault b = elim b [ ]

clean_spoils : {R : Type 0} (read : Reader R) {s w : List ℕ} {at n : ℕ} → Stands s at n w → Clean w → (p : ℕ) × (read s at ≡ refused (bad_text p))
clean_spoils read st b = no_fault b

pub nothing_faults : {R : Type 0} (r : R) → Faulted Clean (nothing r)
nothing_faults r = record { final = λ s t at. same; opens = λ s at. ([], (tt, good)); blames = λ s h at. fine; spoils = clean_spoils (nothing r).read }

-- ── a field of so many bytes ──

module _ {R : Type 0} (k : ℕ) (mean : List ℕ → R) where
  pub field_final : Final (field_at k mean)
  unfolding field_at after
  field_final s t at = go (span_at at k s at) (spanned at k s at)
    where
      go : (x : Answer (Unit {0})) → Spanned at k s at x → Stays (after x λ _ next. got (mean (take k (drop at s))) next) (after (span_at at k (s ++ t) at) λ _ next. got (mean (take k (drop at (s ++ t)))) next)
      go (got u n) (there h) =
          let more' : k ≤ length (s ++ t) - at = omega (arith, length-append s t) in
          rw (span_there at k (s ++ t) at more', part_stays k s t at h) same
      go (refused u) (short h) = more at

  field_opens : Open (field_at k mean)
  unfolding field_at after
  field_opens s at =
      let enough : k ≤ length (s ++ replicate (at + k) 0) - at = omega (arith, length-append s (replicate (at + k) 0), length-replicate {A = ℕ} (at + k) 0) in
      (replicate (at + k) 0, (Bytes-zeros (at + k), rw (span_there at k (s ++ replicate (at + k) 0) at enough) good))

  field_blames : (s : List ℕ) → Bytes s → (at : ℕ) → Blames Clean s at (field_at k mean s at)
  unfolding field_at after
  field_blames s h at = go (span_at at k s at) (spanned at k s at)
    where
      go : (x : Answer (Unit {0})) → Spanned at k s at x → Blames Clean s at (after x λ _ next. got (mean (take k (drop at s))) next)
      go (got u n) (there h) = fine
      go (refused u) (short h) = cut at

pub number_faults : (k : ℕ) → Faulted Clean (numbered k)
number_faults k = record { final = field_final k _; opens = field_opens k _; blames = field_blames k _; spoils = clean_spoils (numbered k).read }

pub cells_faults : (k n : ℕ) → Faulted Clean (celled k n)
cells_faults k n = record { final = field_final (n * k) _; opens = field_opens (n * k) _; blames = field_blames (n * k) _; spoils = clean_spoils (celled k n).read }

-- ── one after the other ──

module _ {A B : Type 0} {G : Grammar A} {P : Fault} {Q : A → Fault} {F : Codec A} {K : A → Codec B} (f : Format G F) (p : Faulted P F) (q : (a : A) → Faulted (Q a) (K a)) where
  then_final : Final (F and K).read
  then_final s t at = stays_after _ _ (p.final s t at) λ a n. stays_means _ ((q a).final s t n)

  then_opens : Open (F and K).read
  then_opens = opens_after F.read (λ a s n. means (λ b. (a, b)) ((K a).read s n)) p.final p.opens λ a s n. let o = (q a).opens s n in (o.0, (o.1.0, settled_means _ o.1.1))

  then_blames : (s : List ℕ) → Bytes s → (at : ℕ) → Blames (Along G P Q) s at ((F and K).read s at)
  then_blames s h at =
      blames_after _ (f.sound s h at) (p.blames s h at) (λ w n st b. (w, (n, (st, first b))))
      λ a n u st g. blames_means _ (blames_from ((q a).blames s h n) λ v m st' b. (u ++ v, (m, (join st st', second g b))))

  then_spoils : {s w : List ℕ} {at n : ℕ} → Stands s at n w → Along G P Q w → (p : ℕ) × ((F and K).read s at ≡ refused (bad_text p))
  unfolding after means
  then_spoils st (first b) = let o = p.spoils st b in (o.0, rw o.1)
  then_spoils st (second {u} {v} {a} g b) = let i = split u v st in let o = (q a).spoils i.1 b in (o.0, rw (f.complete i.0 g, o.1))

  pub then_faults : Faulted (Along G P Q) (F and K)
  then_faults = record { final = then_final; opens = then_opens; blames = then_blames; spoils = then_spoils }

-- ── the first picks the second, and is not kept ──

module _ {A R : Type 0} {G : Grammar A} {P : Fault} {Q : A → Fault} {F : Codec A} {K : A → Codec R} (f : Format G F) (c : R → A) (p : Faulted P F) (q : (a : A) → Faulted (Q a) (K a)) where
  lead_final : Final (leading F c K).read
  lead_final s t at = stays_after _ _ (p.final s t at) λ a n. (q a).final s t n

  lead_opens : Open (leading F c K).read
  lead_opens = opens_after F.read (λ a. (K a).read) p.final p.opens λ a. (q a).opens

  lead_blames : (s : List ℕ) → Bytes s → (at : ℕ) → Blames (Along G P Q) s at ((leading F c K).read s at)
  lead_blames s h at =
      blames_after _ (f.sound s h at) (p.blames s h at) (λ w n st b. (w, (n, (st, first b))))
      λ a n u st g. blames_from ((q a).blames s h n) λ v m st' b. (u ++ v, (m, (join st st', second g b)))

  lead_spoils : {s w : List ℕ} {at n : ℕ} → Stands s at n w → Along G P Q w → (p : ℕ) × ((leading F c K).read s at ≡ refused (bad_text p))
  unfolding after
  lead_spoils st (first b) = let o = p.spoils st b in (o.0, rw o.1)
  lead_spoils st (second {u} {v} {a} g b) = let i = split u v st in let o = (q a).spoils i.1 b in (o.0, rw (f.complete i.0 g) o.1)

  pub lead_faults : Faulted (Along G P Q) (leading F c K)
  lead_faults = record { final = lead_final; opens = lead_opens; blames = lead_blames; spoils = lead_spoils }

-- ── a test, told as TEXT ──

module _ {R : Type 0} {G : Grammar R} {P : Fault} {F : Codec R} (test : R → Bool) (f : Format G F) (p : Faulted P F) where
  such_final : Final (only bad_text test F).read
  such_final s t at = stays_after _ _ (p.final s t at) λ r n. same

  such_opens : Open (only bad_text test F).read
  unfolding after
  such_opens s at = let o = p.opens s at in (o.0, (o.1.0, go o.1.1))
    where
      test_settled : (r : R) (n : ℕ) (b : Bool) → Settled (pick b (got r n) (refused (bad_text at)))
      test_settled r n true = good
      test_settled r n false = bad at

      go : {x : Answer R} → Settled x → Settled (after x λ r n. pick (test r) (got r n) (refused (bad_text at)))
      go (good {a} {n}) = test_settled a n (test a)
      go (bad q) = bad q

  such_blames : (s : List ℕ) → Bytes s → (at : ℕ) → Blames (Fails test G P) s at ((only bad_text test F).read s at)
  such_blames s h at = blames_after _ (f.sound s h at) (p.blames s h at) (λ w n st b. (w, (n, (st, inner b)))) λ r n w st g. go r n w st g (test r) (λ t. t)
    where
      go : (r : R) (n : ℕ) (w : List ℕ) → Stands s at n w → G loose w r → (b : Bool) → (T (not b) → T (not (test r))) → Blames (Fails test G P) s at (pick b (got r n) (refused (bad_text at)))
      go r n w st g true t = fine
      go r n w st g false t = fault at st (fails (t tt) g)

  such_spoils : {s w : List ℕ} {at n : ℕ} → Stands s at n w → Fails test G P w → (p : ℕ) × ((only bad_text test F).read s at ≡ refused (bad_text p))
  unfolding after
  such_spoils st (inner b) = let o = p.spoils st b in (o.0, rw o.1)
  such_spoils {s} {w} {at} {n} st (fails {r} t g) = (at, rw (f.complete st g) (go (test r) t))
    where
      go : (b : Bool) → T (not b) → pick b (got r n) (refused (bad_text at)) ≡ refused (bad_text at)
      go true t = absurd t
      go false t = refl

  pub such_faults : Faulted (Fails test G P) (only bad_text test F)
  such_faults = record { final = such_final; opens = such_opens; blames = such_blames; spoils = such_spoils }

-- ── read through f ──

module _ {A B : Type 0} {P : Fault} {F : Codec A} (f : A → B) (out : B → List ℕ) (p : Faulted P F) where
  as_spoils : {s w : List ℕ} {at n : ℕ} → Stands s at n w → P w → (p : ℕ) × ((through f F out).read s at ≡ refused (bad_text p))
  unfolding means
  as_spoils st b = let o = p.spoils st b in (o.0, rw o.1)

  pub as_faults : Faulted P (through f F out)
  as_faults = record {
    final = λ s t at. stays_means f (p.final s t at);
    opens = λ s at. let o = p.opens s at in (o.0, (o.1.0, settled_means f o.1.1));
    blames = λ s h at. blames_means f (p.blames s h at);
    spoils = as_spoils;
  }

-- ── the same layout as one field ──

module _ {R : Type 0} {P : Fault} {F : Codec R} (p : Faulted P F) where
  one_spoils : {s w : List ℕ} {at n : ℕ} → Stands s at n w → P w → (p : ℕ) × (located at (F.read s at) ≡ refused (bad_text p))
  unfolding located
  one_spoils {at} st b = let o = p.spoils st b in (at, rw (o.1, text_of_field at o.0))

  pub one_faults : Faulted P (field F)
  one_faults = record {
    final = λ s t at. stays_located at (p.final s t at);
    opens = λ s at. let o = p.opens s at in (o.0, (o.1.0, settled_located at o.1.1));
    blames = λ s h at. blames_located at (p.blames s h at);
    spoils = one_spoils;
  }

-- ── made of these ──

pub repeat_faults : {R : Type 0} {G : Grammar R} {P : Fault} {F : Codec R} (n : ℕ) → Format G F → Faulted P F → Faulted (Among n G P) (repeated n F)
repeat_faults zero f p = nothing_faults []
repeat_faults (suc n) f p = as_faults _ _ (then_faults f p λ _. repeat_faults n f p)

pub count_faults : {R : Type 0} {Q : ℕ → Fault} {row : ℕ → Codec (List R)} (k : ℕ) → ((n : ℕ) → Faulted (Q n) (row n)) → Faulted (Along (Number k) Clean Q) (counted k row)
count_faults k rows = lead_faults (number_format k) length (number_faults k) rows

-- the same faults by another name
pub same_faults : {R : Type 0} {P Q : Fault} {F : Codec R} → ((w : List ℕ) → P w → Q w) → ((w : List ℕ) → Q w → P w) → Faulted P F → Faulted Q F
same_faults {P} {Q} {F} to from p = record {
  final = p.final;
  opens = p.opens;
  blames = λ s h at. blames_from (p.blames s h at) λ w n st b. (w, (n, (st, to w b)));
  spoils = spoil;
}
  where
    spoil : {s w : List ℕ} {at n : ℕ} → Stands s at n w → Q w → (p : ℕ) × (F.read s at ≡ refused (bad_text p))
    spoil {w} st b = p.spoils st (from w b)

-- clean layouts, one after another, are clean
pub all_clean : {A : Type 0} {G : Grammar A} (w : List ℕ) → Along G Clean (λ _. Clean) w → Clean w
all_clean w (first b) = b
all_clean w (second g b) = no_fault b

pub spare_faults : (k : ℕ) → Faulted Clean (spared k)
spare_faults k = same_faults all_clean (λ w b. first b) (lead_faults (number_format k) (λ _. 0) (number_faults k) λ _. nothing_faults tt)
