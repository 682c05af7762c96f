-- A format with faults meets the demand on refusals; what that determines; and what the grammar alone forces.
-- Assumes nothing.
use mathlib.Core.Path.{◌≡◌, refl, ap, sym, ◌∙◌}
use mathlib.Core.Logic.{◌⊎◌, inl, inr}
use mathlib.Core.List.{List, ◌++◌}
use Prim.Native.Nat.{ℕ, ◌+◌}
use native.Mathlib.Omega.{arith}
use lib.ListN.{length, drop, length-drop}
use Rattle.layout.specs.Answer.{Told, Answer, got, refused, Reader, means, end_at, bad_text}
use Rattle.layout.specs.Bytes.{Bytes}
use Rattle.layout.specs.Codec.{Codec}
use Rattle.layout.specs.Faithful.{Faithful}
use Rattle.layout.specs.Fault.{Fault, Begins, Spoilt, Ends, BadText, Refuses, Settled, good, bad, Final, Decides, Alike, both_read, both_end, both_text, Blames, fine, fault, cut, Faulted}
use Rattle.layout.specs.Format.{Stands, Sound, word, none, Format}
use Rattle.layout.specs.Grammar.{Grammar}
use Rattle.layout.specs.Placed.{Placed}
use Rattle.layout.proofs.laws.Final.{end_not_text, stays_text, Bytes-append}
use Rattle.layout.proofs.laws.Meets.{accepted}
use Rattle.layout.proofs.laws.Reading.{not_meant, refused_meant}
use Rattle.layout.proofs.laws.Numbers.{zero_one}
use Rattle.layout.proofs.laws.Words.{fits, part_there}

module _ {R : Type 0} {G : Grammar R} {B : Fault} {F : Codec R} (f : Format G F) (b : Faulted B F) where
  -- ── which refusal is given ──

  spoils_so : (s : List ℕ) (at : ℕ) → Spoilt B (drop at s) → BadText (F.read s at)
  spoils_so s at p = b.spoils (part_there s at p.size (omega (arith, p.within, length-drop at s))) p.fault

  is_spoilt : (s : List ℕ) (at : ℕ) {w : List ℕ} {n : ℕ} → Stands s at n w → B w → Spoilt B (drop at s)
  is_spoilt s at {w} st h = record { size = length w; within = omega (arith, fits st, length-drop at s); fault = rw st.is h }

  text_so : (s : List ℕ) (at : ℕ) (x : Answer R) → Blames B s at x → BadText x → Spoilt B (drop at s)
  text_so s at x fine (p, e) = zero_one (cc)
  text_so s at x (fault q st h) (p, e) = is_spoilt s at st h
  text_so s at x (cut q) (p, e) = absurd (end_not_text q p (cc))

  begins_so : (s : List ℕ) (at : ℕ) {x : Answer R} → Sound G s at x → (r : R) (n : ℕ) → x ≡ got r n → Begins G (drop at s)
  begins_so s at (word {w} {r = q} st g) r n e = (q, (length w, record { within = omega (arith, fits st, length-drop at s); reads = rw st.is g }))
  begins_so s at none r n e = zero_one (cc)

  ends_so : (s : List ℕ) (at : ℕ) (x : Answer R) → Blames B s at x → ((r : R) (n : ℕ) → x ≡ got r n → Begins G (drop at s)) → (Begins G (drop at s) → ⊥) × (Spoilt B (drop at s) → ⊥) → Ends x
  ends_so s at x (fine {r} {n}) begins neither = absurd (neither.0 (begins r n refl))
  ends_so s at x (fault q st h) begins neither = absurd (neither.1 (is_spoilt s at st h))
  ends_so s at x (cut q) begins neither = (q, refl)

  none_else : (s : List ℕ) (at : ℕ) (x : Answer R) → Blames B s at x → (t : Told) → x ≡ refused t → Ends x ⊎ BadText x
  none_else s at x fine t e = zero_one (cc)
  none_else s at x (fault q st h) t e = inr (q, refl)
  none_else s at x (cut q) t e = inl (q, refl)

  not_both : (s : List ℕ) (at : ℕ) → Begins G (drop at s) → (t : Told) → F.read s at ≡ refused t → ⊥
  not_both s at (r, (n, p)) t e =
      let g : F.read s at ≡ got r (at + n) = f.complete (part_there s at n (omega (arith, p.within, length-drop at s))) p.reads in
      zero_one (cc)

  -- at every place, of the bytes from there on
  pub refuses : (s : List ℕ) → Bytes s → (at : ℕ) → Refuses G B (drop at s) (F.read s at)
  refuses s h at = record {
    text = (text_so s at (F.read s at) (b.blames s h at), spoils_so s at);
    ends = (
      λ e. (λ g. not_both s at g (end_at e.0) e.1, λ p. let o = spoils_so s at p in end_not_text e.0 o.0 (cc)),
      ends_so s at (F.read s at) (b.blames s h at) (begins_so s at (f.sound s h at)),
    );
    either = none_else s at (F.read s at) (b.blames s h at);
  }

  -- ── all of it ──

  carried : (s : List ℕ) → Bytes s → (t : List ℕ) × (Bytes t × (Begins G (s ++ t) ⊎ Spoilt B (s ++ t)))
  carried s h = let o = b.opens s 0 in (o.0, (o.1.0, go o.0 o.1.0 (F.read (s ++ o.0) 0) refl o.1.1))
    where
      go : (t : List ℕ) → Bytes t → (x : Answer R) → F.read (s ++ t) 0 ≡ x → Settled x → Begins G (s ++ t) ⊎ Spoilt B (s ++ t)
      go t k (got r n) e good = inl (r, (n, accepted f (s ++ t) (Bytes-append s t h k) r n e))
      go t k (refused u) e (bad p) = inr ((refuses (s ++ t) (Bytes-append s t h k) 0).text.0 (p, e))

  pub decides : Decides G B F
  decides = record {
    refuses = λ s h. refuses s h 0;
    final = b.final;
    opens = b.opens;
    apart = λ s g p. let o = spoils_so s 0 p in not_both s 0 g (bad_text o.0) o.1;
    carried = carried;
  }

  -- ── of an answer that means the reader's ──

  refuses_as : {L : Type 0} (mean : L → R) (s : List ℕ) → Bytes s → (at : ℕ) (x : Answer L) → means mean x ≡ F.read s at → Refuses G B (drop at s) x
  refuses_as mean s h at x agrees =
      let r = refuses s h at in
      let to : (t : Told) → x ≡ refused t → F.read s at ≡ refused t = λ t e. sym (not_meant mean (sym e) ∙ agrees) in
      let back : (t : Told) → F.read s at ≡ refused t → x ≡ refused t = λ t e. refused_meant mean x (agrees ∙ e) in
      record {
        text = (λ e. r.text.0 (e.0, to _ e.1), λ p. let o = r.text.1 p in (o.0, back _ o.1));
        ends = (λ e. r.ends.0 (e.0, to _ e.1), λ p. let o = r.ends.1 p in (o.0, back _ o.1));
        either = λ t e. go (r.either t (to t e));
      }
    where
      go : Ends (F.read s at) ⊎ BadText (F.read s at) → Ends x ⊎ BadText x
      go (inl e) = inl (e.0, refused_meant mean x (agrees ∙ e.1))
      go (inr e) = inr (e.0, refused_meant mean x (agrees ∙ e.1))

  -- any answer that a promise of places allows
  pub refuses_exactly : {L : Type 0} {mean : List ℕ → L → R} {parts : L → List (ℕ × ℕ)} {place : Reader L} → Placed mean parts place F.read
      → (s : List ℕ) → Bytes s → (at : ℕ) (x : Answer L) → x ≡ place s at → Refuses G B (drop at s) x
  refuses_exactly {mean} P s h at x promised = refuses_as (mean s) s h at x (ap (means (mean s)) promised ∙ P.agrees s at)

-- ── words and faults determine the answer ──

module _ {R : Type 0} {G : Grammar R} {B : Fault} {F K : Codec R} (f : Faithful G F) (k : Faithful G K) (d : Decides G B F) (e : Decides G B K) where
  pub agree : (s : List ℕ) → Bytes s → Alike (F.read s 0) (K.read s 0)
  agree s h = go (F.read s 0) refl
    where
      refusing : Ends (F.read s 0) ⊎ BadText (F.read s 0) → Alike (F.read s 0) (K.read s 0)
      refusing (inl (p, x)) = let o = (e.refuses s h).ends.1 ((d.refuses s h).ends.0 (p, x)) in rw (x, o.1) (both_end p o.0)
      refusing (inr (p, x)) = let o = (e.refuses s h).text.1 ((d.refuses s h).text.0 (p, x)) in rw (x, o.1) (both_text p o.0)

      go : (x : Answer R) → F.read s 0 ≡ x → Alike (F.read s 0) (K.read s 0)
      go (got r n) x = let y : K.read s 0 ≡ got r n = (k.exact s h r n).1 ((f.exact s h r n).0 x) in rw (x, y) both_read
      go (refused t) x = refusing ((d.refuses s h).either t x)

-- ── what the grammar alone forces, of any reader whose answers are final ──

module _ {R : Type 0} {G : Grammar R} {F : Codec R} (f : Faithful G F) (final : Final F.read) where
  -- TEXT is given only where no bytes that follow would make it a word
  pub text_dead : (s : List ℕ) → BadText (F.read s 0) → (t : List ℕ) → Bytes (s ++ t) → Begins G (s ++ t) → ⊥
  text_dead s (p, e) t h (r, (n, g)) =
      let there : F.read (s ++ t) 0 ≡ got r n = (f.exact (s ++ t) h r n).1 g in
      let still : F.read (s ++ t) 0 ≡ refused (bad_text p) = stays_text p (final s t 0) e in
      zero_one (cc)

  -- where some would, and the bytes are no word yet, END is given
  pub alive_ends : (s : List ℕ) → Bytes s → ((u : Told) → F.read s 0 ≡ refused u → Ends (F.read s 0) ⊎ BadText (F.read s 0))
      → (t : List ℕ) → Bytes t → Begins G (s ++ t) → (Begins G s → ⊥) → Ends (F.read s 0)
  alive_ends s h either t k g not_yet = go (F.read s 0) refl
    where
      refusing : Ends (F.read s 0) ⊎ BadText (F.read s 0) → Ends (F.read s 0)
      refusing (inl x) = x
      refusing (inr x) = absurd (text_dead s x t (Bytes-append s t h k) g)

      go : (x : Answer R) → F.read s 0 ≡ x → Ends (F.read s 0)
      go (got r n) x = absurd (not_yet (r, (n, (f.exact s h r n).0 x)))
      go (refused u) x = refusing (either u x)
