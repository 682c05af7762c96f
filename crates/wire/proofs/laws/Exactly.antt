-- Demand 3 of a reader of places at any place, from its format alone.
-- Assumes nothing.
use mathlib.Core.Path.{◌≡◌, ap, sym, ◌∙◌, subst}
use mathlib.Core.List.{List}
use Prim.Native.Nat.{ℕ, ◌-◌}
use native.Mathlib.Omega.{arith}
use lib.ListN.{length, length-drop}
use Rattle.layout.specs.Answer.{Answer, Reader, means}
use Rattle.layout.specs.Bytes.{Bytes}
use Rattle.layout.specs.Codec.{Codec}
use Rattle.layout.specs.Format.{Format}
use Rattle.layout.specs.Grammar.{Grammar}
use Rattle.layout.specs.Placed.{Lies, Placed}
use Rattle.layout.proofs.laws.Meets.{sound_at, complete_at}
use Rattle.layout.proofs.laws.Words.{fits, part_there}
use Rattle.wire.specs.Anywhere.{ExactAt}

-- any answer that a promise of places allows
pub exact_at : {R L : Type 0} {G : Grammar R} {F : Codec R} → Format G F → {mean : List ℕ → L → R} {parts : L → List (ℕ × ℕ)} {place : Reader L} → Placed mean parts place F.read
    → (s : List ℕ) → Bytes s → (at : ℕ) (x : Answer L) → x ≡ place s at → ExactAt G (mean s) parts s at x
exact_at {F} f {mean} {parts} P s h at x promised =
    let agrees : means (mean s) x ≡ F.read s at = ap (means (mean s)) promised ∙ P.agrees s at in
    record {
      accepts = λ l n e.
          let (w, st, g) = sound_at f (mean s) agrees h e in
          let size : n - at ≡ length w = omega (arith, st.till) in
          (omega (arith, st.till), record { within = omega (arith, size, fits st, length-drop at s); reads = rw (size, st.is) g });
      reaches = λ r n p. complete_at f (mean s) agrees (part_there s at n (omega (arith, p.within, length-drop at s))) p.reads;
      inside = subst (Lies parts at) (sym promised) (P.inside s at);
    }
