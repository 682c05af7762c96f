-- What an accepted table gives, of its whole lists; its names are short, and so its ends are.
-- Assumes nothing.
use mathlib.Core.Path.{◌≡◌, sym}
use mathlib.Core.Bool.{Bool, true, false}
use mathlib.Core.List.{List, [], ◌∷◌}
use Prim.Native.Nat.{ℕ, zero, suc, ◌*◌, ◌-◌, ◌≤◌, ◌<◌}
use native.Mathlib.Omega.{arith}
use borrow.Author.Tests.{eqb-true}
use lib.Dec.{eqb}
use lib.ListN.{length, take, drop, length-drop}
use lib.Seq.{length-take-le}
use Rattle.layout.specs.Answer.{got, bad_text, pick, span_at, field_at}
use Rattle.layout.specs.Bytes.{Bytes, number, cells}
use Rattle.layout.proofs.laws.Numbers.{Bytes-take, Bytes-drop}
use Rattle.layout.proofs.laws.Reading.{parted, picked, one_got, span_within}
use Rattle.wire.specs.Layout.{paired}
use Rattle.wire.specs.declared.Part.{Part}
use Rattle.wire.specs.Places.{num_at, units_at, text_at}
use Rattle.tree.specs.Rule.{Rule}
use Rattle.tree.specs.Table.{Table, start_of, end_of, name_bytes, name_at, table_at}
use Rattle.tree.proofs.laws.Accepted.{Read, table_got}
use Rattle.tree.proofs.laws.Counts.{equal}
use Rattle.tree.proofs.laws.Ruled.{rule_of_sound}
use Rattle.tree.proofs.laws.Sound.{Sound}
use Rattle.shots.specs.Facts.{Fit}

-- ── of the whole lists ──

pub fit_by : {t : Table} → Rule t → Fit t
fit_by r = record {
  few = r.few;
  handled = r.handled;
  parented = r.parented;
  ended = r.ended;
  flagged = r.marked;
  hanging = record { hung = λ k h. equal k 0 (λ z. rw z (omega (arith, r.root, r.some))) (λ z. omega (arith, r.smaller k (omega arith) h)) };
  spaced = record { risen = record { rises = r.rises }; inside = r.within };
}

pub fit_of : {t : Table} → Sound t → Fit t
fit_of {t} s = fit_by (rule_of_sound t s)

-- ── names are short ──

byte_small : (s : List ℕ) → Bytes s → number (take 1 s) < 256
unfolding number
byte_small [] h = omega arith
byte_small (b ∷ s) h = omega (arith, h.0)

text_short : (s : List ℕ) → Bytes s → {p : _} {next : ℕ} → text_at s 0 ≡ got p next → next ≤ 511
unfolding text_at units_at field_at
text_short s h {p} {next} e =
    let a = parted (num_at 1 s 0) _ e in
    let f = parted (span_at 0 1 s 0) _ a.2 in
    let w = span_within 0 1 s 0 f.1 (sym f.2) in
    let g = one_got f.3 in
    let small = byte_small (drop 0 s) (Bytes-drop 0 s h) in
    let n = a.0 in
    let is : number (take 1 (drop 0 s)) ≡ a.0 = g.0 in
    let at : f.1 ≡ a.1 = g.1 in
    let one = w.1 in
    go (eqb a.0 0) a.0 a.1 (omega arith) (omega arith) a.3
  where
    go : (b : Bool) (n at : ℕ) → n < 256 → at ≡ 1 → pick b (got (record { start = at; count = 0 }) at) (units_at 0 n s at) ≡ got p next → next ≤ 511
    go true n at l o e = let g = one_got e in let q = g.1 in omega arith
    go false n at l o e =
        let a = parted (span_at 0 (n * 2) s at) _ e in
        let w = span_within 0 (n * 2) s at a.1 (sym a.2) in
        let r = picked {A = Part} (paired (cells 2 (n - 1) (drop at s))) (got (record { start = at; count = n - 1 }) a.1) (bad_text 0) a.3 in
        let g = one_got r.1 in
        let q = g.1 in
        let v = w.1 in
        omega arith

pub name_short : (s : List ℕ) → Bytes s → {n : ℕ} → got tt n ≡ name_at s → length s ≤ 511
unfolding name_at
name_short s h {n} e =
    let a = parted (text_at s 0) _ (sym e) in
    let t = text_short s h a.2 in
    let p = picked _ _ _ a.3 in
    let q = eqb-true a.1 (length s) p.0 in
    omega arith

-- so the ends are
ends_by : (t : Table) → Bytes t.names → Rule t → ((k : ℕ) → k < t.count → Read (name_bytes t.ends t.names k)) → (k : ℕ) → k ≤ t.count → start_of t.ends k ≤ 511 * k
ends_by t h r f zero l = omega arith
ends_by t h r f (suc k) l =
    let from = start_of t.ends k in
    let size = end_of t.ends k - start_of t.ends k in
    let x = f k l in
    let short = name_short (name_bytes t.ends t.names k) (Bytes-take size (drop from t.names) (Bytes-drop from t.names h)) (sym x.1) in
    let a = r.rises k l in
    let b = r.within k l in
    let d = length-drop from t.names in
    let long = length-take-le size (drop from t.names) (omega arith) in
    let before = ends_by t h r f k (omega arith) in
    omega arith

pub ends_short : (t : Table) {n : ℕ} → got tt n ≡ table_at t → Bytes t.names → (k : ℕ) → k ≤ t.count → start_of t.ends k ≤ 523264
ends_short t e h k l = let x = table_got t (sym e) in let few = x.1.few in omega (arith, ends_by t h x.1 x.2 k l)
