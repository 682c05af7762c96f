-- `wire::field::number_of` asks `word` for no more bytes than there are, and no more than eight. Assumes nothing.
use mathlib.Core.Path.{◌≡◌, refl, sym, ap, ◌∙◌}
use mathlib.Core.Bool.{Bool, true, false}
use mathlib.Core.List.{List}
use Prim.Native.Nat.{ℕ, ◌-◌, ◌≤◌}
use native.Mathlib.Nat.{lt_of_lt_of_le}
use native.Mathlib.Omega.{arith}
use borrow.Author.Tests.{leb-true, leb-false}
use lib.Dec.{leb}
use lib.ListN.{length, take, drop, length-drop}
use Rattle.layout.specs.Answer.{pick}
use Rattle.layout.specs.Bytes.{number}
use Rattle.layout.proofs.laws.Reading.{at_most}
use Rattle.layout.proofs.laws.Writing.{take_least}
use Rattle.wire.proofs.field.number_of.Goals as goal

least-below : (m a b : ℕ) → m ≡ pick (leb a b) a b → (m ≤ a) × (m ≤ b)
least-below m a b e = go (leb a b) refl e
  where
    go : (t : Bool) → leb a b ≡ t → m ≡ pick t a b → (m ≤ a) × (m ≤ b)
    go true f e = let h = leb-true a b f in (omega arith, omega arith)
    go false f e = let h = leb-false a b f in (omega arith, omega arith)

-- so many bytes are asked for
asked : (s : List ℕ) (at w n l m : ℕ) → n ≡ pick (leb w 8) w 8 → l ≡ length s - at → m ≡ pick (leb n l) n l → (m ≤ 8) × (m ≤ length s - at) × (m ≤ w) × (take m (drop at s) ≡ take n (drop at s))
asked s at w n l m few left least =
    let (a, b) = least-below n w 8 few in
    let (c, d) = least-below m n l least in
    let there : l ≡ length (drop at s) = left ∙ sym (length-drop at s) in
    (omega arith, omega arith, omega arith, (take_least m n (drop at s) (least ∙ ap (λ k. pick (leb n k) n k) there)).0)

pub word-requires : goal.word-requires
word-requires c =
    let a = c.args in
    let (eight, there, few, same) = asked a.s.now a.at a.w _ _ _ c.least.ensures c.left.ensures c.least-2.ensures in
    (eight, there)

pub returns : goal.returns
returns c =
    let a = c.args in
    let n = c.least.result in
    let m = c.least-2.result in
    let (eight, there, few, same) = asked a.s.now a.at a.w n _ m c.least.ensures c.left.ensures c.least-2.ensures in
    (c.word.ensures.0 ∙ ap number same ∙ rw c.least.ensures, lt_of_lt_of_le c.word.ensures.1 (at_most {w = m} a.w few))
