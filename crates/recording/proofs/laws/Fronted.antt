-- Laws of the record at the front of bytes: alone, with other bytes behind it, it is the same record; and a row of records is the first and, moved behind it, the row of the rest.
-- Assumes nothing.
use mathlib.Core.Path.{◌≡◌, refl, sym, ap, ◌∙◌}
use mathlib.Core.Bool.{false}
use mathlib.Core.List.{List, ◌∷◌, ◌++◌, map}
use Prim.Native.Nat.{ℕ, ◌+◌, ◌≤◌, ◌<◌}
use native.Mathlib.Omega.{arith}
use lib.ListN.{length, take, drop, length-drop, take-append-drop}
use lib.Seq.{length-take-le, take-take, take-append-le, drop-append-le}
use Rattle.layout.specs.Answer.{Told, Answer, got, refused, means}
use Rattle.layout.specs.Bytes.{number}
use Rattle.layout.proofs.laws.Accepted.{Accepts, accepted}
use Rattle.layout.proofs.laws.Reading.{drop_take}
use Rattle.layout.proofs.laws.Numbers.{zero_one}
use Rattle.wire.specs.Refused.{announced}
use Rattle.wire.specs.Tests.{holds, fails, otherwise}
use Rattle.recording.specs.Content.{Record}
use Rattle.recording.specs.Record.{limit, head_at, record_of}
use Rattle.recording.specs.Refused.{Cut, in_front, in_body}
use Rattle.recording.specs.Row.{row_from, row_of, is_cut}
use Rattle.recording.specs.Copied.{move}
use Rattle.recording.specs.declared.Head.{Head}
use Rattle.recording.proofs.Judged.{HeadSays, head_judged}
use Rattle.recording.proofs.Lasting.{cut_says, cut_one}
use Rattle.recording.proofs.Moved.{shifted, row_moved}
use Rattle.recording.proofs.Placed.{record_head, row_got, row_refused, row_enough}
use Rattle.recording.proofs.laws.Rowed.{Placed, record_placed, Stands, record_stands, uncut_same}

-- ── a record alone ──

-- a record's body, from its own bytes with others behind them
pub body_same : (s w : List ℕ) (c : ℕ) → 6 + c ≤ length s → take c (drop 6 s) ≡ take c (drop 6 (take (6 + c) s ++ w))
body_same s w c h =
    let b = take (6 + c) s in
    let long : length b ≡ 6 + c = length-take-le (6 + c) s h in
    sym
    (ap (take c) (drop-append-le 6 b w (omega (arith, long)))
    ∙ take-append-le c (drop 6 b) w (omega (arith, long, length-drop 6 b))
    ∙ ap (take c) (drop_take 6 c s)
    ∙ take-take c c (drop 6 s) (omega arith))

module _ (v : List ℕ) where
  -- a head ends where it announces, which is within the limit
  head_ends : Accepts (λ h n. (n ≡ announced v) × (n ≤ 6 + limit)) (head_at v 0)
  head_ends = go (head_judged v)
    where
      go : {x : Answer Head} → HeadSays v x → Accepts (λ h n. (n ≡ announced v) × (n ≤ 6 + limit)) x
      go (holds h) = tt
      go (fails a (holds h)) = tt
      go (fails a (fails b (holds h))) = tt
      go (fails a (fails b (fails c (holds h)))) = tt
      go (fails a (fails b (fails c (fails d (holds h))))) = tt
      go (fails a (fails b (fails c (fails d (fails e otherwise))))) = (refl, omega arith)

  -- its own bytes are not cut
  own_uncut : {x : Record} {n : ℕ} → got x n ≡ record_of v → is_cut (take n v) ≡ false
  own_uncut {x} {n} e =
      let p = accepted (Placed v 0) (record_placed v 0) e in
      let long : length (take n v) ≡ n = length-take-le n v p.within in
      let all : n ≡ announced v = (accepted _ head_ends (accepted _ (record_head v 0) e)).0 in
      let head : announced (take n v) ≡ announced v = ap number (take-take 4 n v (omega (arith, p.till))) in
      cut_one (take n v) (is_cut (take n v)) false (cut_says (take n v) (is_cut (take n v)) refl) (fails (not_cut n (omega (arith, p.till)) long (head ∙ sym all)) otherwise)
    where
      not_cut : (n : ℕ) → 6 ≤ n → length (take n v) ≡ n → announced (take n v) ≡ n → Cut (take n v) → ⊥
      not_cut n six long all (in_front h) = omega arith
      not_cut n six long all (in_body _ _ _ _ _ h) = omega arith

  -- so it is read from them, whatever follows
  pub record_before : {x : Record} {n : ℕ} → got x n ≡ record_of v → (w : List ℕ) → record_of (take n v ++ w) ≡ got x n
  record_before {x} {n} e w =
      let uncut = own_uncut e in
      uncut_same (take n v) w uncut ∙ sym (uncut_same (take n v) (drop n v) uncut) ∙ ap (λ u. record_of u) (take-append-drop n v) ∙ sym e

-- ── how long a record is ──

-- its body is within the limit, and the six bytes precede it
pub record_most : (s : List ℕ) {x : Record} {n : ℕ} → got x n ≡ record_of s → n ≤ 6 + limit
record_most s e = (accepted _ (head_ends s) (accepted _ (record_head s 0) e)).1

-- ── a row by its first record ──

module _ (s : List ℕ) {x : Record} {n : ℕ} (e : got x n ≡ record_of s) where
  stood : Stands s x n
  stood = accepted (Stands s) (record_stands s) e

  row_front : row_of s ≡ means (λ zs. x ∷ zs) (shifted (map (move n)) n (row_of (drop n s)))
  unfolding row_of
  row_front =
      let size : length (take n s) ≡ n = length-take-le n s stood.within in
      let place : n ≡ length (take n s) + 0 = omega (arith, size) in
      let behind : row_from (length s) s n ≡ shifted (map (move n)) n (row_from (length s) (drop n s) 0) =
      ap (λ v. row_from (length s) v n) (sym (take-append-drop n s)) ∙ ap (row_from (length s) (take n s ++ drop n s)) place ∙ row_moved (take n s) (length s) (drop n s) 0
      ∙ ap (λ k. shifted (map (move k)) k (row_from (length s) (drop n s) 0)) size in
      let fuel : row_from (length s) (drop n s) 0 ≡ row_from (length (drop n s)) (drop n s) 0 = row_enough (length s) (length (drop n s)) (drop n s) 0 (omega (arith, length-drop n s)) (omega arith) in
      row_got s 0 (omega (arith, stood.till, stood.within)) e ∙ ap (means (λ zs. x ∷ zs)) (behind ∙ ap (shifted (map (move n)) n) fuel)

  -- the rest's row is accepted: so is the whole
  pub row_join : {ys : List Record} {k : ℕ} → row_of (drop n s) ≡ got ys k → row_of s ≡ got (x ∷ map (move n) ys) (n + k)
  unfolding means
  row_join f = row_front ∙ ap (λ y. means (λ zs. x ∷ zs) (shifted (map (move n)) n y)) f

  -- and so is the rest's where the whole is
  pub record Rest (xs : List Record) (m : ℕ) : Type 0 where
    pub records : List Record
    pub end : ℕ
    pub row : row_of (drop n s) ≡ got records end
    pub all : xs ≡ x ∷ map (move n) records

  pub row_rest : {xs : List Record} {m : ℕ} → row_of s ≡ got xs m → Rest xs m
  unfolding means
  row_rest {xs} {m} f = go (row_of (drop n s)) refl (sym f ∙ row_front)
    where
      go : (y : Answer (List Record)) → row_of (drop n s) ≡ y → got xs m ≡ means (λ zs. x ∷ zs) (shifted (map (move n)) n y) → Rest xs m
      go (got ys k) g h = record { records = ys; end = k; row = g; all = cc }
      go (refused t) g h = zero_one (cc)

-- where no record stands at the front, no row does
pub row_not : (s : List ℕ) {t : Told} → 0 < length s → refused t ≡ record_of s → row_of s ≡ refused t
unfolding row_of
row_not s h e = row_refused s 0 h e
