-- The report's lines by their pieces, and how long they are at most; and lines of stretches one after the other.
-- Assumes nothing.
use Rattle.std.proofs.Common.{◌≡◌, ℕ, zero, suc, ◌+◌, ◌-◌, ◌%◌, ◌^◌, ◌<◌, ◌≤◌, List, [], ◌∷◌, ◌++◌, length, get_or, take, sym, refl, ap, ◌∙◌, append_assoc, append-nil, not-suc-le-zero, arith}
use Rattle.layout.specs.Written.{Put, roomed}
use Rattle.names.specs.Names.{spelled}
use Rattle.text.specs.Number.{decimal}
use Rattle.text.proofs.laws.Row.{begins, word, number}
use Rattle.wire.specs.declared.Part.{Part}
use Rattle.mending.specs.Report.{stretch_line, lines_of, stretch_lines, counts_line}

pub stretch_put : (start count : ℕ) → start < 2 ^ 64 → count < 2 ^ 64 → {out a b c d : List ℕ} {at i j k n : ℕ} → at + 50 ≤ length out → Put out at (roomed out at (decimal start)) a i → Put a i (roomed a i (spelled " dropped ")) b j →
    Put b j (roomed b j (decimal count)) c k → Put c k (roomed c k (spelled "\n")) d n → Put out at (stretch_line start count) d n × (n ≤ at + 50)
unfolding stretch_line
stretch_put start count h k {out} {at = at} room p q r s =
    let l = word (number (word (number (begins out at) start h (omega arith) p) (spelled " dropped ") (omega arith) q) count k (omega arith) r) (spelled "\n") (omega arith) s in
    (l.puts, omega (arith, l.puts.place, l.short))

pub counts_put : (records bytes stretches dropped : ℕ) → records < 2 ^ 64 → bytes < 2 ^ 64 → stretches < 2 ^ 64 → dropped < 2 ^ 64 → {out a b c d e f g h new : List ℕ} {i j k l m o p q n : ℕ} → 140 ≤ length out →
    Put out 0 (roomed out 0 (spelled "kept ")) a i → Put a i (roomed a i (decimal records)) b j → Put b j (roomed b j (spelled " records ")) c k → Put c k (roomed c k (decimal bytes)) d l →
    Put d l (roomed d l (spelled " bytes, dropped ")) e m → Put e m (roomed e m (decimal stretches)) f o → Put f o (roomed f o (spelled " stretches ")) g p → Put g p (roomed g p (decimal dropped)) h q →
    Put h q (roomed h q (spelled " bytes\n")) new n → Put out 0 (counts_line records bytes stretches dropped) new n × (n ≤ length out)
unfolding counts_line
counts_put records bytes stretches dropped w x y z {out} room s₁ s₂ s₃ s₄ s₅ s₆ s₇ s₈ s₉ =
    let l₁ = number (word (begins out 0) (spelled "kept ") (omega arith) s₁) records w (omega arith) s₂ in
    let l₂ = number (word l₁ (spelled " records ") (omega arith) s₃) bytes x (omega arith) s₄ in
    let l₃ = number (word l₂ (spelled " bytes, dropped ") (omega arith) s₅) stretches y (omega arith) s₆ in
    let l₄ = number (word l₃ (spelled " stretches ") (omega arith) s₇) dropped z (omega arith) s₈ in
    let l = word l₄ (spelled " bytes\n") (omega arith) s₉ in
    (l.puts, omega (arith, l.puts.place, l.short))

-- ── lines one after the other ──

-- of the first stretches, and of one more
pub lines_more : (ss ls : List ℕ) (i : ℕ) → i < length ss → i < length ls → lines_of (take (suc i) ss) (take (suc i) ls) ≡ lines_of (take i ss) (take i ls) ++ stretch_line (get_or ss i 0) (get_or ls i 0)
unfolding lines_of
lines_more [] ls i h k = absurd (not-suc-le-zero h)
lines_more (s ∷ ss) [] i h k = absurd (not-suc-le-zero k)
lines_more (s ∷ ss) (l ∷ ls) zero h k = append-nil (stretch_line s l)
lines_more (s ∷ ss) (l ∷ ls) (suc i) h k =
    ap (λ v. stretch_line s l ++ v) (lines_more ss ls i (omega arith) (omega arith)) ∙ sym (append_assoc (stretch_line s l) (lines_of (take i ss) (take i ls)) (stretch_line (get_or ss i 0) (get_or ls i 0)))

pub lines_append : (ps qs : List Part) → stretch_lines (ps ++ qs) ≡ stretch_lines ps ++ stretch_lines qs
unfolding lines_of
lines_append [] qs = refl
lines_append (p ∷ ps) qs = ap (λ v. stretch_line p.start p.count ++ v) (lines_append ps qs) ∙ sym (append_assoc (stretch_line p.start p.count) (stretch_lines ps) (stretch_lines qs))

pub no_lines : lines_of [] [] ≡ []
unfolding lines_of
no_lines = refl

-- a difference in 64 bits
pub less : (r a b : ℕ) → r < 2 ^ 64 → b < 2 ^ 64 → (r + b) % 2 ^ 64 ≡ a → r ≡ (a + 2 ^ 64 - b) % 2 ^ 64
less r a b h k e = omega arith
