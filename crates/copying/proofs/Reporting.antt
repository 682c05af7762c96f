-- The report's line by its pieces; and it has room in 128 bytes.
-- Assumes nothing.
use Rattle.std.proofs.Common.{◌≡◌, ℕ, ◌^◌, ◌<◌, ◌≤◌, List, length, arith}
use Rattle.layout.specs.Written.{Put, roomed}
use Rattle.names.specs.Names.{spelled}
use Rattle.text.specs.Number.{decimal}
use Rattle.text.proofs.laws.Row.{begins, word, number}
use Rattle.copying.specs.Report.{left_line}

pub left_put : (records bytes : ℕ) → records < 2 ^ 64 → bytes < 2 ^ 64 → {out a b c d e : List ℕ} {i j k l n : ℕ} → length out ≡ 128 → Put out 0 (roomed out 0 (spelled "left out ")) a i → Put a i (roomed a i (decimal records)) b j →
    Put b j (roomed b j (spelled " records ")) c k → Put c k (roomed c k (decimal bytes)) d l → Put d l (roomed d l (spelled " bytes\n")) e n → Put out 0 (left_line records bytes) e n × (n ≤ length out)
unfolding left_line
left_put records bytes h k {out} wide p q r s t =
    let l = word (number (word (number (word (begins out 0) (spelled "left out ") (omega arith) p) records h (omega arith) q) (spelled " records ") (omega arith) r) bytes k (omega arith) s) (spelled " bytes\n") (omega arith) t in
    (l.puts, omega (arith, l.puts.place, l.short))
