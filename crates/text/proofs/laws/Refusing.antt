-- The line of a refusal by its pieces; and it has room in 128 bytes.
-- Assumes nothing.
use mathlib.Core.Path.{◌≡◌, refl}
use mathlib.Core.Bool.{Bool, true, false}
use mathlib.Core.List.{List, [], ◌++◌}
use Prim.Native.Nat.{ℕ, ◌+◌, ◌^◌, ◌≤◌, ◌<◌}
use native.Mathlib.Omega.{arith}
use lib.ListN.{length, length-append}
use Rattle.layout.specs.Answer.{Told}
use Rattle.layout.specs.Written.{Put, roomed}
use Rattle.names.specs.Names.{spelled}
use Rattle.text.specs.Number.{decimal}
use Rattle.text.specs.Lines.{at_text, refusal_line}
use Rattle.text.proofs.laws.Numerals.{decimal_short}
use Rattle.text.proofs.laws.Row.{Line, begins, word, number, piece, left_room}

pub at_none : (t : Told) → t.placed ≡ false → at_text t ≡ []
unfolding at_text
at_none t e = rw e

pub at_some : (t : Told) → t.placed ≡ true → at_text t ≡ spelled " " ++ decimal t.at
unfolding at_text
at_some t e = rw e

pub at_length : (t : Told) → t.placed ≡ true → length (at_text t) ≡ length (decimal t.at) + 1
at_length t e = rw (at_some t e) (simp length-append (omega arith))

at_short : (t : Told) → t.at < 2 ^ 64 → length (at_text t) ≤ 21
at_short t h = go t.placed refl
  where
    go : (b : Bool) → t.placed ≡ b → length (at_text t) ≤ 21
    go true e = omega (arith, at_length t e, decimal_short t.at h)
    go false e = rw (at_none t e) (omega arith)

refusal_length : (place : ℕ) (t : Told) → length (refusal_line place t) ≡ length (decimal place) + length (decimal t.no) + length (at_text t) + 10
unfolding refusal_line
refusal_length place t = simp length-append (omega arith)

pub refusal_short : (place : ℕ) (t : Told) → place < 2 ^ 64 → t.no < 256 → t.at < 2 ^ 64 → length (refusal_line place t) ≤ 128
refusal_short place t h k l = omega (arith, refusal_length place t, decimal_short place h, decimal_short t.no (omega arith), at_short t l)

-- ── its pieces, put one after the other ──

module _ (place : ℕ) (t : Told) (h : place < 2 ^ 64) (k : t.no < 256) (l : t.at < 2 ^ 64) {out a b c : List ℕ} {i j n : ℕ} (wide : length out ≡ 128) (p : Put out 0 (roomed out 0 (decimal place)) a i)
    (q : Put a i (roomed a i (spelled " refusal ")) b j) (r : Put b j (roomed b j (decimal t.no)) c n) where
  three : Line out 0 (decimal place ++ spelled " refusal " ++ decimal t.no) 49 c n
  three = number (word (number (begins out 0) place h (omega arith) p) (spelled " refusal ") (omega arith) q) t.no (omega arith) (omega arith) r

  pub at_room : n + length (at_text t) ≤ length c
  at_room = left_room three (length (at_text t)) (omega (arith, at_short t l))

  pub refusal_put : {d e : List ℕ} {m o : ℕ} → Put c n (at_text t) d m → Put d m (roomed d m (spelled "\n")) e o → Put out 0 (refusal_line place t) e o × (o ≤ 128)
  unfolding refusal_line
  refusal_put s u =
      let all = word (piece three (at_text t) 21 (at_short t l) s) (spelled "\n") (omega arith) u in
      (all.puts, omega (arith, all.puts.place, all.short))
