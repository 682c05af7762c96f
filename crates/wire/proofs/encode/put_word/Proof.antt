-- `wire::encode::put_word`: the four bytes of the number, one after the other. Assumes nothing.
use native.Mathlib.Omega.{arith}
use borrow.Author.Rules.{rules}
use Prim.Native.Nat.{suc, ◌+◌, ◌/◌, ◌%◌}
use mathlib.Core.Path.{◌≡◌}
use lib.ListN.{length-set}
use Rattle.layout.specs.Bytes.{bytes}
use Rattle.layout.specs.Written.{put}
use Rattle.wire.proofs.encode.put_word.Statement.{statement}
use Rattle.wire.proofs.encode.put_word.Tie as tie

returns : tie.Need-returns
unfolding put bytes
returns c =
    let o = c.args.o in
    let v = c.args.value in
    let second : suc o ≡ o + 1 = omega arith in
    let third : suc (suc o) ≡ o + 2 = omega arith in
    let fourth : suc (suc (suc o)) ≡ o + 3 = omega arith in
    let high : v / 256 / 256 % 256 ≡ v / 65536 % 256 = omega arith in
    let highest : v / 256 / 256 / 256 % 256 ≡ v / 16777216 = omega arith in
    rw (fourth, third, second, high, highest)

pub put_word_spec : {M : Type 1} → statement M
put_word_spec =
    tie.close
    (tie.spec
    (λ c. search rules)
    (λ c. search rules)
    (λ c. search rules)
    (λ c. search rules)
    (λ c. simp length-set (omega arith))
    (λ c. search rules)
    (λ c. search rules)
    (λ c. simp length-set (omega arith))
    (λ c. search rules)
    (λ c. search rules)
    (λ c. simp length-set (omega arith))
    (λ c. search rules)
    returns)
