-- `wire::text::is_ascii`: the largest is below 0x80. Assumes nothing.
use native.Mathlib.Omega.{arith}
use borrow.Author.Rules.{rules}
use borrow.Author.Tests.{ltb-true}
use lib.ListN.{drop}
use Rattle.layout.specs.Bytes.{cells}
use Rattle.layout.proofs.laws.Numbers.{zero_one}
use Rattle.wire.proofs.Small.{above_more}
use Rattle.wire.proofs.text.is_ascii.Statement.{statement}
use Rattle.wire.proofs.text.is_ascii.Tie as tie

pub is_ascii_spec : {M : Type 1} → statement M
is_ascii_spec =
    tie.close
    (tie.spec
    (λ c κs. search rules)
    (λ c e. zero_one (cc))
    (λ c κs. search rules)
    (λ c e.
    let a = c.args in
    above_more (cells 2 a.n (drop a.at a.s.now)) (omega (arith, ltb-true c.largest-2.result 0x80 e)) c.largest-2.ensures))
