-- `wire::tidy::put_values`: what is no string is copied as it stands. Assumes nothing.
use mathlib.Core.Path.{ap}
use lib.ListN.{length}
use native.Mathlib.Omega.{arith}
use Rattle.layout.proofs.laws.Numbers.{bytes_of}
use Rattle.layout.proofs.laws.Writing.{roomy}
use Rattle.wire.proofs.TidyCopied.{values_copied}
use Rattle.wire.proofs.tidy.put_values.Goals as goal

pub returns-then-code-ne-STRING : goal.returns-then-code-ne-STRING
returns-then-code-ne-STRING c =
    let a = c.args in
    let e = values_copied a.code a.n a.src.now a.at c.if-code-ne-STRING.true (bytes_of _ (λ i. (c.type_inv.src i).fits)) c.requires.at_value _ c.values_len.ensures.0 in
    rw e (roomy _ c.copy.ensures (omega (arith, ap length e, c.requires.at_in_bounds)))
