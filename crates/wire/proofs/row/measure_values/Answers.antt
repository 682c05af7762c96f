-- `wire::row::measure_values`: numbers are one span, UNDEF is nothing. Assumes nothing.
use mathlib.Core.Path.{◌∙◌}
use Rattle.layout.proofs.laws.Numbers.{bytes_of}
use Rattle.wire.specs.Says.{says_kind}
use Rattle.wire.proofs.NumberRows.{number_values, undef_values}
use Rattle.wire.proofs.row.measure_values.Goals as goal

pub returns-in-One : goal.returns-in-One
returns-in-One c =
    let a = c.args in
    let w = c.width_of.ensures in
    rw w.0 at c.measure_numbers.ensures ∙ number_values a.code a.n a.src.now a.first (bytes_of _ (λ i. (c.type_inv.src i).fits)) (says_kind c.in-One.k) c.in-One.ensures (rw w.0 at w.2)

pub returns-in-Undef : goal.returns-in-Undef
returns-in-Undef c = let a = c.args in undef_values a.code a.n a.src.now a.first c.in-Undef.ensures
