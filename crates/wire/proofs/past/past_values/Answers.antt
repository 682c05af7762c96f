-- By the type's shape; numbers are one span. Assumes nothing.
use mathlib.Core.Path.{◌∙◌, sym}
use Rattle.layout.proofs.laws.Reading.{heard}
use Rattle.wire.specs.Says.{says_kind, says_shape}
use Rattle.wire.proofs.Passed.{passed_numbers, passed_undef}
use Rattle.wire.proofs.past.past_values.Goals as goal

pub returns-in-One : goal.returns-in-One
returns-in-One c =
    let a = c.args in
    let w = c.width_of.ensures in
    let is = heard says_shape c.in-One.is c.shape_of.ensures in
    rw w.0 at c.past_numbers.ensures ∙ passed_numbers a.code a.src.now (says_kind c.in-One.k) is (rw w.0 at w.2) a.n a.first

pub returns-in-Undef : goal.returns-in-Undef
returns-in-Undef c = sym (passed_undef c.args.code c.args.src.now (heard says_shape c.in-Undef.is c.shape_of.ensures) c.args.n c.args.first)
