-- `text::put_number`: the digits are made in a place of their own, which shows how many they are, and copied. Assumes nothing.
use mathlib.Core.Path.{◌∙◌}
use Rattle.text.proofs.laws.Numerals.{decimal_is, shown}
use Rattle.text.proofs.put_number.Goals as goal

pub returns : goal.returns
returns c =
    let d = c.decimal-k in
    rw (shown d.result _ _ (d.ensures.digits ∙ decimal_is _ d.result d.ensures.len)) at c.copy.ensures
