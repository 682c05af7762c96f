-- `wire::tidy::put_form`: with no form, the byte alone. Assumes nothing.
use mathlib.Core.Path.{ap}
use native.Mathlib.Omega.{arith}
use Rattle.layout.specs.Bytes.{bytes}
use Rattle.layout.proofs.laws.Writing.{roomy}
use Rattle.wire.specs.Property.{says_form}
use Rattle.wire.specs.TidyProperty.{form_word}
use Rattle.wire.proofs.tidy.put_form.Goals as goal

pub returns-in-Absent : goal.returns-in-Absent
unfolding form_word
returns-in-Absent c =
    let k = rw (ap says_form c.in-Absent.is) at c.requires.f_in_bounds in
    rw (ap says_form c.in-Absent.is) (roomy (bytes 1 0) c.store.ensures (omega arith))
