-- `settings::entry::is_known`: each edition by itself. Assumes nothing.
use mathlib.Core.Path.{ap, sym}
use borrow.Author.Tests.{eq-eqb, ne_eqb}
use Rattle.settings.specs.Layout.{knows}
use Rattle.settings.proofs.entry.is_known.Goals as goal

pub returns-in-One : goal.returns-in-One
returns-in-One c = ap (λ e. knows e c.args.kind) (sym c.in-One.is)

pub returns-then-kind-eq-ANY : goal.returns-then-kind-eq-ANY
returns-then-kind-eq-ANY c = rw (c.in-Two.is, eq-eqb c.args.kind 16 c.if-kind-eq-ANY.true)

pub returns-else-kind-eq-ANY : goal.returns-else-kind-eq-ANY
returns-else-kind-eq-ANY c = rw (c.in-Two.is, ne_eqb c.args.kind 16 c.if-kind-eq-ANY.false)
