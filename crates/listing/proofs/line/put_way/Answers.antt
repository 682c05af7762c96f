-- `listing::line::put_way`: one of two texts. Assumes nothing.
use Rattle.std.proofs.Common.{rules, eq-eqb, ne_eqb}
use Rattle.listing.specs.Lines.{way_text}
use Rattle.listing.proofs.line.put_way.Goals as goal

pub put_bytes-requires : goal.put_bytes-requires
unfolding way_text
put_bytes-requires c = rw (eq-eqb c.args.kind 1 c.if-kind-eq1.true) at c.requires

pub returns-then-kind-eq1 : goal.returns-then-kind-eq1
unfolding way_text
returns-then-kind-eq1 c = rw (eq-eqb c.args.kind 1 c.if-kind-eq1.true) c.put_bytes.ensures

pub put_bytes-requires-2 : goal.put_bytes-requires-2
unfolding way_text
put_bytes-requires-2 c = rw (ne_eqb c.args.kind 1 c.if-kind-eq1.false) at c.requires

pub returns : goal.returns
unfolding way_text
returns c = rw (ne_eqb c.args.kind 1 c.if-kind-eq1.false) c.put_bytes-2.ensures
