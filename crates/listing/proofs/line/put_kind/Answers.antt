-- `listing::line::put_kind`: one of four texts. Assumes nothing.
use Rattle.std.proofs.Common.{rules, eq-eqb, ne_eqb}
use Rattle.listing.specs.Lines.{kind_text}
use Rattle.listing.proofs.line.put_kind.Goals as goal

pub put_bytes-requires : goal.put_bytes-requires
unfolding kind_text
put_bytes-requires c =
    let k = c.args.kind in
    rw (eq-eqb k 1 c.if-kind-eq1.true) at c.requires

pub returns-then-kind-eq1 : goal.returns-then-kind-eq1
unfolding kind_text
returns-then-kind-eq1 c =
    let k = c.args.kind in
    rw (eq-eqb k 1 c.if-kind-eq1.true) c.put_bytes.ensures

pub put_bytes-requires-then-kind-eq2 : goal.put_bytes-requires-then-kind-eq2
unfolding kind_text
put_bytes-requires-then-kind-eq2 c =
    let k = c.args.kind in
    rw (ne_eqb k 1 c.if-kind-eq1.false, eq-eqb k 2 c.if-kind-eq2.true) at c.requires

pub returns-then-kind-eq2 : goal.returns-then-kind-eq2
unfolding kind_text
returns-then-kind-eq2 c =
    let k = c.args.kind in
    rw (ne_eqb k 1 c.if-kind-eq1.false, eq-eqb k 2 c.if-kind-eq2.true) c.put_bytes-then-kind-eq2.ensures

pub put_bytes-requires-then-kind-eq3 : goal.put_bytes-requires-then-kind-eq3
unfolding kind_text
put_bytes-requires-then-kind-eq3 c =
    let k = c.args.kind in
    rw (ne_eqb k 1 c.if-kind-eq1.false, ne_eqb k 2 c.if-kind-eq2.false, eq-eqb k 3 c.if-kind-eq3.true) at c.requires

pub returns-then-kind-eq3 : goal.returns-then-kind-eq3
unfolding kind_text
returns-then-kind-eq3 c =
    let k = c.args.kind in
    rw (ne_eqb k 1 c.if-kind-eq1.false, ne_eqb k 2 c.if-kind-eq2.false, eq-eqb k 3 c.if-kind-eq3.true) c.put_bytes-then-kind-eq3.ensures

pub put_bytes-requires-2 : goal.put_bytes-requires-2
unfolding kind_text
put_bytes-requires-2 c =
    let k = c.args.kind in
    rw (ne_eqb k 1 c.if-kind-eq1.false, ne_eqb k 2 c.if-kind-eq2.false, ne_eqb k 3 c.if-kind-eq3.false) at c.requires

pub returns : goal.returns
unfolding kind_text
returns c =
    let k = c.args.kind in
    rw (ne_eqb k 1 c.if-kind-eq1.false, ne_eqb k 2 c.if-kind-eq2.false, ne_eqb k 3 c.if-kind-eq3.false) c.put_bytes-2.ensures
