-- `tree::every::put_by`: the parent's path put again, the slash and the name are one write. Assumes nothing.
use mathlib.Core.Path.{ap}
use native.Mathlib.Omega.{arith}
use borrow.Author.Rules.{rules}
use lib.ListN.{length, length-append}
use Rattle.layout.proofs.laws.Writing.{then, long}
use Rattle.tree.proofs.Routes.{path_root, path_step, size_step, then_slash}
use Rattle.tree.proofs.Onward.{copied_path}
use Rattle.tree.proofs.every.put_by.Statement.{statement}
use Rattle.tree.proofs.every.put_by.Tie as tie

put-name-requires : tie.Need-put_name-requires
put-name-requires c κs =
    let b = c in
    let a = b.args in
    let e = ap length (path_root a.parents.now a.ends.now a.names.now a.place c.if-place-eq0.true) in
    (b.requires.0.spaced, (omega (arith, b.requires.0.ended, b.requires.1.0), omega (arith, b.requires.1.1.1.1.1)))

same_length : tie.Need-shape_of-out-then-place-eq0
same_length c = search rules

returns : tie.Need-returns-then-place-eq0
returns c =
    let a = c.args in
    rw (path_root a.parents.now a.ends.now a.names.now a.place c.if-place-eq0.true) c.put_name.ensures

mul-q : tie.Need-offset_bounds-parents-place
mul-q c = search rules

shared-slice-read-q : tie.Need-bounds-parents-place
shared-slice-read-q c = search rules

cast-q : tie.Need-overflow_cast-q
cast-q c = omega (arith, c.shared_slice_known-6-1.given c.args.place)

mul-again : tie.Need-offset_bounds-starts-q
mul-again c = omega (arith, c.shared_slice_known-6-1.given c.args.place)

shared-slice-read-again : tie.Need-bounds-starts-q
shared-slice-read-again c =
    let b = c in
    let less = b.requires.0.ruling.smaller b.args.place (omega (arith, c.if-place-eq0.false)) b.requires.1.0 in
    omega (arith, b.requires.0.ruling.few, b.requires.1.0, b.requires.1.1.0.1)

mul-again-2 : tie.Need-offset_bounds-lens-q
mul-again-2 c = omega (arith, c.shared_slice_known-6-1.given c.args.place)

shared-slice-read-again-2 : tie.Need-bounds-lens-q
shared-slice-read-again-2 c =
    let b = c in
    let less = b.requires.0.ruling.smaller b.args.place (omega (arith, c.if-place-eq0.false)) b.requires.1.0 in
    omega (arith, b.requires.0.ruling.few, b.requires.1.0, b.requires.1.1.0.0)

again-requires : tie.Need-again-a-requires
again-requires c κs =
    let b = c in
    let a = b.args in
    let ne = c.if-place-eq0.false in
    let sum = size_step a.parents.now a.ends.now a.names.now b.requires.0.ruling a.place ne b.requires.1.0 in
    let size = (b.requires.1.1.1.0.up ne).size in
    let stands = (b.requires.1.1.1.1.0.up ne).before in
    (omega arith, omega (arith, b.requires.1.1.1.1.1))

slash-requires : tie.Need-slash-b-requires
slash-requires c κs = search rules

put-name-requires-2 : tie.Need-put_name-requires-2
put-name-requires-2 c κs =
    let b = c in
    let a = b.args in
    let ne = c.if-place-eq0.false in
    let sum = size_step a.parents.now a.ends.now a.names.now b.requires.0.ruling a.place ne b.requires.1.0 in
    let path = copied_path (b.requires.1.1.1.1.0.up ne) (b.requires.1.1.1.0.up ne) c.again-a.ensures in
    let row = then_slash path c.slash-b.ensures (omega (arith, b.requires.1.1.1.1.1)) in
    (b.requires.0.spaced, (omega (arith, b.requires.0.ended, b.requires.1.0), omega (arith, b.requires.1.1.1.1.1, row.place, long row, simp length-append at row.place)))

same-length-2 : tie.Need-shape_of-out
same-length-2 c = search rules

returns-2 : tie.Need-returns
returns-2 c =
    let b = c in
    let a = b.args in
    let ne = c.if-place-eq0.false in
    let sum = size_step a.parents.now a.ends.now a.names.now b.requires.0.ruling a.place ne b.requires.1.0 in
    let path = copied_path (b.requires.1.1.1.1.0.up ne) (b.requires.1.1.1.0.up ne) c.again-a.ensures in
    let row = then_slash path c.slash-b.ensures (omega (arith, b.requires.1.1.1.1.1)) in
    rw (path_step a.parents.now a.ends.now a.names.now b.requires.0.ruling a.place ne b.requires.1.0) (then row c.put_name-2.ensures)

pub put_by_spec : {M : Type 1} → statement M
put_by_spec =
    tie.close
    (tie.spec
    put-name-requires
    same_length
    returns
    mul-q
    shared-slice-read-q
    cast-q
    mul-again
    shared-slice-read-again
    mul-again-2
    shared-slice-read-again-2
    again-requires
    slash-requires
    put-name-requires-2
    same-length-2
    returns-2)
