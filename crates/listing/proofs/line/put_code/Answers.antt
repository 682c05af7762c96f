-- `listing::line::put_code`: the name that stands at its place, or four digits. Assumes nothing.
use Rattle.std.proofs.Common.{◌+◌, ◌≤◌, length, arith}
use Rattle.listing.proofs.Pieces.{code_at, code_nameless}
use Rattle.listing.proofs.line.put_code.Goals as goal

pub slice_bounds-put_name-end : goal.slice_bounds-put_name-end
slice_bounds-put_name-end c = rw c.requires.0 c.in-Some.ensures.1

pub overflow_add-p : goal.overflow_add-p
overflow_add-p c = let e : c.in-Some.p.start + c.in-Some.p.len ≤ length c.args.names.now = rw c.requires.0 c.in-Some.ensures.1 in omega (arith, e)

pub put_name-requires : goal.put_name-requires
put_name-requires c = rw (code_at c.args.names.now c.args.kind c.args.code c.in-Some.p.start c.in-Some.p.len c.requires.0 c.in-Some.ensures.0) c.requires.1

pub put_hex-requires : goal.put_hex-requires
put_hex-requires c = rw (code_nameless c.args.kind c.args.code c.in-None.ensures.0) at c.requires.1

pub returns-in-Some : goal.returns-in-Some
returns-in-Some c = rw (code_at c.args.names.now c.args.kind c.args.code c.in-Some.p.start c.in-Some.p.len c.requires.0 c.in-Some.ensures.0) at c.put_name.ensures

pub returns-in-None : goal.returns-in-None
returns-in-None c = rw (code_nameless c.args.kind c.args.code c.in-None.ensures.0) c.put_hex.ensures
