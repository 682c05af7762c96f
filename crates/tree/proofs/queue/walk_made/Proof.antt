-- `tree::queue::walk_made`: the links are made, and the walk goes by them. Assumes nothing.
use mathlib.Core.Path.{refl}
use borrow.Author.Rules.{rules}
use Rattle.tree.proofs.Passing.{unlinked, zeros}
use Rattle.tree.proofs.queue.walk_made.Statement.{statement}
use Rattle.tree.proofs.queue.walk_made.Tie as tie

slice-aggregate-link-ruled : tie.Need-slice_bounds-link_ruled-end
slice-aggregate-link-ruled c = search rules

slice-aggregate-link-ruled-2 : tie.Need-slice_bounds-link_ruled-end-2
slice-aggregate-link-ruled-2 c = search rules

link-ruled-requires : tie.Need-link_ruled-requires
link-ruled-requires c κs =
    let p = c.requires in
    (p.0, (p.1.0, unlinked _ _ p.1.1.0.place refl refl (zeros 1024) (zeros 1024)))

slice-aggregate-walk-ruled : tie.Need-slice_bounds-walk_ruled-end
slice-aggregate-walk-ruled c = search rules

slice-aggregate-walk-ruled-2 : tie.Need-slice_bounds-walk_ruled-end-2
slice-aggregate-walk-ruled-2 c = search rules

walk-ruled-requires : tie.Need-walk_ruled-requires
walk-ruled-requires c κs =
    let p = c.requires in
    (p.0, (p.1.1.0, (c.link_ruled.ensures, p.1.1.1)))

same_length : tie.Need-shape_of-places
same_length c = search rules

returns : tie.Need-returns
returns c = c.walk_ruled.ensures

pub walk_made_spec : {M : Type 1} → statement M
walk_made_spec =
    tie.close
    (tie.spec
    slice-aggregate-link-ruled
    slice-aggregate-link-ruled-2
    link-ruled-requires
    slice-aggregate-walk-ruled
    slice-aggregate-walk-ruled-2
    walk-ruled-requires
    same_length
    returns)
