-- `tree::view::view_made`: the links are made, and the cycle goes by them from the root. Assumes nothing.
use mathlib.Core.Path.{refl, ap}
use native.Mathlib.Omega.{arith}
use borrow.Author.Rules.{rules}
use lib.ListN.{length}
use Rattle.tree.proofs.Passing.{unlinked, zeros}
use Rattle.tree.proofs.Viewing.{made_down, made_view, view_room}
use Rattle.tree.proofs.view.view_made.Statement.{statement}
use Rattle.tree.proofs.view.view_made.Tie as tie

slice-aggregate-link-ruled : tie.Need-slice_bounds-link_ruled-end
slice-aggregate-link-ruled c = search rules

slice-aggregate-link-ruled-2 : tie.Need-slice_bounds-link_ruled-end-2
slice-aggregate-link-ruled-2 c = search rules

link-ruled-requires : tie.Need-link_ruled-requires
link-ruled-requires c κs =
    let p = c.requires in
    (p.0, (p.1.0, unlinked _ _ p.1.1.0.place refl refl (zeros 1024) (zeros 1024)))

slice-aggregate-entry : tie.Need-slice_bounds-entry-end
slice-aggregate-entry c = search rules

slice-aggregate-entry-2 : tie.Need-slice_bounds-entry-end-2
slice-aggregate-entry-2 c = search rules

entry-requires : tie.Need-entry-requires
entry-requires c κs =
    let p = c.requires in
    let links = c.link_ruled.ensures in
    let room = view_room p.0 p.1.1.0 in
    let same = ap length (made_view p.0 p.1.1.0 links) in
    let n = links.firsts in
    (made_down p.0 p.1.1.0 links, (omega arith, omega (arith, p.1.1.1)))

same_length : tie.Need-shape_of-places
same_length c = search rules

returns : tie.Need-returns
returns c =
    let e = c in
    let p = e.requires in
    rw (made_view p.0 p.1.1.0 e.link_ruled.ensures) at c.entry.ensures

pub view_made_spec : {M : Type 1} → statement M
view_made_spec =
    tie.close
    (tie.spec
    slice-aggregate-link-ruled
    slice-aggregate-link-ruled-2
    link-ruled-requires
    slice-aggregate-entry
    slice-aggregate-entry-2
    entry-requires
    same_length
    returns)
