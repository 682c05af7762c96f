-- `shots::addition::add_named_linked`: the object in the table that there is room in, and its place at the end of a chain. Assumes nothing.
use mathlib.Core.Path.{sym}
use Prim.Native.Nat.{◌≤◌, ◌<◌}
use native.Mathlib.Omega.{arith}
use borrow.Author.Rules.{rules}
use lib.ListN.{length}
use lib.Seq.{length-take-le}
use Rattle.tree.proofs.laws.Accepted.{table_got}
use Rattle.tree.proofs.laws.Sound.{accepted, rows_long}
use Rattle.tree.specs.Table.{Table, table}
use Rattle.shots.specs.Added.{base}
use Rattle.shots.specs.Facts.{Fit, Room}
use Rattle.shots.proofs.Additions.{room_of, parent_new, news_long}
use Rattle.shots.proofs.Appending.{append_needs, added_links}
use Rattle.shots.proofs.Fits.{fit_of}
use Rattle.shots.proofs.Replies.{based_room, add_done, spare_got}
use Rattle.shots.proofs.addition.add_named_linked.Statement.{statement}
use Rattle.shots.proofs.addition.add_named_linked.Tie as tie

abbrev asked : tie.Start → Table
asked b =
    let a = b.args in
    table a.handles.now a.parents.now a.ends.now a.marks.now a.count a.names.now

-- the parent is a place
there : (b : tie.Start) → (b.args.parent < b.args.count) × (b.args.count ≤ 1024)
there b =
    let s = accepted (asked b) (sym b.requires.0) in
    let h = s.marks.place b.args.parent b.requires.1.1.0 in
    (omega (arith, rows_long s), s.few)

fits : (b : tie.Start) → Fit (asked b)
fits b = fit_of (accepted (asked b) (sym b.requires.0))

free : (b : tie.Start) → Room (base (asked b) (length b.args.name.now)) (length b.args.name.now)
free b = let x = spare_got _ _ _ _ b.requires.1.1.1.1.1.0 in room_of (fits b) _ x.0 x.1 b.requires.1.1.1.0 b.requires.1.1.1.1.0

make-room-linked-requires : tie.Need-make_room_linked-n-requires
make-room-linked-requires c κs = let b = c in ((table_got (asked c.before.before.before.before.before.before.before.before.before.before.before.before.before.before.before.before.before) b.requires.0).1, (b.requires.1.0, b.requires.1.1.1.1.1.1))

mul-p : tie.Need-offset_bounds-news-parent
mul-p c = let h = there c.before.before.before.before.before.before.before.before.before.before.before.before.before.before.before.before.before.before.before.before.before.before.before.before.before.before.before.before.before.before.before.before.before.before in omega (arith, h.0, h.1)

slice-read-p : tie.Need-bounds-news-parent
slice-read-p c =
    let b = c in
    let h = there c.before.before.before.before.before.before.before.before.before.before.before.before.before.before.before.before.before.before.before.before.before.before.before.before.before.before.before.before.before.before.before.before.before.before.before in
    let l = news_long (fits c.before.before.before.before.before.before.before.before.before.before.before.before.before.before.before.before.before.before.before.before.before.before.before.before.before.before.before.before.before.before.before.before.before.before.before) _ _ c.make_room_linked-n.ensures.0.news (omega (arith, h.1, b.requires.1.0)) in
    omega (arith, h.0, h.1, b.requires.1.0)

slice-reshare-prefix-append : tie.Need-slice_bounds-append-end
slice-reshare-prefix-append c = let m = c.make_room_linked-n.ensures.0 in let r = based_room m (free c.before.before.before.before.before.before.before.before.before.before.before.before.before.before.before.before.before.before.before.before.before.before.before.before.before.before.before.before.before.before.before.before.before.before.before) in omega (arith, r.free, r.parented)

slice-aggregate-append : tie.Need-slice_bounds-append-end-2
slice-aggregate-append c = let m = c.make_room_linked-n.ensures.0 in let r = based_room m (free c.before.before.before.before.before.before.before.before.before.before.before.before.before.before.before.before.before.before.before.before.before.before.before.before.before.before.before.before.before.before.before.before.before.before.before) in sym (length-take-le _ _ (omega (arith, r.free, r.parented)))

slice-reshare-prefix-append-2 : tie.Need-slice_bounds-append-end-3
slice-reshare-prefix-append-2 c = let m = c.make_room_linked-n.ensures.0 in let r = based_room m (free c.before.before.before.before.before.before.before.before.before.before.before.before.before.before.before.before.before.before.before.before.before.before.before.before.before.before.before.before.before.before.before.before.before.before.before) in omega (arith, r.free, r.flagged)

slice-aggregate-append-2 : tie.Need-slice_bounds-append-end-4
slice-aggregate-append-2 c = let m = c.make_room_linked-n.ensures.0 in let r = based_room m (free c.before.before.before.before.before.before.before.before.before.before.before.before.before.before.before.before.before.before.before.before.before.before.before.before.before.before.before.before.before.before.before.before.before.before.before) in sym (length-take-le _ _ (omega (arith, r.free, r.flagged)))

append-requires : tie.Need-append-requires
append-requires c κs = let b = c in let m = c.make_room_linked-n.ensures in append_needs (asked c.before.before.before.before.before.before.before.before.before.before.before.before.before.before.before.before.before.before.before.before.before.before.before.before.before.before.before.before.before.before.before.before.before.before.before.before.before) b.requires.0 b.args.parent b.requires.1.1.0 (free c.before.before.before.before.before.before.before.before.before.before.before.before.before.before.before.before.before.before.before.before.before.before.before.before.before.before.before.before.before.before.before.before.before.before.before.before.before) m.0 m.1

put-object-requires : tie.Need-put_object-requires
put-object-requires c κs = based_room c.make_room_linked-n.ensures.0 (free c.before.before.before.before.before.before.before.before.before.before.before.before.before.before.before.before.before.before.before.before.before.before.before.before.before.before.before.before.before.before.before.before.before.before.before.before.before.before.before.before.before.before.before.before.before.before.before)

same_length : tie.Need-shape_of-handles
same_length c = search rules

same-length-2 : tie.Need-shape_of-parents
same-length-2 c = search rules

same-length-3 : tie.Need-shape_of-ends
same-length-3 c = search rules

same-length-4 : tie.Need-shape_of-marks
same-length-4 c = search rules

same-length-5 : tie.Need-shape_of-names
same-length-5 c = search rules

same-length-6 : tie.Need-shape_of-first
same-length-6 c = search rules

same-length-7 : tie.Need-shape_of-next
same-length-7 c = search rules

same-length-8 : tie.Need-shape_of-news
same-length-8 c = search rules

returns : tie.Need-returns
returns c =
    let b = c in
    let x = spare_got _ _ _ _ b.requires.1.1.1.1.1.0 in
    let m = c.make_room_linked-n.ensures in
    let p = parent_new (fits c.before.before.before.before.before.before.before.before.before.before.before.before.before.before.before.before.before.before.before.before.before.before.before.before.before.before.before.before.before.before.before.before.before.before.before.before.before.before.before.before.before.before.before.before.before.before.before.before.before.before.before.before.before.before.before.before.before.before) _ _ m.0.news _ (there c.before.before.before.before.before.before.before.before.before.before.before.before.before.before.before.before.before.before.before.before.before.before.before.before.before.before.before.before.before.before.before.before.before.before.before.before.before.before.before.before.before.before.before.before.before.before.before.before.before.before.before.before.before.before.before.before.before.before).0 in
    (add_done x.0 x.1 m.0 p c.put_object.ensures, added_links (asked c.before.before.before.before.before.before.before.before.before.before.before.before.before.before.before.before.before.before.before.before.before.before.before.before.before.before.before.before.before.before.before.before.before.before.before.before.before.before.before.before.before.before.before.before.before.before.before.before.before.before.before.before.before.before.before.before.before.before) b.requires.0 b.args.parent b.requires.1.1.0 (free c.before.before.before.before.before.before.before.before.before.before.before.before.before.before.before.before.before.before.before.before.before.before.before.before.before.before.before.before.before.before.before.before.before.before.before.before.before.before.before.before.before.before.before.before.before.before.before.before.before.before.before.before.before.before.before.before.before.before) m.0 m.1 c.append.ensures _ _)

pub add_named_linked_spec : {M : Type 1} → statement M
add_named_linked_spec =
    tie.close
    (tie.spec
    make-room-linked-requires
    mul-p
    slice-read-p
    slice-reshare-prefix-append
    slice-aggregate-append
    slice-reshare-prefix-append-2
    slice-aggregate-append-2
    append-requires
    put-object-requires
    same_length
    same-length-2
    same-length-3
    same-length-4
    same-length-5
    same-length-6
    same-length-7
    same-length-8
    returns)
