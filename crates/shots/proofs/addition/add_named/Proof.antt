-- `shots::addition::add_named`: the object in the table that there is room in. Assumes nothing.
use borrow.Author.Rules.{rules}
use Rattle.shots.proofs.Additions.{room_of, parent_new}
use Rattle.shots.proofs.Replies.{based_room, add_done, spare_got}
use Rattle.shots.proofs.addition.add_named.Statement.{statement}
use Rattle.shots.proofs.addition.add_named.Tie as tie

make-room-requires : tie.Need-make_room-n-requires
make-room-requires c κs = search rules

mul-p : tie.Need-offset_bounds-news-parent
mul-p c = search rules

slice-read-p : tie.Need-bounds-news-parent
slice-read-p c = search rules

put-object-requires : tie.Need-put_object-requires
put-object-requires c κs =
    let b = c in
    let x = spare_got _ _ _ _ b.requires.1.1.1.1.1 in
    based_room c.make_room-n.ensures (room_of b.requires.0 _ x.0 x.1 b.requires.1.1.1.0 b.requires.1.1.1.1.0)

same_length : tie.Need-shape_of-handles
same_length c = search rules

same-length-2 : tie.Need-shape_of-parents
same-length-2 c = search rules

same-length-3 : tie.Need-shape_of-ends
same-length-3 c = search rules

same-length-4 : tie.Need-shape_of-marks
same-length-4 c = search rules

same-length-5 : tie.Need-shape_of-names
same-length-5 c = search rules

same-length-6 : tie.Need-shape_of-news
same-length-6 c = search rules

returns : tie.Need-returns
returns c =
    let b = c in
    let x = spare_got _ _ _ _ b.requires.1.1.1.1.1 in
    let m = c.make_room-n.ensures in
    add_done x.0 x.1 m (parent_new b.requires.0 _ _ m.news _ b.requires.1.1.0) c.put_object.ensures

pub add_named_spec : {M : Type 1} → statement M
add_named_spec =
    tie.close
    (tie.spec
    make-room-requires
    mul-p
    slice-read-p
    put-object-requires
    same_length
    same-length-2
    same-length-3
    same-length-4
    same-length-5
    same-length-6
    returns)
