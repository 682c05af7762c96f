-- `shots::addition::make_room`: collected, or each its own place. Assumes nothing.
use mathlib.Core.Path.{sym, ◌∙◌}
use borrow.Author.Rules.{rules}
use Rattle.shots.proofs.Additions.{based_tight, based_own}
use Rattle.shots.proofs.addition.make_room.Statement.{statement}
use Rattle.shots.proofs.addition.make_room.Tie as tie

is-tight-requires : tie.Need-is_tight-requires
is-tight-requires c κs = search rules

gather-requires : tie.Need-gather-requires
gather-requires c κs = search rules

same_length : tie.Need-shape_of-handles-then-is_tight
same_length c = search rules

same-length-2 : tie.Need-shape_of-parents-then-is_tight
same-length-2 c = search rules

same-length-3 : tie.Need-shape_of-ends-then-is_tight
same-length-3 c = search rules

same-length-4 : tie.Need-shape_of-marks-then-is_tight
same-length-4 c = search rules

same-length-5 : tie.Need-shape_of-names-then-is_tight
same-length-5 c = search rules

same-length-6 : tie.Need-shape_of-news-then-is_tight
same-length-6 c = search rules

returns : tie.Need-returns-then-is_tight
returns c = based_tight c.requires.0 _ (sym c.is_tight.ensures ∙ c.if-is_tight.true) c.gather.ensures

own-requires : tie.Need-own-requires
own-requires c κs = search rules

same-length-7 : tie.Need-shape_of-handles
same-length-7 c = search rules

same-length-8 : tie.Need-shape_of-parents
same-length-8 c = search rules

same-length-9 : tie.Need-shape_of-ends
same-length-9 c = search rules

same-length-10 : tie.Need-shape_of-marks
same-length-10 c = search rules

same-length-11 : tie.Need-shape_of-names
same-length-11 c = search rules

same-length-12 : tie.Need-shape_of-news
same-length-12 c = search rules

returns-2 : tie.Need-returns
returns-2 c = based_own c.requires.0 _ (sym c.is_tight.ensures ∙ c.if-is_tight.false) c.own.ensures

pub make_room_spec : {M : Type 1} → statement M
make_room_spec =
    tie.close
    (tie.spec
    is-tight-requires
    gather-requires
    same_length
    same-length-2
    same-length-3
    same-length-4
    same-length-5
    same-length-6
    returns
    own-requires
    same-length-7
    same-length-8
    same-length-9
    same-length-10
    same-length-11
    same-length-12
    returns-2)
