-- `shots::collection::gather`: the new places, then the lists. Assumes nothing.
use mathlib.Core.Path.{sym, ◌∙◌}
use native.Mathlib.Omega.{arith}
use borrow.Author.Rules.{rules}
use Rattle.shots.proofs.Gatherings.{fronted_long, flags_long, gathered}
use Rattle.shots.proofs.collection.gather.Statement.{statement}
use Rattle.shots.proofs.collection.gather.Tie as tie

slice-reshare-prefix-number : tie.Need-slice_bounds-number-end
slice-reshare-prefix-number c = search rules

slice-aggregate-number : tie.Need-slice_bounds-number-end-2
slice-aggregate-number c = sym (flags_long c.requires.0)

number-requires : tie.Need-number-n-requires
number-requires c κs = let f = c.requires.0 in let n = flags_long f in (omega (arith, f.few), omega (arith, f.few, c.requires.1))

move-down-requires : tie.Need-move_down-requires
move-down-requires c κs = let b = c in let m = c.number-n.ensures in (b.requires.0, (fronted_long m.1 ∙ b.requires.1, m.0))

same_length : tie.Need-shape_of-handles
same_length c = search rules

same-length-2 : tie.Need-shape_of-parents
same-length-2 c = search rules

same-length-3 : tie.Need-shape_of-ends
same-length-3 c = search rules

same-length-4 : tie.Need-shape_of-marks
same-length-4 c = search rules

same-length-5 : tie.Need-shape_of-names
same-length-5 c = search rules

same-length-6 : tie.Need-shape_of-news
same-length-6 c = search rules

returns : tie.Need-returns
returns c = gathered c.requires.0 c.number-n.ensures.0 c.number-n.ensures.1 c.move_down.ensures

pub gather_spec : {M : Type 1} → statement M
gather_spec =
    tie.close
    (tie.spec
    slice-reshare-prefix-number
    slice-aggregate-number
    number-requires
    move-down-requires
    same_length
    same-length-2
    same-length-3
    same-length-4
    same-length-5
    same-length-6
    returns)
