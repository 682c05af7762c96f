-- `shots::collection::gather_linked`: the new places, the links, then the lists. Assumes nothing.
use mathlib.Core.Path.{sym, ◌∙◌}
use native.Mathlib.Omega.{arith}
use borrow.Author.Rules.{rules}
use Rattle.shots.proofs.Carrying.{first_hung, next_hung, collected_links}
use Rattle.shots.proofs.Fits.{fit_by}
use Rattle.shots.proofs.Gatherings.{fronted_long, flags_long, gathered}
use Rattle.shots.proofs.collection.gather_linked.Statement.{statement}
use Rattle.shots.proofs.collection.gather_linked.Tie as tie

slice-reshare-prefix-number : tie.Need-slice_bounds-number-end
slice-reshare-prefix-number c = search rules

slice-aggregate-number : tie.Need-slice_bounds-number-end-2
slice-aggregate-number c = sym (flags_long (fit_by c.requires.0))

number-requires : tie.Need-number-n-requires
number-requires c κs = let b = c in let f = fit_by b.requires.0 in let n = flags_long f in (omega (arith, f.few), omega (arith, f.few, b.requires.1.0))

slice-reshare-prefix-carry : tie.Need-slice_bounds-carry-end
slice-reshare-prefix-carry c = search rules

slice-aggregate-carry : tie.Need-slice_bounds-carry-end-2
slice-aggregate-carry c = sym (flags_long (fit_by c.requires.0))

carry-requires : tie.Need-carry-requires
carry-requires c κs =
    let b = c in
    let f = fit_by b.requires.0 in
    let n = flags_long f in
    let news = fronted_long c.number-n.ensures.1 in
    let links = b.requires.1.1 in
    (omega (arith, f.few), (omega (arith, f.few, links.firsts), first_hung b.requires.0 links (omega (arith, b.requires.1.0))))

slice-reshare-prefix-carry-2 : tie.Need-slice_bounds-carry-end-3
slice-reshare-prefix-carry-2 c = search rules

slice-aggregate-carry-2 : tie.Need-slice_bounds-carry-end-4
slice-aggregate-carry-2 c = sym (flags_long (fit_by c.requires.0))

carry-requires-2 : tie.Need-carry-requires-2
carry-requires-2 c κs =
    let b = c in
    let f = fit_by b.requires.0 in
    let n = flags_long f in
    let news = fronted_long c.number-n.ensures.1 in
    let links = b.requires.1.1 in
    (omega (arith, f.few), (omega (arith, f.few, links.nexts), next_hung b.requires.0 links (omega (arith, b.requires.1.0))))

move-down-requires : tie.Need-move_down-requires
move-down-requires c κs = let b = c in let m = c.number-n.ensures in (fit_by b.requires.0, (fronted_long m.1 ∙ b.requires.1.0, m.0))

same_length : tie.Need-shape_of-handles
same_length c = search rules

same-length-2 : tie.Need-shape_of-parents
same-length-2 c = search rules

same-length-3 : tie.Need-shape_of-ends
same-length-3 c = search rules

same-length-4 : tie.Need-shape_of-marks
same-length-4 c = search rules

same-length-5 : tie.Need-shape_of-names
same-length-5 c = search rules

same-length-6 : tie.Need-shape_of-first
same-length-6 c = search rules

same-length-7 : tie.Need-shape_of-next
same-length-7 c = search rules

same-length-8 : tie.Need-shape_of-news
same-length-8 c = search rules

returns : tie.Need-returns
returns c =
    let b = c in
    let m = c.number-n.ensures in
    (gathered (fit_by b.requires.0) m.0 m.1 c.move_down.ensures, collected_links b.requires.0 b.requires.1.1 b.args.news.now m.1.list c.carry.ensures c.carry-2.ensures)

pub gather_linked_spec : {M : Type 1} → statement M
gather_linked_spec =
    tie.close
    (tie.spec
    slice-reshare-prefix-number
    slice-aggregate-number
    number-requires
    slice-reshare-prefix-carry
    slice-aggregate-carry
    carry-requires
    slice-reshare-prefix-carry-2
    slice-aggregate-carry-2
    carry-requires-2
    move-down-requires
    same_length
    same-length-2
    same-length-3
    same-length-4
    same-length-5
    same-length-6
    same-length-7
    same-length-8
    returns)
