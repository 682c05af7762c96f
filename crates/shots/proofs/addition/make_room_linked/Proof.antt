-- `shots::addition::make_room_linked`: collected with its links, or each its own place. Assumes nothing.
use mathlib.Core.Path.{sym, ◌∙◌}
use borrow.Author.Rules.{rules}
use Rattle.shots.proofs.Additions.{based_tight, based_own}
use Rattle.shots.proofs.Fits.{fit_by}
use Rattle.shots.proofs.addition.make_room_linked.Statement.{statement}
use Rattle.shots.proofs.addition.make_room_linked.Tie as tie

is-tight-requires : tie.Need-is_tight-requires
is-tight-requires c κs = fit_by c.requires.0

gather-linked-requires : tie.Need-gather_linked-requires
gather-linked-requires c κs = let b = c in (b.requires.0, (b.requires.1.0, b.requires.1.1.links))

same_length : tie.Need-shape_of-handles-then-is_tight
same_length c = search rules

same-length-2 : tie.Need-shape_of-parents-then-is_tight
same-length-2 c = search rules

same-length-3 : tie.Need-shape_of-ends-then-is_tight
same-length-3 c = search rules

same-length-4 : tie.Need-shape_of-marks-then-is_tight
same-length-4 c = search rules

same-length-5 : tie.Need-shape_of-names-then-is_tight
same-length-5 c = search rules

same-length-6 : tie.Need-shape_of-first-then-is_tight
same-length-6 c = search rules

same-length-7 : tie.Need-shape_of-next-then-is_tight
same-length-7 c = search rules

same-length-8 : tie.Need-shape_of-news-then-is_tight
same-length-8 c = search rules

returns : tie.Need-returns-then-is_tight
returns c =
    let b = c in
    let e = sym c.is_tight.ensures ∙ c.if-is_tight.true in
    let g = c.gather_linked.ensures in
    (based_tight (fit_by b.requires.0) _ e g.0, rw e g.1)

own-requires : tie.Need-own-requires
own-requires c κs = search rules

same-length-9 : tie.Need-shape_of-handles
same-length-9 c = search rules

same-length-10 : tie.Need-shape_of-parents
same-length-10 c = search rules

same-length-11 : tie.Need-shape_of-ends
same-length-11 c = search rules

same-length-12 : tie.Need-shape_of-marks
same-length-12 c = search rules

same-length-13 : tie.Need-shape_of-names
same-length-13 c = search rules

same-length-14 : tie.Need-shape_of-news
same-length-14 c = search rules

returns-2 : tie.Need-returns
returns-2 c =
    let b = c in
    let e = sym c.is_tight.ensures ∙ c.if-is_tight.false in
    (based_own (fit_by b.requires.0) _ e c.own.ensures, rw e b.requires.1.1)

pub make_room_linked_spec : {M : Type 1} → statement M
make_room_linked_spec =
    tie.close
    (tie.spec
    is-tight-requires
    gather-linked-requires
    same_length
    same-length-2
    same-length-3
    same-length-4
    same-length-5
    same-length-6
    same-length-7
    same-length-8
    returns
    own-requires
    same-length-9
    same-length-10
    same-length-11
    same-length-12
    same-length-13
    same-length-14
    returns-2)
