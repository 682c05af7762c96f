-- `shots::deletion::fall_linked`: the queue, the link past the place, then what the queue holds. Assumes nothing.
use mathlib.Core.Path.{◌≡◌, sym, ap, ◌∙◌}
use native.Mathlib.Omega.{arith}
use borrow.Author.Rules.{rules}
use lib.ListN.{length, take}
use lib.Seq.{length-take-le}
use Rattle.tree.proofs.laws.Links.{links_linking}
use Rattle.shots.proofs.Endings.{stays_live, was_live}
use Rattle.shots.proofs.Falls.{front_taken, links_left, marks_left}
use Rattle.shots.proofs.deletion.fall_linked.Statement.{statement}
use Rattle.shots.proofs.deletion.fall_linked.Tie as tie

cut_of : (b : tie.Start) → length b.args.parents.now ≡ length (take (length b.args.parents.now) b.args.marks.now)
cut_of b = sym (length-take-le (length b.args.parents.now) b.args.marks.now (omega (arith, b.requires.0.few, b.requires.1.0)))

slice-reshare-prefix-fall-queue : tie.Need-slice_bounds-fall_queue-end
slice-reshare-prefix-fall-queue c = search rules

slice-aggregate-fall-queue : tie.Need-slice_bounds-fall_queue-end-2
slice-aggregate-fall-queue c = cut_of c.before.before.before.before

slice-aggregate-fall-queue-2 : tie.Need-slice_bounds-fall_queue-end-3
slice-aggregate-fall-queue-2 c = search rules

fall-queue-requires : tie.Need-fall_queue-n-requires
fall-queue-requires c κs =
    let b = c in
    (b.requires.0, (b.requires.1.1.0, (links_linking b.requires.1.1.0 b.requires.1.1.1.0, (b.requires.0.few, b.requires.1.1.1.1.1))))

slice-reshare-prefix-unlink : tie.Need-slice_bounds-unlink-end
slice-reshare-prefix-unlink c = search rules

slice-aggregate-unlink : tie.Need-slice_bounds-unlink-end-2
slice-aggregate-unlink c = cut_of c.before.before.before.before.before.before.before

unlink-requires : tie.Need-unlink-requires
unlink-requires c κs = search rules

array-share-prefix-queue : tie.Need-slice_bounds-queue-end
array-share-prefix-queue c = search rules

slice-aggregate-end-all : tie.Need-slice_bounds-end_all-end
slice-aggregate-end-all c = let f = c.fall_queue-n.ensures in f.fronted.size ∙ sym (ap length (front_taken f.fronted))

end-all-requires : tie.Need-end_all-requires
end-all-requires c κs =
    let b = c in
    let f = c.fall_queue-n.ensures in
    let u = c.unlink.ensures in
    let few = b.requires.0.few in
    let long = b.requires.1.0 in
    let links = b.requires.1.1.1.0 in
    (record { inside = λ i h. rw (front_taken f.fronted) (let l = f.inside.inside i (rw (front_taken f.fronted) at h) in omega arith) }, (omega arith, (rw (front_taken f.fronted) (omega (arith, f.fronted.size, f.fronted.room)), (omega (arith, u.0.long, links.firsts), omega (arith, u.1.long, links.nexts)))))

same_length : tie.Need-shape_of-marks
same_length c = search rules

same-length-2 : tie.Need-shape_of-first
same-length-2 c = search rules

same-length-3 : tie.Need-shape_of-next
same-length-3 c = search rules

returns : tie.Need-returns
returns c =
    let b = c in
    let rule = b.requires.0 in
    let long = b.requires.1.0 in
    let marks = b.requires.1.1.0 in
    let links = b.requires.1.1.1.0 in
    let s = b.requires.1.1.1.1.0 in
    let living = b.requires.1.1.1.1.1 in
    let a = b.args in
    let few = rule.few in
    let f = c.fall_queue-n.ensures in
    let u = c.unlink.ensures in
    let e = rw (front_taken f.fronted) at c.end_all.ensures in
    let even = sym (cut_of c.before.before.before.before.before.before.before.before.before.before.before.before.before.before.before.before.before.before.before.before.before.before.before.before.before) in
    let there = marks.place a.place living in (
      marks_left a.place marks (omega arith) f.once e.0,
      links_left rule marks s living
          (stays_live a.parents.now rule (take (length a.parents.now) a.marks.now) even marks a.place s there)
          (was_live a.parents.now rule (take (length a.parents.now) a.marks.now) even marks a.place s there)
          f.list f.once links u.0 u.1 e.1 e.2,
    )

pub fall_linked_spec : {M : Type 1} → statement M
fall_linked_spec =
    tie.close
    (tie.spec
    slice-reshare-prefix-fall-queue
    slice-aggregate-fall-queue
    slice-aggregate-fall-queue-2
    fall-queue-requires
    slice-reshare-prefix-unlink
    slice-aggregate-unlink
    unlink-requires
    array-share-prefix-queue
    slice-aggregate-end-all
    end-all-requires
    same_length
    same-length-2
    same-length-3
    returns)
