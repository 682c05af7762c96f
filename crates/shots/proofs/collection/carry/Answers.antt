-- What is kept, then nothing.
use Rattle.std.proofs.Common.{◌≡◌, ◌-◌, List, ℕ, length, replicate, rules, arith, subst, sym}
use borrow.Rule.Slice.PartMut.{put_mid}
use Rattle.shots.specs.Facts.{Blank}
use Rattle.shots.proofs.Carrying.{blank, carried}
use Rattle.shots.proofs.Gatherings.{fronted_long}
use Rattle.shots.proofs.collection.carry.Goals as goal

pub returns : goal.returns
returns c =
    let mid = c.keep_places-n.new.list in
    let n = c.keep_places-n.result in
    let kept = c.keep_places-n.ensures in
    let zeros : c.fill.new.self ≡ replicate (length c.keep_places-n.new.list - c.keep_places-n.result) 0 = search rules in
    let cleared = blank mid n (omega (arith, kept.room, fronted_long kept)) in
    carried c.requires.marks_in_bounds kept (subst (λ (ys : List ℕ). Blank n mid (put_mid n (length mid - n) mid ys)) (sym zeros) cleared)
