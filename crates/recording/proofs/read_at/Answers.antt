-- `recording::read_at`: the head's end lies within the bytes. Assumes nothing.
use mathlib.Core.Path.{sym}
use lib.Seq.{length-take-le}
use Rattle.layout.proofs.laws.Accepted.{accepted}
use Rattle.recording.proofs.laws.Rowed.{head_placed}
use Rattle.recording.proofs.read_at.Goals as goal

pub slice_bounds-content_at-end : goal.slice_bounds-content_at-end
slice_bounds-content_at-end c =
    let p = accepted _ (head_placed c.args.s.now c.args.at) c.in-Ok.ensures in
    sym (length-take-le _ _ p.2)
