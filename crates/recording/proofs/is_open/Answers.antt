-- `recording::is_open`: its tests in their order. Assumes nothing.
use Rattle.recording.proofs.is_open.Goals as goal

pub returns-then-last : goal.returns-then-last
returns-then-last c = rw c.if-last.true

pub returns : goal.returns
returns c = rw c.if-last.false
