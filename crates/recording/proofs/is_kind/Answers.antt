-- `recording::is_kind`: two tests. Assumes nothing.
use borrow.Author.Tests.{le-leb, lt-leb}
use Rattle.recording.specs.Record.{is_kind}
use Rattle.recording.proofs.is_kind.Goals as goal

pub returns-then-kind-lt1 : goal.returns-then-kind-lt1
unfolding is_kind
returns-then-kind-lt1 c = simp (lt-leb _ _ c.if-kind-lt1.true)

pub returns : goal.returns
unfolding is_kind
returns c = simp (le-leb _ _ c.if-kind-lt1.false)
