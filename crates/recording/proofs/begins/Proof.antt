-- `recording::begins`: the length's test, then the kind's. Assumes nothing.
use borrow.Author.Tests.{le-leb, lt-leb}
use borrow.Author.Rules.{rules}
use Rattle.recording.proofs.begins.Statement.{statement}
use Rattle.recording.proofs.begins.Tie as tie

pub begins_spec : {M : Type 1} → statement M
begins_spec =
    tie.close
    (tie.spec
    (λ c. rw (lt-leb 6 c.args.len c.if-len-lt6.true))
    (λ c κs. search rules)
    (λ c. rw (le-leb 6 c.args.len c.if-len-lt6.false) c.is_kind.ensures))
