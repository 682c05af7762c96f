-- A header that is cut.
use Rattle.session.proofs.NeedsRead.{refused_lacks}
use Rattle.session.proofs.lack.rest_lacks.Goals as goal

pub returns-in_default : goal.returns-in_default
returns-in_default c = rw c.header_lacks.ensures (refused_lacks _ _ c.requires _ c.in_default.ensures)
