use Rattle.std.proofs.Common.{sym}
use Rattle.panel.proofs.weigh.Goals as goal

pub allowed-requires : goal.allowed-requires
allowed-requires c = (c.requires, (_, sym c.in_ok-v.ensures))
