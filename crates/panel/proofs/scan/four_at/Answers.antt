-- `panel::scan::four_at`: the one half and the other. Assumes nothing.
use Rattle.std.proofs.Common.{arith, rules}
use Rattle.panel.proofs.Scanning.{four_word}
use Rattle.panel.proofs.scan.four_at.Goals as goal

pub returns : goal.returns
returns c = let a = c.args in (omega (arith, four_word a.s.now a.at c.requires, c.two_at-2.ensures.0, c.two_at.ensures.0), omega (arith, c.two_at-2.ensures.1, c.two_at.ensures.1))
