-- `panel::scan::two_at`: the two bytes. Assumes nothing.
use Rattle.std.proofs.Common.{arith, rules}
use Rattle.panel.proofs.Scanning.{two_word}
use Rattle.panel.proofs.scan.two_at.Goals as goal

pub returns : goal.returns
returns c = let a = c.args in (omega (arith, two_word a.s.now a.at c.requires, c.byte-2.ensures.0, c.byte.ensures.0), omega (arith, c.byte-2.ensures.1, c.byte.ensures.1))
