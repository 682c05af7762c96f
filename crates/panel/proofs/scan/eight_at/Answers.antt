-- `panel::scan::eight_at`: the one half and the other. Assumes nothing.
use Rattle.std.proofs.Common.{arith, rules}
use Rattle.panel.proofs.Scanning.{eight_word}
use Rattle.panel.proofs.scan.eight_at.Goals as goal

pub returns : goal.returns
returns c = let a = c.args in omega (arith, eight_word a.s.now a.at c.requires, c.four_at-2.ensures.0, c.four_at.ensures.0)
