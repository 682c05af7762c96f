-- `settings::keep::replaced`: the room, then the three copies. Assumes nothing.
use native.Mathlib.Omega.{arith}
use Rattle.settings.proofs.Storing.{replaced_short, replaced_done}
use Rattle.settings.proofs.keep.replaced.Goals as goal

pub returns-then-out-from : goal.returns-then-out-from
returns-then-out-from c = replaced_short c.args.row.now c.args.entry.now c.args.from c.args.till c.requires.0 c.requires.1 (omega arith) c.plain.ensures

pub returns-then-left-entry : goal.returns-then-left-entry
returns-then-left-entry c = replaced_short c.args.row.now c.args.entry.now c.args.from c.args.till c.requires.0 c.requires.1 (omega arith) c.plain-then-left-entry.ensures

pub returns-then-left-entry-2 : goal.returns-then-left-entry-2
returns-then-left-entry-2 c = replaced_short c.args.row.now c.args.entry.now c.args.from c.args.till c.requires.0 c.requires.1 (omega arith) c.plain-then-left-entry-2.ensures

pub returns : goal.returns
returns c =
    replaced_done c.args.row.now c.args.entry.now c.args.from c.args.till c.requires.0 c.requires.1 (omega (arith, c.if-out-from.false, c.if-left-entry.false, c.if-left-entry-2.false))
    c.copy-a.ensures c.copy-b.ensures c.copy.ensures
