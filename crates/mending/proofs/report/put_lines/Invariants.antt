-- The lines of the stretches before i stand in the output.
-- Assumes nothing.
use Rattle.std.proofs.Common.{◌*◌, ◌≤◌, take}
use Rattle.layout.specs.Written.{Put}
use Rattle.mending.specs.Report.{lines_of}
use Rattle.mending.proofs.report.put_lines.Given as goal

abbrev pub invariant-loop-i : goal.invariant-loop-i
invariant-loop-i l = Put l.fn.out 0 (lines_of (take l.i l.starts) (take l.i l.lengths)) l.out l.o × (l.o ≤ 50 * l.i)
