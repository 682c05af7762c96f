-- x is in the whole row exactly where it was met or is in what is left.
-- Assumes nothing.
use Rattle.std.proofs.Common.{◌≡◌, ◌+◌, ◌-◌, ◌*◌, true, drop}
use Rattle.layout.specs.Answer.{pick}
use Rattle.layout.specs.Bytes.{cells}
use Rattle.panel.specs.Words.{is_in}
use Rattle.panel.proofs.scan.has_word.Given as goal

abbrev pub invariant-loop-i : goal.invariant-loop-i
invariant-loop-i l = pick l.found true (is_in l.x (cells l.w (l.n - l.i) (drop (l.at + l.i * l.w) l.s))) ≡ is_in l.x (cells l.w l.n (drop l.at l.s))
