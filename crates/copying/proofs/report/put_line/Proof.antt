-- `copying::report::put_line`: by how the copy ended. Assumes nothing.
use Rattle.std.proofs.Common.{arith, rules}
use Rattle.layout.proofs.laws.Writing.{nothing}
use Rattle.copying.proofs.report.put_line.Statement.{statement}
use Rattle.copying.proofs.report.put_line.Tie as tie

returns : tie.Need-returns-in-Going
returns c = rw c.in-Going.is (nothing, omega arith)

returns-2 : tie.Need-returns-in-Whole
returns-2 c = rw c.in-Whole.is c.put_left.ensures

returns-3 : tie.Need-returns-in-Refused
returns-3 c = rw c.in-Refused.is c.put_refused.ensures

pub put_line_spec : {M : Type 1} → statement M
put_line_spec =
    tie.close
    (tie.spec
    (λ c. search rules)
    (λ c. search rules)
    (λ c κs. search rules)
    (λ c. search rules)
    (λ c κs. search rules)
    returns
    returns-2
    returns-3)
