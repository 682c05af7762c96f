-- `copying::fate_of`: with the recording, or at the refused record. Assumes nothing.
use Rattle.std.proofs.Common.{arith, le-ltb, lt-ltb}
use Rattle.copying.proofs.fate_of.Goals as goal

pub returns-then-size-eq0 : goal.returns-then-size-eq0
returns-then-size-eq0 c = rw (le-ltb 0 c.args.size (omega arith))

pub returns : goal.returns
returns c = rw (lt-ltb 0 c.args.size (omega arith))
