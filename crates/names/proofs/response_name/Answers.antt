-- `names::response_name` finds the code's entry, and the table's rule says what its start and length are. Assumes nothing.
use Prim.Native.Nat.{◌-◌}
use native.Mathlib.Omega.{arith}
use lib.ListN.{length}
use Rattle.names.specs.Names.{responses, response_place}
use Rattle.names.proofs.Tables.{response_starts, response_lengths, response_ruled}
use Rattle.names.proofs.laws.Spells.{before_table, past_table, in_table}
use Rattle.names.proofs.response_name.Goals as goal

pub returns-then-code-lt8192 : goal.returns-then-code-lt8192
unfolding response_place
returns-then-code-lt8192 c = rw (before_table 0x2000 (length responses) c.args.code c.if-code-lt8192.true)

pub returns-then-k-ge33 : goal.returns-then-k-ge33
unfolding response_place responses
returns-then-k-ge33 c = rw (past_table 0x2000 (length responses) c.args.code (omega arith) (omega arith))

pub overflow_cast-result : goal.overflow_cast-result
unfolding response_starts response_lengths
overflow_cast-result c = let r = response_ruled (c.args.code - 0x2000) (omega arith) in record { fits = omega (arith, r.inside) }

pub overflow_cast-result-2 : goal.overflow_cast-result-2
unfolding response_starts response_lengths
overflow_cast-result-2 c = let r = response_ruled (c.args.code - 0x2000) (omega arith) in record { fits = omega (arith, r.inside) }

pub returns : goal.returns
unfolding response_place responses response_starts response_lengths
returns c = in_table 0x2000 0 responses (omega arith) (omega arith) (response_ruled (c.args.code - 0x2000) (omega arith))
