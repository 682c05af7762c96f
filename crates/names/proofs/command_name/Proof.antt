-- `names::command_name` finds the code's entry, and the table's rule says what its start and length are. The test of the place is cited by what it says, not
-- by its name, so that an edit of it is refused for its meaning. Assumes nothing.
use Prim.Native.Nat.{◌-◌}
use native.Mathlib.Omega.{arith}
use borrow.Author.Rules.{rules}
use lib.ListN.{length}
use Rattle.names.specs.Names.{responses, commands, joined, command_place}
use Rattle.names.proofs.Tables.{command_starts, command_lengths, command_ruled}
use Rattle.names.proofs.laws.Spells.{before_table, past_table, in_table}
use Rattle.names.proofs.command_name.Statement.{statement}
use Rattle.names.proofs.command_name.Tie as tie

returns : tie.Need-returns-then-code-lt4096
unfolding command_place
returns c = rw (before_table 0x1000 (length commands) c.before.args.code c.if-code-lt4096.true)

cast-t9 : tie.Need-overflow_cast-result
unfolding command_starts command_lengths
cast-t9 c = let r = command_ruled (c.before.before.args.code - 0x1000) (omega arith) in record { fits = omega (arith, r.inside) }

cast-t14 : tie.Need-overflow_cast-result-2
unfolding command_starts command_lengths
cast-t14 c = let r = command_ruled (c.before.before.args.code - 0x1000) (omega arith) in record { fits = omega (arith, r.inside) }

returns-3 : tie.Need-returns
unfolding command_place responses commands command_starts command_lengths
returns-3 c = in_table 0x1000 (length (joined responses)) commands (omega arith) (omega arith) (command_ruled (c.before.before.args.code - 0x1000) (omega arith))

pub command_name_spec : {M : Type 1} → statement M
unfolding command_place responses commands
command_name_spec =
    tie.close
    (tie.spec
    returns
    (λ c. search rules)
    (λ c. rw (past_table 0x1000 (length commands) c.before.before.args.code (omega arith) (omega arith)))
    (λ c. search rules)
    (λ c. search rules)
    cast-t9
    (λ c. search rules)
    cast-t14
    returns-3)
