-- `settings::entry::typed_at`: a value ends where it begins or later, however its answer is taken apart. Assumes nothing.
use Rattle.std.proofs.Common.{◌≡◌, ◌≤◌, arith}
use Rattle.std.specs.Prelude.{Ok}
use Rattle.wire.specs.declared.Cursor.{Cursor}
use Rattle.wire.specs.declared.value.Value.{Value}
use Rattle.settings.proofs.Ahead.{value_found}
use Rattle.settings.proofs.entry.typed_at.Goals as goal

pub overflow_sub-len : goal.overflow_sub-len
overflow_sub-len c =
    let f : (v : Value) (n : Cursor) → c.value.result ≡ Ok (v, n) → c.in_ok-code.from.at ≤ n.at = λ v n is. value_found c.in_ok-code.code c.args.s.now c.in_ok-code.from.at c.value.ensures is in
    grind (arith, f)
