-- `wire::tidy::values_len`: as they are measured; none where they are refused. Assumes nothing.
use mathlib.Core.Path.{ap, sym}
use native.Mathlib.Omega.{arith}
use Rattle.std.proofs.Common.{length, [], ◌∷◌}
use Rattle.layout.specs.Written.{spelling}
use Rattle.layout.proofs.laws.Numbers.{bytes_of}
use Rattle.layout.proofs.laws.Tidied.{measured, unmeasured}
use Rattle.wire.specs.Tidy.{row_word, types}
use Rattle.wire.proofs.TidyWords.{row_bound}
use Rattle.wire.proofs.tidy.values_len.Goals as goal

pub returns-in-Ok : goal.returns-in-Ok
returns-in-Ok c =
    let a = c.args in
    let ks = types (a.code ∷ []) a.n in
    ((measured (row_word ks a.src.now a.at) _ _ c.in-Ok.ensures).1, row_bound ks a.src.now (bytes_of _ (λ i. (c.type_inv.src i).fits)) a.at _ _ c.in-Ok.ensures)

pub returns-in-Err : goal.returns-in-Err
returns-in-Err c =
    let a = c.args in
    (sym (ap (λ w. length (spelling w)) (unmeasured (row_word (types (a.code ∷ []) a.n) a.src.now a.at) _ c.in-Err.ensures)), omega arith)
