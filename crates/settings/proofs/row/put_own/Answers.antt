-- `settings::row::put_own`: the string behind the front, then the front. Assumes nothing.
use mathlib.Core.Path.{refl}
use native.Mathlib.Omega.{arith}
use Prim.Native.Nat.{◌-◌}
use lib.ListN.{take, length, drop, length-take, length-drop}
use lib.Seq.{length-take-le}
use Rattle.std.proofs.lemmas.Result.{err_from_is_err_and}
use Rattle.settings.proofs.Keys.{own_spells, own_none, spells_done}
use Rattle.settings.specs.Search.{no_word}
use Rattle.settings.proofs.row.put_own.Goals as goal

pub overflow_add-result : goal.overflow_add-result
overflow_add-result c =
    let a = c.args in
    let r = own_spells a.vendor a.property (omega arith) (omega arith) a.serial.now (λ i. (c.type_inv.serial i).fits) (take 8 a.out.now) _ (length-take-le 8 a.out.now (omega (arith, c.requires))) refl c.in_ok-n.ensures
    c.put_front-a.ensures in
    omega (arith, (spells_done refl r).0)

pub returns : goal.returns
returns c =
    let a = c.args in
    own_spells a.vendor a.property (omega arith) (omega arith) a.serial.now (λ i. (c.type_inv.serial i).fits) (take 8 a.out.now) _ (length-take-le 8 a.out.now (omega (arith, c.requires))) refl c.in_ok-n.ensures
    c.put_front-a.ensures

pub returns-in_err-n : goal.returns-in_err-n
returns-in_err-n c =
    let a = c.args in
    let p = err_from_is_err_and c.from_residual.result c.from_residual.ensures.1 in
    rw (p.1, p.2) (no_word
    (own_none a.vendor a.property a.serial.now refl c.in_err-n.ensures
    (omega (arith, c.requires, length-take (length a.out.now - 8) (drop 8 a.out.now), length-drop 8 a.out.now))))
