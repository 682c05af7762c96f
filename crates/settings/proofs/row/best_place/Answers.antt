-- `settings::row::best_place`: by the edition. Assumes nothing.
use Rattle.settings.proofs.Keys.{best_one, best_own, best_any}
use Rattle.settings.proofs.row.best_place.Goals as goal

pub returns-then-own-row : goal.returns-then-own-row
returns-then-own-row c =
    let a = c.args in
    best_own a.vendor a.property a.serial.now a.row.now c.in-Two.is c.own_place-own.ensures c.if-own-row.true

pub returns-in-One : goal.returns-in-One
returns-in-One c =
    let a = c.args in
    best_one a.vendor a.property a.serial.now a.row.now c.in-One.is c.any_place.ensures

pub returns-else-own-row : goal.returns-else-own-row
returns-else-own-row c =
    let a = c.args in
    best_any a.vendor a.property a.serial.now a.row.now c.in-Two.is c.own_place-own.ensures c.if-own-row.false c.any_place-in-Two.ensures
