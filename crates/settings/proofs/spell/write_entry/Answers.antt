-- `settings::spell::write_entry`: the serial, then the entry. Assumes nothing.
use mathlib.Core.Path.{refl, sym}
use native.Mathlib.Omega.{arith}
use lib.Seq.{length-take-le}
use Rattle.std.proofs.lemmas.Result.{err_from_is_err_and}
use Rattle.settings.proofs.SpellLaws.{done_due, serial_refused, entry_refused, entry_done}
use Rattle.settings.proofs.spell.write_entry.Goals as goal

pub slice_bounds-word-end : goal.slice_bounds-word-end
slice_bounds-word-end c = (done_due refl c.in_ok-n.ensures).1

pub slice_bounds-put_entry-end : goal.slice_bounds-put_entry-end
slice_bounds-put_entry-end c = sym (length-take-le _ _ (done_due refl c.in_ok-n.ensures).1)

pub put_entry-requires : goal.put_entry-requires
put_entry-requires c = let d = done_due refl c.in_ok-n.ensures in omega (arith, length-take-le c.in_ok-n.n c.put_serial.new.out d.1, d.0)

pub returns : goal.returns
returns c = entry_done c.args.vendor c.args.property c.args.code c.args.value.now c.args.own c.args.serial.now (done_due refl c.in_ok-n.ensures).2 c.put_entry.ensures

pub returns-in_err-n : goal.returns-in_err-n
returns-in_err-n c =
    let p = err_from_is_err_and c.from_residual.result c.from_residual.ensures.1 in
    rw (p.1, p.2) (entry_refused c.args.vendor c.args.property c.args.code c.args.value.now c.args.own c.args.serial.now (serial_refused c.args.own c.args.serial.now refl (omega arith) c.in_err-n.ensures))
