-- `wire::tidy::tidy_property`: the description is read, then put where it has room. Assumes nothing.
use Rattle.std.proofs.lemmas.Result.{err_from_is_err_and}
use native.Mathlib.Omega.{arith}
use Rattle.layout.proofs.laws.Numbers.{bytes_of}
use Rattle.layout.proofs.laws.Writing.{refusal, no_room, done}
use Rattle.wire.specs.Property.{has_enable}
use Rattle.wire.proofs.TidyWords.{well_read, said_property, said_no_property, property_bound}
use Rattle.wire.proofs.tidy.tidy_property.Goals as goal

pub returns-in_err-p : goal.returns-in_err-p
returns-in_err-p c =
    let p = err_from_is_err_and c.from_residual.result c.from_residual.ensures.1 in
    rw (p.1, p.2) (refusal (said_no_property (has_enable c.args.l) c.args.src.now _ c.in_err-p.ensures))

pub property_len-requires : goal.property_len-requires
property_len-requires c =
    let a = c.args in
    record {
      well = well_read (has_enable a.l) a.src.now 0 _ _ c.in_ok-p.ensures;
      p_in_bounds = property_bound (has_enable a.l) a.src.now (bytes_of _ (λ i. (c.type_inv.src i).fits)) _ _ c.in_ok-p.ensures;
    }

pub returns-then-out-property_len : goal.returns-then-out-property_len
returns-then-out-property_len c = no_room (said_property (has_enable c.args.l) c.args.src.now _ _ c.in_ok-p.ensures) (omega arith) c.plain.ensures

pub put_property-requires : goal.put_property-requires
put_property-requires c = record { well = well_read (has_enable c.args.l) c.args.src.now 0 _ _ c.in_ok-p.ensures; p_in_bounds = omega arith }

pub returns : goal.returns
returns c = done (said_property (has_enable c.args.l) c.args.src.now _ _ c.in_ok-p.ensures) (omega arith) c.put_property.ensures
