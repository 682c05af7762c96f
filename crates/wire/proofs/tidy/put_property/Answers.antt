-- `wire::tidy::put_property`: the header, two values and the form, one after the other. Assumes nothing.
use mathlib.Core.Path.{◌∙◌, ap}
use lib.ListN.{length}
use native.Mathlib.Omega.{arith}
use Rattle.std.proofs.Common.{length-append}
use Rattle.layout.proofs.laws.Writing.{long, then}
use Rattle.wire.specs.Property.{info_from}
use Rattle.wire.proofs.TidyWords.{property-word, parts_size, header_size}
use Rattle.wire.proofs.tidy.put_property.Goals as goal

pub put_header-a-requires : goal.put_header-a-requires
put_header-a-requires c =
    let x = info_from c.args.p in
    let z = ap length (property-word c.args.src.now x) ∙ parts_size c.args.src.now x in
    let h = header_size x in
    omega (arith, c.requires.p_in_bounds)

pub put_values-b-requires : goal.put_values-b-requires
put_values-b-requires c =
    let x = info_from c.args.p in
    let z = ap length (property-word c.args.src.now x) ∙ parts_size c.args.src.now x in
    let h = header_size x in
    let q = c.put_header-a.ensures in
    record { at_value = c.requires.well.default; at_in_bounds = omega (arith, c.requires.p_in_bounds, q.place, long q) }

pub put_values-c-requires : goal.put_values-c-requires
put_values-c-requires c =
    let x = info_from c.args.p in
    let z = ap length (property-word c.args.src.now x) ∙ parts_size c.args.src.now x in
    let h = header_size x in
    let q = then c.put_header-a.ensures c.put_values-b.ensures in
    record { at_value = c.requires.well.current; at_in_bounds = omega (arith, c.requires.p_in_bounds, simp length-append at q.place, long q) }

pub put_form-requires : goal.put_form-requires
put_form-requires c =
    let x = info_from c.args.p in
    let z = ap length (property-word c.args.src.now x) ∙ parts_size c.args.src.now x in
    let h = header_size x in
    let q = then (then c.put_header-a.ensures c.put_values-b.ensures) c.put_values-c.ensures in
    record { well_form = c.requires.well.form; f_in_bounds = omega (arith, c.requires.p_in_bounds, simp length-append at q.place, long q) }

pub returns : goal.returns
returns c =
    rw (property-word c.args.src.now (info_from c.args.p))
    (then (then (then c.put_header-a.ensures c.put_values-b.ensures) c.put_values-c.ensures) c.put_form.ensures)
