-- `wire::tidy::property_len`: the parts' lengths, added. Assumes nothing.
use mathlib.Core.Path.{◌∙◌, ap, sym}
use lib.ListN.{length}
use native.Mathlib.Omega.{arith}
use Rattle.wire.specs.Property.{info_from}
use Rattle.wire.proofs.TidyWords.{property-word, parts_size}
use Rattle.wire.proofs.tidy.property_len.Goals as goal

pub overflow_add-result : goal.overflow_add-result
overflow_add-result c =
    let z = ap length (property-word c.args.src.now (info_from c.args.p)) ∙ parts_size c.args.src.now (info_from c.args.p) in
    omega (arith, c.enable_len.ensures, c.values_len-current.ensures.0, c.values_len-default.ensures.0, c.requires.p_in_bounds)

pub overflow_add-result-2 : goal.overflow_add-result-2
overflow_add-result-2 c =
    let z = ap length (property-word c.args.src.now (info_from c.args.p)) ∙ parts_size c.args.src.now (info_from c.args.p) in
    omega (arith, c.enable_len.ensures, c.values_len-current.ensures.0, c.values_len-default.ensures.0, c.requires.p_in_bounds)

pub overflow_add-result-3 : goal.overflow_add-result-3
overflow_add-result-3 c =
    let z = ap length (property-word c.args.src.now (info_from c.args.p)) ∙ parts_size c.args.src.now (info_from c.args.p) in
    omega (arith, c.enable_len.ensures, c.values_len-current.ensures.0, c.values_len-default.ensures.0, c.requires.p_in_bounds)

pub form_len-requires : goal.form_len-requires
form_len-requires c =
    let z = ap length (property-word c.args.src.now (info_from c.args.p)) ∙ parts_size c.args.src.now (info_from c.args.p) in
    omega (arith, c.requires.p_in_bounds)

pub overflow_add-result-4 : goal.overflow_add-result-4
overflow_add-result-4 c =
    let z = ap length (property-word c.args.src.now (info_from c.args.p)) ∙ parts_size c.args.src.now (info_from c.args.p) in
    omega (arith, c.enable_len.ensures, c.values_len-current.ensures.0, c.values_len-default.ensures.0, c.form_len.ensures, c.requires.p_in_bounds)

pub returns : goal.returns
returns c =
    let z = ap length (property-word c.args.src.now (info_from c.args.p)) ∙ parts_size c.args.src.now (info_from c.args.p) in
    omega (arith, c.enable_len.ensures, c.values_len-current.ensures.0, c.values_len-default.ensures.0, c.form_len.ensures) ∙ sym z
