-- The choice that is allowed is sent; a refusal leaves all as it was.
use Rattle.std.proofs.lemmas.Result.{err_from_is_err_and}
use Rattle.layout.proofs.laws.Numbers.{bytes_of}
use Rattle.wire.specs.Property.{has_enable}
use Rattle.panel.proofs.Sending.{makes_chosen, makes_refused, chosen_is}
use Rattle.panel.proofs.set_value.Goals as goal

pub returns-in_err-property : goal.returns-in_err-property
returns-in_err-property c =
    let a = c.args in
    let p = err_from_is_err_and c.from_residual.result c.from_residual.ensures.1 in
    rw (p.1, p.2) (makes_refused (has_enable a.l) a.description.now a.value.now a.code _ c.in_err-property.ensures)

pub send-requires : goal.send-requires
send-requires c =
    let a = c.args in
    chosen_is (has_enable a.l) a.description.now a.value.now a.code (bytes_of a.value.now (λ i. (c.type_inv.value i).fits)) _ _ c.in_ok-property.ensures

pub returns : goal.returns
returns c =
    let a = c.args in
    makes_chosen (has_enable a.l) a.description.now a.value.now a.code (bytes_of a.value.now (λ i. (c.type_inv.value i).fits)) _ _ c.in_ok-property.ensures c.send.ensures
