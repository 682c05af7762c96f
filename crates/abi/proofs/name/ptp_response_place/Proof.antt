-- `abi::name::ptp_response_place`: the place that was found, as one number. Assumes nothing.
use Rattle.std.proofs.Common.{ap, ◌∙◌, rules}
use Rattle.abi.specs.Rows.{place_word}
use Rattle.abi.proofs.name.ptp_response_place.Statement.{statement}
use Rattle.abi.proofs.name.ptp_response_place.Tie as tie

pub ptp_response_place_spec : {M : Type 1} → statement M
ptp_response_place_spec =
    tie.close
    (tie.spec
    (λ c κs. search rules)
    (λ c κs. search rules)
    (λ c. c.place.ensures ∙ ap place_word c.response_name.ensures))
