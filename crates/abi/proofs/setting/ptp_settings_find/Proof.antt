-- `abi::setting::ptp_settings_find`: what is kept, by the edition that was named. Assumes nothing.
use Rattle.layout.specs.Answer.{says_count}
use Rattle.std.proofs.Common.{rules}
use Rattle.abi.proofs.setting.ptp_settings_find.Statement.{statement}
use Rattle.abi.proofs.setting.ptp_settings_find.Tie as tie

returns : tie.Need-returns
returns c =
    let w = c.give_found in
    record { answer = says_count w.result; allows = rw (← c.edition.ensures) w.ensures; told = c.told.ensures }

pub ptp_settings_find_spec : {M : Type 1} → statement M
ptp_settings_find_spec =
    tie.close (tie.spec (λ c κs. search rules) (λ c κs. search rules) (λ c κs. search rules) (λ c. search rules) returns)
