-- `abi::setting::ptp_settings_write`: the entry, as its writer says. Assumes nothing.
use Rattle.layout.specs.Answer.{says_count}
use Rattle.std.proofs.Common.{rules}
use Rattle.abi.proofs.setting.ptp_settings_write.Statement.{statement}
use Rattle.abi.proofs.setting.ptp_settings_write.Tie as tie

returns : tie.Need-returns
returns c =
    let w = c.write_entry in
    record { answer = says_count w.result; allows = w.ensures; told = c.told.ensures }

pub ptp_settings_write_spec : {M : Type 1} → statement M
ptp_settings_write_spec = tie.close (tie.spec (λ c κs. search rules) (λ c κs. search rules) (λ c. search rules) returns)
