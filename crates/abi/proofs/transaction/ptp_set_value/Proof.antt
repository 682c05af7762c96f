-- `abi::transaction::ptp_set_value`: what was made, by the layout that was named; a refusal leaves the number. Assumes nothing.
use Rattle.std.proofs.Common.{rules}
use Rattle.session.specs.Transaction.{says_made}
use Rattle.abi.proofs.transaction.ptp_set_value.Statement.{statement}
use Rattle.abi.proofs.transaction.ptp_set_value.Tie as tie

returns : tie.Need-returns
returns c =
    let m = c.set_value in
    record {
      answer = says_made m.result;
      allows = record { sent = record { makes = rw (← c.named.ensures) m.ensures; number = c.spoken-s.ensures.0 }; parted = c.spoken-s.ensures.1 };
      told = c.spoken-s.ensures.2;
    }

pub ptp_set_value_spec : {M : Type 1} → statement M
ptp_set_value_spec = tie.close (tie.spec (λ c κs. search rules) (λ c κs. search rules) (λ c κs. search rules) (λ c. search rules) returns)
