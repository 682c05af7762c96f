-- `abi::record::record_row`: its own numbers, and behind them what it holds. Assumes nothing.
use Rattle.std.proofs.Common.{length, ap, ◌∙◌, rules}
use Rattle.recording.specs.Record.{says_content}
use Rattle.abi.proofs.laws.Answers.{spread, content-long}
use Rattle.abi.proofs.record.record_row.Statement.{statement}
use Rattle.abi.proofs.record.record_row.Tie as tie

returns : tie.Need-returns
returns c =
    let x = c.content_row-c in
    rw (spread 5 x.result (ap length x.ensures ∙ content-long (says_content c.args.x.content)), x.ensures)

pub record_row_spec : {M : Type 1} → statement M
record_row_spec =
    tie.close
    (tie.spec
    (λ c κs. search rules)
    (λ c. search rules)
    (λ c. search rules)
    (λ c. search rules)
    (λ c. search rules)
    (λ c. search rules)
    (λ c. search rules)
    returns)
