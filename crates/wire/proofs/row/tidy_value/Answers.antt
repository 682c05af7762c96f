-- `wire::row::tidy_value`: a row of one value. Assumes nothing.
use Rattle.wire.proofs.RowWords.{row_single}
use Rattle.wire.proofs.row.tidy_value.Goals as goal

pub returns : goal.returns
returns c = let a = c.args in rw (← row_single a.code a.src.now) c.tidy_row.ensures
