-- The iterator's test of all is the test entry by entry.
use Rattle.std.proofs.Common.{◌≡◌, ◌<◌, ℕ, length, get_or, true, rules}
use Rattle.std.specs.Prelude.{IsTrue, ◌↔◌}
use Rattle.tree.specs.Table.{kept}
use Rattle.tree.proofs.Tables.{kept_said}
use Rattle.tree.proofs.table.parents_ok.Goals as goal

pub returns : goal.returns
returns c =
    let each : IsTrue c.all.result ↔ ((k : ℕ) → k < length c.args.parents.now → kept k (get_or c.args.parents.now k 0) ≡ true) = search rules in
    kept_said c.args.parents.now c.all.result each
