use mathlib.Core.Path.{sym, ap, ◌∙◌}
use Rattle.layout.specs.Answer.{refused}
use Rattle.tree.proofs.Tables.{table_no, table_names}
use Rattle.tree.proofs.laws.Sound.{sound, stops_long}
use Rattle.tree.proofs.table.check_table.Goals as goal

pub returns-then-not-table_ok : goal.returns-then-not-table_ok
returns-then-not-table_ok c = ap refused c.plain.ensures ∙ table_no _ (sym c.table_ok.ensures ∙ c.if-not-table_ok.true)

pub slice_bounds-check_names-end : goal.slice_bounds-check_names-end
slice_bounds-check_names-end c = stops_long (sound _ (sym c.table_ok.ensures ∙ c.if-not-table_ok.false))

pub check_names-requires : goal.check_names-requires
check_names-requires c = (sound _ (sym c.table_ok.ensures ∙ c.if-not-table_ok.false)).kept.spaced

pub returns : goal.returns
returns c = c.check_names.ensures ∙ table_names _ (sym c.table_ok.ensures ∙ c.if-not-table_ok.false)
