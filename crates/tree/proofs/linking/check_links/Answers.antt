-- The rule and the links, then the names.
use mathlib.Core.Path.{sym, ap, ◌∙◌}
use Rattle.layout.specs.Answer.{refused}
use Rattle.tree.proofs.Tables.{table_no, table_names}
use Rattle.tree.proofs.laws.Kept.{kept_ok, kept_other, kept_first, kept_next, kept_table}
use Rattle.tree.proofs.laws.Links.{links_by}
use Rattle.tree.proofs.laws.Sound.{sound, rows_long, stops_long, marks_long, even}
use Rattle.tree.proofs.linking.check_links.Goals as goal

pub returns-then-first-ne1024 : goal.returns-then-first-ne1024
returns-then-first-ne1024 c = ap refused c.plain.ensures ∙ sym (kept_first _ _ _ c.if-first-ne1024.true)

pub returns-then-next-ne1024 : goal.returns-then-next-ne1024
returns-then-next-ne1024 c = ap refused c.plain-then-next-ne1024.ensures ∙ sym (kept_next _ _ _ c.if-first-ne1024.false c.if-next-ne1024.true)

pub returns-then-not-table_ok : goal.returns-then-not-table_ok
returns-then-not-table_ok c = ap refused c.plain-then-not-table_ok.ensures ∙ sym (kept_table _ _ _ (sym (table_no _ (sym c.table_ok.ensures ∙ c.if-not-table_ok.true))))

pub slice_bounds-same_links-end : goal.slice_bounds-same_links-end
slice_bounds-same_links-end c = rows_long (sound _ (sym c.table_ok.ensures ∙ c.if-not-table_ok.false))

pub slice_bounds-same_links-end-2 : goal.slice_bounds-same_links-end-2
slice_bounds-same_links-end-2 c = marks_long (sound _ (sym c.table_ok.ensures ∙ c.if-not-table_ok.false))

pub same_links-requires : goal.same_links-requires
same_links-requires c = let s = sound _ (sym c.table_ok.ensures ∙ c.if-not-table_ok.false) in record { ruled = s.kept.ruling; marks_len = even s; first_len = c.if-first-ne1024.false; next_len = c.if-next-ne1024.false }

pub returns-then-not-same_links : goal.returns-then-not-same_links
returns-then-not-same_links c = ap refused c.plain-then-not-same_links.ensures ∙ sym (kept_other _ _ _ (links_by _ _ _ c.if-first-ne1024.false c.if-next-ne1024.false ∙ sym c.same_links.ensures ∙ c.if-not-same_links.true))

pub slice_bounds-check_names-end : goal.slice_bounds-check_names-end
slice_bounds-check_names-end c = stops_long (sound _ (sym c.table_ok.ensures ∙ c.if-not-table_ok.false))

pub check_names-requires : goal.check_names-requires
check_names-requires c = (sound _ (sym c.table_ok.ensures ∙ c.if-not-table_ok.false)).kept.spaced

pub returns : goal.returns
returns c =
    let right = links_by _ _ _ c.if-first-ne1024.false c.if-next-ne1024.false ∙ sym c.same_links.ensures ∙ c.if-not-same_links.false in
    c.check_names.ensures ∙ table_names _ (sym c.table_ok.ensures ∙ c.if-not-table_ok.false) ∙ sym (kept_ok _ _ _ right)
