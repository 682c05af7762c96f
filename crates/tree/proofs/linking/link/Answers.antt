-- Both lists are cleared, and then linked.
use Rattle.std.proofs.lemmas.Result.{err_from_is_err_and}
use mathlib.Core.Path.{sym, ap, ◌∙◌}
use Rattle.layout.specs.Answer.{refused}
use Rattle.tree.specs.Links.{relinked}
use Rattle.tree.proofs.Passing.{unlinked}
use Rattle.tree.proofs.laws.Kept.{link_first, link_next, link_both, linked_refused}
use Rattle.tree.proofs.laws.Links.{linking_links}
use Rattle.tree.proofs.laws.Sound.{accepted, rows_long, marks_long, even}
use Rattle.tree.proofs.linking.link.Goals as goal

pub returns-then-first-ne1024 : goal.returns-then-first-ne1024
returns-then-first-ne1024 c = linked_refused _ _ _ (ap refused c.plain.ensures ∙ sym (link_first _ _ _ c.if-first-ne1024.true))

pub returns-then-next-ne1024 : goal.returns-then-next-ne1024
returns-then-next-ne1024 c = linked_refused _ _ _ (ap refused c.plain-then-next-ne1024.ensures ∙ sym (link_next _ _ _ c.if-first-ne1024.false c.if-next-ne1024.true))

pub returns-in_err-n : goal.returns-in_err-n
returns-in_err-n c =
    let p = err_from_is_err_and c.from_residual.result c.from_residual.ensures.1 in
    rw (p.1, p.2) (linked_refused _ _ _ (c.in_err-n.ensures ∙ sym (link_both _ _ _ c.if-first-ne1024.false c.if-next-ne1024.false)))

pub slice_bounds-link_ruled-end : goal.slice_bounds-link_ruled-end
slice_bounds-link_ruled-end c = rows_long (accepted _ c.in_ok-n.ensures)

pub slice_bounds-link_ruled-end-2 : goal.slice_bounds-link_ruled-end-2
slice_bounds-link_ruled-end-2 c = marks_long (accepted _ c.in_ok-n.ensures)

pub link_ruled-requires : goal.link_ruled-requires
link_ruled-requires c =
    let s = accepted _ c.in_ok-n.ensures in
    record {
      ruled = s.kept.ruling;
      marks_len = even s;
      linking = unlinked _ _ s.marks.place (c.clear.ensures.0 ∙ c.if-first-ne1024.false) (c.clear-2.ensures.0 ∙ c.if-next-ne1024.false) c.clear.ensures.1 c.clear-2.ensures.1;
    }

pub returns : goal.returns
returns c =
    record {
      answers = c.in_ok-n.ensures ∙ sym (link_both _ _ _ c.if-first-ne1024.false c.if-next-ne1024.false);
      left = relinked (linking_links (accepted _ c.in_ok-n.ensures).marks c.link_ruled.ensures);
    }
