-- The kept table is accepted, the object can be added, and it is, with its link.
use Rattle.std.proofs.lemmas.Result.{err_from_is_err_and}
use mathlib.Core.Path.{sym, ap, ◌∙◌}
use native.Mathlib.Omega.{arith}
use Rattle.layout.proofs.laws.Numbers.{bytes_of}
use Rattle.layout.specs.Answer.{got}
use Rattle.tree.proofs.laws.Accepted.{table_got}
use Rattle.tree.proofs.laws.Kept.{kept_got}
use Rattle.tree.proofs.laws.Links.{ok_links}
use Rattle.tree.proofs.laws.Sound.{accepted, marks_long}
use Rattle.shots.proofs.Fits.{fit_of, ends_short, name_short}
use Rattle.shots.proofs.Gatherings.{flags_long}
use Rattle.shots.proofs.Relinks.{added_lent, added_refused, added_no, added_done}
use Rattle.shots.proofs.Replies.{spare_got, object_got}
use Rattle.shots.proofs.addition.add_linked.Goals as goal

pub returns-then-news-ne1024 : goal.returns-then-news-ne1024
returns-then-news-ne1024 c = added_lent _ _ _ _ c.if-news-ne1024.true c.plain.ensures

pub returns-in_err-check_links : goal.returns-in_err-check_links
returns-in_err-check_links c =
    let p = err_from_is_err_and c.from_residual.result c.from_residual.ensures.1 in
    rw (p.1, p.2) (added_refused _ _ _ _ (omega (arith, c.if-news-ne1024.false)) c.in_err-check_links.ensures)

pub slice_bounds-check_object-end : goal.slice_bounds-check_object-end
slice_bounds-check_object-end c = let s = accepted _ (kept_got _ _ _ c.in_ok-check_links.ensures).1 in omega (arith, s.few, s.flagged)

pub slice_bounds-check_object-end-2 : goal.slice_bounds-check_object-end-2
slice_bounds-check_object-end-2 c = marks_long (accepted _ (kept_got _ _ _ c.in_ok-check_links.ensures).1)

pub check_object-requires : goal.check_object-requires
check_object-requires c = let f = fit_of (accepted _ (kept_got _ _ _ c.in_ok-check_links.ensures).1) in let n = flags_long f in record { marks_len_bound = omega (arith, f.few); marks_in_bounds = omega (arith, f.few, f.ended); spaced = rw n f.spaced }

pub returns-in_err-check_object : goal.returns-in_err-check_object
returns-in_err-check_object c =
    let p = err_from_is_err_and c.from_residual-in_err-check_object.result c.from_residual-in_err-check_object.ensures.1 in
    rw (p.1, p.2) (added_no _ _ _ _ (omega (arith, c.if-news-ne1024.false)) c.in_ok-check_links.ensures c.in_err-check_object.ensures)

pub add_named_linked-requires : goal.add_named_linked-requires
add_named_linked-requires c =
    let k = kept_got _ _ _ c.in_ok-check_links.ensures in
    let o = object_got _ _ _ _ _ c.in_ok-check_object.ensures in
    record {
      names_value = sym k.1 ∙ ap (got tt) (table_got _ (sym k.1)).0;
      news_len = omega (arith, c.if-news-ne1024.false);
      parent_value = o.0;
      count_bound = ends_short _ k.1 (bytes_of c.args.names.now (λ i. (c.slice_known-5-1.given i).fits)) c.args.count (omega arith);
      name_len_bound = name_short c.args.name.now (bytes_of c.args.name.now (λ i. (c.type_inv.name i).fits)) o.2;
      tt_value = (spare_got _ _ _ _ o.3).2;
      links_of = record { links = ok_links (accepted _ k.1) k.0 };
    }

pub returns : goal.returns
returns c =
    let o = object_got _ _ _ _ _ c.in_ok-check_object.ensures in
    added_done _ _ _ _ (omega (arith, c.if-news-ne1024.false)) c.in_ok-check_links.ensures o.0 o.2 c.add_named_linked.ensures.0 c.add_named_linked.ensures.1
