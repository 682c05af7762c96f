-- The table is accepted, the object can be added, and it is.
use Rattle.std.proofs.lemmas.Result.{err_from_is_err_and}
use mathlib.Core.Path.{◌∙◌}
use native.Mathlib.Omega.{arith}
use Rattle.layout.proofs.laws.Numbers.{bytes_of}
use Rattle.tree.proofs.laws.Sound.{accepted, rows_long, marks_long}
use Rattle.shots.proofs.Fits.{fit_of, ends_short, name_short}
use Rattle.shots.proofs.Gatherings.{flags_long}
use Rattle.shots.proofs.Replies.{lent_no, lent_is, add-refused, add-no, add-through, spare_got, object_got}
use Rattle.shots.proofs.addition.add.Goals as goal

pub returns-then-news-ne1024 : goal.returns-then-news-ne1024
returns-then-news-ne1024 c = add-refused (lent_no _ _ c.if-news-ne1024.true c.plain.ensures)

pub returns-in_err-check_table : goal.returns-in_err-check_table
returns-in_err-check_table c =
    let p = err_from_is_err_and c.from_residual.result c.from_residual.ensures.1 in
    rw (p.1, p.2) (add-refused (c.in_err-check_table.ensures ∙ lent_is _ _ (omega (arith, c.if-news-ne1024.false))))

pub slice_bounds-check_object-end : goal.slice_bounds-check_object-end
slice_bounds-check_object-end c = let s = accepted _ c.in_ok-check_table.ensures in omega (arith, s.few, s.flagged)

pub slice_bounds-check_object-end-2 : goal.slice_bounds-check_object-end-2
slice_bounds-check_object-end-2 c = marks_long (accepted _ c.in_ok-check_table.ensures)

pub check_object-requires : goal.check_object-requires
check_object-requires c = let f = fit_of (accepted _ c.in_ok-check_table.ensures) in let n = flags_long f in record { marks_len_bound = omega (arith, f.few); marks_in_bounds = omega (arith, f.few, f.ended); spaced = rw n f.spaced }

pub returns-in_err-check_object : goal.returns-in_err-check_object
returns-in_err-check_object c =
    let p = err_from_is_err_and c.from_residual-in_err-check_object.result c.from_residual-in_err-check_object.ensures.1 in
    rw (p.1, p.2) (add-no (c.in_ok-check_table.ensures ∙ lent_is _ _ (omega (arith, c.if-news-ne1024.false))) c.in_err-check_object.ensures)

pub add_named-requires : goal.add_named-requires
add_named-requires c =
    let s = accepted _ c.in_ok-check_table.ensures in
    let o = object_got _ _ _ _ _ c.in_ok-check_object.ensures in
    let there = s.marks.place c.args.parent o.0 in
    record {
      fit = fit_of s;
      news_len = omega (arith, c.if-news-ne1024.false);
      parent_lt_count = omega (arith, rows_long s);
      count_bound = ends_short _ c.in_ok-check_table.ensures (bytes_of c.args.names.now (λ i. (c.slice_known-5-1.given i).fits)) c.args.count (omega arith);
      name_len_bound = name_short c.args.name.now (bytes_of c.args.name.now (λ i. (c.type_inv.name i).fits)) o.2;
      tt_value = (spare_got _ _ _ _ o.3).2;
    }

pub returns : goal.returns
returns c =
    let o = object_got _ _ _ _ _ c.in_ok-check_object.ensures in
    add-through (c.in_ok-check_table.ensures ∙ lent_is _ _ (omega (arith, c.if-news-ne1024.false))) o.0 o.2 c.add_named.ensures
