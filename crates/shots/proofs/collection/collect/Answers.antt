-- The table is accepted, and gathered.
use Rattle.std.proofs.lemmas.Result.{err_from_is_err_and}
use mathlib.Core.Path.{◌∙◌}
use native.Mathlib.Omega.{arith}
use Rattle.tree.proofs.laws.Sound.{accepted}
use Rattle.shots.proofs.Fits.{fit_of}
use Rattle.shots.proofs.Replies.{lent_no, lent_is, collect_refused, collect_done}
use Rattle.shots.proofs.collection.collect.Goals as goal

pub returns-then-news-ne1024 : goal.returns-then-news-ne1024
returns-then-news-ne1024 c = collect_refused _ _ (lent_no _ _ c.if-news-ne1024.true c.plain.ensures)

pub returns-in_err-check_table : goal.returns-in_err-check_table
returns-in_err-check_table c =
    let p = err_from_is_err_and c.from_residual.result c.from_residual.ensures.1 in
    rw (p.1, p.2) (collect_refused _ _ (c.in_err-check_table.ensures ∙ lent_is _ _ (omega (arith, c.if-news-ne1024.false))))

pub gather-requires : goal.gather-requires
gather-requires c = record { fit = fit_of (accepted _ c.in_ok-check_table.ensures); news_len = omega (arith, c.if-news-ne1024.false) }

pub returns : goal.returns
returns c = collect_done _ _ (c.in_ok-check_table.ensures ∙ lent_is _ _ (omega (arith, c.if-news-ne1024.false))) c.gather.ensures
