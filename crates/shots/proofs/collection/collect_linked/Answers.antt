-- The kept table is accepted, and gathered with its links.
use Rattle.std.proofs.lemmas.Result.{err_from_is_err_and}
use mathlib.Core.Path.{sym}
use native.Mathlib.Omega.{arith}
use Rattle.tree.proofs.laws.Accepted.{table_got}
use Rattle.tree.proofs.laws.Kept.{kept_got}
use Rattle.tree.proofs.laws.Links.{ok_links}
use Rattle.tree.proofs.laws.Sound.{accepted}
use Rattle.shots.proofs.Relinks.{recollected_lent, recollected_refused, recollected_done}
use Rattle.shots.proofs.collection.collect_linked.Goals as goal

pub returns-then-news-ne1024 : goal.returns-then-news-ne1024
returns-then-news-ne1024 c = recollected_lent _ _ _ _ c.if-news-ne1024.true c.plain.ensures

pub returns-in_err-check_links : goal.returns-in_err-check_links
returns-in_err-check_links c =
    let p = err_from_is_err_and c.from_residual.result c.from_residual.ensures.1 in
    rw (p.1, p.2) (recollected_refused _ _ _ _ (omega (arith, c.if-news-ne1024.false)) c.in_err-check_links.ensures)

pub gather_linked-requires : goal.gather_linked-requires
gather_linked-requires c =
    let k = kept_got _ _ _ c.in_ok-check_links.ensures in
    record {
      rule = (table_got _ (sym k.1)).1;
      news_len = omega (arith, c.if-news-ne1024.false);
      links = ok_links (accepted _ k.1) k.0;
    }

pub returns : goal.returns
returns c = recollected_done _ _ _ _ (omega (arith, c.if-news-ne1024.false)) c.in_ok-check_links.ensures c.gather_linked.ensures.0 c.gather_linked.ensures.1
