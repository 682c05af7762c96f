use Rattle.std.proofs.lemmas.Result.{err_from_is_err_and}
use mathlib.Core.Path.{◌≡◌, refl, sym, ap, ◌∙◌}
use lib.ListN.{length}
use Rattle.layout.specs.Answer.{got}
use native.Mathlib.Nat.{sub-zero}
use native.Mathlib.Numerals.{add-one}
use native.Mathlib.Omega.{arith}
use Rattle.tree.proofs.Tables.{names_stop, names_on, names_end}
use Rattle.tree.proofs.table.check_names.Goals as goal

pub loop-end-init : goal.loop-end-init
loop-end-init c = record { answer = simp sub-zero; within = omega arith; start = refl }

pub loop-end-preserved : goal.loop-end-preserved
loop-end-preserved c =
    record {
      answer = names_on _ c.args.ends.now c.args.names.now c.loop-end-test.true _ c.loop-end.invariant.start _ c.in_ok-check_name.ensures ∙ c.loop-end.invariant.answer;
      within = omega arith;
      start = simp add-one;
    }

pub returns-in_err-check_name : goal.returns-in_err-check_name
returns-in_err-check_name c =
    let p = err_from_is_err_and c.from_residual.result c.from_residual.ensures.1 in
    rw (p.1, p.2) (names_stop _ c.args.ends.now c.args.names.now c.loop-end-test.true _ c.loop-end.invariant.start _ c.in_err-check_name.ensures ∙ c.loop-end.invariant.answer)

pub returns : goal.returns
returns c =
    let last : c.loop-end.end-index ≡ length c.args.ends.now = omega (arith, c.loop-end.invariant.within, c.loop-end-test.false) in
    ap (got tt) (sym last) ∙ names_end _ c.args.ends.now c.args.names.now c.loop-end-test.false ∙ c.loop-end.invariant.answer
