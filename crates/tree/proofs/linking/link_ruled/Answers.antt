-- A live place is put before those that its parent had; any other changes nothing.
use Rattle.std.proofs.Common.{◌≡◌, ◌<◌, ◌-◌, ℕ, suc, get_or, arith, subst}
use Rattle.std.proofs.lemmas.Bool.{lt-ltb, le-ltb}
use Rattle.tree.specs.Table.{live}
use Rattle.tree.specs.Links.{Linking}
use Rattle.tree.proofs.Passing.{link_skip, link_hit}
use Rattle.tree.proofs.linking.link_ruled.Goals as goal

pub loop-k-init : goal.loop-k-init
loop-k-init c = record { linked = c.requires.linking; within = omega arith; some = omega (arith, c.requires.ruled.some) }

pub loop-k-preserved-then-marks-k-ne0 : goal.loop-k-preserved-then-marks-k-ne0
loop-k-preserved-then-marks-k-ne0 c =
    let ps = c.args.parents.now in
    let i = c.loop-k in
    let up : get_or c.args.parents.now (c.loop-k.k - 1) 0 < c.loop-k.k - 1 = c.requires.ruled.smaller (i.k - 1) (omega (arith, c.loop-k-test.true)) (omega (arith, c.loop-k.invariant.within, c.loop-k-test.true)) in
    let back : c.loop-k.k ≡ suc (c.loop-k.k - 1) = omega (arith, c.loop-k-test.true) in
    let before = subst (λ (n : ℕ). Linking c.args.parents.now (live c.args.marks.now) n c.loop-k.first c.loop-k.next) back i.invariant.linked in
    record {
      linked = link_hit _ _ (i.k - 1) (omega arith) c.requires.ruled.few before (lt-ltb 0 (get_or c.args.marks.now (i.k - 1) 0) (omega (arith, c.if-marks-k-ne0.true))) (omega arith);
      within = omega arith;
      some = omega (arith, c.loop-k-test.true);
    }

pub loop-k-preserved : goal.loop-k-preserved
loop-k-preserved c =
    let i = c.loop-k in
    let back : c.loop-k.k ≡ suc (c.loop-k.k - 1) = omega (arith, c.loop-k-test.true) in
    let before = subst (λ (n : ℕ). Linking c.args.parents.now (live c.args.marks.now) n c.loop-k.first c.loop-k.next) back i.invariant.linked in
    record {
      linked = link_skip _ _ (i.k - 1) (omega arith) c.requires.ruled.few before (le-ltb 0 (get_or c.args.marks.now (i.k - 1) 0) (omega (arith, c.if-marks-k-ne0.false)));
      within = omega arith;
      some = omega (arith, c.loop-k-test.true);
    }

pub returns : goal.returns
returns c =
    let one : c.loop-k.k ≡ 1 = omega (arith, c.loop-k-test.false, c.loop-k.invariant.some) in
    subst (λ (n : ℕ). Linking c.args.parents.now (live c.args.marks.now) n c.loop-k.first c.loop-k.next) one c.loop-k.invariant.linked
