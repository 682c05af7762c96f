-- `panel::scan::laid_out`: one test after the other; where the place is past the end, only no values are there. Assumes nothing.
use Rattle.std.proofs.Common.{◌≡◌, ℕ, zero, suc, ◌-◌, ◌*◌, eqb, leb, sym, refl, ◌∙◌, arith, eq-eqb, ne_eqb}
use borrow.Author.Tests.{lt-leb}
use Rattle.panel.specs.Words.{laid_out}
use Rattle.panel.proofs.Scanning.{times_small}
use Rattle.panel.proofs.scan.laid_out.Goals as goal

at-most-none : (n : ℕ) → eqb n 0 ≡ leb n 0
at-most-none zero = refl
at-most-none (suc n) = ne_eqb (suc n) 0 (λ e. omega arith) ∙ sym (lt-leb (suc n) 0 (omega arith))

pub returns-then-w-eq0 : goal.returns-then-w-eq0
unfolding laid_out
returns-then-w-eq0 c = rw (eq-eqb _ _ c.if-w-eq0.true)

pub returns-then-own-w : goal.returns-then-own-w
unfolding laid_out
returns-then-own-w c = rw (ne_eqb _ _ c.if-w-eq0.false, ne_eqb _ _ c.if-own-w.true)

pub overflow_mul-need : goal.overflow_mul-need
overflow_mul-need c = record { fits = times_small c.args.n c.args.w (omega arith) c.requires }

pub returns-then-size-first : goal.returns-then-size-first
unfolding laid_out
returns-then-size-first c =
    let a = c.args in
    let none : a.size - a.first ≡ 0 = omega (arith, c.if-size-first.true) in
    rw (ne_eqb _ _ c.if-w-eq0.false, eq-eqb _ _ c.if-own-w.false, none) (at-most-none (a.n * a.w))

pub returns : goal.returns
unfolding laid_out
returns c = rw (ne_eqb _ _ c.if-w-eq0.false, eq-eqb _ _ c.if-own-w.false)
