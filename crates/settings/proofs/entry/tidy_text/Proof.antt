-- `settings::entry::tidy_text`: the tests in their order. The test of the count is cited by what it says, not by its name, so that an edit of it is refused for its meaning.
-- Assumes nothing.
use borrow.Author.Tests.{eq-eqb, ne_eqb, le-leb, lt-leb}
use native.Mathlib.Omega.{arith}
use lib.ListN.{length, get_or}
use Prim.Native.Nat.{◌-◌}
use Rattle.settings.specs.Entry.{tidy_text}
use borrow.Author.Rules.{rules}
use Rattle.settings.proofs.entry.tidy_text.Statement.{statement}
use Rattle.settings.proofs.entry.tidy_text.Tie as tie

returns : tie.Need-returns-then-w-le1
unfolding tidy_text
returns c = rw (le-leb (length c.args.w.now) 1 c.if-w-le1.true)

pub tidy_text_spec : {M : Type 1} → statement M
unfolding tidy_text
tidy_text_spec =
    tie.close
    (tie.spec
    returns
    (λ c. search rules)
    (λ c. let w = c.args.w.now in rw (lt-leb (length w) 1 c.if-w-le1.false, eq-eqb (get_or w 0 0) 1 (omega arith)))
    (λ c. search rules)
    (λ c. search rules)
    (λ c. let w = c.args.w.now in rw (lt-leb (length w) 1 c.if-w-le1.false, ne_eqb (get_or w 0 0) 1 (λ e. omega (arith, e)), ne_eqb (get_or w (length w - 2) 0) 0 c.if-w-ne0.true))
    (λ c. search rules)
    (λ c. search rules)
    (λ c. let w = c.args.w.now in rw (lt-leb (length w) 1 c.if-w-le1.false, ne_eqb (get_or w 0 0) 1 (λ e. omega (arith, e)), eq-eqb (get_or w (length w - 2) 0) 0 c.if-w-ne0.false)))
