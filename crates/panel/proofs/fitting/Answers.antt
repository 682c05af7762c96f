-- `panel::fitting`: the tests in their order. Assumes nothing.
use Rattle.std.proofs.Common.{sym, ◌∙◌, rules, eq-eqb, ne_eqb, le-leb}
use borrow.Author.Tests.{lt-leb}
use Rattle.panel.specs.Panel.{suits}
use Rattle.panel.proofs.fitting.Goals as goal

pub returns-then-code-x : goal.returns-then-code-x
unfolding suits
returns-then-code-x c s = rw (ne_eqb _ _ c.if-code-x.true)

pub returns-then-is_undef : goal.returns-then-is_undef
unfolding suits
returns-then-is_undef c s = rw (eq-eqb _ _ c.if-code-x.false, sym c.is_undef.ensures ∙ c.if-is_undef.true)

pub returns-then-code-ge1 : goal.returns-then-code-ge1
unfolding suits
returns-then-code-ge1 c s =
    rw (eq-eqb _ _ c.if-code-x.false, sym c.is_undef.ensures ∙ c.if-is_undef.false, sym (c.is_range.ensures c.args.x.data_type s) ∙ c.if-is_range.true, le-leb _ _ c.if-code-ge1.true)

pub returns-else-code-ge1 : goal.returns-else-code-ge1
unfolding suits
returns-else-code-ge1 c s =
    rw (eq-eqb _ _ c.if-code-x.false, sym c.is_undef.ensures ∙ c.if-is_undef.false, sym (c.is_range.ensures c.args.x.data_type s) ∙ c.if-is_range.true, lt-leb _ _ c.if-code-ge1.false)

pub returns : goal.returns
unfolding suits
returns c s =
    rw (eq-eqb _ _ c.if-code-x.false, sym c.is_undef.ensures ∙ c.if-is_undef.false, sym (c.is_range.ensures c.args.x.data_type s) ∙ c.if-is_range.false)
