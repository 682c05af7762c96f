-- `tree::table::table_ok`: each answer by the tests that led there. Assumes nothing.
use mathlib.Core.Path.{◌≡◌, sym, ◌∙◌}
use mathlib.Core.Bool.{true}
use borrow.Author.Rules.{rules}
use lib.ListN.{length, take}
use Rattle.tree.specs.Table.{table, lists_ok}
use Rattle.tree.proofs.Tables.{no_lists, over, none, no_parents, rule_of, flags_long, no_ends, by_marks}
use Rattle.tree.proofs.laws.Sound.{cut, listed}
use Rattle.tree.proofs.table.table_ok.Statement.{statement}
use Rattle.tree.proofs.table.table_ok.Tie as tie

-- the lists have 1,024 places
long : (c : tie.Else-not-lists_ok) → lists_ok c.args.handles.now c.args.parents.now c.args.ends.now c.args.marks.now ≡ true
long c = sym c.lists_ok.ensures ∙ c.if-not-lists_ok.false

-- and so each has a place for each below the count
places : (c : tie.Else-count-gt1024) → (c.args.count ≡ length (take c.args.count c.args.parents.now)) × (c.args.count ≡ length (take c.args.count c.args.ends.now)) × (c.args.count ≡ length (take c.args.count c.args.marks.now))
places c =
    let a = c.args in
    let l = listed a.handles.now a.parents.now a.ends.now a.marks.now (long c.before) in
    (sym (cut a.count a.parents.now l.1 c.if-count-gt1024.false), sym (cut a.count a.ends.now l.2 c.if-count-gt1024.false), sym (cut a.count a.marks.now l.3 c.if-count-gt1024.false))

returns : tie.Need-returns-then-not-lists_ok
returns c = no_lists _ (sym c.lists_ok.ensures ∙ c.if-not-lists_ok.true)

returns-2 : tie.Need-returns-then-count-gt1024
returns-2 c = over _ (long c.before) c.if-count-gt1024.true

returns-3 : tie.Need-returns-then-count-eq0
returns-3 c = none _ (long c.before.before) c.if-count-gt1024.false c.if-count-eq0.true

returns-4 : tie.Need-returns-then-not-parents_ok
returns-4 c =
    let i = c in
    no_parents _ (long c.before.before.before.before) i.if-count-gt1024.false i.if-count-eq0.false (sym c.parents_ok.ensures ∙ c.if-not-parents_ok.true)

returns-5 : tie.Need-returns-then-not-ends_ok
returns-5 c =
    let j = c in
    let i = j in
    no_ends _ (long c.before.before.before.before.before.before) i.if-count-gt1024.false i.if-count-eq0.false (sym j.parents_ok.ensures ∙ j.if-not-parents_ok.false) (sym c.ends_ok.ensures ∙ c.if-not-ends_ok.true)

marks-ok-requires : tie.Need-marks_ok-requires
marks-ok-requires c κs =
    let j = c in
    let i = j in
    let kept = sym j.parents_ok.ensures ∙ j.if-not-parents_ok.false in
    let a = i.args in
    let t = table a.handles.now a.parents.now a.ends.now a.marks.now a.count a.names.now in
    (rule_of t (long c.before.before.before.before.before.before) i.if-count-gt1024.false i.if-count-eq0.false kept, flags_long t (long c.before.before.before.before.before.before) i.if-count-gt1024.false i.if-count-eq0.false kept)

returns-6 : tie.Need-returns
returns-6 c =
    let e = c in
    let j = e in
    let i = j in
    c.marks_ok.ensures
    ∙ by_marks _ (long c.before.before.before.before.before.before.before) i.if-count-gt1024.false i.if-count-eq0.false (sym j.parents_ok.ensures ∙ j.if-not-parents_ok.false) (sym e.ends_ok.ensures ∙ e.if-not-ends_ok.false)

pub table_ok_spec : {M : Type 1} → statement M
table_ok_spec =
    tie.close
    (tie.spec
    (λ c κs. search rules)
    returns
    returns-2
    returns-3
    (λ c. (places c.before).0)
    (λ c κs. search rules)
    returns-4
    (λ c. (places c.before.before.before).1)
    (λ c κs. search rules)
    returns-5
    (λ c. (places c.before.before.before.before.before).0)
    (λ c. (places c.before.before.before.before.before).2)
    marks-ok-requires
    returns-6)
