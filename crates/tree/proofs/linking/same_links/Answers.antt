-- The links are made apart, so each list is compared with what they are.
use Rattle.std.proofs.Common.{arith, refl, sym, ◌∙◌, zero-add}
use Rattle.tree.specs.Table.{live}
use Rattle.tree.specs.Links.{first_at, next_at}
use Rattle.tree.proofs.Passing.{unlinked, zeros, compared}
use Rattle.tree.proofs.laws.Sound.{marked_there}
use Rattle.tree.proofs.linking.same_links.Goals as goal

pub link_ruled-requires-clause-linking : goal.link_ruled-requires-clause-linking
link_ruled-requires-clause-linking c =
    unlinked _ _ (λ k e. let h = marked_there c.args.marks.now k e in omega (arith, c.requires.marks_len)) refl refl (zeros 1024) (zeros 1024)

pub returns-then-eq : goal.returns-then-eq
returns-then-eq c =
    let made = c.link_ruled.ensures in
    let first = compared 0 (first_at c.args.parents.now (live c.args.marks.now) 1) c.args.first.now c.link_ruled.new.first (c.requires.first_len ∙ sym made.firsts) (λ i h. rw zero-add (made.first i)) in
    let next = compared 0 (next_at c.args.parents.now (live c.args.marks.now) 1) c.args.next.now c.link_ruled.new.next (c.requires.next_len ∙ sym made.nexts) (λ i h. rw zero-add (made.next i)) in
    rw (sym first ∙ (sym c.eq.ensures ∙ c.if-eq.true)) (c.eq-then-eq.ensures ∙ next)

pub returns-else-eq : goal.returns-else-eq
returns-else-eq c =
    let made = c.link_ruled.ensures in
    let first = compared 0 (first_at c.args.parents.now (live c.args.marks.now) 1) c.args.first.now c.link_ruled.new.first (c.requires.first_len ∙ sym made.firsts) (λ i h. rw zero-add (made.first i)) in
    rw (sym first ∙ (sym c.eq.ensures ∙ c.if-eq.false)) c.if-eq.false
