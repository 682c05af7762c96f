-- `settings::entry::word_tidy`: by the type. Assumes nothing.
use borrow.Author.Rules.{rules}
use borrow.Author.Tests.{eq-eqb, ne_eqb}
use Rattle.settings.proofs.entry.word_tidy.Statement.{statement}
use Rattle.settings.proofs.entry.word_tidy.Tie as tie

pub word_tidy_spec : {M : Type 1} → statement M
word_tidy_spec = tie.close (tie.spec (λ c. simp (ne_eqb _ _ c.if-code-ne-STRING.true)) (λ c κs. search rules) (λ c. rw (eq-eqb _ _ c.if-code-ne-STRING.false) c.tidy_text.ensures))
