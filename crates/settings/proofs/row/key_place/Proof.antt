-- `settings::row::key_place`: by the kind. Assumes nothing.
use borrow.Author.Rules.{rules}
use Rattle.settings.proofs.row.key_place.Statement.{statement}
use Rattle.settings.proofs.row.key_place.Tie as tie

pub key_place_spec : {M : Type 1} → statement M
key_place_spec =
    tie.close
    (tie.spec (λ c κs. search rules) (λ c. rw c.if-own.true c.own_place.ensures) (λ c κs. search rules) (λ c. rw c.if-own.false c.any_place.ensures))
