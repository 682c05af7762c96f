-- `abi::value::value_row`: each case by itself. Assumes nothing.
use Rattle.std.proofs.Common.{sym, ap, w64, rules}
use mir.ValLaws.{to_z-of_z}
use Rattle.wire.specs.Says.{located}
use Rattle.abi.specs.Rows.{value_row}
use Rattle.abi.proofs.value.value_row.Statement.{statement}
use Rattle.abi.proofs.value.value_row.Tie as tie

returns : tie.Need-returns-in-Int
returns c =
    let z = c.in-Int.z in
    let same = to_z-of_z w64 z (record { sfits = c.in-Int.known_told-1-own.given.0.1 }) in
    rw (c.signed_word.ensures, same) (ap (λ v. value_row (located v)) (sym c.in-Int.is))

pub value_row_spec : {M : Type 1} → statement M
value_row_spec =
    tie.close
    (tie.spec
    (λ c. search rules)
    (λ c κs. search rules)
    (λ c. search rules)
    (λ c. search rules)
    (λ c. search rules)
    (λ c. search rules)
    (λ c. search rules)
    returns
    (λ c. rw c.in-Nat.is)
    (λ c. rw c.in-Wide.is)
    (λ c. rw c.in-Items.is)
    (λ c. rw c.in-Text.is)
    (λ c. rw c.in-Undef.is))
