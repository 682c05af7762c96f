-- `wire::given::write_text`: a surrogate alone, too many units, no room, or the string. Assumes nothing.
use mathlib.Core.Path.{◌∙◌, ap, sym}
use native.Mathlib.Omega.{arith}
use Rattle.layout.specs.Written.{no}
use Rattle.layout.proofs.laws.Writing.{refusal, no_room, done}
use Rattle.wire.proofs.laws.Numbered.{given_size, said_unpaired, said_long, said_text}
use Rattle.wire.proofs.given.write_text.Goals as goal

pub returns-then-not-units_paired : goal.returns-then-not-units_paired
returns-then-not-units_paired c = refusal (said_unpaired _ (sym c.units_paired.ensures ∙ c.if-not-units_paired.true) ∙ ap no (sym c.plain.ensures))

pub returns-then-units-gt254 : goal.returns-then-units-gt254
returns-then-units-gt254 c =
    refusal (said_long _ (sym c.units_paired.ensures ∙ c.if-not-units_paired.false) c.if-units-gt254.true ∙ ap no (sym c.plain-then-units-gt254.ensures))

pub returns-then-out-text_len : goal.returns-then-out-text_len
returns-then-out-text_len c =
    let l = given_size _ _ c.text_len.ensures in
    no_room (said_text _ (sym c.units_paired.ensures ∙ c.if-not-units_paired.false) c.if-units-gt254.false) (omega arith) c.plain-then-out-text_len.ensures

pub put_text-requires : goal.put_text-requires
put_text-requires c = let l = given_size _ _ c.text_len.ensures in (c.if-units-gt254.false, omega arith)

pub returns : goal.returns
returns c =
    let l = given_size _ _ c.text_len.ensures in
    done (said_text _ (sym c.units_paired.ensures ∙ c.if-not-units_paired.false) c.if-units-gt254.false) (omega arith) c.put_text.ensures
