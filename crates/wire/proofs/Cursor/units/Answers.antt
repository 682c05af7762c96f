-- The string is read; refused, too long for the room, or its units copied. Assumes nothing.
use mathlib.Core.Path.{◌≡◌, ap, sym, ◌∙◌}
use mathlib.Core.List.{List}
use Prim.Native.Nat.{ℕ}
use native.Mathlib.Omega.{arith}
use lib.ListN.{drop}
use Rattle.layout.specs.Answer.{Told, got, refused, means}
use Rattle.layout.specs.Written.{said_of, says, no}
use Rattle.std.proofs.lemmas.Result.{err_from_is_err_and}
use Rattle.layout.proofs.laws.Writing.{refusal, no_room, done}
use Rattle.wire.specs.Codecs.{text}
use Rattle.wire.specs.Places.{text_at, items_in}
use Rattle.wire.specs.declared.Part.{Part}
use Rattle.wire.proofs.Agrees.{text_agrees}
use Rattle.wire.proofs.Spelled.{length_cells, text_stood}
use Rattle.wire.proofs.Cursor.units.Goals as goal

-- what is said of the string at a place
module _ (s : List ℕ) (at : ℕ) where
  said_got : (p : Part) (q : ℕ) → got p q ≡ text_at s at → said_of (text.read s at) ≡ says (items_in 2 s p)
  unfolding said_of means
  said_got p q e = ap said_of (sym (text_agrees s at) ∙ ap (means (items_in 2 s)) (sym e))

  said_refused : (u : Told) → refused u ≡ text_at s at → said_of (text.read s at) ≡ no u
  unfolding said_of means
  said_refused u e = ap said_of (sym (text_agrees s at) ∙ ap (means (items_in 2 s)) (sym e))

pub returns-in_err-units : goal.returns-in_err-units
returns-in_err-units c =
    let p = err_from_is_err_and c.from_residual.result c.from_residual.ensures.1 in
    rw (p.1, p.2) (refusal (said_refused _ _ _ c.in_err-units.ensures))

pub returns-then-out-units : goal.returns-then-out-units
returns-then-out-units c =
    let l = c.in_ok-units.units in
    no_room (said_got c.args.s.now c.args.self.at _ _ c.in_ok-units.ensures) (omega (arith, c.if-out-units.true, length_cells 2 l.count (drop l.start c.args.s.now))) c.plain.ensures

pub copy_units-requires : goal.copy_units-requires
copy_units-requires c = ((text_stood _ _ _ _ c.in_ok-units.ensures).fits, c.if-out-units.false)

pub returns : goal.returns
returns c =
    let l = c.in_ok-units.units in
    done (said_got c.args.s.now c.args.self.at _ _ c.in_ok-units.ensures) (omega (arith, c.if-out-units.false, length_cells 2 l.count (drop l.start c.args.s.now))) c.copy_units.ensures
