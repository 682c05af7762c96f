-- The faults of each layout of the byte layer: where it is refused for its text (2 TEXT), and not for its end (1 END). No reader stands here.
-- Only strings are tested. A string is a fault if it is whole, its last unit too, and a surrogate among its units is unpaired;
-- a record is one if it begins with fields that are words, and then such a string, whatever follows.
-- Assumes nothing.
use Rattle.std.specs.Prelude.{Bool, List, [], ◌∷◌, ℕ, zero, suc}
use Rattle.layout.specs.Fault.{Fault, Clean, Fails, Along, Counts}
use Rattle.layout.specs.Grammar.{Number, ◌then◌, As, Repeat, Spare}
use Rattle.wire.specs.Layout.{paired, Shape, one, many, string, undef, shape, Value, Enable}

-- ── strings: Units and Text, with the test failed ──

abbrev pub UnitsFault : ℕ → Fault
UnitsFault zero = Clean
UnitsFault (suc n) = Fails paired (As (λ x. x.0) (Repeat n (Number 2) then λ _. Spare 2)) Clean

abbrev pub TextFault : Fault
TextFault = Along (Number 1) Clean UnitsFault

-- ── values ──

abbrev pub ShapedFault : Shape → Fault
ShapedFault (one k) = Clean
ShapedFault (many k) = Clean
ShapedFault string = TextFault
ShapedFault undef = Clean

abbrev pub ValueFault : ℕ → Fault
ValueFault t = ShapedFault (shape t)

-- ── records ──

abbrev pub RowFault : List ℕ → Fault
RowFault [] = Clean
RowFault (t ∷ ts) = Along (Value t) (ValueFault t) (λ _. RowFault ts)

-- ── a property's description ──

abbrev pub FormedFault : ℕ → ℕ → Fault
FormedFault t zero = Clean
FormedFault t (suc zero) = Along (Value t) (ValueFault t) (λ _. Along (Value t) (ValueFault t) (λ _. ValueFault t))
FormedFault t (suc (suc zero)) = Counts 2 (Value t) (ValueFault t)
FormedFault t (suc (suc (suc n))) = Clean

abbrev pub FormFault : ℕ → Fault
FormFault t = Along (Number 1) Clean (FormedFault t)

abbrev pub PropertyFault : Bool → Fault
PropertyFault there =
    Along (Number 2) Clean λ code.
    Along (Number 2) Clean λ type.
    Along (Number 1) Clean λ getset.
    Along (Enable there) Clean λ enable.
    Along (Value type) (ValueFault type) λ default.
    Along (Value type) (ValueFault type) λ current.
    FormFault type
