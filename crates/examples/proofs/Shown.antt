-- Each of the numbered examples comes out as the paper has it: one table, one statement, computed. And N16's walk is the only one.
-- Assumes nothing.
use mathlib.Core.Path.{◌≡◌, refl}
use mathlib.Core.List.{List, [], ◌∷◌, map}
use Prim.Native.Nat.{ℕ}
use Rattle.layout.specs.Answer.{after, means, located, of_field, end_at, bad_text, bare, span_at, field_at}
use Rattle.layout.specs.Bytes.{bytes, number, cells}
use Rattle.wire.specs.Layout.{signed, pairs}
use Rattle.wire.specs.Places.{units_at, text_at, array_at, shape_at}
use Rattle.wire.specs.Property.{values_at, range_at, list_at, form_at, enable_at, property_at}
use Rattle.wire.specs.Container.{is_kind, header_rest, header_at, container_word, container_said, param_bytes, command_said}
use Rattle.wire.specs.Utf8.{points, encoded, encoded_all, utf8, utf8_at}
use Rattle.tree.specs.Table.{rows, flags, live, kept_from, upheld_from, rises_from, table_ok, name_at, names_from, table_at}
use Rattle.tree.specs.Way.{climbed, from_root, way, depth, Walk}
use Rattle.tree.specs.Path.{name_of, path_of, path_said}
use Rattle.tree.proofs.laws.Tested.{tested}
use Rattle.tree.proofs.laws.Ways.{one_walk}
use Rattle.examples.specs.Table.{Example, shown, examples, objects}

pub all_right : map (λ (e : Example). shown e.given) examples ≡ map (λ (e : Example). e.seen) examples
unfolding after means located of_field end_at bad_text bare span_at field_at bytes number cells signed pairs units_at text_at array_at shape_at values_at range_at list_at form_at enable_at property_at is_kind header_rest header_at container_word container_said param_bytes command_said points encoded encoded_all utf8 utf8_at kept_from upheld_from rises_from table_ok name_at names_from table_at climbed from_root way depth name_of path_of path_said
all_right = refl

-- the refusals of N7 and N10 by their numbers
pub n7_is_2 : (bad_text 0).no ≡ 2
unfolding bad_text
n7_is_2 = refl

pub n10_is_1 : (end_at 0).no ≡ 1
unfolding end_at
n10_is_1 = refl

-- any walk of N16's table is that order
pub n16_only : (l : List ℕ) → Walk (rows objects) (live (flags objects)) l → l ≡ 0 ∷ 1 ∷ 3 ∷ 2 ∷ []
unfolding climbed from_root way depth
n16_only l w = one_walk (rows objects) (live (flags objects)) _ _ w (tested (rows objects) (flags objects) (0 ∷ 1 ∷ 3 ∷ 2 ∷ []) refl)
