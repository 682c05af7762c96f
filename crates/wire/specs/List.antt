-- A description's list: its n-th value, where it stands, and what a step finds.
-- Assumes nothing.
use Rattle.std.specs.Prelude.{Ok, Err}
use Rattle.std.specs.declared.result.Result.{Result}
use Rattle.layout.specs.declared.Refusal.{Refusal}
use Rattle.wire.specs.declared.Cursor.{Cursor}
use Rattle.wire.specs.declared.value.Value.{Value}
use Rattle.std.specs.Prelude.{◌≡◌, Bool, List, ℕ, ◌-◌, eqb, ltb}
use Rattle.std.specs.Borrow.{Bor}
use Rattle.layout.specs.Answer.{Answer, got, refused, Reader, pick, after, bare}
use Rattle.layout.specs.Refusals.{PLACE}
use Rattle.wire.specs.Places.{Located, value_at}
use Rattle.wire.specs.Says.{located}
use Rattle.wire.specs.Property.{between, values_at, property_at}
use Rattle.wire.specs.declared.property.Slot.{Slot}
use Rattle.wire.specs.Description.{Form, PropInfo}
use Rattle.wire.specs.Description as form
use Rattle.wire.specs.declared.list.Place.{Place}
use Rattle.wire.specs.declared.list.Step.{Step}
use Rattle.std.specs.declared.option.Option as declared
use Rattle.std.specs.declared.option.Option.TheVariants.{Some, None}
use Rattle.wire.specs.declared.list.Values.{Values}

-- ── the n-th value, from 0: the reading's refusals, then 12 if absent or no list ──

unfoldable pub value_slot : ℕ → Reader (Located × Slot)
value_slot t s at = after (value_at t s at) λ v next. got (v, between at next) next

-- behind n others of its type
unfoldable pub nth_value : ℕ → ℕ → Reader (Located × Slot)
nth_value t n s start = after (values_at t n s start) λ _ at. value_slot t s at

unfoldable pub nth_in : ℕ → ℕ → Form → List ℕ → Answer (Located × Slot)
nth_in n t (form.list p count) s = pick (ltb n count) (nth_value t n s p.start) (refused (bare PLACE))
nth_in n t (form.range a b c) s = refused (bare PLACE)
nth_in n t form.absent s = refused (bare PLACE)

unfoldable pub nth_at : Bool → ℕ → List ℕ → Answer (Located × Slot)
nth_at there n s = after (property_at there s 0) λ x _. nth_in n x.data_type x.form s

abbrev pub says_nth : Result (Value × Slot × Cursor) Refusal → Answer (Located × Slot)
says_nth (Ok (v, p, c)) = got (located v, p) c.at
says_nth (Err t) = refused t

-- ── the list handed out ──

-- no list leaves none, nor does a refused description, of which `at` is the place that its refusal tells
abbrev pub place_in : ℕ → Form → Place
place_in t (form.list p count) = record { ty = t; at = p.start; left = count; refusal = 0 }
place_in t (form.range a b c) = record { ty = t; at = 0; left = 0; refusal = 0 }
place_in t form.absent = record { ty = t; at = 0; left = 0; refusal = 0 }

abbrev pub place_from : Answer PropInfo → Place
place_from (got x n) = place_in x.data_type x.form
place_from (refused t) = record { ty = 0; at = t.at; left = 0; refusal = t.no }

abbrev pub place_of : Bool → List ℕ → Place
place_of there s = place_from (property_at there s 0)

-- the list over src from a place on
abbrev pub list_at : Bor (List ℕ) → Place → Values
list_at s p = record { src = s; ty = p.ty; at = p.at; left = p.left; refusal = p.refusal }

-- ── a step ──

pub data Stepped : Type 0 where
  -- the value, the place after it, and how many are left
  next : Located → ℕ → ℕ → Stepped
  end : Stepped

-- the end where no whole value can be read
abbrev pub stepped : ℕ → Answer Located → Stepped
stepped left (got v at) = next v at (left - 1)
stepped left (refused t) = end

-- and where the description was refused, or none is left
unfoldable pub step_at : List ℕ → ℕ → ℕ → ℕ → ℕ → Stepped
step_at s t at left refusal = pick (eqb refusal 0) (pick (eqb left 0) end (stepped left (value_at t s at))) end

abbrev pub says_step : declared.Option Step → Stepped
says_step (Some x) = next (located x.value) x.at x.left
says_step None = end

-- what a call of `next` answers of the list, and what a call of `moved` makes of it
abbrev pub Nexts : Values → declared.Option Step → Type 0
Nexts l r = says_step r ≡ step_at l.src.now l.ty l.at l.left l.refusal

abbrev pub Moves : Values → ℕ → ℕ → Values → Type 0
Moves l at left m = (m.src ≡ l.src) × (m.ty ≡ l.ty) × (m.at ≡ at) × (m.left ≡ left) × (m.refusal ≡ l.refusal)
