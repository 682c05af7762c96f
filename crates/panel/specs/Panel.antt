-- What the panel answers: the first refusal in document 02's order, or the SetDevicePropValue command and behind it its Data container.
-- Assumes nothing.
use Rattle.std.specs.Prelude.{◌≡◌, ℕ, Bool, true, false, List, [], ◌∷◌, ◌==◌, nat_le}
use Rattle.layout.specs.Answer.{Answer, got, refused, pick, after, means, bare}
use Rattle.layout.specs.Grammar.{loose}
use Rattle.layout.specs.Written.{Said, no}
use Rattle.wire.specs.Codecs.{value as codec}
use Rattle.wire.specs.Layout.{Shape, one, many, string, undef, shape, Val, Value, Form, range, list, no_form, Reading}
use Rattle.wire.specs.Description as placed
use Rattle.wire.specs.Description.{PropInfo}
use Rattle.wire.specs.Places.{Located, value_at, shape_in}
use Rattle.wire.specs.Property.{property_at, form_in, property_in}
use Rattle.wire.specs.declared.container.Command.{Command}
use Rattle.session.specs.Calls.{command_of}
use Rattle.session.specs.Payloads.{filling}
use Rattle.session.specs.Transaction.{with_data, Makes, says_made}
use Rattle.session.specs.declared.transaction.Made.{Made}
use Rattle.std.specs.declared.result.Result.{Result}
use Rattle.layout.specs.declared.Refusal.{Refusal}
use Rattle.session.specs.declared.transaction.Session.{Session}
use Rattle.panel.specs.Refusals.{TYPE, VALUE}
use Rattle.panel.specs.Test.{allows}

-- ── what is read ──

-- the description's reading, by whether its layout has the `IsEnable` byte: 1 or 2 with its place in the description; bytes may follow it
unfoldable pub reading_of : Bool → List ℕ → Answer Reading
reading_of there description = means (property_in description) (property_at there description 0)

-- the chosen bytes as one value of the type: 1 or 2 with its place in them, then 3 where bytes follow
unfoldable pub value_of : ℕ → List ℕ → Answer Val
value_of type chosen = means (shape_in (shape type) chosen) (filling (value_at type) chosen)

-- ── 15 ──

abbrev pub is_undef : Shape → Bool
is_undef (one k) = false
is_undef (many k) = false
is_undef string = false
is_undef undef = true

abbrev pub is_range : Form → Bool
is_range (range a b c) = true
is_range (list vs) = false
is_range no_form = false

-- the integers of 8 to 64 bits
abbrev pub integral : ℕ → Bool
integral type = pick (nat_le 1 type) (nat_le type 8) false

-- the chosen type is the description's, which is not UNDEF, and has a range only if it is an integer's
unfoldable pub suits : Reading → ℕ → Bool
suits r type = pick (type == r.type) (pick (is_undef (shape type)) false (pick (is_range r.form) (integral type) true)) false

-- ── the choice ──

pub record Chosen : Type 0 where
  pub property : ℕ
  pub value : Val

unfoldable pub chosen_in : Bool → List ℕ → ℕ → List ℕ → Answer Chosen
chosen_in there description type chosen =
    after (reading_of there description) λ r _.
    pick (suits r type)
    (after (value_of type chosen) λ v end.
    pick (allows r.form v) (got (record { property = r.code; value = v }) end) (refused (bare VALUE)))
    (refused (bare TYPE))

-- ── what is sent ──

abbrev pub set_device_prop_value : ℕ → Command
set_device_prop_value property = command_of 0x1016 (property ∷ [])

-- the command of [property code], and behind it the value's tidy word; 10 and 9 are the session's
unfoldable pub sent : ℕ → Answer Chosen → ℕ → Said
sent type (got c n) number = with_data (set_device_prop_value c.property) ((codec type).write c.value) number
sent type (refused t) number = no t

abbrev pub panel_said : Bool → List ℕ → ℕ → List ℕ → ℕ → Said
panel_said there description type chosen = sent type (chosen_in there description type chosen)

-- ── inside the code ──

-- tests of an answer by its places, whatever the bytes are
abbrev pub TellsRange : placed.Form → Bool → Type 0
TellsRange f r = (t : ℕ) (s : List ℕ) → r ≡ is_range (form_in t s f)

abbrev pub TellsSuits : PropInfo → ℕ → Bool → Type 0
TellsSuits x type r = (s : List ℕ) → r ≡ suits (property_in s x) type

-- a description that was read, by either layout, and that suits its own type
pub record Suited (description : List ℕ) (x : PropInfo) : Type 0 where
  pub there : Bool
  pub end : ℕ
  pub read : property_at there description 0 ≡ got x end
  pub suits : suits (property_in description x) x.data_type ≡ true

-- chosen bytes that are one value of the type, by its place; and by its word
abbrev pub StandsAs : ℕ → List ℕ → Located → Type 0
StandsAs type chosen l = (n : ℕ) × (filling (value_at type) chosen ≡ got l n)

abbrev pub IsValue : ℕ → List ℕ → Type 0
IsValue type chosen = (v : Val) × Value type loose chosen v

-- what is answered of such a description, once the chosen bytes are read
unfoldable pub weighed : List ℕ → PropInfo → List ℕ → Answer ℕ
weighed description x chosen =
    after (value_of x.data_type chosen) λ v end.
    pick (allows (property_in description x).form v) (got x.property_code end) (refused (bare VALUE))

-- what is written of chosen bytes that are a whole value
pub record Sends (session : Session) (property type : ℕ) (chosen old : List ℕ) (r : Result Made Refusal) (new : List ℕ) : Type 0 where
  pub sends : (v : Val) → Value type loose chosen v → Makes session 0x1016 (with_data (set_device_prop_value property) ((codec type).write v)) old (says_made r) new
