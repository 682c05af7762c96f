-- What each answer says determines it; so each promise allows one answer (`reads_one`, `one_written` of layout's Determined).
-- Assumes nothing.
use Rattle.std.specs.Prelude.{Ok, Err}
use Rattle.std.specs.declared.result.Result.{Result}
use Rattle.wire.specs.Read.{Read, says_read}
use Rattle.layout.specs.declared.Refusal.{Refusal}
use Rattle.wire.specs.declared.property.PropInfo.{PropInfo}
use Rattle.wire.specs.declared.Pair.{Pair}
use mathlib.Core.Option.{Option, some, none}
use mathlib.Core.Path.{◌∙◌, ◌≡◌, refl, ap}
use mathlib.Core.List.{List}
use Prim.Native.Nat.{ℕ}
use lib.ListN.{get_or}
use Rattle.layout.specs.Answer.{Told, Answer, got, refused}
use Rattle.layout.proofs.laws.Determined.{Tells, retracts}
use Rattle.layout.proofs.laws.Numbers.{zero_one}
use Rattle.wire.specs.declared.Cursor.{Cursor}
use Rattle.wire.specs.declared.Part.{Part}
use Rattle.wire.specs.declared.device.DeviceInfo.{DeviceInfo}
use Rattle.wire.specs.declared.object.ObjectInfo.{ObjectInfo}
use Rattle.wire.specs.declared.storage.StorageInfo.{StorageInfo}
use Rattle.wire.specs.Description as form
use Rattle.wire.specs.declared.property.Form as declared
use Rattle.wire.specs.declared.property.Form.TheVariants as variants
use Rattle.std.specs.declared.option.Option as standard
use Rattle.std.specs.declared.option.Option.TheVariants.{Some, None}
use Rattle.wire.specs.declared.value.Value.{Value}
use Rattle.wire.specs.declared.value.Value.TheVariants as value
use Rattle.wire.specs.declared.property.Slot.{Slot}
use Rattle.wire.specs.declared.list.Step.{Step}
use Rattle.wire.specs.Layout.{Num, int, nat, pair}
use Rattle.wire.specs.Places.{Located, number_is, items, units, empty}
use Rattle.wire.specs.Says.{says_span, says_pair, located, says_value}
use Rattle.wire.specs.Device.{says_device}
use Rattle.wire.specs.Object.{says_object}
use Rattle.wire.specs.Storage.{says_storage}
use Rattle.wire.specs.Property.{says_form, info_from, says_property, says_enable}
use Rattle.wire.specs.List.{Stepped, next, end, says_nth, says_step}

pub cursor : (c d : Cursor) → c.at ≡ d.at → c ≡ d
cursor c d e = ap (λ (n : ℕ). record { at = n }) e

-- ── a reading with the place after it, or a refusal ──

-- had back from what it says
abbrev from : {R A : Type 0} → (A → Cursor → R) → (Told → R) → Answer A → R
from reading refusal (got a n) = reading a (record { at = n })
from reading refusal (refused t) = refusal t

read_tells : {R A : Type 0} (says : R → Answer A) (reading : A → Cursor → R) (refusal : Told → R) → ((r : R) → from reading refusal (says r) ≡ r) → Tells says
read_tells says reading refusal = retracts (from reading refusal)

pub tells_read : {A : Type 0} → Tells (says_read {A = A})
tells_read = read_tells says_read (λ v c. Ok (v, c)) Err elim [ Ok (v, c) ↦ refl | Err t ↦ refl ]

-- ── records: their fields by their places in the row ──

number_at : ℕ → List Located → ℕ
number_at k ls = of (get_or ls k empty)
  where
    of : Located → ℕ
    of (number_is (nat n)) = n
    of (number_is (int z)) = 0
    of (number_is (pair h l)) = 0
    of (items p) = 0
    of (units p) = 0
    of empty = 0

part_at : ℕ → List Located → Part
part_at k ls = of (get_or ls k empty)
  where
    of : Located → Part
    of (items p) = p
    of (units p) = p
    of (number_is n) = record { start = 0; count = 0 }
    of empty = record { start = 0; count = 0 }

device_of : List Located → DeviceInfo
device_of ls = record {
  version = number_at 0 ls;
  vendor_ex_id = number_at 1 ls;
  vendor_ex_version = number_at 2 ls;
  vendor_extension_desc = part_at 3 ls;
  functional_mode = number_at 4 ls;
  operations_supported = part_at 5 ls;
  events_supported = part_at 6 ls;
  device_properties_supported = part_at 7 ls;
  capture_formats = part_at 8 ls;
  image_formats = part_at 9 ls;
  manufacturer = part_at 10 ls;
  model = part_at 11 ls;
  device_version = part_at 12 ls;
  serial_number = part_at 13 ls;
}

pub tells_device : Tells says_device
unfolding device_of number_at part_at
tells_device = read_tells says_device (λ ls c. Ok ((device_of ls), c)) Err elim [ Ok (x, c) ↦ refl | Err t ↦ refl ]

object_of : List Located → ObjectInfo
object_of ls = record {
  storage_id = number_at 0 ls;
  object_format = number_at 1 ls;
  protection_status = number_at 2 ls;
  object_compressed_size = number_at 3 ls;
  thumb_format = number_at 4 ls;
  thumb_compressed_size = number_at 5 ls;
  thumb_pix_width = number_at 6 ls;
  thumb_pix_height = number_at 7 ls;
  image_pix_width = number_at 8 ls;
  image_pix_height = number_at 9 ls;
  image_bit_depth = number_at 10 ls;
  parent_object = number_at 11 ls;
  association_type = number_at 12 ls;
  association_desc = number_at 13 ls;
  sequence_number = number_at 14 ls;
  filename = part_at 15 ls;
  capture_date = part_at 16 ls;
  modification_date = part_at 17 ls;
  keywords = part_at 18 ls;
}

pub tells_object : Tells says_object
unfolding object_of number_at part_at
tells_object = read_tells says_object (λ ls c. Ok ((object_of ls), c)) Err elim [ Ok (x, c) ↦ refl | Err t ↦ refl ]

storage_of : List Located → StorageInfo
storage_of ls = record {
  storage_type = number_at 0 ls;
  filesystem_type = number_at 1 ls;
  access_capability = number_at 2 ls;
  max_capacity = number_at 3 ls;
  free_space_in_bytes = number_at 4 ls;
  free_space_in_images = number_at 5 ls;
  storage_description = part_at 6 ls;
  volume_label = part_at 7 ls;
}

pub tells_storage : Tells says_storage
unfolding storage_of number_at part_at
tells_storage = read_tells says_storage (λ ls c. Ok ((storage_of ls), c)) Err elim [ Ok (x, c) ↦ refl | Err t ↦ refl ]

-- ── others ──

pub tells_span : Tells says_span
tells_span (Ok c) (Ok d) e = ap Ok (cursor c d (cc))
tells_span (Ok c) (Err u) e = zero_one (cc)
tells_span (Err t) (Ok d) e = zero_one (cc)
tells_span (Err t) (Err u) e = cc

-- ── answers that can be had back from what they say ──

from_number : Num → Value
from_number (int z) = value.Int z
from_number (nat n) = value.Nat n
from_number (pair h l) = value.Wide (record { high = h; low = l })

from_located : Located → Value
from_located (number_is n) = from_number n
from_located (items p) = value.Items p
from_located (units p) = value.Text p
from_located empty = value.Undef

back : (v : Value) → from_located (located v) ≡ v
unfolding from_located from_number
back (value.Int z) = refl
back (value.Nat n) = refl
back (value.Wide p) = refl
back (value.Items p) = refl
back (value.Text p) = refl
back value.Undef = refl

from_value : Answer Located → Read Value
from_value (got l n) = Ok ((from_located l), (record { at = n }))
from_value (refused t) = Err t

pub tells_value : Tells says_value
unfolding from_value
tells_value = retracts from_value value_back
  where
    value_back : (r : Read Value) → from_value (says_value r) ≡ r
    value_back (Ok (v, c)) = ap (λ w. Ok (w, c)) (back v)
    value_back (Err t) = refl

from_pair : Answer Num → Read Pair
from_pair (got (pair h l) n) = Ok ((record { high = h; low = l }), (record { at = n }))
from_pair (got (int z) n) = Ok ((record { high = 0; low = 0 }), (record { at = n }))
from_pair (got (nat m) n) = Ok ((record { high = 0; low = 0 }), (record { at = n }))
from_pair (refused t) = Err t

pub tells_pair : Tells says_pair
unfolding from_pair
tells_pair = retracts from_pair pair_back
  where
    pair_back : (r : Read Pair) → from_pair (says_pair r) ≡ r
    pair_back (Ok (p, c)) = refl
    pair_back (Err t) = refl

from_nth : Answer (Located × Slot) → Result (Value × Slot × Cursor) Refusal
from_nth (got x n) = Ok ((from_located x.0), x.1, (record { at = n }))
from_nth (refused t) = Err t

pub tells_nth : Tells says_nth
unfolding from_nth
tells_nth = retracts from_nth nth_back
  where
    nth_back : (r : Result (Value × Slot × Cursor) Refusal) → from_nth (says_nth r) ≡ r
    nth_back (Ok (v, p, c)) = ap (λ w. Ok (w, p, c)) (back v)
    nth_back (Err t) = refl

from_step : Stepped → standard.Option Step
from_step (next l at left) = Some (record { value = from_located l; at = at; left = left })
from_step end = None

pub tells_step : Tells says_step
unfolding from_step
tells_step = retracts from_step step_back
  where
    step_back : (r : standard.Option Step) → from_step (says_step r) ≡ r
    step_back (Some x) = ap (λ w. Some (record { value = w; at = x.at; left = x.left })) (back x.value)
    step_back None = refl

-- ── a description ──

from_form : form.Form → declared.Form
from_form form.absent = variants.Absent
from_form (form.range a b c) = variants.Range a b c
from_form (form.list p n) = variants.List p n

form_back : (f : declared.Form) → from_form (says_form f) ≡ f
unfolding from_form
form_back variants.Absent = refl
form_back (variants.Range a b c) = refl
form_back (variants.List p n) = refl

-- with another form
from_enable : Option ℕ → standard.Option ℕ
from_enable (some n) = Some n
from_enable none = None

enable_back : (e : standard.Option ℕ) → from_enable (says_enable e) ≡ e
unfolding from_enable
enable_back (Some n) = refl
enable_back None = refl

abbrev with : form.PropInfo → standard.Option ℕ → declared.Form → PropInfo
with x e f = record {
  property_code = x.property_code;
  data_type = x.data_type;
  get_set = x.get_set;
  is_enable = e;
  factory_default = x.factory_default;
  current = x.current;
  form = f;
}

from_property : Answer form.PropInfo → Read PropInfo
from_property (got x n) = Ok ((with x (from_enable x.is_enable) (from_form x.form)), (record { at = n }))
from_property (refused t) = Err t

pub tells_property : Tells says_property
unfolding from_property
tells_property = retracts from_property property_back
  where
    property_back : (r : Read PropInfo) → from_property (says_property r) ≡ r
    property_back (Ok (x, c)) =
        ap (λ e. Ok ((with (info_from x) e (from_form (says_form x.form))), c)) (enable_back x.is_enable)
        ∙ ap (λ f. Ok ((with (info_from x) x.is_enable f), c)) (form_back x.form)
    property_back (Err t) = refl
