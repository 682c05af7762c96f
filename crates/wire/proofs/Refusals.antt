-- Which refusal each layout of the byte layer is given: TEXT exactly where the bytes begin with a fault, END exactly where they begin with neither a word nor a fault.
-- An answer other than END is not changed by bytes that follow, and after END some bytes give one.
-- Assumes nothing.
use Rattle.wire.specs.Read.{Read, says_read}
use Rattle.wire.specs.declared.storage.StorageInfo.{StorageInfo}
use Rattle.wire.specs.declared.Part.{Part}
use Rattle.wire.specs.declared.object.ObjectInfo.{ObjectInfo}
use Rattle.wire.specs.declared.property.PropInfo.{PropInfo}
use Rattle.wire.specs.declared.device.DeviceInfo.{DeviceInfo}
use Rattle.wire.specs.declared.value.Value as declared
use mathlib.Core.Option.{none}
use mathlib.Core.Bool.{Bool, true, false}
use mathlib.Core.Path.{◌≡◌, refl}
use mathlib.Core.List.{List, [], ◌∷◌}
use Prim.Native.Nat.{ℕ, zero, suc}
use lib.ListN.{drop}
use Rattle.layout.specs.Bytes.{Bytes}
use Rattle.layout.specs.Fault.{Clean, first, Refuses, Decides, Faulted}
use Rattle.layout.proofs.laws.Decided.{decides, refuses_exactly}
use Rattle.layout.proofs.laws.Final.{nothing_faults, number_faults, cells_faults, then_faults, lead_faults, such_faults, as_faults, one_faults, repeat_faults, count_faults, spare_faults, same_faults, all_clean}
use Rattle.layout.proofs.laws.Make.{number_format, as_format, cells_format}
use Rattle.wire.specs.Layout.{width, paired, text_count, Text, Shape, one, many, string, undef, shape, Value, Row, device, object, storage, form_byte, list, no_form, reading, Property}
use Rattle.wire.specs.Codecs.{all_units, units, text, array, shaped, value, row, three, form_write, formed, form, fields, property, enable}
use Rattle.wire.specs.Faults.{UnitsFault, TextFault, ShapedFault, ValueFault, RowFault, FormedFault, FormFault, PropertyFault}
use Rattle.wire.specs.Places.{text_at, value_at, row_at}
use Rattle.wire.specs.Says.{says_value}
use Rattle.wire.specs.Device.{says_device}
use Rattle.wire.specs.Object.{says_object}
use Rattle.wire.specs.Storage.{says_storage}
use Rattle.wire.specs.Property.{property_at, says_property}
use Rattle.wire.proofs.Described as Described
use Rattle.wire.proofs.laws.Located as Located
use Rattle.wire.proofs.laws.Formats.{all_units_format, text_format, value_format, row_format, property_format, enable_format}

-- ── strings ──

all_units_clean : (n : ℕ) → Faulted Clean (all_units n)
all_units_clean n = same_faults all_clean (λ w b. first b) (then_faults (cells_format 2 n) (cells_faults 2 n) λ _. spare_faults 2)

pub units_faults : (n : ℕ) → Faulted (UnitsFault n) (units n)
units_faults zero = nothing_faults []
units_faults (suc n) = such_faults paired (as_format _ (all_units_format n) _ λ w x g. refl) (as_faults _ _ (all_units_clean n))

pub text_faults : Faulted TextFault text
text_faults = one_faults (lead_faults (number_format 1) text_count (number_faults 1) units_faults)

-- ── values ──

array_clean : (w : ℕ) → Faulted Clean (array w)
array_clean w = one_faults (same_faults all_clean (λ v b. first b) (count_faults 4 λ n. cells_faults w n))

pub shape_faults : (x : Shape) → Faulted (ShapedFault x) (shaped x)
shape_faults (one k) = as_faults _ _ (number_faults (width k))
shape_faults (many k) = as_faults _ _ (array_clean (width k))
shape_faults string = as_faults _ _ text_faults
shape_faults undef = nothing_faults _

pub value_faults : (t : ℕ) → Faulted (ValueFault t) (value t)
value_faults t = shape_faults (shape t)

-- ── records ──

pub row_faults : (ts : List ℕ) → Faulted (RowFault ts) (row ts)
row_faults [] = nothing_faults []
row_faults (t ∷ ts) = as_faults _ _ (then_faults (value_format t) (value_faults t) λ _. row_faults ts)

-- ── a property's description ──

three_faults : (t : ℕ) → Faulted (FormedFault t 1) (three t)
three_faults t = then_faults (value_format t) (value_faults t) λ _. then_faults (value_format t) (value_faults t) λ _. value_faults t

formed_faults : (t n : ℕ) → Faulted (FormedFault t n) (formed t n)
formed_faults t zero = nothing_faults no_form
formed_faults t (suc zero) = as_faults _ (form_write t) (three_faults t)
formed_faults t (suc (suc zero)) = as_faults list (form_write t) (count_faults 2 λ n. repeat_faults n (value_format t) (value_faults t))
formed_faults t (suc (suc (suc n))) = nothing_faults no_form

form_faults : (t : ℕ) → Faulted (FormFault t) (form t)
form_faults t = lead_faults (number_format 1) form_byte (number_faults 1) (formed_faults t)

enable_clean : (there : Bool) → Faulted Clean (enable there)
enable_clean true = as_faults _ _ (number_faults 1)
enable_clean false = nothing_faults none

fields_faults : (there : Bool) → Faulted (PropertyFault there) (fields there)
fields_faults there =
    then_faults (number_format 2) (number_faults 2) λ code.
    then_faults (number_format 2) (number_faults 2) λ type.
    then_faults (number_format 1) (number_faults 1) λ getset.
    then_faults (enable_format there) (enable_clean there) λ enabled.
    then_faults (value_format type) (value_faults type) λ default.
    then_faults (value_format type) (value_faults type) λ current.
    form_faults type

pub property_faults : (there : Bool) → Faulted (PropertyFault there) (property there)
property_faults there = as_faults reading _ (fields_faults there)

-- ── the demand ──

pub texts : Decides Text TextFault text
texts = decides text_format text_faults

pub values : (t : ℕ) → Decides (Value t) (ValueFault t) (value t)
values t = decides (value_format t) (value_faults t)

pub devices : Decides (Row device) (RowFault device) (row device)
devices = decides (row_format device) (row_faults device)

pub objects : Decides (Row object) (RowFault object) (row object)
objects = decides (row_format object) (row_faults object)

pub storages : Decides (Row storage) (RowFault storage) (row storage)
storages = decides (row_format storage) (row_faults storage)

pub properties : (there : Bool) → Decides (Property there) (PropertyFault there) (property there)
properties there = decides (property_format there) (property_faults there)

-- ── of the functions' own answers: any answer that a promise allows, at any place, by the bytes from there on ──

module _ (s : List ℕ) (h : Bytes s) (at : ℕ) where
  pub text_refused : (r : Read Part) → says_read r ≡ text_at s at → Refuses Text TextFault (drop at s) (says_read r)
  text_refused r promised = refuses_exactly text_format text_faults Located.texts s h at (says_read r) promised

  pub value_refused : (t : ℕ) (r : Read declared.Value) → says_value r ≡ value_at t s at → Refuses (Value t) (ValueFault t) (drop at s) (says_value r)
  value_refused t r promised = refuses_exactly (value_format t) (value_faults t) (Located.values t) s h at (says_value r) promised

  pub device_refused : (r : Read DeviceInfo) → says_device r ≡ row_at device s at → Refuses (Row device) (RowFault device) (drop at s) (says_device r)
  device_refused r promised = refuses_exactly (row_format device) (row_faults device) (Located.rows device) s h at (says_device r) promised

  pub object_refused : (r : Read ObjectInfo) → says_object r ≡ row_at object s at → Refuses (Row object) (RowFault object) (drop at s) (says_object r)
  object_refused r promised = refuses_exactly (row_format object) (row_faults object) (Located.rows object) s h at (says_object r) promised

  pub storage_refused : (r : Read StorageInfo) → says_storage r ≡ row_at storage s at → Refuses (Row storage) (RowFault storage) (drop at s) (says_storage r)
  storage_refused r promised = refuses_exactly (row_format storage) (row_faults storage) (Located.rows storage) s h at (says_storage r) promised

  pub property_refused : (there : Bool) (r : Read PropInfo) → says_property r ≡ property_at there s at → Refuses (Property there) (PropertyFault there) (drop at s) (says_property r)
  property_refused there r promised = refuses_exactly (property_format there) (property_faults there) (Described.properties there) s h at (says_property r) promised
