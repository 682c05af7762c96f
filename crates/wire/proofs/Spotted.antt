-- The place that each refusal of the byte layer is told of: the first field that the bytes are not read as.
-- Assumes nothing.
use Rattle.wire.specs.Read.{Read, says_read}
use Rattle.wire.specs.declared.storage.StorageInfo.{StorageInfo}
use Rattle.wire.specs.declared.Part.{Part}
use Rattle.wire.specs.declared.object.ObjectInfo.{ObjectInfo}
use Rattle.wire.specs.declared.property.PropInfo.{PropInfo}
use Rattle.wire.specs.declared.device.DeviceInfo.{DeviceInfo}
use Rattle.wire.specs.declared.value.Value as declared
use mathlib.Core.Option.{none}
use mathlib.Core.Bool.{Bool, true, false}
use mathlib.Core.Path.{◌≡◌, refl, ap, sym, ◌∙◌, subst}
use mathlib.Core.Logic.{◌↔◌}
use mathlib.Core.List.{List, [], ◌∷◌, ◌++◌, append_assoc}
use Prim.Native.Nat.{ℕ, zero, suc, ◌+◌}
use lib.ListN.{length, drop, length-append}
use Rattle.layout.specs.Bytes.{Bytes}
use Rattle.layout.specs.Fault.{Begins}
use Rattle.layout.specs.Grammar.{loose, empty, both, as'}
use Rattle.layout.specs.Spot.{Here, here, early, later, Owned, Points, Spotted}
use Rattle.layout.proofs.laws.Final.{lead_faults, number_faults, count_faults, cells_faults}
use Rattle.layout.proofs.laws.Make.{number_format}
use Rattle.layout.proofs.laws.Spotted.{nothing_owned, number_owned, as_owned, field_owned, nothing_spotted, one_spotted, then_spotted, lead_spotted, as_spotted, repeat_spotted, number_spotted, count_spotted, points_exactly}
use Rattle.wire.specs.Layout.{width, text_count, Text, Shape, one, many, string, undef, shape, Val, Value, Row, device, object, storage, form_byte, list, no_form, reading}
use Rattle.wire.specs.Codecs.{text, array, shaped, value, row, three, form_write, formed, form, fields, property, enable}
use Rattle.wire.specs.Faults.{TextFault, ValueFault, RowFault, PropertyFault}
use Rattle.wire.specs.Spots.{ValueSpot, RowSpot, FormedSpot, FormSpot, PropertySpot, EnableSpot}
use Rattle.wire.specs.Places.{text_at, value_at, row_at}
use Rattle.wire.specs.Says.{says_value}
use Rattle.wire.specs.Device.{says_device}
use Rattle.wire.specs.Object.{says_object}
use Rattle.wire.specs.Storage.{says_storage}
use Rattle.wire.specs.Property.{property_at, says_property}
use Rattle.wire.proofs.Described as Described
use Rattle.wire.proofs.laws.Located as Located
use Rattle.wire.proofs.laws.Formats.{text_format, value_format, row_format, property_format, enable_format}
use Rattle.wire.proofs.Refusals.{units_faults, text_faults, value_faults, row_faults, property_faults}

-- ── each value is a field ──

text_owned : Owned text
text_owned = field_owned (lead_faults (number_format 1) text_count (number_faults 1) units_faults)

array_owned : (w : ℕ) → Owned (array w)
array_owned w = field_owned (count_faults 4 λ n. cells_faults w n)

shape_owned : (x : Shape) → Owned (shaped x)
shape_owned (one k) = as_owned _ _ (number_owned (width k))
shape_owned (many k) = as_owned _ _ (array_owned (width k))
shape_owned string = as_owned _ _ text_owned
shape_owned undef = nothing_owned _

pub text_spotted : Spotted (Here Text) text
text_spotted = one_spotted text_format text_owned

pub value_spotted : (t : ℕ) → Spotted (ValueSpot t) (value t)
value_spotted t = one_spotted (value_format t) (shape_owned (shape t))

-- ── records ──

pub row_spotted : (ts : List ℕ) → Spotted (RowSpot ts) (row ts)
row_spotted [] = nothing_spotted []
row_spotted (t ∷ ts) = as_spotted _ _ (then_spotted (value_format t) (value_spotted t) λ _. row_spotted ts)

-- in plain terms: the fields before it are words, and it does not begin with one
pub record FieldSpot (ts s : List ℕ) (q : ℕ) : Type 0 where
  pub before : List ℕ
  pub type : ℕ
  pub after : List ℕ
  pub front : List ℕ
  pub rest : List ℕ
  pub vals : List Val
  pub types : ts ≡ before ++ type ∷ after
  pub parts : s ≡ front ++ rest
  pub place : q ≡ length front
  pub read : Row before loose front vals
  pub unread : Begins (Value type) rest → ⊥

row_spot_of : (before : List ℕ) (t : ℕ) (after u v : List ℕ) (xs : List Val) → Row before loose u xs → (Begins (Value t) v → ⊥) → RowSpot (before ++ t ∷ after) (u ++ v) (length u)
row_spot_of [] t after u v xs empty b = early (here b)
row_spot_of (q ∷ qs) t after u v xs (as' (both {u = x} {v = y} {b = ys} g h)) b =
    let i : RowSpot (q ∷ qs ++ t ∷ after) (x ++ (y ++ v)) (length x + length y) = later g (row_spot_of qs t after y v ys h b) in
    subst (λ n. RowSpot (q ∷ qs ++ t ∷ after) ((x ++ y) ++ v) n) (sym (length-append x y)) (subst (λ l. RowSpot (q ∷ qs ++ t ∷ after) l (length x + length y)) (sym (append_assoc x y v)) i)

field_spot_of : (ts s : List ℕ) (q : ℕ) → RowSpot ts s q → FieldSpot ts s q
field_spot_of [] s q i = elim i [ ]
field_spot_of (t ∷ ts) s q (early (here b)) =
    record { before = []; type = t; after = ts; front = []; rest = s; vals = []; types = refl; parts = refl; place = refl; read = empty; unread = b }
field_spot_of (t ∷ ts) s q (later {u} {v} {a} {q = m} g i) =
    let o = field_spot_of ts v m i in
    record {
      before = t ∷ o.before;
      type = o.type;
      after = o.after;
      front = u ++ o.front;
      rest = o.rest;
      vals = a ∷ o.vals;
      types = ap (λ l. t ∷ l) o.types;
      parts = ap (λ l. u ++ l) o.parts ∙ sym (append_assoc u o.front o.rest);
      place = ap (λ n. length u + n) o.place ∙ sym (length-append u o.front);
      read = as' (both g o.read);
      unread = o.unread;
    }

pub row_spot : (ts s : List ℕ) (q : ℕ) → RowSpot ts s q ↔ FieldSpot ts s q
row_spot ts s q = (
  field_spot_of ts s q,
  λ o. rw (o.types, o.parts, o.place) (row_spot_of o.before o.type o.after o.front o.rest o.vals o.read o.unread),
)

-- ── a property's description ──

three_spotted : (t : ℕ) → Spotted (FormedSpot t 1) (three t)
three_spotted t = then_spotted (value_format t) (value_spotted t) λ _. then_spotted (value_format t) (value_spotted t) λ _. value_spotted t

formed_spotted : (t n : ℕ) → Spotted (FormedSpot t n) (formed t n)
formed_spotted t zero = nothing_spotted no_form
formed_spotted t (suc zero) = as_spotted _ (form_write t) (three_spotted t)
formed_spotted t (suc (suc zero)) = as_spotted list (form_write t) (count_spotted 2 λ n. repeat_spotted n (value_format t) (value_spotted t))
formed_spotted t (suc (suc (suc n))) = nothing_spotted no_form

form_spotted : (t : ℕ) → Spotted (FormSpot t) (form t)
form_spotted t = lead_spotted (number_format 1) form_byte (number_spotted 1) (formed_spotted t)

enable_spotted : (there : Bool) → Spotted (EnableSpot there) (enable there)
enable_spotted true = as_spotted _ _ (number_spotted 1)
enable_spotted false = nothing_spotted none

fields_spotted : (there : Bool) → Spotted (PropertySpot there) (fields there)
fields_spotted there =
    then_spotted (number_format 2) (number_spotted 2) λ code.
    then_spotted (number_format 2) (number_spotted 2) λ type.
    then_spotted (number_format 1) (number_spotted 1) λ getset.
    then_spotted (enable_format there) (enable_spotted there) λ enabled.
    then_spotted (value_format type) (value_spotted type) λ default.
    then_spotted (value_format type) (value_spotted type) λ current.
    form_spotted type

pub property_spotted : (there : Bool) → Spotted (PropertySpot there) (property there)
property_spotted there = as_spotted reading _ (fields_spotted there)

-- ── of the functions' own answers: any answer that a promise allows, at any place, by the bytes from there on ──

module _ (s : List ℕ) (h : Bytes s) (at : ℕ) where
  pub text_points : (r : Read Part) → says_read r ≡ text_at s at → Points TextFault (Here Text) (drop at s) at (says_read r)
  text_points r promised = points_exactly text_format text_faults text_spotted Located.texts s h at (says_read r) promised

  pub value_points : (t : ℕ) (r : Read declared.Value) → says_value r ≡ value_at t s at → Points (ValueFault t) (ValueSpot t) (drop at s) at (says_value r)
  value_points t r promised = points_exactly (value_format t) (value_faults t) (value_spotted t) (Located.values t) s h at (says_value r) promised

  pub device_points : (r : Read DeviceInfo) → says_device r ≡ row_at device s at → Points (RowFault device) (RowSpot device) (drop at s) at (says_device r)
  device_points r promised = points_exactly (row_format device) (row_faults device) (row_spotted device) (Located.rows device) s h at (says_device r) promised

  pub object_points : (r : Read ObjectInfo) → says_object r ≡ row_at object s at → Points (RowFault object) (RowSpot object) (drop at s) at (says_object r)
  object_points r promised = points_exactly (row_format object) (row_faults object) (row_spotted object) (Located.rows object) s h at (says_object r) promised

  pub storage_points : (r : Read StorageInfo) → says_storage r ≡ row_at storage s at → Points (RowFault storage) (RowSpot storage) (drop at s) at (says_storage r)
  storage_points r promised = points_exactly (row_format storage) (row_faults storage) (row_spotted storage) (Located.rows storage) s h at (says_storage r) promised

  pub property_points : (there : Bool) (r : Read PropInfo) → says_property r ≡ property_at there s at → Points (PropertyFault there) (PropertySpot there) (drop at s) at (says_property r)
  property_points there r promised = points_exactly (property_format there) (property_faults there) (property_spotted there) (Described.properties there) s h at (says_property r) promised
