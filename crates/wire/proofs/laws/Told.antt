-- Which refusals of the byte layer have a place: 1 and 2 and no other, whatever the reader; and from a place inside the bytes it is inside them.
-- Each reader goes from field to field, so a line of layout's laws a field is the whole argument.
-- Assumes nothing.
use Rattle.std.specs.declared.result.Result.{Result}
use Rattle.wire.specs.Read.{Read, says_read}
use Rattle.layout.specs.declared.Refusal.{Refusal}
use Rattle.wire.specs.declared.storage.StorageInfo.{StorageInfo}
use Rattle.wire.specs.declared.Cursor.{Cursor}
use Rattle.wire.specs.declared.container.Container.{Container}
use Rattle.wire.specs.declared.Part.{Part}
use Rattle.wire.specs.declared.object.ObjectInfo.{ObjectInfo}
use Rattle.wire.specs.declared.property.PropInfo.{PropInfo}
use Rattle.wire.specs.declared.property.Slot.{Slot}
use Rattle.wire.specs.declared.container.Header.{Header}
use Rattle.wire.specs.declared.device.DeviceInfo.{DeviceInfo}
use Rattle.wire.specs.declared.value.Value.{Value}
use mathlib.Core.Bool.{Bool, true, false}
use mathlib.Core.Path.{◌≡◌, subst}
use mathlib.Core.List.{List, [], ◌∷◌}
use Prim.Native.Nat.{ℕ, ◌+◌, ◌-◌, ◌*◌}
use native.Mathlib.Omega.{arith}
use borrow.Author.Tests.{leb-true}
use lib.Dec.{leb, eqb, ltb}
use lib.ListN.{length, drop}
use Rattle.layout.specs.Answer.{Answer, means}
use Rattle.layout.specs.Bytes.{number, cells}
use Rattle.layout.specs.Refusals.{TRAIL, KIND, LENGTH, SIZE, PLACE}
use Rattle.layout.specs.Told.{PlacedExactly, Inside}
use Rattle.layout.proofs.laws.Told.{Telling, read, spoilt, plainly, telling_same, Closed, Everywhere, everywhere, telling_pick, telling_after, telling_means, telling_span, telling_field, telling_repeated, telling_exactly, told_from_0}
use Rattle.wire.specs.Layout.{paired, width, Shape, one, many, string, undef, shape, device, object, storage}
use Rattle.wire.specs.Codecs.{value}
use Rattle.wire.specs.Places.{num_at, units_at, text_at, array_at, shape_at, value_at, unit_at, item_of, item_in, item_at, filled_at, shape_in, row_at}
use Rattle.wire.specs.Says.{says_value}
use Rattle.wire.specs.Utf8.{utf8_at}
use Rattle.wire.specs.Property.{values_at, range_at, list_at, form_at, property_at, says_property, enable_at}
use Rattle.wire.specs.Description as form
use Rattle.wire.specs.List.{value_slot, nth_value, nth_in, nth_at, says_nth}
use Rattle.wire.specs.Container.{is_kind, header_rest, header_at, container_at}
use Rattle.wire.specs.Device.{says_device}
use Rattle.wire.specs.Object.{says_object}
use Rattle.wire.specs.Storage.{says_storage}
use Rattle.wire.proofs.laws.Located as Located

module _ {P : ℕ → Type 0} (s : List ℕ) (closed : Closed P s) where
  pub text_telling : (at : ℕ) → P at → Telling P (text_at s at)
  unfolding text_at units_at
  text_telling at h =
      telling_after (telling_field s closed 1 number at h) λ n next i.
      telling_pick (eqb n 0) (λ _. read i) λ _.
      telling_after (telling_span s closed at (n * 2) next h i) λ _ end j.
      telling_pick (paired (cells 2 (n - 1) (drop next s))) (λ _. read j) λ _. spoilt at h

  pub array_telling : (w at : ℕ) → P at → Telling P (array_at w s at)
  unfolding array_at
  array_telling w at h =
      telling_after (telling_field s closed 4 number at h) λ n start i.
      telling_after (telling_span s closed at (n * w) start h i) λ _ next j. read j

  pub shape_telling : (x : Shape) (at : ℕ) → P at → Telling P (shape_at x s at)
  unfolding shape_at
  shape_telling (one k) at h = telling_means _ (telling_field s closed (width k) number at h)
  shape_telling (many k) at h = telling_means _ (array_telling (width k) at h)
  shape_telling string at h = telling_means _ (text_telling at h)
  shape_telling undef at h = read h

  pub row_telling : (ts : List ℕ) (at : ℕ) → P at → Telling P (row_at ts s at)
  unfolding row_at
  row_telling [] at h = read h
  row_telling (t ∷ ts) at h = telling_after (shape_telling (shape t) at h) λ l p i. telling_means _ (row_telling ts p i)

  pub filled_telling : (at : ℕ) → P at → Telling P (filled_at s at)
  unfolding filled_at
  filled_telling at h = telling_pick (ltb at (length s)) (λ _. plainly TRAIL (omega arith)) λ _. read h

  -- ── a property's description ──

  value_read : (t at : ℕ) → P at → Telling P ((value t).read s at)
  value_read t at h = subst (λ x. Telling P x) ((Located.values t).agrees s at) (telling_means (shape_in (shape t) s) (shape_telling (shape t) at h))

  values_telling : (t n at : ℕ) → P at → Telling P (values_at t n s at)
  unfolding values_at
  values_telling t n at h = telling_after (telling_repeated s closed (value t) (value_read t) n at h) λ _ next i. read i

  form_telling : (t at : ℕ) → P at → Telling P (form_at t s at)
  unfolding form_at range_at list_at
  form_telling t at h =
      telling_after (telling_field s closed 1 number at h) λ b p i.
      telling_pick (eqb b 1)
      (λ _.
      telling_after (values_telling t 1 p i) λ low a j.
      telling_after (values_telling t 1 a j) λ high c k.
      telling_after (values_telling t 1 c k) λ step next l. read l)
      λ _.
      telling_pick (eqb b 2)
      (λ _.
      telling_after (telling_field s closed 2 number p i) λ n start j.
      telling_after (values_telling t n start j) λ _ next k. read k)
      λ _. read i

  enable_telling : (there : Bool) (at : ℕ) → P at → Telling P (enable_at there s at)
  unfolding enable_at
  enable_telling true at h = telling_after (telling_field s closed 1 number at h) λ n next i. read i
  enable_telling false at h = read h

  property_telling : (there : Bool) (at : ℕ) → P at → Telling P (property_at there s at)
  unfolding property_at
  property_telling there at h =
      telling_after (telling_field s closed 2 number at h) λ code a i.
      telling_after (telling_field s closed 2 number a i) λ type b j.
      telling_after (telling_field s closed 1 number b j) λ access c k.
      telling_after (enable_telling there c k) λ enabled d l.
      telling_after (values_telling type 1 d l) λ default e m.
      telling_after (values_telling type 1 e m) λ current f n.
      telling_after (form_telling type f n) λ shape next o. read o

  -- ── containers ──

  header_telling : (at : ℕ) → P at → Telling P (header_at s at)
  unfolding header_at header_rest
  header_telling at h =
      telling_after (telling_field s closed 4 number at h) λ len a i.
      telling_after (telling_field s closed 2 number a i) λ kind b j.
      telling_pick (is_kind kind)
      (λ _.
      telling_after (telling_field s closed 2 number b j) λ code c k.
      telling_after (telling_field s closed 4 number c k) λ tid next l.
      telling_pick (leb 12 len) (λ _. read l) λ _. plainly LENGTH (omega arith))
      λ _. plainly KIND (omega arith)

  pub container_telling : (at : ℕ) → P at → Telling P (container_at s at)
  unfolding container_at
  container_telling at h =
      telling_after (header_telling at h) λ x start i.
      telling_pick (leb x.payload_len (length s - start)) (λ e. read (closed start _ i (leb-true _ _ e))) λ _. plainly SIZE (omega arith)

-- ── questions with an index: what they find lies where the reading found it, and has no refusal of its own but 12 ──

module _ (s : List ℕ) where
  unit_telling : (n at : ℕ) → Telling Everywhere (unit_at n s at)
  unfolding unit_at
  unit_telling n at =
      telling_after (text_telling s (everywhere s) at tt) λ p _ _.
      telling_pick (ltb n p.count) (λ _. telling_field s (everywhere s) 2 number (p.start + n * 2) tt) λ _. plainly PLACE (omega arith)

  item_telling : (x : Shape) (n at : ℕ) → Telling Everywhere (item_in x n s at)
  unfolding item_in item_of
  item_telling (many k) n at =
      telling_after (array_telling s (everywhere s) (width k) at tt) λ p _ _.
      telling_pick (ltb n p.count) (λ _. shape_telling s (everywhere s) (one k) (p.start + n * width k) tt) λ _. plainly PLACE (omega arith)
  item_telling (one k) n at = plainly PLACE (omega arith)
  item_telling string n at = plainly PLACE (omega arith)
  item_telling undef n at = plainly PLACE (omega arith)

  nth-in : (n t : ℕ) (x : form.Form) → Telling Everywhere (nth_in n t x s)
  unfolding nth_in nth_value value_slot
  nth-in n t (form.list p count) =
      telling_pick (ltb n count)
      (λ _.
      telling_after (values_telling s (everywhere s) t n p.start tt) λ _ at _.
      telling_after (shape_telling s (everywhere s) (shape t) at tt) λ v next _. read tt)
      λ _. plainly PLACE (omega arith)
  nth-in n t (form.range a b c) = plainly PLACE (omega arith)
  nth-in n t form.absent = plainly PLACE (omega arith)

  nth_telling : (there : Bool) (n : ℕ) → Telling Everywhere (nth_at there n s)
  unfolding nth_at
  nth_telling there n = telling_after (property_telling s (everywhere s) there 0 tt) λ x _ _. nth-in n x.data_type x.form

-- ── of the functions' own answers: a place exactly for 1 and 2, whatever the bytes and the place ──

module _ (s : List ℕ) (at : ℕ) where
  -- every integer, by its width and its meaning
  pub number_told : {A : Type 0} (w : ℕ) (mean : ℕ → A) (x : Answer A) → x ≡ means mean (num_at w s at) → PlacedExactly x
  number_told w mean x promised = telling_exactly (telling_same promised (telling_means mean (telling_field s (everywhere s) w number at tt)))

  pub text_told : (r : Read Part) → says_read r ≡ text_at s at → PlacedExactly (says_read r)
  text_told r promised = telling_exactly (telling_same promised (text_telling s (everywhere s) at tt))

  pub array_told : (w : ℕ) (r : Read Part) → says_read r ≡ array_at w s at → PlacedExactly (says_read r)
  array_told w r promised = telling_exactly (telling_same promised (array_telling s (everywhere s) w at tt))

  pub value_told : (t : ℕ) (r : Read Value) → says_value r ≡ value_at t s at → PlacedExactly (says_value r)
  value_told t r promised = telling_exactly (telling_same promised (shape_telling s (everywhere s) (shape t) at tt))

  pub utf8_told : (x : Answer (List ℕ)) → x ≡ utf8_at s at → PlacedExactly x
  unfolding utf8_at
  utf8_told x promised = telling_exactly (telling_same promised (telling_means _ (text_telling s (everywhere s) at tt)))

  pub unit_told : (n : ℕ) (x : Answer ℕ) → x ≡ unit_at n s at → PlacedExactly x
  unit_told n x promised = telling_exactly (telling_same promised (unit_telling s n at))

  pub item_told : (t n : ℕ) (r : Read Value) → says_value r ≡ item_at t n s at → PlacedExactly (says_value r)
  item_told t n r promised = telling_exactly (telling_same promised (item_telling s (shape t) n at))

  pub device_told : (r : Read DeviceInfo) → says_device r ≡ row_at device s at → PlacedExactly (says_device r)
  device_told r promised = telling_exactly (telling_same promised (row_telling s (everywhere s) device at tt))

  pub object_told : (r : Read ObjectInfo) → says_object r ≡ row_at object s at → PlacedExactly (says_object r)
  object_told r promised = telling_exactly (telling_same promised (row_telling s (everywhere s) object at tt))

  pub storage_told : (r : Read StorageInfo) → says_storage r ≡ row_at storage s at → PlacedExactly (says_storage r)
  storage_told r promised = telling_exactly (telling_same promised (row_telling s (everywhere s) storage at tt))

  pub property_told : (there : Bool) (r : Read PropInfo) → says_property r ≡ property_at there s at → PlacedExactly (says_property r)
  property_told there r promised = telling_exactly (telling_same promised (property_telling s (everywhere s) there at tt))

  pub nth_told : (there : Bool) (n : ℕ) (r : Result (Value × Slot × Cursor) Refusal) → says_nth r ≡ nth_at there n s → PlacedExactly (says_nth r)
  nth_told there n r promised = telling_exactly (telling_same promised (nth_telling s there n))

  pub header_told : (r : Read Header) → says_read r ≡ header_at s at → PlacedExactly (says_read r)
  header_told r promised = telling_exactly (telling_same promised (header_telling s (everywhere s) at tt))

  pub container_told : (r : Read Container) → says_read r ≡ container_at s at → PlacedExactly (says_read r)
  container_told r promised = telling_exactly (telling_same promised (container_telling s (everywhere s) at tt))

-- ── and, of a record from the first byte on, inside the bytes ──

module _ (s : List ℕ) where
  pub device_inside : (r : Read DeviceInfo) → says_device r ≡ row_at device s 0 → Inside (length s) (says_device r)
  device_inside r promised = (told_from_0 s promised λ P c h. row_telling s c device 0 h).1

  pub object_inside : (r : Read ObjectInfo) → says_object r ≡ row_at object s 0 → Inside (length s) (says_object r)
  object_inside r promised = (told_from_0 s promised λ P c h. row_telling s c object 0 h).1

  pub storage_inside : (r : Read StorageInfo) → says_storage r ≡ row_at storage s 0 → Inside (length s) (says_storage r)
  storage_inside r promised = (told_from_0 s promised λ P c h. row_telling s c storage 0 h).1

  pub property_inside : (there : Bool) (r : Read PropInfo) → says_property r ≡ property_at there s 0 → Inside (length s) (says_property r)
  property_inside there r promised = (told_from_0 s promised λ P c h. property_telling s c there 0 h).1
