-- A property's description as the code answers it, and what it means.
-- Assumes nothing.
use Rattle.std.specs.Prelude.{Ok, Err}
use Rattle.wire.specs.Read.{Read}
use Rattle.std.specs.Prelude.{Bool, true, false, List, [], ◌∷◌, ℕ, ◌-◌, eqb, take, drop}
use Rattle.std.proofs.Math.Option.{Option, some, none}
use Rattle.layout.specs.Answer.{Answer, got, refused, Reader, pick, after, means}
use Rattle.layout.specs.Codec.{repeated}
use Rattle.wire.specs.Layout.{Shape, one, many, string, undef, shape, Val, str, nil, Form, range, list, no_form, Reading}
use Rattle.wire.specs.Codecs.{value}
use Rattle.wire.specs.Places.{num_at}
use Rattle.wire.specs.declared.property.Slot.{Slot}
use Rattle.wire.specs.Description as form
use Rattle.wire.specs.Description.{PropInfo}
use Rattle.wire.specs.declared.property.Form as declared
use Rattle.wire.specs.declared.property.Form.TheVariants as variants
use Rattle.wire.specs.declared.property.PropLayout.{PropLayout}
use Rattle.wire.specs.declared.property.PropLayout.TheVariants as layouts
use Rattle.std.specs.declared.option.Option as standard
use Rattle.std.specs.declared.option.Option.TheVariants.{Some, None}
use Rattle.wire.specs.declared.property.PropInfo as declared-info

-- the bytes from a place up to another
abbrev pub between : ℕ → ℕ → Slot
between at n = record { start = at; len = n - at }

-- n values of a type, passed by
unfoldable pub passed_at : ℕ → ℕ → Reader (Unit {0})
passed_at t n s at = means (λ _. tt) ((repeated n (value t)).read s at)

-- n values of a type, as the bytes that they take; and one
unfoldable pub values_at : ℕ → ℕ → Reader Slot
values_at t n s at = after ((repeated n (value t)).read s at) λ _ next. got (between at next) next

abbrev pub slot_at : ℕ → Reader Slot
slot_at t = values_at t 1

unfoldable pub range_at : ℕ → Reader form.Form
range_at t s at =
    after (slot_at t s at) λ low a.
    after (slot_at t s a) λ high b.
    after (slot_at t s b) λ step next.
    got (form.range low high step) next

unfoldable pub list_at : ℕ → Reader form.Form
list_at t s at =
    after (num_at 2 s at) λ n start.
    after (values_at t n s start) λ bytes next.
    got (form.list bytes n) next

-- by the form byte
unfoldable pub form_at : ℕ → Reader form.Form
form_at t s at =
    after (num_at 1 s at) λ b p.
    pick (eqb b 1) (range_at t s p) (pick (eqb b 2) (list_at t s p) (got form.absent p))

-- the `IsEnable` byte, where the layout has it
unfoldable pub enable_at : Bool → Reader (Option ℕ)
enable_at true s at = after (num_at 1 s at) λ n next. got (some n) next
enable_at false s at = got none at

-- field by field, in the layout's order
unfoldable pub property_at : Bool → Reader PropInfo
property_at there s at =
    after (num_at 2 s at) λ code a.
    after (num_at 2 s a) λ type b.
    after (num_at 1 s b) λ access c.
    after (enable_at there s c) λ enable d.
    after (slot_at type s d) λ default e.
    after (slot_at type s e) λ current f.
    after (form_at type s f) λ shape next.
    got
    (record {
      property_code = code;
      data_type = type;
      get_set = access;
      is_enable = enable;
      factory_default = default;
      current = current;
      form = shape;
    })
    next

abbrev pub says_form : declared.Form → form.Form
says_form variants.Absent = form.absent
says_form (variants.Range a b c) = form.range a b c
says_form (variants.List p n) = form.list p n

-- whether a description of the layout has the byte
abbrev pub has_enable : PropLayout → Bool
has_enable layouts.Crate = true
has_enable layouts.Book = false

abbrev pub says_enable : standard.Option ℕ → Option ℕ
says_enable (Some n) = some n
says_enable None = none

-- what the readers of the byte and of a form answer
abbrev pub says_enable_read : Read (standard.Option ℕ) → Answer (Option ℕ)
says_enable_read (Ok (e, c)) = got (says_enable e) c.at
says_enable_read (Err t) = refused t

abbrev pub says_form_read : Read declared.Form → Answer form.Form
says_form_read (Ok (f, c)) = got (says_form f) c.at
says_form_read (Err t) = refused t

abbrev pub info_from : declared-info.PropInfo → PropInfo
info_from x = record {
  property_code = x.property_code;
  data_type = x.data_type;
  get_set = x.get_set;
  is_enable = says_enable x.is_enable;
  factory_default = x.factory_default;
  current = x.current;
  form = says_form x.form;
}

abbrev pub says_property : Read declared-info.PropInfo → Answer PropInfo
says_property (Ok (v, c)) = got (info_from v) c.at
says_property (Err t) = refused t

-- ── what places mean ──

-- the bytes of a part
abbrev pub bytes_of : List ℕ → Slot → List ℕ
bytes_of s p = take p.len (drop p.start s)

-- what was read, if all n bytes were; else `other`
abbrev pub filling : {A : Type 0} → ℕ → A → Answer A → A
filling n other (got a m) = pick (eqb m n) a other
filling n other (refused t) = other

-- what is no value of that shape, so that a part which is not exactly one means none
abbrev pub none_of : Shape → Val
none_of (one k) = nil
none_of (many k) = nil
none_of string = nil
none_of undef = str []

-- the value of a type that the bytes of a part are, all of them; and so many values
abbrev pub slot_in : ℕ → List ℕ → Slot → Val
slot_in t s p = filling p.len (none_of (shape t)) ((value t).read (bytes_of s p) 0)

abbrev pub values_in : ℕ → List ℕ → Slot → ℕ → List Val
values_in t s p n = filling p.len (none_of (shape t) ∷ []) ((repeated n (value t)).read (bytes_of s p) 0)

abbrev pub form_in : ℕ → List ℕ → form.Form → Form
form_in t s (form.range a b c) = range (slot_in t s a) (slot_in t s b) (slot_in t s c)
form_in t s (form.list p n) = list (values_in t s p n)
form_in t s form.absent = no_form

-- the reading that it has in the bytes
abbrev pub property_in : List ℕ → PropInfo → Reading
property_in s x = record {
  code = x.property_code;
  type = x.data_type;
  getset = x.get_set;
  enable = x.is_enable;
  default = slot_in x.data_type s x.factory_default;
  current = slot_in x.data_type s x.current;
  form = form_in x.data_type s x.form;
}
