-- What the bytes of an answer's parts are, of a value, a record and a property's description. Each part lies in the bytes and is as a whole, from its first byte to its last, a word of the
-- layout with the reading's own value, which a longer or a shorter part is not; and each begins where the one before it ends. No reader stands here.
-- Assumes nothing.
use Rattle.wire.specs.Codecs.{enable_write}
use Rattle.std.specs.Prelude.{◌≡◌, List, [], ◌∷◌, map, ℕ, ◌+◌, ◌*◌, ◌≤◌, ◌<◌, length, take, get_or}
use Rattle.layout.specs.Answer.{Answer, got, refused, bare}
use Rattle.layout.specs.Grammar.{loose, Grammar, Number, Repeat}
use Rattle.layout.specs.Refusals.{PLACE}
use Rattle.wire.specs.Layout.{Kind, width, Num, meaning, Shape, one, many, string, undef, shape, Val, num, nums, str, nil, Value, Form, range, list, no_form, Reading}
use Rattle.wire.specs.Places.{Located, number_is, items, units, empty}
use Rattle.wire.specs.Property.{bytes_of}
use Rattle.wire.specs.List.{next, end, says_step, Nexts, Moves}
use Rattle.wire.specs.declared.Part.{Part}
use Rattle.wire.specs.declared.list.Step.{Step}
use Rattle.std.specs.declared.option.Option.{Option}
use Rattle.wire.specs.declared.list.Values.{Values}
use Rattle.wire.specs.declared.property.Slot.{Slot}
use Rattle.wire.specs.Description as form
use Rattle.wire.specs.Description.{PropInfo}

-- the part lies in s, and its bytes are a word of G, read as r
pub record Worded {R : Type 0} (G : Grammar R) (s : List ℕ) (p : Slot) (r : R) : Type 0 where
  pub within : p.start + p.len ≤ length s
  pub reads : G loose (bytes_of s p) r

-- ── a value's own parts ──

-- the bytes of the units of two bytes, or of the items of w, that a part has
abbrev pub items_slot : ℕ → Part → Slot
items_slot w p = record { start = p.start; len = p.count * w }

-- a value that stands from a place up to n, as it is answered: its items, or its units before the last, are by their bytes as a whole as many numbers
-- as the answer says, and begin behind the count
pub data WordedValue (s : List ℕ) (at n : ℕ) : Shape → Located → Val → Type 0 where
  a_number : {k : Kind} {x : Num} → WordedValue s at n (one k) (number_is x) (num x)
  an_array : {k : Kind} {p : Part} {xs : List ℕ} → p.start ≡ at + 4 → n ≡ p.start + p.count * width k → Worded (Repeat p.count (Number (width k))) s (items_slot (width k) p) xs
      → WordedValue s at n (many k) (items p) (nums (map (meaning k) xs))
  a_string : {p : Part} {us : List ℕ} → p.start ≡ at + 1 → Worded (Repeat p.count (Number 2)) s (items_slot 2 p) us → WordedValue s at n string (units p) (str us)
  nothing : WordedValue s at n undef empty nil

-- ── a record's fields ──

-- a row of values that stands from a place up to n, as it is answered: each field is by its bytes as a whole a word with the reading's value, and begins where the one before it ends
pub data WordedRow (s : List ℕ) : List ℕ → ℕ → List Located → List Val → ℕ → Type 0 where
  none : {at : ℕ} → WordedRow s [] at [] [] at
  field : {t at len n : ℕ} {ts : List ℕ} {l : Located} {ls : List Located} {v : Val} {vs : List Val} → Worded (Value t) s (record { start = at; len = len }) v → WordedValue s at (at + len) (shape t) l v
      → WordedRow s ts (at + len) ls vs n → WordedRow s (t ∷ ts) at (l ∷ ls) (v ∷ vs) n

-- ── a description's own parts ──

pub data WordedForm (t : ℕ) (s : List ℕ) : form.Form → Form → Type 0 where
  a_range : {a b c : Slot} {x y z : Val} → Worded (Value t) s a x → Worded (Value t) s b y → Worded (Value t) s c z → WordedForm t s (form.range a b c) (range x y z)
  -- as many values as the answer says
  a_list : {p : Slot} {n : ℕ} {vs : List Val} → Worded (Repeat n (Value t)) s p vs → WordedForm t s (form.list p n) (list vs)
  absent : WordedForm t s form.absent no_form

-- the answer x says the reading r: its numbers are r's, and its parts are words with r's values
pub record WordedProperty (s : List ℕ) (x : PropInfo) (r : Reading) : Type 0 where
  pub code : x.property_code ≡ r.code
  pub type : x.data_type ≡ r.type
  pub getset : x.get_set ≡ r.getset
  pub enable : x.is_enable ≡ r.enable
  pub default : Worded (Value r.type) s x.factory_default r.default
  pub current : Worded (Value r.type) s x.current r.current
  pub form : WordedForm r.type s x.form r.form

-- where a part ends
abbrev pub ends : Slot → ℕ
ends p = p.start + p.len

-- from the place of the form byte up to n, the place after the whole
abbrev pub FormInOrder : ℕ → ℕ → form.Form → Type 0
FormInOrder at n (form.range a b c) = (a.start ≡ at + 1) × (b.start ≡ ends a) × (c.start ≡ ends b) × (n ≡ ends c)
FormInOrder at n (form.list p count) = (p.start ≡ at + 3) × (n ≡ ends p)
FormInOrder at n form.absent = n ≡ at + 1

-- of a description at a place: the parts follow each other, behind the four numbers, without a gap
pub record InOrder (at : ℕ) (x : PropInfo) (n : ℕ) : Type 0 where
  pub default : x.factory_default.start ≡ at + 5 + length (enable_write x.is_enable)
  pub current : x.current.start ≡ ends x.factory_default
  pub form : FormInOrder (ends x.current) n x.form

-- ── the values of its list ──

-- the k-th of the values vs that the part `all` is: the value l, its part p, and n, the place after it
pub record Nth (t : ℕ) (s : List ℕ) (all : Slot) (vs : List Val) (k : ℕ) (l : Located) (p : Slot) (n : ℕ) : Type 0 where
  pub bytes : Worded (Value t) s p (get_or vs k nil)
  pub is : WordedValue s p.start n (shape t) l (get_or vs k nil)
  -- from the start of `all` up to it stand, in `gap` bytes, the k values before it
  pub gap : ℕ
  pub from : p.start ≡ all.start + gap
  pub before : Worded (Repeat k (Value t)) s (record { start = all.start; len = gap }) (take k vs)
  pub till : p.start + p.len ≤ all.start + all.len
  pub after : n ≡ p.start + p.len

-- what is answered of the k-th, where the form f has the values vs: the k-th of them, or 12 past the last
pub record Nths (t : ℕ) (s : List ℕ) (f : form.Form) (vs : List Val) (k : ℕ) (answer : Answer (Located × Slot)) : Type 0 where
  pub found : k < length vs → (all : Slot) × (l : Located) × (p : Slot) × (n : ℕ) × (f ≡ form.list all (length vs)) × (answer ≡ got (l, p) n) × Nth t s all vs k l p n
  pub past : length vs ≤ k → answer ≡ refused (bare PLACE)

-- the list handed out, called again and again: each `next` gives the next of the values vs, `moved` moves the list behind it, and after the last comes the end
pub data Yields (t : ℕ) (s : List ℕ) : Values → List Val → Type 0 where
  ended : {l : Values} → ((r : Option Step) → Nexts l r → says_step r ≡ end) → Yields t s l []
  yields : {l : Values} {len rest : ℕ} {v : Val} {vs : List Val} → Worded (Value t) s (record { start = l.at; len = len }) v
      → ((r : Option Step) → Nexts l r → (x : Located) × (says_step r ≡ next x (l.at + len) rest) × WordedValue s l.at (l.at + len) (shape t) x v)
      → ((m : Values) → Moves l (l.at + len) rest m → Yields t s m vs) → Yields t s l (v ∷ vs)

-- a form's list, if it has one
abbrev pub values_of : Form → List Val
values_of (list vs) = vs
values_of (range a b c) = []
values_of no_form = []

-- ── the newer value ──

-- the bytes b that are handed out: the payload where it is exactly one value of the type, else a word of the current value
pub record Picks (t : ℕ) (payload : List ℕ) (current : Val) (b : List ℕ) : Type 0 where
  pub later : (v : Val) → Value t loose payload v → b ≡ payload
  pub other : ((v : Val) → Value t loose payload v → ⊥) → Value t loose b current
