-- A reader and a tidy writer for each layout of the byte layer. That each is faithful to its layout is proved in proofs/Formats.
-- Assumes nothing.
use Rattle.std.specs.Prelude.{Bool, true, false, List, [], ◌∷◌, map, ℕ, zero, suc, ◌+◌, ◌-◌, ◌*◌, ◌^◌, ℤ, pos, negsuc}
use Rattle.std.proofs.Math.Option.{Option, some, none}
use Rattle.layout.specs.Answer.{bad_text, means}
use Rattle.layout.specs.Bytes.{bytes}
use Rattle.layout.specs.Codec.{Codec, nothing, numbered, ◌and◌, leading, only, through, field, cons_write, repeated, spared, celled, counted}
use Rattle.wire.specs.Container.{container_at, container_word}
use Rattle.wire.specs.Layout as L
use Rattle.wire.specs.Layout.{Kind, sint, uint, wide, width, Num, int, nat, pair, meaning, paired, text_count, Shape, one, many, string, undef, shape, Val, nums, str, nil, Form, range, list, no_form, Reading, form_byte, Parts, reading, Box}
use Rattle.wire.specs.Returned.{part_of}
use Rattle.wire.specs.declared.container.Container as declared

-- ── the number that a meaning is of ──

abbrev pub unsigned : ℕ → ℤ → ℕ
unsigned full (pos n) = n
unsigned full (negsuc n) = full - suc n

abbrev pub number_of : Kind → Num → ℕ
number_of (sint k) (int z) = unsigned (256 ^ k) z
number_of (sint k) (nat n) = 0
number_of (sint k) (pair h l) = 0
number_of (uint k) (int z) = 0
number_of (uint k) (nat n) = n
number_of (uint k) (pair h l) = 0
number_of wide (int z) = 0
number_of wide (nat n) = 0
number_of wide (pair h l) = h * 0x10000000000000000 + l

-- ── strings ──

abbrev pub all_units : ℕ → Codec (List ℕ × Unit {0})
all_units n = celled 2 n and λ _. spared 2

abbrev pub units : ℕ → Codec (List ℕ)
units zero = nothing []
units (suc n) = only bad_text paired (through (λ x. x.0) (all_units n) (λ us. (all_units n).write (us, tt)))

abbrev pub text : Codec (List ℕ)
text = field (leading (numbered 1) text_count units)

-- ── values ──

-- a value written by the writer of its own case; no other case has that shape
abbrev pub val_write : (Num → List ℕ) → (List Num → List ℕ) → (List ℕ → List ℕ) → Val → List ℕ
val_write f g h (L.num x) = f x
val_write f g h (nums xs) = g xs
val_write f g h (str us) = h us
val_write f g h nil = []

abbrev pub array : ℕ → Codec (List ℕ)
array w = field (counted 4 (celled w))

abbrev pub shaped : Shape → Codec Val
shaped (one k) = through (λ n. L.num (meaning k n)) (numbered (width k)) (val_write (λ x. bytes (width k) (number_of k x)) (λ _. []) (λ _. []))
shaped (many k) = through (λ ns. nums (map (meaning k) ns)) (array (width k)) (val_write (λ _. []) (λ xs. (array (width k)).write (map (number_of k) xs)) (λ _. []))
shaped string = through str text (val_write (λ _. []) (λ _. []) text.write)
shaped undef = nothing nil

abbrev pub value : ℕ → Codec Val
value t = shaped (shape t)

-- ── records ──

abbrev pub row : List ℕ → Codec (List Val)
row [] = nothing []
row (t ∷ ts) = through (λ x. x.0 ∷ x.1) (value t and λ _. row ts) (λ xs. cons_write (value t).write (λ ys. (row ts).write ys) xs)

-- ── a property's description ──

-- a reading's parts, in their order
abbrev pub parts : Reading → Parts
parts r = (r.code, (r.type, (r.getset, (r.enable, (r.default, (r.current, r.form))))))

abbrev pub three : ℕ → Codec (Val × (Val × Val))
three t = value t and λ _. value t and λ _. value t

abbrev pub listed : ℕ → Codec (List Val)
listed t = counted 2 (λ n. repeated n (value t))

abbrev pub form_write : ℕ → Form → List ℕ
form_write t (range a b c) = (three t).write (a, (b, c))
form_write t (list xs) = (listed t).write xs
form_write t no_form = []

abbrev pub formed : ℕ → ℕ → Codec Form
formed t zero = nothing no_form
formed t (suc zero) = through (λ x. range x.0 x.1.0 x.1.1) (three t) (form_write t)
formed t (suc (suc zero)) = through list (listed t) (form_write t)
formed t (suc (suc (suc n))) = nothing no_form

abbrev pub form : ℕ → Codec Form
form t = leading (numbered 1) form_byte (formed t)

abbrev pub enable_write : Option ℕ → List ℕ
enable_write (some n) = bytes 1 n
enable_write none = []

abbrev pub enable : Bool → Codec (Option ℕ)
enable true = through some (numbered 1) enable_write
enable false = nothing none

abbrev pub fields : Bool → Codec Parts
fields there =
    numbered 2 and λ code.
    numbered 2 and λ type.
    numbered 1 and λ getset.
    enable there and λ enabled.
    value type and λ default.
    value type and λ current.
    form type

abbrev pub property : Bool → Codec Reading
property there = through reading (fields there) (λ r. (fields there).write (parts r))

-- ── a container ──

-- what its places mean
abbrev pub box_in : List ℕ → declared.Container → Box
box_in s x = record { kind = x.kind; code = x.code; number = x.number; payload = part_of s x.payload }

-- from where to where its payload stands
abbrev pub box_parts : declared.Container → List (ℕ × ℕ)
box_parts x = (x.payload.start, x.payload.start + x.payload.count) ∷ []

abbrev pub box_word : Box → List ℕ
box_word x = container_word x.kind x.code x.number x.payload

abbrev pub container : Codec Box
container = record { read = λ s at. means (box_in s) (container_at s at); write = box_word }
