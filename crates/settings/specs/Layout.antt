-- Settings: an entry, its key, and a row of entries, with their meaning. A grammar: no reader and no writer stands here.
-- Assumes nothing.
use Rattle.std.specs.Prelude.{◌≡◌, Bool, true, false, ℕ, ◌+◌, ◌^◌, ◌≤◌, ◌<◌, eqb, length}
use mathlib.Core.HLevel.{Discrete}
use mathlib.Core.List.{List, [], ◌∷◌, ◌++◌, List-discrete}
use Rattle.std.proofs.Math.Decide.{ℕ_discrete}
use Rattle.layout.specs.Answer.{pick}
use Rattle.layout.specs.Bytes.{bytes}
use Rattle.layout.specs.Grammar.{tidy, Grammar, Empty, Number, ◌then◌, As}
use Rattle.wire.specs.Layout.{Val, Text, Value}
use Rattle.settings.specs.declared.entry.Edition.{Edition}
use Rattle.settings.specs.declared.entry.Edition.TheVariants as edition

-- ── kinds and keys ──

-- for any serial, and for a camera of one serial
abbrev pub ANY : ℕ
ANY = 16

abbrev pub OWN : ℕ
OWN = 17

-- edition 1 knows 16, edition 2 knows 16 and 17
abbrev pub knows : Edition → ℕ → Bool
knows edition.One kind = eqb kind ANY
knows edition.Two kind = pick (eqb kind ANY) true (eqb kind OWN)

-- what is kept once: an entry for any serial has no units here. The empty serial is a serial like any other, and has another kind
pub record Key : Type 0 where
  pub kind : ℕ
  pub vendor : ℕ
  pub property : ℕ
  pub serial : List ℕ

pub record Setting : Type 0 where
  pub key : Key
  pub type : ℕ
  pub value : Val

-- ── an entry ──

-- the serial of an entry of that kind
abbrev pub Serial : Bool → Grammar (List ℕ)
Serial true = Text
Serial false = Empty []

abbrev pub key_from : ℕ × (ℕ × (ℕ × List ℕ)) → Key
key_from x = record { kind = x.0; vendor = x.1.0; property = x.1.1.0; serial = x.1.1.1 }

abbrev pub Keyed : Grammar Key
Keyed = As key_from (Number 2 then λ kind. Number 4 then λ vendor. Number 2 then λ property. Serial (eqb kind OWN))

abbrev pub setting_from : Key × (ℕ × Val) → Setting
setting_from x = record { key = x.0; type = x.1.0; value = x.1.1 }

-- after the length
abbrev pub Content : Grammar Setting
Content = As setting_from (Keyed then λ key. Number 2 then λ type. Value type)

-- the bytes are an entry of the edition: its length, which counts its own four bytes, then a tidy word of its content, of a kind that the edition knows
pub data IsEntry (e : Edition) : List ℕ → Setting → Type 0 where
  is_entry : {w : List ℕ} {x : Setting} → knows e x.key.kind ≡ true → 4 + length w < 256 ^ 4 → Content tidy w x → IsEntry e (bytes 4 (4 + length w) ++ w) x

-- ── a row ──

pub key_discrete : Discrete Key
key_discrete a b = both (ℕ_discrete a.kind b.kind) (ℕ_discrete a.vendor b.vendor) (ℕ_discrete a.property b.property) (List-discrete ℕ_discrete a.serial b.serial)
  where
    same : a.kind ≡ b.kind → a.vendor ≡ b.vendor → a.property ≡ b.property → a.serial ≡ b.serial →
        key_from (a.kind, (a.vendor, (a.property, a.serial))) ≡ key_from (b.kind, (b.vendor, (b.property, b.serial)))
    same p q r s = cc

    both : Dec (a.kind ≡ b.kind) → Dec (a.vendor ≡ b.vendor) → Dec (a.property ≡ b.property) → Dec (a.serial ≡ b.serial) → Dec (a ≡ b)
    both (yes p) (yes q) (yes r) (yes s) = yes (same p q r s)
    both (yes p) (yes q) (yes r) (no f) = no λ e. f (cc)
    both (yes p) (yes q) (no f) d = no λ e. f (cc)
    both (yes p) (no f) c d = no λ e. f (cc)
    both (no f) b c d = no λ e. f (cc)

abbrev pub decided : {A : Type 0} → Dec A → Bool
decided (yes a) = true
decided (no f) = false

-- whether two keys are one
unfoldable pub same_key : Key → Key → Bool
same_key a b = decided (key_discrete a b)

-- whether a row holds a key
unfoldable pub holds : Key → List Setting → Bool
holds k [] = false
holds k (x ∷ xs) = pick (same_key k x.key) true (holds k xs)

-- one entry for each key
abbrev pub Distinct : List Setting → Type 0
Distinct [] = Unit {0}
Distinct (x ∷ xs) = (holds x.key xs ≡ false) × Distinct xs

pub data Entries (e : Edition) : List ℕ → List Setting → Type 0 where
  none : Entries e [] []
  one_more : {u v : List ℕ} {x : Setting} {xs : List Setting} → IsEntry e u x → Entries e v xs → Entries e (u ++ v) (x ∷ xs)

-- the most entries that a row has
abbrev pub limit : ℕ
limit = 256

-- the bytes are a row of the edition: entries from end to end, one for each key, not over the limit
pub record IsRow (e : Edition) (w : List ℕ) (xs : List Setting) : Type 0 where
  pub entries : Entries e w xs
  pub distinct : Distinct xs
  pub few : length xs ≤ limit
