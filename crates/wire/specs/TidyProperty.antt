-- A description's tidy word as the writer's inner contracts name it: part by part, each from its place.
-- Assumes nothing.
use Rattle.std.specs.Prelude.{◌≡◌, true, List, [], ◌∷◌, ◌++◌, ℕ}
use Rattle.layout.specs.Bytes.{bytes}
use Rattle.layout.specs.Written.{took, spelling}
use Rattle.wire.specs.Codecs.{enable_write}
use Rattle.wire.specs.Tidy.{row_word, types}
use Rattle.wire.specs.Description.{Form, PropInfo}
use Rattle.wire.specs.Description as form

-- the tidy words of n values of a type at a place
abbrev pub values_word : ℕ → ℕ → List ℕ → ℕ → List ℕ
values_word t n s at = spelling (row_word (types (t ∷ []) n) s at)

unfoldable pub header_word : PropInfo → List ℕ
header_word x = bytes 2 x.property_code ++ bytes 2 x.data_type ++ bytes 1 x.get_set ++ enable_write x.is_enable

unfoldable pub range_word : ℕ → List ℕ → ℕ → ℕ → ℕ → List ℕ
range_word t s a b c = bytes 1 1 ++ values_word t 1 s a ++ values_word t 1 s b ++ values_word t 1 s c

unfoldable pub list_word : ℕ → List ℕ → ℕ → ℕ → List ℕ
list_word t s at n = bytes 1 2 ++ bytes 2 n ++ values_word t n s at

unfoldable pub form_word : ℕ → List ℕ → Form → List ℕ
form_word t s (form.range a b c) = range_word t s a.start b.start c.start
form_word t s (form.list p n) = list_word t s p.start n
form_word t s form.absent = bytes 1 0

unfoldable pub property_word : List ℕ → PropInfo → List ℕ
property_word s x =
    let t = x.data_type in
    header_word x ++ values_word t 1 s x.factory_default.start ++ values_word t 1 s x.current.start ++ form_word t s x.form

-- ── the values were read ──

abbrev pub Taken : ℕ → ℕ → List ℕ → ℕ → Type 0
Taken t n s at = took (row_word (types (t ∷ []) n) s at) ≡ true

abbrev pub Well3 : ℕ → List ℕ → ℕ → ℕ → ℕ → Type 0
Well3 t s a b c = Taken t 1 s a × Taken t 1 s b × Taken t 1 s c

abbrev pub WellForm : ℕ → List ℕ → Form → Type 0
WellForm t s (form.range a b c) = Well3 t s a.start b.start c.start
WellForm t s (form.list p n) = Taken t n s p.start
WellForm t s form.absent = Unit {0}

pub record Well (s : List ℕ) (x : PropInfo) : Type 0 where
  pub default : Taken x.data_type 1 s x.factory_default.start
  pub current : Taken x.data_type 1 s x.current.start
  pub form : WellForm x.data_type s x.form
