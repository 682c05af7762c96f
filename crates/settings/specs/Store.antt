-- Storing: the row with the entry in place of the one that had its key, or after its last. Removing: the row without it.
-- Assumes nothing.
use Rattle.std.specs.Prelude.{Bool, true, false, List, [], ◌∷◌, ◌++◌, ℕ, ◌+◌, leb, eqb, length}
use Rattle.layout.specs.Answer.{Answer, got, refused, pick, means, bare}
use Rattle.layout.specs.Bytes.{bytes}
use Rattle.layout.specs.Written.{Said, says, no}
use Rattle.wire.specs.Codecs.{text, value}
use Rattle.settings.specs.Refusals.{FULL}
use Rattle.settings.specs.Layout.{OWN, Key, Setting, same_key, holds, limit}
use Rattle.settings.specs.Entry.{alone_in, setting_in}
use Rattle.settings.specs.Row.{row_of, settings_in}
use Rattle.settings.specs.declared.entry.Edition.{Edition}

-- in place of the one that has its key, else last
unfoldable pub put : Setting → List Setting → List Setting
put x [] = x ∷ []
put x (y ∷ ys) = pick (same_key x.key y.key) (x ∷ ys) (y ∷ put x ys)

-- without the one that has the key
unfoldable pub without : Key → List Setting → List Setting
without k [] = []
without k (x ∷ xs) = pick (same_key k x.key) xs (x ∷ without k xs)

-- ── the bytes of a reading ──

abbrev pub serial_word : Bool → List ℕ → List ℕ
serial_word true us = text.write us
serial_word false us = []

abbrev pub key_word : Key → List ℕ
key_word k = bytes 2 k.kind ++ (bytes 4 k.vendor ++ (bytes 2 k.property ++ serial_word (eqb k.kind OWN) k.serial))

abbrev pub content_word : Setting → List ℕ
content_word x = key_word x.key ++ (bytes 2 x.type ++ (value x.type).write x.value)

unfoldable pub entry_word : Setting → List ℕ
entry_word x = bytes 4 (4 + length (content_word x)) ++ content_word x

unfoldable pub row_word : List Setting → List ℕ
row_word [] = []
row_word (x ∷ xs) = entry_word x ++ row_word xs

-- ── what a store has to say: the row's refusal, then the entry's, then 18 ──

-- a new key beside as many as a row can have
unfoldable pub is_full : Key → List Setting → Bool
is_full k xs = pick (holds k xs) false (leb limit (length xs))

unfoldable pub put_said : Setting → List Setting → Said
put_said x xs = pick (is_full x.key xs) (no (bare FULL)) (says (row_word (put x xs)))

unfoldable pub store_said : Answer (List Setting) → Answer Setting → Said
store_said (refused t) y = no t
store_said (got xs n) (refused t) = no t
store_said (got xs n) (got x m) = put_said x xs

-- ── and what a removal has to say: the row's refusal, else the row without it ──

unfoldable pub remove_said : Answer (List Setting) → Key → Said
remove_said (refused t) k = no t
remove_said (got xs n) k = says (row_word (without k xs))

-- the readings of a row, and of an entry alone in its bytes
abbrev pub settings_of : Edition → List ℕ → Answer (List Setting)
settings_of e s = means (settings_in s) (row_of e s)

abbrev pub setting_of : Edition → List ℕ → Answer Setting
setting_of e w = means (setting_in w) (alone_in e w)
