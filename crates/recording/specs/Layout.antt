-- A record and a recording, with their meaning. A grammar: no reader and no writer stands here. What a container is stands in the byte layer's page (wire/specs/Layout).
-- Assumes nothing.
use Rattle.std.specs.Prelude.{List, [], ◌∷◌, ◌++◌, ℕ, ◌+◌, ◌≤◌, length}
use Rattle.layout.specs.Bytes.{Bytes, bytes}
use Rattle.layout.specs.Grammar.{Spelling}
use Rattle.wire.specs.Layout.{Box, Container}

-- ── a record ──

-- a container from the camera (1) or to it (2); or a note, which is its bytes
pub data Entry : Type 0 where
  holds : ℕ → Box → Entry
  note : List ℕ → Entry

-- the longest body
abbrev pub longest : ℕ
longest = 65000

-- its length, which counts all of it, the six bytes before the body too; its kind; its body, which is a container or, of kind 3, any bytes. It has one spelling
pub data Record (p : Spelling) : List ℕ → Entry → Type 0 where
  held : (kind : ℕ) {w : List ℕ} {x : Box} → 1 ≤ kind → kind ≤ 2 → length w ≤ longest → Container p w x → Record p (bytes 4 (6 + length w) ++ bytes 2 kind ++ w) (holds kind x)
  noted : (w : List ℕ) → length w ≤ longest → Bytes w → Record p (bytes 4 (6 + length w) ++ bytes 2 3 ++ w) (note w)

-- ── a recording: records from end to end, or none ──

pub data Recording (p : Spelling) : List ℕ → List Entry → Type 0 where
  none : Recording p [] []
  one_more : {u v : List ℕ} {x : Entry} {xs : List Entry} → Record p u x → Recording p v xs → Recording p (u ++ v) (x ∷ xs)
