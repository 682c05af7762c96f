-- A recording copied without its notes: the records of kinds 1 and 2 byte for byte, in order, and what was left out.
-- Assumes nothing.
use Rattle.std.specs.Prelude.{Ok, Err}
use Rattle.std.specs.declared.result.Result.{Result}
use Rattle.layout.specs.declared.Refusal.{Refusal}
use Rattle.std.specs.Prelude.{◌≡◌, true, List, [], ◌∷◌, ◌++◌, ℕ, ◌+◌, ◌-◌, take, drop}
use Rattle.layout.specs.Answer.{Told, Answer, got, refused, pick, after, means}
use Rattle.layout.specs.Written.{Said, said_of, spelling, answer_of, left_of}
use Rattle.wire.specs.Returned.{part_of}
use Rattle.wire.specs.declared.container.Container.{Container}
use Rattle.recording.specs.Content.{Content, Record}
use Rattle.recording.specs.Content as content
use Rattle.recording.specs.Record.{is_written}
use Rattle.recording.specs.Row.{row_of, whole_of}
use Rattle.recording.specs.declared.copy.Left.{Left}
use Rattle.recording.specs.declared.copy.Front.{Front}
use Rattle.recording.specs.declared.copy.Swept.{Swept}

-- ── what is copied ──

-- a record's bytes: its body's, and the six before them
abbrev pub bytes_in : List ℕ → Record → List ℕ
bytes_in s x = take (6 + x.body.count) (drop (x.body.start - 6) s)

unfoldable pub kept_of : List ℕ → List Record → List ℕ
kept_of s [] = []
kept_of s (x ∷ xs) = pick (is_written x.kind) (bytes_in s x) [] ++ kept_of s xs

-- the records that are copied
unfoldable pub written_in : List Record → List Record
written_in [] = []
written_in (x ∷ xs) = pick (is_written x.kind) (x ∷ written_in xs) (written_in xs)

-- no note is among them
abbrev pub AllWritten : List Record → Type 0
AllWritten [] = Unit {0}
AllWritten (x ∷ xs) = (is_written x.kind ≡ true) × AllWritten xs

-- of the whole recording, or its first refusal
unfoldable pub kept : List ℕ → Answer (List ℕ)
kept s = means (kept_of s) (row_of s)

unfoldable pub copy_said : List ℕ → Said
copy_said s = said_of (kept s)

-- ── what is left out ──

abbrev pub none : Left
none = record { records = 0; bytes = 0 }

-- a record more, of that kind and with a body of so many bytes, which is left out where its kind is not written
unfoldable pub counted : Left → ℕ → ℕ → Left
counted l kind count = pick (is_written kind) l (record { records = l.records + 1; bytes = l.bytes + (6 + count) })

-- after those that were left out before
unfoldable pub left_by : Left → List Record → Left
left_by l [] = l
left_by l (x ∷ xs) = left_by (counted l x.kind x.body.count) xs

unfoldable pub left_out : List ℕ → Answer Left
left_out s = means (left_by none) (row_of s)

-- ── what is answered, and what is left of the output ──

-- the recording's refusal, then 9; else how many bytes were written, and what was left out
unfoldable pub copy_of : List ℕ → List ℕ → Answer Left
copy_of s out = after (left_out s) λ l _. means (λ _. l) (answer_of (copy_said s) out)

pub record Copies (s old : List ℕ) (answer : Answer Left) (new : List ℕ) : Type 0 where
  pub answers : answer ≡ copy_of s old
  pub leaves : new ≡ left_of (copy_said s) old

-- ── this paper's values for each case ──

abbrev pub says_stop : Left → ℕ → Result (Unit {0}) Refusal → Answer Left
says_stop l n (Ok _) = got l n
says_stop l n (Err t) = refused t

abbrev pub says_copied : (Result (ℕ × Left) Refusal) → Answer Left
says_copied (Ok (n, l)) = got l n
says_copied (Err t) = refused t

-- ── the records at the front that are accepted ──

-- what a copy leaves out of them, and of all bytes
pub record Sweeps (s : List ℕ) (r : Swept) : Type 0 where
  pub end : r.end ≡ whole_of s
  pub front : left_out (take (whole_of s) s) ≡ got r.left (whole_of s)
  pub whole : says_stop r.left r.end r.stop ≡ left_out s

-- they are copied as a recording
pub record CopiesFront (s old : List ℕ) (r : Front) (new : List ℕ) : Type 0 where
  pub used : r.used ≡ whole_of s
  pub copies : Copies (take (whole_of s) s) old (says_copied r.copied) new

-- their copy, and what it leaves out
unfoldable pub front_text : List ℕ → List ℕ
front_text s = spelling (kept (take (whole_of s) s))

abbrev pub left_in : Answer Left → Left
left_in (got l n) = l
left_in (refused t) = none

unfoldable pub front_left : List ℕ → Left
front_left s = left_in (left_out (take (whole_of s) s))

-- ── places moved by so many bytes, and records that are alike ──

unfoldable pub move_told : ℕ → Told → Told
move_told k t = record { no = t.no; placed = t.placed; at = pick t.placed (k + t.at) 0 }

abbrev pub move_container : ℕ → Container → Container
move_container k x = record { kind = x.kind; code = x.code; number = x.number; payload = record { start = k + x.payload.start; count = x.payload.count } }

abbrev pub move_content : ℕ → Content → Content
move_content k content.note = content.note
move_content k (content.holds x) = content.holds (move_container k x)

abbrev pub move : ℕ → Record → Record
move k x = record { kind = x.kind; body = record { start = k + x.body.start; count = x.body.count }; content = move_content k x.content }

-- in the one bytes and in the other: the same kinds and the same bodies, in order
pub data Alike (s w : List ℕ) : List Record → List Record → Type 0 where
  no_more : Alike s w [] []
  and_one : {x y : Record} {xs ys : List Record} → x.kind ≡ y.kind → part_of s x.body ≡ part_of w y.body → Alike s w xs ys → Alike s w (x ∷ xs) (y ∷ ys)

-- what both left out
abbrev pub plus : Left → Left → Left
plus l k = record { records = l.records + k.records; bytes = l.bytes + k.bytes }
