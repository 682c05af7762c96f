-- One record of a recording: u32 length of the whole record, u16 kind, body. Kinds 1 and 2: a container from the camera, and to it; 3: a note, which
-- is read and no more written.
-- Assumes nothing.
use Rattle.std.specs.Prelude.{Ok, Err}
use Rattle.wire.specs.Read.{Read}
use Rattle.std.specs.Prelude.{Bool, false, List, ◌++◌, ℕ, ◌+◌, ◌-◌, leb, eqb, length, take}
use Rattle.layout.specs.Answer.{Answer, got, refused, Reader, pick, after, means, bare, span_at}
use Rattle.layout.specs.Bytes.{bytes}
use Rattle.layout.specs.Written.{Said, no, said_of}
use Rattle.layout.specs.Refusals.{TRAIL, RECORD, LONG}
use Rattle.wire.specs.Places.{num_at}
use Rattle.wire.specs.Container.{container_at}
use Rattle.wire.specs.declared.container.Container.{Container}
use Rattle.recording.specs.Content.{Content, Record}
use Rattle.recording.specs.Content as content
use Rattle.std.specs.declared.option.Option as declared
use Rattle.std.specs.declared.option.Option.TheVariants.{Some, None}
use Rattle.recording.specs.declared.Record as declared-record
use Rattle.recording.specs.declared.Head.{Head}

-- the longest body
abbrev pub limit : ℕ
limit = 65000

unfoldable pub is_kind : ℕ → Bool
is_kind kind = pick (leb 1 kind) (leb kind 3) false

-- the kinds that are written
unfoldable pub is_written : ℕ → Bool
is_written kind = pick (leb 1 kind) (leb kind 2) false

-- a record's length has its six bytes, and its kind is known
abbrev pub begins : ℕ → ℕ → Bool
begins len kind = pick (leb 6 len) (is_kind kind) false

-- ── the body, in bytes that end with it ──

-- a note is any bytes; else a container, refused in its own order, and 3 where bytes follow it
unfoldable pub content_at : ℕ → Reader Content
content_at kind s at =
    pick (eqb kind 3) (got content.note (length s))
    (after (container_at s at) λ x n. pick (eqb n (length s)) (got (content.holds x) n) (refused (bare TRAIL)))

-- ── reading, at a place ──

-- 13: a length below 6, or another kind; 14: a body over the limit; 1: a body that is not whole
unfoldable pub body_at : ℕ → ℕ → Reader Head
body_at len kind s start =
    pick (begins len kind)
    (pick (leb (len - 6) limit)
    (means (λ _. record { kind = kind; body = record { start = start; count = len - 6 } }) (span_at start (len - 6) s start))
    (refused (bare LONG)))
    (refused (bare RECORD))

-- the kind and where the body stands, with the place after it
unfoldable pub head_at : Reader Head
head_at s at =
    after (num_at 4 s at) λ len a.
    after (num_at 2 s a) λ kind start.
    body_at len kind s start

-- then what the body refuses
unfoldable pub record_at : Reader Record
record_at s at =
    after (head_at s at) λ h end.
    means (λ c. record { kind = h.kind; body = h.body; content = c }) (content_at h.kind (take end s) h.body.start)

-- at the front of the bytes
abbrev pub head_of : List ℕ → Answer Head
head_of s = head_at s 0

abbrev pub record_of : List ℕ → Answer Record
record_of s = record_at s 0

-- ── writing, by the same rules ──

unfoldable pub record_word : ℕ → List ℕ → List ℕ
record_word kind body = bytes 4 (6 + length body) ++ bytes 2 kind ++ body

unfoldable pub record_said : ℕ → List ℕ → Said
record_said kind body =
    pick (is_written kind)
    (pick (leb (length body) limit) (said_of (means (λ _. record_word kind body) (content_at kind body 0))) (no (bare LONG)))
    (no (bare RECORD))

-- ── this paper's values for each case ──

abbrev pub says_content : declared.Option Container → Content
says_content None = content.note
says_content (Some x) = content.holds x

abbrev pub says_read_content : Read (declared.Option Container) → Answer Content
says_read_content (Ok (x, c)) = got (says_content x) c.at
says_read_content (Err t) = refused t

abbrev pub record_from : declared-record.Record → Record
record_from x = record { kind = x.kind; body = x.body; content = says_content x.content }

abbrev pub says_record : Read declared-record.Record → Answer Record
says_record (Ok (x, c)) = got (record_from x) c.at
says_record (Err t) = refused t
