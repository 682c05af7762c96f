-- Every line has room in 128 bytes: a 64-bit number has at most twenty digits, and a name at most 37 bytes.
-- Assumes nothing.
use Rattle.std.proofs.Common.{◌≡◌, ℕ, ◌^◌, ◌<◌, ◌≤◌, Bool, true, false, eqb, List, length, arith}
use mathlib.Core.Option.{Option, some, none}
use Rattle.io.specs.Digits.{IsDigitCount}
use Rattle.layout.specs.Answer.{pick}
use Rattle.layout.specs.Written.{Put}
use Rattle.names.specs.Names.{spelled, response_name, command_name}
use Rattle.names.proofs.laws.Spells.{Short, response_short, command_short}
use Rattle.wire.specs.declared.container.Container.{Container}
use Rattle.recording.specs.Content.{Content, Record}
use Rattle.recording.specs.Content as content
use Rattle.recording.proofs.laws.Rowed.{Stands, Small}
use Rattle.listing.specs.Lines.{hex_code, way_text, kind_text, name_or, name_for, code_text, counts_text, container_line, note_line, ending, content_line, record_line}
use Rattle.listing.specs.Window.{line_room}
use Rattle.text.proofs.laws.Numerals.{one_count, digits_length, decimal_short}
use Rattle.listing.proofs.Pieces.{counts_length, note_length, ending_length, container_length}

way_short : (kind : ℕ) → length (way_text kind) ≤ 5
unfolding way_text
way_short kind = go (eqb kind 1)
  where
    go : (b : Bool) → length (pick b (spelled " in ") (spelled " out ")) ≤ 5
    go true = omega arith
    go false = omega arith

kind_short : (kind : ℕ) → length (kind_text kind) ≤ 9
unfolding kind_text
kind_short kind = go (eqb kind 1) (eqb kind 2) (eqb kind 3)
  where
    go : (a b c : Bool) → length (pick a (spelled "Command ") (pick b (spelled "Data ") (pick c (spelled "Response ") (spelled "Event ")))) ≤ 9
    go true b c = omega arith
    go false true c = omega arith
    go false false true = omega arith
    go false false false = omega arith

name_short : (kind code : ℕ) → Short (name_for kind code)
unfolding name_for
name_short kind code = go (eqb kind 3) (eqb kind 4)
  where
    go : (a b : Bool) → Short (pick a (response_name code) (pick b none (command_name code)))
    go true b = response_short code
    go false true = tt
    go false false = command_short code

hex_length : (code : ℕ) → length (hex_code code) ≡ 6
unfolding hex_code
hex_length code = omega (arith, digits_length 16 4 code)

-- a code of 16 bits has four hexadecimal digits
pub hex_is : (n k : ℕ) → n < 16 ^ 4 → IsDigitCount 16 4 n k → k ≡ 4
hex_is n k h p = one_count 16 4 n k 4 (omega arith) p (omega arith, h, λ l. omega arith)

code_short : (kind code : ℕ) → length (code_text kind code) ≤ 37
unfolding code_text
code_short kind code = go (name_for kind code) (name_short kind code)
  where
    go : (o : Option (List ℕ)) → Short o → length (name_or o (hex_code code)) ≤ 37
    go (some bs) h = h
    go none h = omega (arith, hex_length code)

counts_short : (number count : ℕ) → number < 2 ^ 64 → count < 2 ^ 64 → length (counts_text number count) ≤ 43
counts_short number count h k = omega (arith, counts_length number count, decimal_short number h, decimal_short count k)

container_short : (place kind : ℕ) (x : Container) → place < 2 ^ 64 → x.number < 2 ^ 64 → x.payload.count < 2 ^ 64 → length (container_line place kind x) ≤ line_room
container_short place kind x h k l =
    omega (
      arith,
      container_length place kind x,
      decimal_short place h,
      way_short kind,
      kind_short x.kind,
      code_short x.kind x.code,
      counts_short x.number x.payload.count k l,
    )

note_short : (place count : ℕ) → place < 2 ^ 64 → count < 2 ^ 64 → length (note_line place count) ≤ line_room
note_short place count h k = omega (arith, note_length place count, decimal_short place h, decimal_short count k)

pub ending_short : (records count : ℕ) → records < 2 ^ 64 → count < 2 ^ 64 → length (ending records count) ≤ 64
ending_short records count h k = omega (arith, ending_length records count, decimal_short records h, decimal_short count k)

pub ending_placed : {records count r : ℕ} {old new : List ℕ} → records < 2 ^ 64 → count < 2 ^ 64 → Put old 0 (ending records count) new r → Put old 0 (ending records count) new r × (r ≤ 64)
ending_placed {records} {count} h k p = (p, omega (arith, p.place, ending_short records count h k))

pub record_short : (place : ℕ) (s : List ℕ) (x : Record) (n : ℕ) → place < 2 ^ 64 → length s < 2 ^ 64 → Stands s x n → Small s x.content → length (record_line place x) ≤ line_room
unfolding record_line
record_short place s x n h k p q = go x.content q
  where
    go : (c : Content) → Small s c → length (content_line place x.kind x.body.count c) ≤ line_room
    go content.note q = note_short place x.body.count h (omega (arith, p.till, p.within))
    go (content.holds y) q = container_short place x.kind y h (omega (arith, q.0)) (omega (arith, q.1))
