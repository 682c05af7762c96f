-- Lines are rows of pieces that have room, one after the other.
-- Assumes nothing.
use Rattle.std.proofs.Common.{◌≡◌, ℕ, ◌+◌, ◌-◌, ◌≤◌, List, ◌++◌, length, take, drop, sym, arith, length-append}
use mathlib.Core.Option.{some, none}
use Rattle.layout.specs.Written.{Put, roomed}
use Rattle.layout.proofs.laws.Stored.{first, more}
use Rattle.names.specs.Names.{name_bytes}
use Rattle.recording.specs.Content.{Record}
use Rattle.recording.specs.Content as content
use Rattle.wire.specs.declared.container.Container.{Container}
use Rattle.text.specs.Number.{decimal}
use Rattle.listing.specs.Lines.{hex_code, way_text, kind_text, name_for, code_text, counts_text, container_line, note_line, ending, record_line}

module _ (A B : List ℕ) {out a b : List ℕ} {at i j : ℕ} where
  pub row2 : at + length (A ++ B) ≤ length out → Put out at (roomed out at A) a i → Put a i (roomed a i B) b j → Put out at (A ++ B) b j
  row2 h p q = let l = length-append A B in more (first (omega arith) p) B (omega arith) q

-- ── what a line is, by its case ──

code_named : (kind code : ℕ) {bs : List ℕ} → some bs ≡ name_for kind code → code_text kind code ≡ bs
unfolding code_text
code_named kind code e = rw (← e)

-- by the part of the name bytes that is lent
pub code_at : (names : List ℕ) (kind code start len : ℕ) → names ≡ name_bytes → some (take len (drop start name_bytes)) ≡ name_for kind code → take (start + len - start) (drop start names) ≡ code_text kind code
code_at names kind code start len e f = let s : start + len - start ≡ len = omega arith in rw (s, e) (sym (code_named kind code f))

pub code_nameless : (kind code : ℕ) → none ≡ name_for kind code → code_text kind code ≡ hex_code code
unfolding code_text
code_nameless kind code e = rw (← e)

pub record_note : (place : ℕ) (x : Record) → x.content ≡ content.note → record_line place x ≡ note_line place x.body.count
unfolding record_line
record_note place x e = rw e

pub record_holds : (place : ℕ) (x : Record) {c : Container} → x.content ≡ content.holds c → record_line place x ≡ container_line place x.kind c
unfolding record_line
record_holds place x e = rw e

-- ── lengths, by the pieces ──

pub counts_length : (number count : ℕ) → length (counts_text number count) ≡ length (decimal number) + length (decimal count) + 3
unfolding counts_text
counts_length number count = simp length-append (omega arith)

pub note_length : (place count : ℕ) → length (note_line place count) ≡ length (decimal place) + length (decimal count) + 11
unfolding note_line
note_length place count = simp length-append (omega arith)

pub ending_length : (records count : ℕ) → length (ending records count) ≡ length (decimal records) + length (decimal count) + 16
unfolding ending
ending_length records count = simp length-append (omega arith)

pub container_length :
    (place kind : ℕ) (x : Container) →
    length (container_line place kind x) ≡
    length (decimal place) + length (way_text kind) + length (kind_text x.kind) + length (code_text x.kind x.code) + length (counts_text x.number x.payload.count)
unfolding container_line
container_length place kind x = simp length-append (omega arith)
