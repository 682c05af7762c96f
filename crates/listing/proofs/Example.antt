-- The listing of document 01: OpenSession sent, and a Response Ok received. And every kind of line that there is, computed.
-- Assumes nothing.
use Rattle.std.proofs.Common.{◌≡◌, ℕ, List, [], ◌∷◌, ◌++◌, refl}
use Rattle.layout.specs.Answer.{bare, end_at, after, means, span_at, field_at}
use Rattle.layout.specs.Bytes.{bytes, number}
use Rattle.names.specs.Names.{spelled, responses, commands, entry_of, response_name, command_name}
use Rattle.wire.specs.Container.{is_kind, header_rest, header_at, container_at, container_word, param_bytes}
use Rattle.recording.specs.Record.{content_at, body_at, head_at, record_at, record_word}
use Rattle.recording.specs.Record as R
use Rattle.recording.specs.Row.{found, records_in}
use Rattle.text.specs.Number.{digits_of, decimal}
use Rattle.text.specs.Lines.{at_text, refusal_line}
use Rattle.listing.specs.Lines.{hex_code, way_text, kind_text, name_for, code_text, counts_text, heading, container_line, note_line, ending, record_line}
use Rattle.listing.specs.Listing.{remaining, listing}

unfoldable pub sent : List ℕ
sent = record_word 2 (container_word 1 0x1002 0 (param_bytes 3 (3 ∷ 0 ∷ 0 ∷ [])))

unfoldable pub received : List ℕ
received = record_word 1 (container_word 3 0x2001 0 [])

pub printed : listing (sent ++ received) ≡ spelled "place way kind code tid bytes\n0 out Command OpenSession 0 12\n30 in Response Ok 0 0\nrecords 2 bytes 48\n"
unfolding sent received bare end_at after means span_at field_at bytes number responses commands entry_of response_name command_name is_kind header_rest header_at container_at container_word param_bytes R.is_kind content_at body_at head_at record_at record_word found records_in digits_of decimal hex_code way_text kind_text name_for code_text counts_text heading container_line note_line at_text refusal_line ending record_line remaining listing
printed = refl

-- ── every kind of line ──

-- Command, Data, Response and Event; a command's code and a response's without a name; a note of an old recording; and bytes that stop in a record's length
unfoldable pub busy : List ℕ
busy =
    sent ++ record_word 2 (container_word 2 0x1016 7 (1 ∷ 2 ∷ [])) ++ record_word 1 (container_word 3 0x2001 7 []) ++
    record_word 1 (container_word 4 0x4002 0 (1 ∷ 0 ∷ 0 ∷ 0 ∷ [])) ++ record_word 2 (container_word 1 0x9001 8 []) ++ record_word 1 (container_word 3 0xA001 8 []) ++ record_word 3 (104 ∷ 105 ∷ []) ++ (10 ∷ 0 ∷ [])

pub printed_busy :
    listing busy ≡ spelled "place way kind code tid bytes\n0 out Command OpenSession 0 12\n30 out Data SetDevicePropValue 7 2\n50 in Response Ok 7 0\n68 in Event 0x4002 0 4\n90 out Command 0x9001 8 0\n108 in Response 0xa001 8 0\n126 old-note 2\n134 refusal 1 0\nrecords 7 bytes 134\n"
unfolding busy sent bare end_at after means span_at field_at bytes number responses commands entry_of response_name command_name is_kind header_rest header_at container_at container_word param_bytes R.is_kind content_at body_at head_at record_at record_word found records_in digits_of decimal hex_code way_text kind_text name_for code_text counts_text heading container_line note_line at_text refusal_line ending record_line remaining listing
printed_busy = refl

-- a refusal with no place
pub printed_13 : listing (6 ∷ 0 ∷ 0 ∷ 0 ∷ 9 ∷ 0 ∷ []) ≡ spelled "place way kind code tid bytes\n0 refusal 13\nrecords 0 bytes 0\n"
unfolding bare end_at after means span_at field_at bytes number responses commands entry_of response_name command_name is_kind header_rest header_at container_at container_word param_bytes R.is_kind content_at body_at head_at record_at record_word found records_in digits_of decimal hex_code way_text kind_text name_for code_text counts_text heading container_line note_line at_text refusal_line ending record_line remaining listing
printed_13 = refl

-- and one inside a body: AT is from the record's start
pub printed_at : listing (sent ++ (11 ∷ 0 ∷ 0 ∷ 0 ∷ 1 ∷ 0 ∷ 1 ∷ 2 ∷ 3 ∷ 4 ∷ 5 ∷ [])) ≡ spelled "place way kind code tid bytes\n0 out Command OpenSession 0 12\n30 refusal 1 10\nrecords 1 bytes 30\n"
unfolding sent bare end_at after means span_at field_at bytes number responses commands entry_of response_name command_name is_kind header_rest header_at container_at container_word param_bytes R.is_kind content_at body_at head_at record_at record_word found records_in digits_of decimal hex_code way_text kind_text name_for code_text counts_text heading container_line note_line at_text refusal_line ending record_line remaining listing
printed_at = refl
