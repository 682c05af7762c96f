-- One transaction computed: a Command, two Data containers with an Event between them, a Response Ok, and a byte after it. The last Data's payload is told, and the byte is not read.
-- Assumes nothing.
use Rattle.std.proofs.Common.{◌≡◌, ℕ, List, [], ◌∷◌, ◌++◌}
use Rattle.wire.specs.Read.{Read}
use Rattle.layout.specs.Answer.{got, refused, after, means, bare, span_at, field_at}
use Rattle.layout.specs.Bytes.{bytes, number}
use Rattle.layout.specs.Refusals.{TID, NOPHASE}
use Rattle.wire.specs.Container.{is_kind, header_rest, header_at, container_at, container_word}
use Rattle.session.specs.Search.{phase_at, phases_from, last_data, payload, response, answer_in, says_found}
use Rattle.session.specs.declared.search.Found.{Found}

-- number 7: GetDevicePropDesc (12 bytes), Data of one byte (13), an Event (12), Data of two bytes (14)
unfoldable pub before : List ℕ
before = container_word 1 0x1014 7 [] ++ container_word 2 0x1014 7 (0xAA ∷ []) ++ container_word 4 0x4002 7 [] ++ container_word 2 0x1014 7 (0xBB ∷ 0xCC ∷ [])

-- of `find_answer`'s own answer
module _ (f : Read Found) where
  -- the two bytes begin at 12 + 13 + 12 + 12, and the place after the Response is 63
  pub last_data_found : says_found f ≡ answer_in 7 (before ++ container_word 3 0x2001 7 [] ++ (0xFF ∷ [])) → says_found f ≡ got (payload (record { start = 49; count = 2 })) 63
  unfolding before answer_in phases_from phase_at last_data after means span_at field_at bytes number is_kind header_rest header_at container_at container_word
  last_data_found promised = promised

  -- a Response that is not Ok: its code, and no payload
  pub busy_found : says_found f ≡ answer_in 7 (before ++ container_word 3 0x2019 7 []) → says_found f ≡ got (response 0x2019) 63
  unfolding before answer_in phases_from phase_at last_data after means span_at field_at bytes number is_kind header_rest header_at container_at container_word
  busy_found promised = promised

  -- no Response
  pub nothing_found : says_found f ≡ answer_in 7 before → says_found f ≡ refused (bare NOPHASE)
  unfolding before answer_in phases_from phase_at last_data after means span_at field_at bytes number is_kind header_rest header_at container_at container_word
  nothing_found promised = promised

  -- one of another transaction
  pub other_found : says_found f ≡ answer_in 7 (before ++ container_word 3 0x2001 8 []) → says_found f ≡ refused (bare TID)
  unfolding before answer_in phases_from phase_at last_data after means span_at field_at bytes number is_kind header_rest header_at container_at container_word
  other_found promised = promised
