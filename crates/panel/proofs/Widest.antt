-- Two answers of `set_value` itself on bytes, computed: INT64 from the lowest to the highest by 1, the lowest chosen and the highest chosen. Both go out.
-- Assumes nothing.
use Rattle.std.proofs.Common.{◌≡◌, ℕ, ◌≤◌, true, List, [], ◌∷◌, ◌++◌, length, drop, ℤ, pos, negsuc, refl, ap, arith}
use Rattle.layout.specs.Answer.{Answer, got, after, means, located, span_at, field_at}
use Rattle.layout.specs.Bytes.{bytes, number}
use Rattle.session.specs.Payloads.{filling}
use Rattle.session.specs.Transaction.{Turn, turn, Makes}
use Rattle.session.specs.declared.transaction.Session.{Session}
use Rattle.wire.specs.Codecs.{value}
use Rattle.wire.specs.Layout.{signed, num, int}
use Rattle.wire.specs.Places.{shape_at, filled_at}
use Rattle.wire.specs.Property.{property_at, enable_at, values_at, range_at, form_at}
use Rattle.panel.specs.Panel.{reading_of, value_of, suits, chosen_in, panel_said}
use Rattle.panel.specs.Said.{two_containers}
use Rattle.panel.specs.Test.{on_step, in_range, allows}
use Rattle.panel.proofs.Choices.{Answers, written, over, short, chosen_answers}

abbrev pub lowest : List ℕ
lowest = 0 ∷ 0 ∷ 0 ∷ 0 ∷ 0 ∷ 0 ∷ 0 ∷ 0x80 ∷ []

abbrev pub highest : List ℕ
highest = 0xFF ∷ 0xFF ∷ 0xFF ∷ 0xFF ∷ 0xFF ∷ 0xFF ∷ 0xFF ∷ 0x7F ∷ []

abbrev nought : List ℕ
nought = 0 ∷ 0 ∷ 0 ∷ 0 ∷ 0 ∷ 0 ∷ 0 ∷ 0 ∷ []

-- property 0x5001 of INT64, GetSet 1, IsEnable 1, default and current 0, and the range
abbrev pub widest : List ℕ
widest = (0x01 ∷ 0x50 ∷ 0x07 ∷ 0x00 ∷ 0x01 ∷ 0x01 ∷ []) ++ nought ++ nought ++ (0x01 ∷ []) ++ lowest ++ highest ++ (1 ∷ 0 ∷ 0 ∷ 0 ∷ 0 ∷ 0 ∷ 0 ∷ 0 ∷ [])

abbrev low : ℤ
low = negsuc 9223372036854775807

abbrev high : ℤ
high = pos 9223372036854775807

lowest_chosen : chosen_in true widest 7 lowest ≡ got (record { property = 0x5001; value = num (int low) }) 8
unfolding chosen_in reading_of value_of suits after means located span_at field_at number filling filled_at shape_at property_at enable_at values_at range_at form_at signed on_step in_range allows
lowest_chosen = refl

highest_chosen : chosen_in true widest 7 highest ≡ got (record { property = 0x5001; value = num (int high) }) 8
unfolding chosen_in reading_of value_of suits after means located span_at field_at number filling filled_at shape_at property_at enable_at values_at range_at form_at signed on_step in_range allows
highest_chosen = refl

lowest_word : (value 7).write (num (int low)) ≡ lowest
unfolding bytes
lowest_word = refl

highest_word : (value 7).write (num (int high)) ≡ highest
unfolding bytes
highest_word = refl

module _ (x : Session) (old : List ℕ) (answer : Answer Turn) (new : List ℕ) (room : 36 ≤ length old) where
  -- 16 bytes of Command, 12 of the Data container's header, and the eight bytes
  abbrev GoesOut : List ℕ → Type 0
  GoesOut w = (answer ≡ got (turn x 0x1016) 36) × (new ≡ two_containers 0x5001 (turn x 0x1016).number w ++ drop 36 old)

  pub lowest_goes : Makes x 0x1016 (panel_said true widest 7 lowest) old answer new → GoesOut lowest
  lowest_goes promised = of (chosen_answers x true widest 7 lowest old answer new promised (record { property = 0x5001; value = num (int low) }) 8 lowest_chosen)
    where
      of : Answers x true widest 7 lowest old answer new promised (record { property = 0x5001; value = num (int low) }) → GoesOut lowest
      of (written h k e f) = (rw lowest_word at e, rw lowest_word at f)
      of (over h e) = absurd (omega (arith, ap length lowest_word))
      of (short h k e) = absurd (omega (arith, ap length lowest_word))

  pub highest_goes : Makes x 0x1016 (panel_said true widest 7 highest) old answer new → GoesOut highest
  highest_goes promised = of (chosen_answers x true widest 7 highest old answer new promised (record { property = 0x5001; value = num (int high) }) 8 highest_chosen)
    where
      of : Answers x true widest 7 highest old answer new promised (record { property = 0x5001; value = num (int high) }) → GoesOut highest
      of (written h k e f) = (rw highest_word at e, rw highest_word at f)
      of (over h e) = absurd (omega (arith, ap length highest_word))
      of (short h k e) = absurd (omega (arith, ap length highest_word))
