-- What is answered once a value is chosen: the Command of the property's code and behind it the Data container with the value's tidy word, or 10 or 9; and where none is chosen, that refusal.
-- Assumes nothing.
use Rattle.std.proofs.Common.{◌≡◌, ℕ, ◌+◌, ◌<◌, ◌≤◌, Bool, true, false, leb, List, ◌++◌, length, drop, refl, ap, ◌∙◌, arith, length-append, leb-false, leb-true}
use Rattle.layout.specs.Answer.{Told, Answer, got, refused, means, bare}
use Rattle.layout.specs.Bytes.{bytes}
use Rattle.layout.specs.Refusals.{ROOM, COUNT}
use Rattle.layout.specs.Written.{says, no, answer_of, left_of}
use Rattle.layout.proofs.laws.Numbers.{length_bytes}
use Rattle.session.specs.Transaction.{Turn, turn, together, with_data, Makes}
use Rattle.session.specs.declared.transaction.Session.{Session}
use Rattle.wire.specs.Codecs.{value}
use Rattle.wire.specs.Container.{is_kind, container_word, param_bytes, command_said}
use Rattle.wire.specs.Layout.{Val, Reading}
use Rattle.wire.proofs.laws.Contained.{container_length, said_10, said_bytes, said_command}
use Rattle.panel.specs.Panel.{Chosen, chosen_in, set_device_prop_value, sent, panel_said}
use Rattle.panel.specs.Said.{two_containers}

abbrev pub so : Reading → Val → Chosen
so r v = record { property = r.code; value = v }

-- ── what is sent ──

two_size : (property number : ℕ) (w : List ℕ) → length (two_containers property number w) ≡ 28 + length w
two_size property number w =
    omega
    (arith, length-append (container_word 1 0x1016 number (bytes 4 property)) (container_word 2 0x1016 number w), container_length 1 0x1016 number (bytes 4 property), container_length 2 0x1016 number w, length_bytes 4 property)

module _ (property number : ℕ) (w : List ℕ) where
  command_so : command_said (set_device_prop_value property) number ≡ says (container_word 1 0x1016 number (bytes 4 property))
  unfolding param_bytes is_kind
  command_so = said_command (set_device_prop_value property) number (omega arith) ∙ said_bytes 1 0x1016 number (bytes 4 property) refl (omega (arith, length_bytes 4 property))

  data_so : length w ≤ 4294967283 → with_data (set_device_prop_value property) w number ≡ says (two_containers property number w)
  unfolding together is_kind
  data_so h = rw (command_so, said_bytes 2 0x1016 number w refl h)

  data_over : 4294967283 < length w → with_data (set_device_prop_value property) w number ≡ no (bare COUNT)
  unfolding together is_kind
  data_over h = rw (command_so, said_10 2 0x1016 number w refl h)

-- ── of the function's own answer ──

module _ (x : Session) (there : Bool) (d : List ℕ) (t : ℕ) (chosen old : List ℕ) (answer : Answer Turn) (new : List ℕ) (promised : Makes x 0x1016 (panel_said there d t chosen) old answer new) where
  abbrev pub number : ℕ
  number = (turn x 0x1016).number

  says_so : answer ≡ means (λ _. turn x 0x1016) (answer_of (panel_said there d t chosen number) old)
  says_so = promised.answers ∙ ap (means (λ _. turn x 0x1016)) promised.wrote.answers

  -- what is answered of a choice: the two containers, or 10 or 9
  pub data Answers (c : Chosen) : Type 0 where
    written : length ((value t).write c.value) ≤ 4294967283 → 28 + length ((value t).write c.value) ≤ length old → answer ≡ got (turn x 0x1016) (28 + length ((value t).write c.value)) →
        new ≡ two_containers c.property number ((value t).write c.value) ++ drop (28 + length ((value t).write c.value)) old → Answers c
    over : 4294967283 < length ((value t).write c.value) → answer ≡ refused (bare COUNT) → Answers c
    short : length ((value t).write c.value) ≤ 4294967283 → length old < 28 + length ((value t).write c.value) → answer ≡ refused (bare ROOM) → Answers c

  pub chosen_answers : (c : Chosen) (n : ℕ) → chosen_in there d t chosen ≡ got c n → Answers c
  unfolding sent means answer_of left_of
  chosen_answers c n e = go (leb (length w) 4294967283) refl (leb (28 + length w) (length old)) refl
    where
      w : List ℕ
      w = (value t).write c.value

      said : panel_said there d t chosen number ≡ with_data (set_device_prop_value c.property) w number
      said = rw e

      go : (a : Bool) → leb (length w) 4294967283 ≡ a → (b : Bool) → leb (28 + length w) (length old) ≡ b → Answers c
      go true f true g =
          let due = said ∙ data_so c.property number w (leb-true (length w) 4294967283 f) in
          let size = two_size c.property number w in
          written (leb-true (length w) 4294967283 f) (leb-true (28 + length w) (length old) g) (says_so ∙ rw (due, size, g)) (promised.wrote.leaves ∙ rw (due, size, g))
      go true f false g =
          let due = said ∙ data_so c.property number w (leb-true (length w) 4294967283 f) in
          short (leb-true (length w) 4294967283 f) (leb-false (28 + length w) (length old) g) (says_so ∙ rw (due, two_size c.property number w, g))
      go false f b g = let long = leb-false (length w) 4294967283 f in over long (says_so ∙ rw (said ∙ data_over c.property number w long))

  pub unchosen_answers : (u : Told) → chosen_in there d t chosen ≡ refused u → answer ≡ refused u
  unfolding sent means answer_of
  unchosen_answers u e = says_so ∙ rw e
