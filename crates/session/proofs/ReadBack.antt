-- What `command` and `command_with_data` write, `read_container` reads back, and `find_answer` passes over or finds: the Command stands at the front and the Data
-- container behind it, and each is read there as it was written.
-- Assumes nothing.
use Rattle.wire.specs.Read.{Read, says_read}
use Rattle.std.proofs.Common.{◌≡◌, ℕ, ◌+◌, ◌^◌, ◌<◌, ◌≤◌, true, List, ◌++◌, length, take, drop, sym, refl, ap, ◌∙◌, append_assoc, zero-add, arith, length-append, length-drop, drop-drop, take_at, drop_at}
use Rattle.layout.specs.Answer.{Answer, got, refused, means}
use Rattle.layout.specs.Written.{Said, says, no, Wrote}
use Rattle.layout.proofs.laws.Numbers.{zero_one}
use Rattle.wire.specs.Container.{is_kind, container_at, container_word, container_said, param_bytes, command_said}
use Rattle.wire.specs.Returned.{Returns, part_of}
use Rattle.wire.specs.declared.container.Command.{Command}
use Rattle.wire.specs.declared.container.Container.{Container}
use Rattle.wire.proofs.laws.Contained.{container_length}
use Rattle.layout.proofs.laws.Did.{Whole, whole}
use Rattle.wire.proofs.laws.ReadBack.{Due, due, command-due, container_there, payload_there}
use Rattle.wire.proofs.laws.ReadBack as wire
use Rattle.session.specs.Returned.{Replies}
use Rattle.session.specs.Search.{no_data, reply_to, answer_in, says_found}
use Rattle.session.specs.Transaction.{Turn, number_sent, turn, together, with_data, Makes}
use Rattle.session.specs.declared.search.Found.{Found}
use Rattle.session.specs.declared.transaction.Session.{Session}
use Rattle.session.proofs.Numbers.{row, no_more}
use Rattle.session.proofs.Answered.{none_passed, passed_more, ends_response, ended_answer}

-- ── what was made was written ──

pub was_written : {x : Session} {code : ℕ} {said : ℕ → Said} {old new : List ℕ} {t : Turn} {n : ℕ} → Makes x code said old (got t n) new → Wrote (said (number_sent x.number code)) old (got tt n) new
unfolding means
was_written {x} {code} {said} {old} {new} {t} {n} m = of m.written m.answers m.wrote
  where
    of : (w : Answer (Unit {0})) → got t n ≡ means (λ _. turn x code) w → Wrote (said (number_sent x.number code)) old w new → Wrote (said (number_sent x.number code)) old (got tt n) new
    of (got u k) e w = let same : k ≡ n = cc in rw same at w
    of (refused f) e w = zero_one (cc)

-- the number that a command is sent with, which has room where the state has
abbrev pub sent : Session → Command → ℕ
sent x c = number_sent x.number c.code

sent_fits : (x : Session) (c : Command) → x.number < 256 ^ 4 → sent x c < 256 ^ 4
sent_fits x c h = omega (arith, no_more (row x.number c.code))

-- both of two are due where both together are
pub record Both (s t : Said) (w : List ℕ) : Type 0 where
  pub first : List ℕ
  pub second : List ℕ
  pub first_due : s ≡ says first
  pub second_due : t ≡ says second
  pub word : w ≡ first ++ second

both : (s t : Said) (w : List ℕ) → together s t ≡ says w → Both s t w
unfolding together
both (says a) (says b) w e = record { first = a; second = b; first_due = refl; second_due = refl; word = cc }
both (says a) (no t) w e = zero_one (cc)
both (no t) (says b) w e = zero_one (cc)
both (no t) (no u) w e = zero_one (cc)

-- ── where a container stands ──

-- in s from a place on, with any bytes behind it
record At (kind code tid : ℕ) (payload s : List ℕ) (at : ℕ) (behind : List ℕ) : Type 0 where
  pub known : is_kind kind ≡ true
  pub code_fits : code < 256 ^ 2
  pub tid_fits : tid < 256 ^ 4
  pub small : length payload ≤ 4294967283
  pub stands : drop at s ≡ container_word kind code tid payload ++ behind

placed : {kind code tid : ℕ} {payload w : List ℕ} (s : List ℕ) (at : ℕ) (behind : List ℕ) → Due kind code tid payload w → code < 256 ^ 2 → tid < 256 ^ 4 → drop at s ≡ w ++ behind → At kind code tid payload s at behind
placed s at behind d c t e = record { known = d.known; code_fits = c; tid_fits = t; small = d.small; stands = e ∙ ap (λ v. v ++ behind) d.word }

module _ {kind code tid : ℕ} {payload s : List ℕ} {at : ℕ} {behind : List ℕ} (a : At kind code tid payload s at behind) where
  is_there : got (record { kind = kind; code = code; number = tid; payload = record { start = at + 12; count = length payload } }) (at + (12 + length payload)) ≡ container_at s at
  is_there = sym (container_there kind code tid payload behind a.known a.code_fits a.tid_fits a.small s at a.stands)

  holds_payload : part_of s (record { start = at + 12; count = length payload }) ≡ payload
  holds_payload = payload_there kind code tid payload behind a.known a.code_fits a.tid_fits a.small s at a.stands

  -- the next one stands behind it
  behind_it : drop (at + (12 + length payload)) s ≡ behind
  behind_it = sym (drop-drop (12 + length payload) at s) ∙ ap (drop (12 + length payload)) a.stands ∙ drop_at (container_word kind code tid payload) behind (12 + length payload) (container_length kind code tid payload)

  within : at + (12 + length payload) ≤ length s
  within = omega (arith, container_length kind code tid payload, length-drop at s, ap length a.stands, length-append (container_word kind code tid payload) behind)

  returned : (x : Answer Container) (n : ℕ) → x ≡ container_at s at → n ≡ at + (12 + length payload) → Returns kind code tid payload s n x
  returned x n e h = record { part = record { start = at + 12; count = length payload }; answer = rw h (e ∙ sym is_there); holds = holds_payload }

-- what was written is what was due
written_is : {s : Said} {old new : List ℕ} {n : ℕ} (w : Whole s old n new) → take n new ≡ w.bs
written_is {s} {old} {new} {n} w = rw w.left (take_at w.bs (drop (length w.bs) old) n (sym w.count))

due_size : {kind code tid : ℕ} {payload w : List ℕ} → Due kind code tid payload w → length w ≡ 12 + length payload
due_size {kind} {code} {tid} {payload} d = ap length d.word ∙ container_length kind code tid payload

-- ── a command alone ──

module _ (x : Session) (c : Command) (old new : List ℕ) (t : Turn) (n : ℕ) (code_fits : c.code < 256 ^ 2) (state-fits : x.number < 256 ^ 4) (promised : Makes x c.code (command_said c) old (got t n) new) where
  pub command_returns : (r : Read Container) → says_read r ≡ container_at new 0 → Returns 1 c.code (sent x c) (param_bytes c.count c.params) new n (says_read r)
  command_returns = wire.command_returns c (sent x c) old new n code_fits (sent_fits x c state-fits) (was_written promised)

  -- with a Response of its number behind it, it is passed over, and the Response is found
  pub command_passed : (code : ℕ) (payload old' new' : List ℕ) (m : ℕ) → code < 256 ^ 2 → Wrote (container_said 3 code (sent x c) payload) old' (got tt m) new' → (more : List ℕ) →
      (f : Read Found) → says_found f ≡ answer_in (sent x c) (take n new ++ (take m new' ++ more)) → says_found f ≡ got (reply_to code no_data) (n + m)
  command_passed code payload old' new' m response_fits answers more f e =
      let p = passed_more (sent x c) s (none_passed (sent x c) s) {c = record { at = _ }} (is_there a) refl (λ k. omega arith) in
      rw till (e ∙ sym (ended_answer (sent x c) s (ends_response (sent x c) s p {c = record { at = _ }} (is_there b) refl refl) refl))
    where
      v : Whole (command_said c (sent x c)) old n new
      v = whole (was_written promised)

      w : Whole (container_said 3 code (sent x c) payload) old' m new'
      w = whole answers

      d : Due 1 c.code (sent x c) (param_bytes c.count c.params) v.bs
      d = due 1 c.code (sent x c) (param_bytes c.count c.params) v.bs (command-due c (sent x c) v.bs v.due)

      r : Due 3 code (sent x c) payload w.bs
      r = due 3 code (sent x c) payload w.bs w.due

      s : List ℕ
      s = take n new ++ (take m new' ++ more)

      a : At 1 c.code (sent x c) (param_bytes c.count c.params) s 0 (w.bs ++ more)
      a = placed s 0 (w.bs ++ more) d code_fits (sent_fits x c state-fits) (rw (written_is v, written_is w) refl)

      b : At 3 code (sent x c) payload s (0 + (12 + length (param_bytes c.count c.params))) more
      b = placed s (0 + (12 + length (param_bytes c.count c.params))) more r response_fits (sent_fits x c state-fits) (behind_it a)

      till : n + m ≡ 0 + (12 + length (param_bytes c.count c.params)) + (12 + length payload)
      till = omega (arith, v.count, w.count, due_size d, due_size r)

-- ── a command with data ──

module _ (x : Session) (c : Command) (data-sent old new : List ℕ) (t : Turn) (n : ℕ) (code_fits : c.code < 256 ^ 2) (state-fits : x.number < 256 ^ 4) (promised : Makes x c.code (with_data c data-sent) old (got t n) new) where
  -- the place after the Command
  abbrev pub after_command : ℕ
  after_command = 12 + length (param_bytes c.count c.params)

  all : Whole (with_data c data-sent (sent x c)) old n new
  all = whole (was_written promised)

  two : Both (command_said c (sent x c)) (container_said 2 c.code (sent x c) data-sent) all.bs
  two = both (command_said c (sent x c)) (container_said 2 c.code (sent x c) data-sent) all.bs all.due

  due_command : Due 1 c.code (sent x c) (param_bytes c.count c.params) two.first
  due_command = due 1 c.code (sent x c) (param_bytes c.count c.params) two.first (command-due c (sent x c) two.first two.first_due)

  due_data : Due 2 c.code (sent x c) data-sent two.second
  due_data = due 2 c.code (sent x c) data-sent two.second two.second_due

  counted : n ≡ after_command + (12 + length data-sent)
  counted = omega (arith, all.count, ap length two.word, length-append two.first two.second, due_size due_command, due_size due_data)

  -- both stand at the front of any bytes that begin with what was sent
  module _ (s behind : List ℕ) (begin : s ≡ all.bs ++ behind) where
    command_at : At 1 c.code (sent x c) (param_bytes c.count c.params) s 0 (two.second ++ behind)
    command_at = placed s 0 (two.second ++ behind) due_command code_fits (sent_fits x c state-fits) (begin ∙ ap (λ w. w ++ behind) two.word ∙ append_assoc two.first two.second behind)

    data_at : At 2 c.code (sent x c) data-sent s after_command behind
    data_at = placed s after_command behind due_data code_fits (sent_fits x c state-fits) (rw zero-add at (behind_it command_at))

  pub sent_command_returns : (r : Read Container) → says_read r ≡ container_at new 0 → Returns 1 c.code (sent x c) (param_bytes c.count c.params) new after_command (says_read r)
  sent_command_returns r e = returned (command_at new (drop (length all.bs) old) all.left) (says_read r) after_command e (omega arith)

  pub sent_data_returns : (r : Read Container) → says_read r ≡ container_at new after_command → Returns 2 c.code (sent x c) data-sent new n (says_read r)
  sent_data_returns r e = returned (data_at new (drop (length all.bs) old) all.left) (says_read r) n e counted

  -- with a Response of its number behind it, the data are found
  pub data_found : (code : ℕ) (payload old' new' : List ℕ) (m : ℕ) → code < 256 ^ 2 → Wrote (container_said 3 code (sent x c) payload) old' (got tt m) new' → (more : List ℕ) →
      (f : Read Found) → says_found f ≡ answer_in (sent x c) (take n new ++ (take m new' ++ more)) → Replies code data-sent (take n new ++ (take m new' ++ more)) (n + m) (says_found f)
  data_found code payload old' new' m response_fits answers more f e = record {
    part = record { start = after_command + 12; count = length data-sent };
    answer =
        let p = passed_more (sent x c) s (none_passed (sent x c) s) {c = record { at = _ }} (is_there a) refl (λ k. omega arith) in
        let q = passed_more (sent x c) s (rw zero-add at p) {c = record { at = _ }} (is_there b) refl (λ k. omega arith) in
        rw till (e ∙ sym (ended_answer (sent x c) s (ends_response (sent x c) s q {c = record { at = _ }} (is_there d) refl refl) refl));
    holds = holds_payload b;
  }
    where
      w : Whole (container_said 3 code (sent x c) payload) old' m new'
      w = whole answers

      r : Due 3 code (sent x c) payload w.bs
      r = due 3 code (sent x c) payload w.bs w.due

      s : List ℕ
      s = take n new ++ (take m new' ++ more)

      begin : s ≡ all.bs ++ (w.bs ++ more)
      begin = rw (written_is all, written_is w) refl

      a : At 1 c.code (sent x c) (param_bytes c.count c.params) s 0 (two.second ++ (w.bs ++ more))
      a = command_at s (w.bs ++ more) begin

      b : At 2 c.code (sent x c) data-sent s after_command (w.bs ++ more)
      b = data_at s (w.bs ++ more) begin

      d : At 3 code (sent x c) payload s (after_command + (12 + length data-sent)) more
      d = placed s (after_command + (12 + length data-sent)) more r response_fits (sent_fits x c state-fits) (behind_it b)

      till : n + m ≡ after_command + (12 + length data-sent) + (12 + length payload)
      till = omega (arith, counted, w.count, due_size r)
