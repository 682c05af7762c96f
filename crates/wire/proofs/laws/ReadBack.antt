-- What `write_container` and `write_command` write, `read_header` and `read_container` read back. No test of specs/Refused holds of the bytes of a container, so that
-- they are accepted, and its four numbers are those that were written.
-- Assumes nothing.
use Rattle.wire.specs.Read.{Read, says_read}
use Rattle.wire.specs.declared.container.Container.{Container}
use Rattle.wire.specs.declared.container.Header.{Header}
use mathlib.Core.Path.{◌≡◌, refl, sym, ap, ◌∙◌}
use mathlib.Core.Bool.{Bool, true, false}
use mathlib.Core.Logic.{◌⊎◌, inl, inr}
use mathlib.Core.List.{List, ◌++◌}
use Prim.Native.Nat.{ℕ, zero, suc, ◌+◌, ◌-◌, ◌*◌, ◌^◌, ◌≤◌, ◌<◌}
use native.Mathlib.Omega.{arith}
use borrow.Author.Tests.{leb-true, eqb-true, eqb-false}
use lib.Dec.{leb, eqb, lit≤}
use lib.ListN.{length, take, drop, get_or, length-append, length-drop}
use lib.Seq.{take-append_seam, take-append-le, drop-append-le, drop-drop, take_all, drop_at}
use Rattle.layout.specs.Answer.{Answer, got, pick, bare}
use Rattle.layout.specs.Bytes.{bytes, number}
use Rattle.layout.specs.Refusals.{KIND, COUNT}
use Rattle.layout.specs.Written.{says, no, Wrote}
use Rattle.layout.proofs.laws.Did.{Whole, whole}
use Rattle.layout.proofs.laws.Numbers.{length_bytes, number_bytes, zero_one}
use Rattle.wire.specs.Container.{is_kind, header_at, container_at, container_word, container_said, param_bytes, command_said}
use Rattle.wire.specs.Tests.{fails, Otherwise, otherwise}
use Rattle.wire.specs.Refused.{announced, kind_in, code_in, number_in, HeaderTests, HeaderSays, ContainerSays}
use Rattle.wire.specs.Returned.{Returns}
use Rattle.wire.specs.declared.container.Command.{Command}
use Rattle.wire.proofs.laws.Contained.{container_length, params_long}
use Rattle.wire.proofs.laws.Judged.{header_judged, container_judged, header_one, container_one}

-- ── the bytes of a container ──

so : {A : Type 0} {a b : A} → a ≡ b → Otherwise a b
so e = rw (← e) otherwise

-- a kind that is known
pub kind_from : (k : ℕ) → is_kind k ≡ true → (1 ≤ k) × (k ≤ 4)
unfolding is_kind
kind_from k e = go (leb 1 k) refl e
  where
    go : (b : Bool) → leb 1 k ≡ b → pick b (leb k 4) false ≡ true → (1 ≤ k) × (k ≤ 4)
    go true h e = (leb-true 1 k h, leb-true k 4 e)
    go false h e = zero_one (cc)

-- with any bytes behind it, from its first byte on: its numbers, and its payload
module _ (kind code tid : ℕ) (payload behind : List ℕ) (known : is_kind kind ≡ true) (Code-fits : code < 256 ^ 2) (tid_fits : tid < 256 ^ 4) (small : length payload ≤ 4294967283) where
  word : List ℕ
  word = container_word kind code tid payload ++ behind

  is_announced : announced word ≡ 12 + length payload
  unfolding word container_word bytes
  is_announced = number_bytes 4 (12 + length payload) (omega arith)

  is-kind : kind_in word ≡ kind
  unfolding word container_word bytes
  is-kind = let k = kind_from kind known in number_bytes 2 kind (omega arith)

  is_code : code_in word ≡ code
  unfolding word container_word bytes
  is_code = number_bytes 2 code Code-fits

  is_number : number_in word ≡ tid
  unfolding word container_word bytes
  is_number = number_bytes 4 tid tid_fits

  is_payload : take (length payload) (drop 12 word) ≡ payload
  unfolding word container_word bytes
  is_payload = take-append_seam payload behind

  -- no test of it holds
  is-long : 12 + length payload ≤ length word
  unfolding word
  is-long = omega (arith, length-append (container_word kind code tid payload) behind, container_length kind code tid payload)

  in_header : {A : Type 0} (at : ℕ) {P : Answer A → Type 0} {x : Answer A} → P x → HeaderTests at word P x
  in_header at p =
      fails (λ h. shorter h (lit≤ tt)) (fails (λ h. shorter h (lit≤ tt)) (fails (λ h. known_kind h) (fails (λ h. shorter h (lit≤ tt)) (fails (λ h. shorter h (lit≤ tt)) (fails (λ h. omega (arith, is_announced)) p)))))
    where
      shorter : {m : ℕ} → length word < m → m ≤ 12 → ⊥
      shorter h k = omega (arith, is-long)

      known_kind : (kind_in word < 1) ⊎ (4 < kind_in word) → ⊥
      known_kind (inl h) = let k = kind_from kind known in omega (arith, is-kind)
      known_kind (inr h) = let k = kind_from kind known in omega (arith, is-kind)

  minus : 12 + length payload - 12 ≡ length payload
  minus = omega arith

  header_of : (at : ℕ) → HeaderSays at word (got (record { kind = kind; code = code; number = tid; payload_len = length payload }) (at + 12))
  header_of at = in_header at (so (rw (is_announced, is-kind, is_code, is_number, minus)))

  container_of : (at : ℕ) → ContainerSays at word (got (record { kind = kind; code = code; number = tid; payload = record { start = at + 12; count = length payload } }) (at + (12 + length payload)))
  container_of at = in_header at (fails (λ h. omega (arith, is_announced, is-long)) (so (rw (is_announced, is-kind, is_code, is_number, minus))))

  -- at any place of any bytes
  module _ (s : List ℕ) (at : ℕ) (stands : drop at s ≡ container_word kind code tid payload ++ behind) where
    pub header_there : header_at s at ≡ got (record { kind = kind; code = code; number = tid; payload_len = length payload }) (at + 12)
    unfolding word
    header_there = header_one at word (header_at s at) _ (rw stands at (header_judged s at)) (header_of at)

    pub container_there : container_at s at ≡ got (record { kind = kind; code = code; number = tid; payload = record { start = at + 12; count = length payload } }) (at + (12 + length payload))
    unfolding word
    container_there = container_one at word (container_at s at) _ (rw stands at (container_judged s at)) (container_of at)

    pub payload_there : take (length payload) (drop (at + 12) s) ≡ payload
    unfolding word
    payload_there = ap (take (length payload)) (sym (drop-drop 12 at s) ∙ ap (drop 12) stands) ∙ is_payload

-- ── what a writer did ──

pub record Due (kind code tid : ℕ) (payload w : List ℕ) : Type 0 where
  pub known : is_kind kind ≡ true
  pub small : length payload ≤ 4294967283
  pub word : w ≡ container_word kind code tid payload

pub due : (kind code tid : ℕ) (payload w : List ℕ) → container_said kind code tid payload ≡ says w → Due kind code tid payload w
unfolding container_said
due kind code tid payload w e = go (is_kind kind) refl (leb (length payload) 4294967283) refl e
  where
    go : (a : Bool) → is_kind kind ≡ a → (b : Bool) → leb (length payload) 4294967283 ≡ b → pick a (pick b (says (container_word kind code tid payload)) (no (bare COUNT))) (no (bare KIND)) ≡ says w →
        Due kind code tid payload w
    go true h true k f = record { known = h; small = leb-true (length payload) 4294967283 k; word = cc }
    go true h false k f = zero_one (cc)
    go false h b k f = zero_one (cc)

-- ── of the functions' own answers ──

module _ (kind code tid : ℕ) (payload old new : List ℕ) (n : ℕ) (Code-fits : code < 256 ^ 2) (tid_fits : tid < 256 ^ 4) (promised : Wrote (container_said kind code tid payload) old (got tt n) new) where
  wrote_all : Whole (container_said kind code tid payload) old n new
  wrote_all = whole promised

  was_due : Due kind code tid payload wrote_all.bs
  was_due = due kind code tid payload wrote_all.bs wrote_all.due

  stands : new ≡ container_word kind code tid payload ++ drop (length wrote_all.bs) old
  stands = wrote_all.left ∙ ap (λ w. w ++ drop (length wrote_all.bs) old) was_due.word

  till : 0 + (12 + length payload) ≡ n
  till = omega (arith, wrote_all.count, ap length was_due.word, container_length kind code tid payload)

  pub header_returns : (r : (Read Header)) → says_read r ≡ header_at new 0 → says_read r ≡ got (record { kind = kind; code = code; number = tid; payload_len = length payload }) 12
  header_returns r e = e ∙ header_there kind code tid payload (drop (length wrote_all.bs) old) was_due.known Code-fits tid_fits was_due.small new 0 stands

  pub container_returns : (r : (Read Container)) → says_read r ≡ container_at new 0 → Returns kind code tid payload new n (says_read r)
  container_returns r e =
      let rest = drop (length wrote_all.bs) old in
      record {
        part = record { start = 12; count = length payload };
        answer = e ∙ rw till at (container_there kind code tid payload rest was_due.known Code-fits tid_fits was_due.small new 0 stands);
        holds = payload_there kind code tid payload rest was_due.known Code-fits tid_fits was_due.small new 0 stands;
      }

-- ── commands ──

pub command-due : (c : Command) (tid : ℕ) (w : List ℕ) → command_said c tid ≡ says w → container_said 1 c.code tid (param_bytes c.count c.params) ≡ says w
unfolding command_said
command-due c tid w e = go (leb c.count 5) e
  where
    go : (b : Bool) → pick b (container_said 1 c.code tid (param_bytes c.count c.params)) (no (bare COUNT)) ≡ says w → container_said 1 c.code tid (param_bytes c.count c.params) ≡ says w
    go true f = f
    go false f = zero_one (cc)

-- the i-th parameter stands in the i-th four bytes
pub param_there : (n : ℕ) (ps : List ℕ) (i : ℕ) → i < n → get_or ps i 0 < 256 ^ 4 → number (take 4 (drop (i * 4) (param_bytes n ps))) ≡ get_or ps i 0
unfolding param_bytes
param_there zero ps i h fits = absurd (omega arith)
param_there (suc n) ps i h fits = go (eqb i n) refl (λ less. param_there n ps i less fits)
  where
    long : length (param_bytes n ps) ≡ n * 4
    long = params_long n ps

    go : (b : Bool) → eqb i n ≡ b → (i < n → number (take 4 (drop (i * 4) (param_bytes n ps))) ≡ get_or ps i 0) → number (take 4 (drop (i * 4) (param_bytes n ps ++ bytes 4 (get_or ps n 0)))) ≡ get_or ps i 0
    go true e f =
        let same : i ≡ n = eqb-true i n e in
        let here : drop (i * 4) (param_bytes n ps ++ bytes 4 (get_or ps n 0)) ≡ bytes 4 (get_or ps n 0) = rw same (drop_at (param_bytes n ps) (bytes 4 (get_or ps n 0)) (n * 4) long) in
        rw (here, take_all 4 (bytes 4 (get_or ps n 0)) (omega (arith, length_bytes 4 (get_or ps n 0)))) (rw (← same) (number_bytes 4 (get_or ps i 0) fits))
    go false e f =
        let less : i < n = omega (arith, eqb-false i n e) in
        rw (drop-append-le (i * 4) (param_bytes n ps) (bytes 4 (get_or ps n 0)) (omega (arith, long)), take-append-le 4 (drop (i * 4) (param_bytes n ps)) (bytes 4 (get_or ps n 0)) (omega (arith, long, length-drop (i * 4) (param_bytes n ps))))
        (f less)

module _ (c : Command) (tid : ℕ) (old new : List ℕ) (n : ℕ) (Code-fits : c.code < 256 ^ 2) (tid_fits : tid < 256 ^ 4) (promised : Wrote (command_said c tid) old (got tt n) new) where
  pub command_returns : (r : (Read Container)) → says_read r ≡ container_at new 0 → Returns 1 c.code tid (param_bytes c.count c.params) new n (says_read r)
  command_returns = container_returns 1 c.code tid (param_bytes c.count c.params) old new n Code-fits tid_fits container_promised
    where
      b : Whole (command_said c tid) old n new
      b = whole promised

      same : command_said c tid ≡ container_said 1 c.code tid (param_bytes c.count c.params)
      same = b.due ∙ sym (command-due c tid b.bs b.due)

      container_promised : Wrote (container_said 1 c.code tid (param_bytes c.count c.params)) old (got tt n) new
      container_promised = rw same at promised
