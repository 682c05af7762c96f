-- Laws of containers: what each of their tests answers, and the bytes of parameters one by one.
-- Assumes nothing.
use mathlib.Core.Path.{◌≡◌, refl}
use mathlib.Core.Bool.{true, false}
use mathlib.Core.List.{List, ◌++◌}
use Prim.Native.Nat.{ℕ, zero, suc, ◌+◌, ◌-◌, ◌*◌, ◌^◌, ◌≤◌, ◌<◌}
use native.Mathlib.Omega.{arith}
use native.Mathlib.Numerals.{add-one}
use borrow.Author.Tests.{le-leb, lt-leb, leb-true}
use lib.Dec.{leb}
use lib.ListN.{length, take, drop, get_or, length-append}
use lib.Seq.{take-length}
use Rattle.layout.specs.Answer.{Answer, got, refused, bare}
use Rattle.layout.specs.Bytes.{Bytes, bytes, number}
use Rattle.layout.specs.Format.{Stands, Sound, word, none}
use Rattle.layout.specs.Grammar.{Number, num}
use Rattle.layout.specs.Written.{says, no, Put, roomed}
use Rattle.layout.proofs.laws.Accepted.{Accepts, accepts_all, accepts_after, accepts_pick, accepts_field}
use Rattle.layout.proofs.laws.Make.{number_format}
use Rattle.layout.proofs.laws.Numbers.{length_bytes}
use Rattle.layout.proofs.laws.Stored.{first, more}
use Rattle.layout.specs.Refusals.{KIND, COUNT}
use Rattle.wire.specs.Container.{is_kind, header_rest, header_at, container_at, container_word, container_said, param_bytes, command_said}
use Rattle.wire.specs.Places.{num_at}
use Rattle.wire.specs.declared.container.Command.{Command}
use Rattle.wire.specs.declared.container.Container.{Container}

-- ── what a container's writer has to say ──

module _ (kind code number : ℕ) (payload : List ℕ) where
  pub container_length : length (container_word kind code number payload) ≡ 12 + length payload
  unfolding container_word
  container_length =
      simp (length-append, length_bytes) (omega arith)

  -- its five stores, one after the other
  pub container_put :
      {out a b c d new : List ℕ} {i j k l m : ℕ} → 12 + length payload ≤ length out → Put out 0 (roomed out 0 (bytes 4 (12 + length payload))) a i →
      Put a i (roomed a i (bytes 2 kind)) b j → Put b j (roomed b j (bytes 2 code)) c k → Put c k (roomed c k (bytes 4 number)) d l →
      Put d l (roomed d l (take (length payload) (drop 0 payload))) new m → Put out 0 (container_word kind code number payload) new m
  unfolding container_word
  container_put h p q r s t =
      more
      (more
      (more
      (more
      (first (simp length_bytes (omega arith)) p)
      (bytes 2 kind) (simp length_bytes (omega arith)) q)
      (bytes 2 code) (simp (length-append, length_bytes) (omega arith)) r)
      (bytes 4 number) (simp (length-append, length_bytes) (omega arith)) s)
      payload (simp (length-append, length_bytes) (omega arith)) (rw (take-length payload) at t)

  pub said_4 : is_kind kind ≡ false → container_said kind code number payload ≡ no (bare KIND)
  unfolding container_said
  said_4 e = rw e

  pub said_10 : is_kind kind ≡ true → 4294967283 < length payload → container_said kind code number payload ≡ no (bare COUNT)
  unfolding container_said
  said_10 e h = rw (e, lt-leb (length payload) 4294967283 h)

  pub said_bytes : is_kind kind ≡ true → length payload ≤ 4294967283 → container_said kind code number payload ≡ says (container_word kind code number payload)
  unfolding container_said
  said_bytes e h = rw (e, le-leb (length payload) 4294967283 h)

-- ── parameters ──

pub params_long : (n : ℕ) (ps : List ℕ) → length (param_bytes n ps) ≡ n * 4
unfolding param_bytes
params_long zero ps = refl
params_long (suc n) ps = omega (arith, length-append (param_bytes n ps) (bytes 4 (get_or ps n 0)), length_bytes 4 (get_or ps n 0), params_long n ps)

pub params_step : (n : ℕ) (ps : List ℕ) → param_bytes (n + 1) ps ≡ param_bytes n ps ++ bytes 4 (get_or ps n 0)
unfolding param_bytes
params_step n ps = rw add-one

pub said_count : (c : Command) (number : ℕ) → 5 < c.count → command_said c number ≡ no (bare COUNT)
unfolding command_said
said_count c number h = rw (lt-leb c.count 5 h)

pub said_command : (c : Command) (number : ℕ) → c.count ≤ 5 → command_said c number ≡ container_said 1 c.code number (param_bytes c.count c.params)
unfolding command_said
said_command c number h = rw (le-leb c.count 5 h)

-- ── where an accepted container stands ──

record Headed (s : List ℕ) (at n : ℕ) : Type 0 where
  pub till : n ≡ at + 12
  pub within : n ≤ length s

pub record Boxed (s : List ℕ) (at : ℕ) (x : Container) (n : ℕ) : Type 0 where
  pub start : x.payload.start ≡ at + 12
  pub till : n ≡ x.payload.start + x.payload.count
  pub within : n ≤ length s

module _ (s : List ℕ) (at : ℕ) where
  header_stands : Accepts (λ h n. Headed s at n) (header_at s at)
  unfolding header_at header_rest
  header_stands =
      accepts_after _ _ (num_at 4 s at) _ (accepts_field 4 number s at) λ len a p.
      accepts_after _ _ (num_at 2 s a) _ (accepts_field 2 number s a) λ kind b q.
      accepts_pick _ (is_kind kind) _ _
      (λ _.
      accepts_after _ _ (num_at 2 s b) _ (accepts_field 2 number s b) λ code c r.
      accepts_after _ _ (num_at 4 s c) _ (accepts_field 4 number s c) λ tid d t.
      accepts_pick _ (leb 12 len) _ _ (λ _. record { till = omega arith; within = omega arith }) (λ _. tt))
      (λ _. tt)

  pub container_stands : Accepts (Boxed s at) (container_at s at)
  unfolding container_at
  container_stands =
      accepts_after _ _ (header_at s at) _ header_stands λ h n p.
      accepts_pick _ (leb h.payload_len (length s - n)) _ _
      (λ e. record { start = p.till; till = refl; within = omega (arith, p.within, leb-true h.payload_len (length s - n) e) })
      (λ _. tt)

-- a number that was read of bytes stands there, and fits its width
pub cell : (w : ℕ) (s : List ℕ) → Bytes s → (at : ℕ) → Accepts (λ v n. Stands s at n (bytes w v) × (v < 256 ^ w)) (num_at w s at)
cell w s h at = go (num_at w s at) ((number_format w).sound s h at)
  where
    go : (x : Answer ℕ) → Sound (Number w) s at x → Accepts (λ v n. Stands s at n (bytes w v) × (v < 256 ^ w)) x
    go (got v n) (word st (num lt)) = (st, lt)
    go (refused t) none = tt

pub accepts_small : (w : ℕ) (s : List ℕ) → Bytes s → (at : ℕ) → Accepts (λ v n. v < 256 ^ w) (num_at w s at)
accepts_small w s h at = accepts_all _ _ (num_at w s at) (cell w s h at) λ v n p. p.1

module _ (s : List ℕ) (h : Bytes s) (at : ℕ) where
  header_small : Accepts (λ x n. x.number < 256 ^ 4) (header_at s at)
  unfolding header_at header_rest
  header_small =
      accepts_after _ _ (num_at 4 s at) _ (accepts_small 4 s h at) λ len a p.
      accepts_after _ _ (num_at 2 s a) _ (accepts_small 2 s h a) λ kind b q.
      accepts_pick _ (is_kind kind) _ _
      (λ _.
      accepts_after _ _ (num_at 2 s b) _ (accepts_small 2 s h b) λ code c r.
      accepts_after _ _ (num_at 4 s c) _ (accepts_small 4 s h c) λ tid d t.
      accepts_pick _ (leb 12 len) _ _ (λ _. t) (λ _. tt))
      (λ _. tt)

  pub container_small : Accepts (λ x n. x.number < 256 ^ 4) (container_at s at)
  unfolding container_at
  container_small = accepts_after _ _ (header_at s at) _ header_small λ x n p. accepts_pick _ (leb x.payload_len (length s - n)) _ _ (λ _. p) (λ _. tt)
