-- Laws of one record: what each of its tests answers, and its bytes.
-- Assumes nothing.
use mathlib.Core.Path.{◌≡◌, refl}
use mathlib.Core.Bool.{Bool, true, false}
use mathlib.Core.List.{List}
use Prim.Native.Nat.{ℕ, ◌+◌, ◌-◌, ◌≤◌, ◌<◌}
use native.Mathlib.Omega.{arith}
use borrow.Author.Tests.{le-leb, lt-leb, leb-true}
use lib.Dec.{leb}
use lib.ListN.{length, take, drop, length-append}
use lib.Seq.{take-length}
use Rattle.layout.specs.Answer.{Told, got, refused, bare, pick, means, end_at}
use Rattle.layout.specs.Bytes.{bytes, number}
use Rattle.layout.specs.Written.{says, no, said_of, Put, roomed}
use Rattle.layout.proofs.laws.Accepted.{accepted, accepts_field}
use Rattle.layout.proofs.laws.Make.{span_there, span_short}
use Rattle.layout.proofs.laws.Numbers.{length_bytes, zero_one}
use Rattle.layout.proofs.laws.Stored.{first, more}
use Rattle.layout.specs.Refusals.{RECORD, LONG}
use Rattle.wire.specs.Places.{num_at}
use Rattle.recording.specs.Content.{Content}
use Rattle.recording.specs.Record.{limit, is_kind, is_written, begins, content_at, body_at, record_word, record_said}

-- a number that was read ends within the bytes
pub field_ends : (w : ℕ) (s : List ℕ) (at : ℕ) {v n : ℕ} → got v n ≡ num_at w s at → 0 < w → n ≤ length s
field_ends w s at e h = let p = accepted _ (accepts_field w number s at) e in omega (arith, p.0, p.1)

pub long_enough : (len kind : ℕ) → begins len kind ≡ true → 6 ≤ len
long_enough len kind e = go (leb 6 len) refl e
  where
    go : (b : Bool) → leb 6 len ≡ b → pick b (is_kind kind) false ≡ true → 6 ≤ len
    go true h e = leb-true 6 len h
    go false h e = zero_one (cc)

-- ── reading ──

module _ (len kind : ℕ) (s : List ℕ) (start : ℕ) where
  pub body_13 : {t : Told} → begins len kind ≡ false → t ≡ bare RECORD → refused t ≡ body_at len kind s start
  unfolding body_at
  body_13 e h = rw (e, h)

  pub body_14 : {t : Told} → begins len kind ≡ true → limit < len - 6 → t ≡ bare LONG → refused t ≡ body_at len kind s start
  unfolding body_at
  body_14 e l h = rw (e, lt-leb (len - 6) limit l, h)

  pub body_short : {t : Told} → begins len kind ≡ true → len - 6 ≤ limit → length s - start < len - 6 → t ≡ end_at start → refused t ≡ body_at len kind s start
  unfolding body_at means
  body_short e l k h = rw (e, le-leb (len - 6) limit l, span_short start (len - 6) s start k, h)

  pub body_there :
      begins len kind ≡ true → len - 6 ≤ limit → len - 6 ≤ length s - start →
      got (record { kind = kind; body = record { start = start; count = len - 6 } }) (start + (len - 6)) ≡ body_at len kind s start
  unfolding body_at means
  body_there e l k = rw (e, le-leb (len - 6) limit l, span_there start (len - 6) s start k)

-- ── writing ──

module _ (kind : ℕ) (body : List ℕ) where
  pub record_length : length (record_word kind body) ≡ 6 + length body
  unfolding record_word
  record_length = simp (length-append, length_bytes) (omega arith)

  -- its three stores, one after the other
  pub record_put :
      {out a b new : List ℕ} {i j k : ℕ} → 6 + length body ≤ length out → Put out 0 (roomed out 0 (bytes 4 (6 + length body))) a i → Put a i (roomed a i (bytes 2 kind)) b j →
      Put b j (roomed b j (take (length body) (drop 0 body))) new k → Put out 0 (record_word kind body) new k
  unfolding record_word
  record_put h p q r =
      more
      (more
      (first (simp length_bytes (omega arith)) p)
      (bytes 2 kind) (simp length_bytes (omega arith)) q)
      body (simp (length-append, length_bytes) (omega arith)) (rw (take-length body) at r)

  pub said_13 : is_written kind ≡ false → record_said kind body ≡ no (bare RECORD)
  unfolding record_said
  said_13 e = rw e

  pub said_14 : is_written kind ≡ true → limit < length body → record_said kind body ≡ no (bare LONG)
  unfolding record_said
  said_14 e h = rw (e, lt-leb (length body) limit h)

  pub said_refused : is_written kind ≡ true → length body ≤ limit → {t : Told} → refused t ≡ content_at kind body 0 → record_said kind body ≡ no t
  unfolding record_said said_of means
  said_refused e h r = rw (e, le-leb (length body) limit h, ← r)

  pub said_bytes : is_written kind ≡ true → length body ≤ limit → {x : Content} {n : ℕ} → got x n ≡ content_at kind body 0 → record_said kind body ≡ says (record_word kind body)
  unfolding record_said said_of means
  said_bytes e h r = rw (e, le-leb (length body) limit h, ← r)
