-- What is mended of a window of the recording: as far as bytes that follow can change no decision, and as there is room in both outputs.
-- A dropped stretch that reaches the window's end stays open, so that it joins what the next window drops.
-- Assumes nothing.
use Rattle.std.specs.Prelude.{◌≡◌, ℕ, zero, suc, ◌+◌, ◌-◌, ◌^◌, Bool, false, List, [], ◌++◌, length, take, drop, nat_le, nat_lt}
use Rattle.layout.specs.Answer.{Answer, got, refused, pick}
use Rattle.layout.specs.Written.{Put}
use Rattle.wire.specs.declared.Part.{Part}
use Rattle.recording.specs.Content.{Record}
use Rattle.recording.specs.Record.{record_of}
use Rattle.recording.specs.Row.{waits}
use Rattle.mending.specs.declared.window.Tally.{Tally}
use Rattle.mending.specs.declared.window.Swept.{Swept}
use Rattle.turns.specs.Held.{fronted}
use Rattle.mending.specs.Mended.{stretch, starts_of, lengths_of}

-- ── how far mending has come ──

abbrev pub tally : ℕ → ℕ → ℕ → ℕ → Tally
tally place records bytes untold = record { place = place; records = records; bytes = bytes; untold = untold }

abbrev pub fresh : Tally
fresh = tally 0 0 0 0

-- so many records more are kept, of so many bytes; so many bytes more are dropped; the open stretch is told
abbrev pub keeps : Tally → ℕ → ℕ → Tally
keeps t records n = tally (t.place + n) (t.records + records) (t.bytes + n) 0

abbrev pub drops : Tally → ℕ → Tally
drops t n = tally (t.place + n) t.records t.bytes (t.untold + n)

abbrev pub closed : Tally → Tally
closed t = tally t.place t.records t.bytes 0

-- the stretch that is open, if any
abbrev pub opened : Tally → List Part
opened t = stretch t.place t.untold

-- a tally that is one of a recording of less than 2^64 bytes, with n to come in the window
unfoldable pub sane : Tally → ℕ → Bool
sane t n = pick (nat_lt (t.place + n) (2 ^ 64)) (pick (nat_le (t.bytes + t.untold) t.place) (nat_le t.records t.bytes) false) false

-- ── a window ──

-- the bytes that come out, the stretches that are told, the bytes used of the window, and how far mending has come then
pub record Windowed : Type 0 where
  pub text : List ℕ
  pub told : List Part
  pub used : ℕ
  pub tally : Tally

-- nothing more of this window
abbrev pub rests : Tally → Windowed
rests t = record { text = []; told = []; used = 0; tally = t }

-- before what follows
abbrev pub before : List ℕ → List Part → ℕ → Windowed → Windowed
before text told n w = record { text = text ++ w.text; told = told ++ w.told; used = n + w.used; tally = w.tally }

-- where all has come, the open stretch is told, if there is room for it
abbrev pub closes : Bool → ℕ → Tally → Windowed
closes all slots t = pick all (pick (nat_le (length (opened t)) slots) (record { text = []; told = opened t; used = 0; tally = closed t }) (rests t)) (rests t)

-- what is found there, and what follows it. A record is kept where it has room, and the open stretch before it
abbrev pub judged : ℕ → ℕ → List ℕ → Tally → Answer Record → (ℕ → ℕ → ℕ → Tally → Windowed) → Windowed
judged room slots s t (got x n) rest =
    pick (nat_le n room)
    (pick (nat_le (length (opened t)) slots) (before (take n s) (opened t) n (rest (room - n) (slots - length (opened t)) n (keeps t 1 n))) (rests t))
    (rests t)
judged room slots s t (refused u) rest = before [] [] 1 (rest room slots 1 (drops t 1))

-- at most `fuel` pieces
unfoldable pub sweep_from : ℕ → Bool → ℕ → ℕ → List ℕ → Tally → Windowed
sweep_from zero last room slots s t = closes last slots t
sweep_from (suc fuel) last room slots s t =
    pick (nat_lt 0 (length s))
    (pick (waits last s) (rests t) (judged room slots s t (record_of s) λ r k n u. sweep_from fuel last r k (drop n s) u))
    (closes last slots t)

unfoldable pub sweep_of : Bool → ℕ → ℕ → List ℕ → Tally → Windowed
sweep_of last room slots s t = sweep_from (length s) last room slots s t

-- of a tally that no recording has, nothing
unfoldable pub window_of : Bool → ℕ → ℕ → List ℕ → Tally → Windowed
window_of last room slots s t = pick (sane t (length s)) (sweep_of last room slots s t) (rests t)

-- ── what the code answers, and what it leaves ──

abbrev pub answered : ℕ → ℕ → ℕ → Tally → Swept
answered used written stretches t = record { used = used; written = written; stretches = stretches; tally = t }

pub record Sweeps (w : Windowed) (out starts lengths : List ℕ) (r : Swept) (out' starts' lengths' : List ℕ) : Type 0 where
  pub answers : r ≡ answered w.used (length w.text) (length w.told) w.tally
  pub bytes : out' ≡ fronted w.text out
  pub starts_so : starts' ≡ fronted (starts_of w.told) starts
  pub lengths_so : lengths' ≡ fronted (lengths_of w.told) lengths

-- the last of them, after so much was used, written and told
pub record Finishes (w : Windowed) (used written told : ℕ) (starts lengths : List ℕ) (r : Swept) (starts' lengths' : List ℕ) : Type 0 where
  pub answers : r ≡ answered used written (told + length w.told) w.tally
  pub starts_so : Put starts told (starts_of w.told) starts' (told + length w.told)
  pub lengths_so : Put lengths told (lengths_of w.told) lengths' (told + length w.told)
