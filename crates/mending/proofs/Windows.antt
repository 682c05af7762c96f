-- Windows mended one after the other give the whole mending: what is decided in a window is decided so with the bytes that follow, since a record that is whole, or that is not
-- cut, is the same with them.
-- Assumes nothing.
use Rattle.std.proofs.Common.{◌≡◌, ℕ, ◌+◌, ◌-◌, ◌^◌, ◌<◌, ◌≤◌, Bool, true, false, ltb, leb, List, [], ◌∷◌, ◌++◌, length, take, drop, sym, refl, ap, ◌∙◌, subst, append_assoc, append-nil, add-zero, zero-add, arith, length-append, length-drop, length-take-le, drop-drop, le-leb, leb-false, leb-true}
use lib.Seq.{take-append-le, drop-append-le}
use Rattle.layout.specs.Answer.{Told, Answer, got, refused, pick}
use Rattle.layout.proofs.laws.Accepted.{accepted}
use Rattle.wire.specs.declared.Part.{Part}
use Rattle.recording.specs.Content.{Record}
use Rattle.recording.specs.Record.{limit, record_of}
use Rattle.recording.specs.Row.{is_cut, waits}
use Rattle.recording.proofs.laws.Rowed.{Stands, record_stands, uncut_same, cut_short, whole_uncut}
use Rattle.recording.proofs.laws.Fronted.{record_most}
use Rattle.mending.specs.declared.window.Tally.{Tally}
use Rattle.mending.specs.Mended.{part, kept_of, mend_said, stretch, dropped_of}
use Rattle.mending.specs.Window.{tally, fresh, keeps, drops, closed, opened, Windowed, rests, before, closes, sane, sweep_of, window_of}
use Rattle.mending.specs.InWindows.{InWindows, ends, goes}
use Rattle.mending.proofs.Sweeping.{Sound, sound_drops, sound_keeps, sane_by, sweep_none, sweep_waits, sweep_refused, sweep_got, sweep_room, sweep_slots}
use Rattle.mending.proofs.Going.{closes_not, closes_so, window_so}
use Rattle.mending.proofs.Cutting.{text, told, parts, text_whole, told_whole, parts_whole, text_none, text_got, text_refused, told_none, told_got, told_refused, parts_none, parts_got, parts_refused, by_pieces}

-- what w has of s, from a tally on, is what the whole has of it, up to what the whole has then
pub record Tells (t : Tally) (s : List ℕ) (w : Windowed) : Type 0 where
  pub out : text t.place s ≡ w.text ++ text w.tally.place (drop w.used s)
  pub tells : told t.place t.untold s ≡ w.told ++ told w.tally.place w.tally.untold (drop w.used s)
  pub counts : t.records + length (parts t.place s) ≡ w.tally.records + length (parts w.tally.place (drop w.used s))
  pub bytes : w.tally.bytes ≡ t.bytes + length w.text
  pub placed : w.tally.place ≡ t.place + w.used
  pub within : w.used ≤ length s
  pub sound : Sound w.tally (length s - w.used)

tells_rests : (t : Tally) (s : List ℕ) → Sound t (length s) → Tells t s (rests t)
tells_rests t s h = record { out = refl; tells = refl; counts = refl; bytes = sym (add-zero t.bytes); placed = sym (add-zero t.place); within = omega arith; sound = (omega (arith, h.0), h.1, h.2) }

tells_closing : (t : Tally) (s : List ℕ) → length s ≤ 0 → Sound t (length s) → Tells t s (record { text = []; told = opened t; used = 0; tally = closed t })
tells_closing t s h k = record {
  out = refl;
  tells = told_none t.place s t.untold h ∙ sym (ap (λ ps. opened t ++ ps) (told_none t.place s 0 h) ∙ append-nil (opened t));
  counts = refl;
  bytes = sym (add-zero t.bytes);
  placed = sym (add-zero t.place);
  within = omega arith;
  sound = (omega (arith, k.0), omega (arith, k.1), k.2);
}

module _ (t : Tally) (s : List ℕ) (k : Sound t (length s)) where
  tells_kept : {x : Record} {n : ℕ} {w : Windowed} → 0 < length s → got x n ≡ record_of s → Stands s x n → Tells (keeps t 1 n) (drop n s) w → Tells t s (before (take n s) (opened t) n w)
  tells_kept {x} {n} {w} h e p q =
      let size = length-take-le n s p.within in
      let rest = drop-drop w.used n s in
      let left = length-drop n s in
      let more : length (drop n s) - w.used ≡ length s - (n + w.used) = omega arith in
      record {
        out = text_got t.place s h e ∙ ap (λ v. take n s ++ v) q.out ∙ sym (append_assoc (take n s) w.text (text w.tally.place (drop w.used (drop n s)))) ∙ ap (λ v. (take n s ++ w.text) ++ text w.tally.place v) rest;
        tells = told_got t.place s h e t.untold ∙ ap (λ ps. opened t ++ ps) q.tells ∙ sym (append_assoc (opened t) w.told (told w.tally.place w.tally.untold (drop w.used (drop n s))))
            ∙ ap (λ v. (opened t ++ w.told) ++ told w.tally.place w.tally.untold v) rest;
        counts = omega (arith, ap length (parts_got t.place s h e), q.counts) ∙ ap (λ v. w.tally.records + length (parts w.tally.place v)) rest;
        bytes = omega (arith, q.bytes, size, length-append (take n s) w.text);
        placed = omega (arith, q.placed);
        within = omega (arith, q.within, p.within);
        sound = subst (Sound w.tally) more q.sound;
      }

  tells_dropped : {u : Told} {w : Windowed} → 0 < length s → refused u ≡ record_of s → Tells (drops t 1) (drop 1 s) w → Tells t s (before [] [] 1 w)
  tells_dropped {u} {w} h e q =
      let rest = drop-drop w.used 1 s in
      let left = length-drop 1 s in
      let more : length (drop 1 s) - w.used ≡ length s - (1 + w.used) = omega arith in
      record {
        out = text_refused t.place s h e ∙ q.out ∙ ap (λ v. w.text ++ text w.tally.place v) rest;
        tells = told_refused t.place s h e t.untold ∙ q.tells ∙ ap (λ v. w.told ++ told w.tally.place w.tally.untold v) rest;
        counts = omega (arith, ap length (parts_refused t.place s h e), q.counts) ∙ ap (λ v. w.tally.records + length (parts w.tally.place v)) rest;
        bytes = q.bytes;
        placed = omega (arith, q.placed);
        within = omega (arith, q.within);
        sound = subst (Sound w.tally) more q.sound;
      }

-- ── a window ──

module _ (last : Bool) (more : List ℕ) (final : last ≡ true → more ≡ []) where
  -- with the bytes that follow, what stands at the front is the same
  same_front : (s : List ℕ) → waits last s ≡ false → record_of (s ++ more) ≡ record_of s
  unfolding waits
  same_front s e = go last final e
    where
      go : (b : Bool) → (b ≡ true → more ≡ []) → pick b false (is_cut s) ≡ false → record_of (s ++ more) ≡ record_of s
      go true f e = ap (λ m. record_of (s ++ m)) (f refl) ∙ ap record_of (append-nil s)
      go false f e = uncut_same s more e

  Window : ℕ → List ℕ → Type 0
  Window place s = (room slots : ℕ) (t : Tally) → t.place ≡ place → Sound t (length (s ++ more)) → Tells t (s ++ more) (sweep_of last room slots s t)

  window_none : (place : ℕ) (s : List ℕ) → length s ≤ 0 → Window place s
  unfolding Window
  window_none place s h room slots t e k = rw (sweep_none last room slots s t h) (go last final (leb (length (opened t)) slots) refl)
    where
      go : (b : Bool) → (b ≡ true → more ≡ []) → (c : Bool) → leb (length (opened t)) slots ≡ c → Tells t (s ++ more) (closes b slots t)
      go true f true c = rw (closes_so true slots t refl c) (tells_closing t (s ++ more) (omega (arith, length-append s more, h, ap length (f refl))) k)
      go true f false c = rw (closes_not true slots t c) (tells_rests t (s ++ more) k)
      go false f b c = tells_rests t (s ++ more) k

  window_kept : (place : ℕ) (s : List ℕ) (x : Record) (n : ℕ) → 0 < length s → got x n ≡ record_of s → Stands s x n → Window (place + n) (drop n s) → Window place s
  unfolding Window
  window_kept place s x n h e p on room slots t here k = go (leb n room) refl (leb (length (opened t)) slots) refl
    where
      whole : Stands (s ++ more) x n
      whole = record { start = p.start; till = p.till; within = omega (arith, p.within, length-append s more) }

      read : got x n ≡ record_of (s ++ more)
      read = e ∙ sym (uncut_same s more (whole_uncut s e))

      rest : drop n (s ++ more) ≡ drop n s ++ more
      rest = drop-append-le n s more p.within

      left : length (s ++ more) - n ≡ length (drop n s ++ more)
      left = omega (arith, ap length (sym rest) ∙ length-drop n (s ++ more))

      go : (a : Bool) → leb n room ≡ a → (b : Bool) → leb (length (opened t)) slots ≡ b → Tells t (s ++ more) (sweep_of last room slots s t)
      go true a true b =
          let u = keeps t 1 n in
          let ks = sound_keeps t 1 n (length (s ++ more)) k (omega (arith, whole.within)) (omega (arith, p.till)) in
          let q = on (room - n) (slots - length (opened t)) u (ap (λ i. i + n) here) (subst (Sound u) left ks) in
          let w = sweep_of last (room - n) (slots - length (opened t)) (drop n s) u in
          rw (sweep_got last room slots s t h e (leb-true n room a) (leb-true (length (opened t)) slots b), sym (take-append-le n s more p.within))
          (tells_kept t (s ++ more) k (omega (arith, h, length-append s more)) read whole (subst (λ v. Tells u v w) (sym rest) q))
      go true a false b = rw (sweep_slots last room slots s t h e (leb-false (length (opened t)) slots b)) (tells_rests t (s ++ more) k)
      go false a b c = rw (sweep_room last room slots s t h e (leb-false n room a)) (tells_rests t (s ++ more) k)

  window_dropped : (place : ℕ) (s : List ℕ) (u : Told) → 0 < length s → refused u ≡ record_of s → Window (place + 1) (drop 1 s) → Window place s
  unfolding Window
  window_dropped place s u h e on room slots t here k = go (waits last s) refl
    where
      rest : drop 1 (s ++ more) ≡ drop 1 s ++ more
      rest = drop-append-le 1 s more h

      left : length (s ++ more) - 1 ≡ length (drop 1 s ++ more)
      left = omega (arith, ap length (sym rest) ∙ length-drop 1 (s ++ more))

      go : (b : Bool) → waits last s ≡ b → Tells t (s ++ more) (sweep_of last room slots s t)
      go true w = rw (sweep_waits last room slots s t h w) (tells_rests t (s ++ more) k)
      go false w =
          let v = drops t 1 in
          let ks = sound_drops t 1 (length (s ++ more)) k (omega (arith, h, length-append s more)) in
          let q = on room slots v (ap (λ i. i + 1) here) (subst (Sound v) left ks) in
          rw (sweep_refused last room slots s t h w e)
          (tells_dropped t (s ++ more) k (omega (arith, h, length-append s more)) (e ∙ sym (same_front s w)) (subst (λ x. Tells v x (sweep_of last room slots (drop 1 s) v)) (sym rest) q))

  pub window_tells : (room slots : ℕ) (s : List ℕ) (t : Tally) → Sound t (length (s ++ more)) → Tells t (s ++ more) (window_of last room slots s t)
  unfolding Window
  window_tells room slots s t k =
      let fit : sane t (length s) ≡ true = sane_by t (length s) (omega (arith, k.0, length-append s more)) k.1 ∙ le-leb t.records t.bytes k.2 in
      rw (window_so last room slots s t fit) (by_pieces Window window_none window_kept window_dropped t.place s room slots t refl k)

-- ── no window is stuck ──

pub stretch_few : (place n : ℕ) → length (stretch place n) ≤ 1
stretch_few place n = go (ltb 0 n)
  where
    go : (b : Bool) → length (pick b (part (place - n) n ∷ []) []) ≤ 1
    go true = omega arith
    go false = omega arith

-- with room for the longest record and for one stretch, bytes are used of a window that has the longest record's, or that is the last and has some
pub moves_on : (last : Bool) (room slots : ℕ) (s : List ℕ) (t : Tally) → 6 + limit ≤ room → 1 ≤ slots → 0 < length s → (last ≡ false → 6 + limit ≤ length s) → 0 < (sweep_of last room slots s t).used
unfolding waits
moves_on last room slots s t r k h long = go (record_of s) refl
  where
    ready : (b : Bool) → (b ≡ false → 6 + limit ≤ length s) → (c : Bool) → is_cut s ≡ c → pick b false c ≡ false
    ready true f c e = refl
    ready false f true e = absurd (cut_not (f refl) (cut_short s e))
      where
        cut_not : 6 + limit ≤ length s → length s < 6 + limit → ⊥
        cut_not a b = omega arith
    ready false f false e = refl

    go : (x : Answer Record) → x ≡ record_of s → 0 < (sweep_of last room slots s t).used
    go (got x n) e =
        let p = accepted (Stands s) (record_stands s) e in
        let step = sweep_got last room slots s t h e (omega (arith, record_most s e)) (omega (arith, stretch_few t.place t.untold)) in
        rw step (omega (arith, p.till))
    go (refused u) e = rw (sweep_refused last room slots s t h (ready last long (is_cut s) refl) e) (omega arith)

-- ── all windows ──

pub record Done (t : Tally) (s out : List ℕ) (ps : List Part) (end : Tally) : Type 0 where
  pub bytes : out ≡ text t.place s
  pub report : ps ≡ told t.place t.untold s
  pub place : end.place ≡ t.place + length s
  pub records : end.records ≡ t.records + length (parts t.place s)
  pub kept : end.bytes ≡ t.bytes + length out
  pub closed : end.untold ≡ 0

-- a window, then what follows it
pub done_more : {t end : Tally} {s out : List ℕ} {ps : List Part} {w : Windowed} → Tells t s w → Done w.tally (drop w.used s) out ps end → Done t s (w.text ++ out) (w.told ++ ps) end
done_more {s = s} {out = out} {w = w} q r =
    let d = length-drop w.used s in
    record {
      bytes = ap (λ v. w.text ++ v) r.bytes ∙ sym q.out;
      report = ap (λ ps. w.told ++ ps) r.report ∙ sym q.tells;
      place = omega (arith, r.place, q.placed, q.within);
      records = omega (arith, r.records, q.counts);
      kept = omega (arith, r.kept, q.bytes, length-append w.text out);
      closed = r.closed;
    }

pub sound_left : {t : Tally} {s : List ℕ} {w : Windowed} → Tells t s w → Sound w.tally (length (drop w.used s))
sound_left {s = s} {w = w} q =
    let left : length s - w.used ≡ length (drop w.used s) = omega (arith, length-drop w.used s) in
    subst (Sound w.tally) left q.sound

pub mends : {t end : Tally} {s out : List ℕ} {ps : List Part} → InWindows t s out ps end → Sound t (length s) → Done t s out ps end
mends {t} (ends e) k =
    let none : length {A = ℕ} [] ≤ 0 = omega arith in
    record {
      bytes = sym (text_none t.place [] none);
      report = sym (told_none t.place [] t.untold none ∙ rw e);
      place = sym (add-zero t.place);
      records = omega (arith, ap length (parts_none t.place [] none));
      kept = sym (add-zero t.bytes);
      closed = e;
    }
mends {t} (goes s more last room slots final p) k =
    let w = window_of last room slots s t in
    let q = window_tells last more final room slots s t k in
    done_more q (mends p (sound_left q))

-- the whole
pub mends_all : {s out : List ℕ} {ps : List Part} {end : Tally} → InWindows fresh s out ps end → length s < 2 ^ 64 →
    (out ≡ mend_said s) × (ps ≡ dropped_of s) × (end ≡ tally (length s) (length (kept_of s)) (length (mend_said s)) 0)
mends_all {s} {out} p h =
    let r = mends p (omega arith, omega arith, omega arith) in
    let bytes : out ≡ mend_said s = r.bytes ∙ sym (text_whole s) in
    let a = r.place ∙ zero-add (length s) in
    let b = r.records ∙ zero-add (length (parts 0 s)) ∙ ap length (parts_whole s) in
    let c = r.kept ∙ zero-add (length out) ∙ ap length bytes in
    (bytes, r.report ∙ told_whole s, rw (← a, ← b, ← c, ← r.closed))
