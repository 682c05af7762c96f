-- Windows listed one after the other print the whole listing: what a window lists of its records is what the whole listing has of them,
-- since a record that is not cut is the same with the bytes that follow.
-- Assumes nothing.
use Rattle.std.proofs.Common.{◌≡◌, ℕ, zero, suc, ◌+◌, ◌-◌, ◌%◌, ◌^◌, ◌<◌, ◌≤◌, Bool, true, false, ltb, leb, List, [], ◌++◌, length, drop, sym, refl, ap, ◌∙◌, append_assoc, append-nil, not-suc-le-zero, add-zero, add-one, arith, length-append, length-drop, drop-drop, leb-false, leb-true}
use lib.Seq.{drop-append-le}
use Rattle.layout.specs.Answer.{Answer, got, refused, pick}
use Rattle.layout.proofs.laws.Accepted.{Accepts}
use Rattle.layout.proofs.laws.Numbers.{zero_one}
use Rattle.recording.specs.Content.{Record}
use Rattle.recording.specs.Record.{record_of}
use Rattle.recording.specs.Row.{is_cut, waits}
use Rattle.recording.proofs.laws.Rowed.{Stands, record_stands, records_none, records_step, uncut_same}
use Rattle.text.specs.Lines.{refusal_line}
use Rattle.listing.specs.Lines.{heading, record_line, ending}
use Rattle.listing.specs.Listing.{remaining, listing}
use Rattle.listing.specs.Window.{line_room, Windowed, rests, after_line, pauses, window_of}
use Rattle.listing.specs.Printed.{Printed, ends, goes, stops}
use Rattle.listing.proofs.Windows.{has_bytes, window_full, window_waits, window_step}

-- ── what remains, a record at a time ──

pub remaining_none : (place records : ℕ) → remaining place records [] ≡ ending records place
unfolding remaining
remaining_none place records = rw (records_none [] (omega arith))

remaining_got : (place records : ℕ) (s : List ℕ) (x : Record) (n : ℕ) → 0 < length s → record_of s ≡ got x n → remaining place records s ≡ record_line place x ++ remaining (place + n) (records + 1) (drop n s)
unfolding remaining
remaining_got place records s x n h e = rw (records_step s h, e, add-one)

remaining_refused : (place records : ℕ) (s : List ℕ) {t : _} → 0 < length s → record_of s ≡ refused t → remaining place records s ≡ refusal_line place t ++ ending records place
unfolding remaining
remaining_refused place records s h e = rw (records_step s h, e)

-- ── a window ──

-- what w lists of s, from a place after so many records, is what remains to be printed, up to what remains then
pub record Tells (place records : ℕ) (s : List ℕ) (w : Windowed) : Type 0 where
  pub going : w.stopped ≡ false → remaining place records s ≡ w.text ++ remaining w.place w.records (drop w.used s)
  pub stopping : w.stopped ≡ true → remaining place records s ≡ w.text ++ ending w.records w.place
  pub placed : w.place ≡ place + w.used
  pub counted : w.records ≤ records + w.used
  pub within : w.used ≤ length s

tells_rests : (place records : ℕ) (s : List ℕ) → Tells place records s (rests place records)
tells_rests place records s = record { going = λ _. refl; stopping = λ e. zero_one (cc); placed = sym (add-zero place); counted = omega arith; within = omega arith }

tells_line : (place records : ℕ) (s : List ℕ) (x : Record) (n : ℕ) (w : Windowed) → 0 < n → n ≤ length s → record_of s ≡ got x n →
    Tells (place + n) (records + 1) (drop n s) w → Tells place records s (after_line (record_line place x) n w)
tells_line place records s x n w h k e t =
    let l = length-drop n s in
    let first = remaining_got place records s x n (omega arith) e in
    record {
      going = λ g. first ∙ ap (λ r. record_line place x ++ r) (t.going g) ∙ rw (append_assoc (record_line place x) w.text, ← drop-drop w.used n s);
      stopping = λ g. first ∙ ap (λ r. record_line place x ++ r) (t.stopping g) ∙ rw (append_assoc (record_line place x) w.text);
      placed = omega (arith, t.placed);
      counted = omega (arith, t.counted);
      within = omega (arith, t.within);
    }

tells_refusal : (place records : ℕ) (s : List ℕ) {t : _} → 0 < length s → record_of s ≡ refused t →
    Tells place records s (record { text = refusal_line place t; used = 0; place = place; records = records; stopped = true })
tells_refusal place records s h e = record {
  going = λ g. zero_one (cc);
  stopping = λ g. remaining_refused place records s h e;
  placed = sym (add-zero place);
  counted = omega arith;
  within = omega arith;
}

-- with the bytes that follow, the record is the same
same_record : (last : Bool) (s more : List ℕ) → (last ≡ true → more ≡ []) → pauses last s ≡ false → record_of (s ++ more) ≡ record_of s
unfolding pauses waits
same_record true s more f e = rw (f refl, append-nil s)
same_record false s more f e = go (ltb 0 (length s)) e
  where
    go : (b : Bool) → pick b (is_cut s) true ≡ false → record_of (s ++ more) ≡ record_of s
    go true e = uncut_same s more e
    go false e = zero_one (cc)

module _ (last : Bool) (more : List ℕ) (f : last ≡ true → more ≡ []) where
  Each : (List ℕ → Type 0) → Type 0
  Each P = (room : ℕ) (s : List ℕ) (place records : ℕ) → P s → place + length (s ++ more) < 2 ^ 64 → records + length (s ++ more) < 2 ^ 64 → Tells place records (s ++ more) (window_of last room s place records)

  -- a window, if each shorter one does
  tells_next : (s : List ℕ) → Each (λ t. length t < length s) → Each (λ t. t ≡ s)
  unfolding Each
  tells_next s shorter room s' place records is k l = rw is (go (leb line_room room) refl (pauses last s) refl (record_of s) refl (record_stands s))
    where
      bound : (n : ℕ) → n + length (s' ++ more) < 2 ^ 64 → n + length (s ++ more) < 2 ^ 64
      bound n h = rw is at h

      line : line_room ≤ room → pauses last s ≡ false → (x : Record) (n : ℕ) → record_of s ≡ got x n → Stands s x n → Tells place records (s ++ more) (window_of last room s place records)
      line r w x n e p =
          let q = length-append s more in
          let d = drop-append-le n s more p.within in
          let kp = bound place k in
          let kr = bound records l in
          let long : length (drop n s ++ more) ≡ length (s ++ more) - n = rw (← d) (length-drop n (s ++ more)) in
          let mp : (place + n) % 2 ^ 64 ≡ place + n = omega (arith, p.till, p.within) in
          let mr : (records + 1) % 2 ^ 64 ≡ records + 1 = omega (arith, p.till, p.within) in
          let rest = shorter (room - length (record_line place x)) (drop n s) (place + n) (records + 1) (rw (length-drop n s) (omega (arith, p.till, p.within))) (omega (arith, p.till, p.within)) (omega (arith, p.till, p.within)) in
          rw (window_step last room s place records r w, e, mp, mr)
          (tells_line place records (s ++ more) x n (window_of last (room - length (record_line place x)) (drop n s) (place + n) (records + 1)) (omega (arith, p.till)) (omega (arith, p.within)) (same_record last s more f w ∙ e)
          (rw d rest))

      go : (a : Bool) → leb line_room room ≡ a → (b : Bool) → pauses last s ≡ b → (x : Answer Record) → record_of s ≡ x → Accepts (Stands s) x → Tells place records (s ++ more) (window_of last room s place records)
      go false a b w x e p = rw (window_full last room s place records (leb-false line_room room a)) (tells_rests place records (s ++ more))
      go true a true w x e p = rw (window_waits last room s place records w) (tells_rests place records (s ++ more))
      go true a false w (refused t) e p =
          rw (window_step last room s place records (leb-true line_room room a) w, e)
          (tells_refusal place records (s ++ more) (omega (arith, length-append s more, has_bytes last s w)) (same_record last s more f w ∙ e))
      go true a false w (got x n) e p = line (leb-true line_room room a) w x n e p

  -- at most b bytes are in the window
  tells_window : (b : ℕ) → Each (λ s. length s ≤ b)
  unfolding Each
  tells_window zero room s place records h k l = tells_next s (λ room t p c less _ _. absurd (not-suc-le-zero (less_none less h))) room s place records refl k l
    where
      less_none : {n : ℕ} → n < length s → length s ≤ 0 → n < 0
      less_none a b = omega arith
  tells_window (suc b) room s place records h k l = tells_next s (λ room t p c less. tells_window b room t p c (omega arith)) room s place records refl k l

  pub window_tells : (room : ℕ) (s : List ℕ) (place records : ℕ) → place + length (s ++ more) < 2 ^ 64 → records + length (s ++ more) < 2 ^ 64 → Tells place records (s ++ more) (window_of last room s place records)
  unfolding Each
  window_tells room s place records = tells_window (length s) room s place records (omega arith)

-- ── all windows ──

pub prints : {place records : ℕ} {s text : List ℕ} → Printed place records s text → place + length s < 2 ^ 64 → records + length s < 2 ^ 64 → text ≡ remaining place records s
prints {place} {records} ends h k = sym (remaining_none place records)
prints {place} {records} (goes {text} s more last room f e p) h k =
    let w = window_of last room s place records in
    let t = window_tells last more f room s place records h k in
    let d = length-drop w.used (s ++ more) in
    ap (λ r. w.text ++ r) (prints p (omega (arith, t.placed, t.within)) (omega (arith, t.counted, t.within))) ∙ sym (t.going e)
prints {place} {records} (stops s more last room f e) h k = sym ((window_tells last more f room s place records h k).stopping e)

-- the whole listing
pub prints_all : {s text : List ℕ} → Printed 0 0 s text → length s < 2 ^ 64 → heading ++ text ≡ listing s
unfolding listing
prints_all p h = rw (prints p (omega arith) (omega arith))
