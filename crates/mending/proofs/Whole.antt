-- A sweep of bytes of which all have come, with room enough, is the whole mending: by the pieces from the front.
-- Assumes nothing.
use Rattle.std.proofs.Common.{◌≡◌, ℕ, zero, suc, ◌+◌, ◌-◌, ◌<◌, ◌≤◌, Bool, true, false, ltb, leb, List, ◌++◌, length, take, drop, sym, refl, ap, ◌∙◌, arith, length-append, length-drop, length-take-le, ltb-false, ltb-true, le-leb}
use borrow.Author.Tests.{lt-leb}
use Rattle.layout.specs.Answer.{Answer, Told, got, refused, bare}
use Rattle.layout.specs.Refusals.{ROOM}
use Rattle.layout.proofs.laws.Accepted.{Accepts}
use Rattle.layout.proofs.laws.Reading.{pick_alike}
use Rattle.recording.specs.Content.{Record}
use Rattle.recording.specs.Record.{record_of}
use Rattle.recording.specs.Row.{waits}
use Rattle.recording.proofs.laws.Rowed.{Stands, record_stands}
use Rattle.mending.specs.declared.window.Tally.{Tally}
use Rattle.mending.specs.declared.window.Swept.{Swept}
use Rattle.turns.specs.Held.{fronted}
use Rattle.mending.specs.Mended.{mend_said, dropped_of, starts_of, lengths_of, least, has_room, mend_of, Mends}
use Rattle.mending.specs.Window.{fresh, keeps, drops, opened, Windowed, sweep_of, Sweeps}
use Rattle.mending.proofs.Sweeping.{sweep_none, sweep_refused, sweep_got}
use Rattle.mending.proofs.Going.{closes_so}
use Rattle.mending.proofs.Cutting.{text, told, text_whole, told_whole, text_none, told_none, text_got, told_got, text_refused, told_refused}

-- with room enough for both
Whole : ℕ → ℕ → List ℕ → Tally → Type 0
Whole room slots s t =
    length (text t.place s) ≤ room → length (told t.place t.untold s) ≤ slots → ((sweep_of true room slots s t).text ≡ text t.place s) × ((sweep_of true room slots s t).told ≡ told t.place t.untold s)

module _ (room slots : ℕ) (s : List ℕ) (t : Tally) where
  whole_none : length s ≤ 0 → Whole room slots s t
  unfolding Whole
  whole_none h fits slot =
      let all = told_none t.place s t.untold h in
      let one : leb (length (opened t)) slots ≡ true = le-leb (length (opened t)) slots (omega (arith, ap length all)) in
      let e = sweep_none true room slots s t h ∙ closes_so true slots t refl one in
      (ap (λ (w : Windowed). w.text) e ∙ sym (text_none t.place s h), ap (λ (w : Windowed). w.told) e ∙ sym all)

  whole_got : {x : Record} {n : ℕ} → 0 < length s → got x n ≡ record_of s → Stands s x n → Whole (room - n) (slots - length (opened t)) (drop n s) (keeps t 1 n) → Whole room slots s t
  unfolding Whole
  whole_got {x} {n} h e p on fits slot =
      let first = text_got t.place s h e in
      let tells = told_got t.place s h e t.untold in
      let size = length-take-le n s p.within in
      let bytes = ap length first ∙ length-append (take n s) (text (t.place + n) (drop n s)) in
      let slots-so = ap length tells ∙ length-append (opened t) (told (t.place + n) 0 (drop n s)) in
      let step = sweep_got true room slots s t h e (omega (arith, bytes, size)) (omega (arith, slots-so)) in
      let rest = on (omega (arith, bytes, size)) (omega (arith, slots-so)) in
      (ap (λ (w : Windowed). w.text) step ∙ ap (λ v. take n s ++ v) rest.0 ∙ sym first, ap (λ (w : Windowed). w.told) step ∙ ap (λ ps. opened t ++ ps) rest.1 ∙ sym tells)

  whole_refused : {u : Told} → 0 < length s → refused u ≡ record_of s → Whole room slots (drop 1 s) (drops t 1) → Whole room slots s t
  unfolding Whole waits
  whole_refused h e on fits slot =
      let first = text_refused t.place s h e in
      let tells = told_refused t.place s h e t.untold in
      let step = sweep_refused true room slots s t h refl e in
      let rest = on (omega (arith, ap length first)) (omega (arith, ap length tells)) in
      (ap (λ (w : Windowed). w.text) step ∙ rest.0 ∙ sym first, ap (λ (w : Windowed). w.told) step ∙ rest.1 ∙ sym tells)

whole_from : (f room slots : ℕ) (s : List ℕ) (t : Tally) → length s ≤ f → Whole room slots s t
whole_from zero room slots s t h = whole_none room slots s t h
whole_from (suc f) room slots s t h = go (ltb 0 (length s)) refl (record_of s) refl (record_stands s) (λ r k n u. whole_from f r k (drop n s) u)
  where
    less : (n : ℕ) → 0 < n → length (drop n s) ≤ f
    less n k = rw (length-drop n s) (omega arith)

    go : (b : Bool) → ltb 0 (length s) ≡ b → (x : Answer Record) → x ≡ record_of s → Accepts (Stands s) x → ((r k n : ℕ) (u : Tally) → length (drop n s) ≤ f → Whole r k (drop n s) u) → Whole room slots s t
    go false e x f p on = whole_none room slots s t (ltb-false 0 (length s) e)
    go true e (got x n) f p on = whole_got room slots s t (ltb-true 0 (length s) e) f p (on (room - n) (slots - length (opened t)) n (keeps t 1 n) (less n (omega (arith, p.till))))
    go true e (refused u) f p on = whole_refused room slots s t (ltb-true 0 (length s) e) f (on room slots 1 (drops t 1) (less 1 (omega arith)))

sweep_whole : (room slots : ℕ) (s : List ℕ) → length (mend_said s) ≤ room → length (dropped_of s) ≤ slots → ((sweep_of true room slots s fresh).text ≡ mend_said s) × ((sweep_of true room slots s fresh).told ≡ dropped_of s)
unfolding Whole
sweep_whole room slots s h k =
    let w = whole_from (length s) room slots s fresh (omega arith) (omega (arith, ap length (text_whole s))) (omega (arith, ap length (told_whole s))) in
    (w.0 ∙ sym (text_whole s), w.1 ∙ told_whole s)

-- ── the answers of `mend` ──

module _ (s out starts lengths : List ℕ) where
  abbrev slots : ℕ
  slots = least (length starts) (length lengths)

  refused_so : {t : Told} → has_room s (length out) slots ≡ false → t ≡ bare ROOM → Mends s out starts lengths (refused t) out starts lengths
  unfolding mend_of
  refused_so e f = record { answers = rw e (ap refused f); bytes = rw e; starts_so = rw e; lengths_so = rw e }

  pub mends_short : {t : Told} → length out < length (mend_said s) → t ≡ bare ROOM → Mends s out starts lengths (refused t) out starts lengths
  unfolding has_room
  mends_short h f = refused_so (rw (lt-leb (length (mend_said s)) (length out) h)) f

  pub mends_few : {t : Told} → slots < length (dropped_of s) → t ≡ bare ROOM → Mends s out starts lengths (refused t) out starts lengths
  unfolding has_room
  mends_few h f = refused_so (rw (lt-leb (length (dropped_of s)) slots h) (pick_alike (leb (length (mend_said s)) (length out)) false)) f

  pub mends_done : {r : Swept} {out' starts' lengths' : List ℕ} → length (mend_said s) ≤ length out → length (dropped_of s) ≤ slots → Sweeps (sweep_of true (length out) slots s fresh) out starts lengths r out' starts' lengths' →
      Mends s out starts lengths (got r.stretches r.written) out' starts' lengths'
  unfolding has_room mend_of
  mends_done {r} h k w =
      let whole = sweep_whole (length out) slots s h k in
      let wrote : r.written ≡ length (mend_said s) = ap (λ (x : Swept). x.written) w.answers ∙ ap length whole.0 in
      let tells : r.stretches ≡ length (dropped_of s) = ap (λ (x : Swept). x.stretches) w.answers ∙ ap length whole.1 in
      let one = le-leb (length (mend_said s)) (length out) h in
      let two = le-leb (length (dropped_of s)) slots k in
      record {
        answers = rw (one, two, wrote, tells);
        bytes = rw (one, two) (w.bytes ∙ ap (λ v. fronted v out) whole.0);
        starts_so = rw (one, two) (w.starts_so ∙ ap (λ ps. fronted (starts_of ps) starts) whole.1);
        lengths_so = rw (one, two) (w.lengths_so ∙ ap (λ ps. fronted (lengths_of ps) lengths) whole.1);
      }
