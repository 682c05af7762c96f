-- Laws of a turn: how much is used, and which of the turn's cases holds.
-- Assumes nothing.
use Rattle.std.proofs.Common.{◌≡◌, ℕ, ◌+◌, ◌-◌, ◌%◌, ◌^◌, ◌<◌, ◌≤◌, Bool, true, false, leb, List, ◌++◌, length, take, drop, sym, refl, ap, ◌∙◌, arith, length-append, length-drop, leb-false, leb-true}
use lib.ListN.{length-map}
use lib.Seq.{take-append_seam}
use Rattle.layout.specs.Written.{Put}
use Rattle.turns.specs.declared.Hold.{Hold}
use Rattle.turns.specs.declared.Next.TheVariants as next
use Rattle.turns.specs.Held.{holds, rest, Kept, fronted}
use Rattle.turns.specs.Turn.{by_step}
use Rattle.turns.proofs.laws.Running.{rest_most, rest_less}
use Rattle.turns.proofs.laws.Fronting.{put_fronted}
use Rattle.recording.specs.Row.{waits}
use Rattle.mending.specs.declared.window.Tally.{Tally}
use Rattle.mending.specs.declared.window.Swept.{Swept}
use Rattle.mending.specs.Mended.{least, starts_of, lengths_of}
use Rattle.mending.specs.Report.{lines_of, stretch_lines}
use Rattle.mending.specs.Window.{keeps, drops, opened, Windowed, rests, sane, sweep_of, window_of, Sweeps}
use Rattle.mending.specs.Turn.{size, slots, State, state, stood, went_on, after_mending, last_line, stepped, by_mended, turned, Turns}
use Rattle.mending.proofs.Sweeping.{sweep_none, sweep_waits, sweep_refused, sweep_got, sweep_room, sweep_slots}
use Rattle.mending.proofs.Going.{least_same, window_not, window_so, closes_rest}
use Rattle.mending.proofs.Cutting.{by_pieces}

-- ── no more than the window is used ──

module _ (last : Bool) where
  Within : ℕ → List ℕ → Type 0
  Within place s = (room slots : ℕ) (t : Tally) → (sweep_of last room slots s t).used ≤ length s

  within : (place : ℕ) (s : List ℕ) → Within place s
  unfolding Within
  within =
      by_pieces Within
      (λ place s h room slots t. rw (sweep_none last room slots s t h) (omega (arith, (closes_rest last slots t).1)))
      (λ place s x n h e p on room slots t. kept s n room slots t (on (room - n) (slots - length (opened t)) (keeps t 1 n)) (sweep_got last room slots s t h e) (sweep_room last room slots s t h e) (sweep_slots last room slots s t h e) p.within)
      (λ place s u h e on room slots t. dropped s room slots t h (on room slots (drops t 1)) (λ w. sweep_refused last room slots s t h w e))
    where
      kept : (s : List ℕ) (n room slots : ℕ) (t : Tally) → (sweep_of last (room - n) (slots - length (opened t)) (drop n s) (keeps t 1 n)).used ≤ length (drop n s) →
          (n ≤ room → length (opened t) ≤ slots → sweep_of last room slots s t ≡ record { text = take n s ++ (sweep_of last (room - n) (slots - length (opened t)) (drop n s) (keeps t 1 n)).text; told = opened t ++ (sweep_of last (room - n) (slots - length (opened t)) (drop n s) (keeps t 1 n)).told; used = n + (sweep_of last (room - n) (slots - length (opened t)) (drop n s) (keeps t 1 n)).used; tally = (sweep_of last (room - n) (slots - length (opened t)) (drop n s) (keeps t 1 n)).tally }) →
          (room < n → sweep_of last room slots s t ≡ rests t) → (slots < length (opened t) → sweep_of last room slots s t ≡ rests t) → n ≤ length s → (sweep_of last room slots s t).used ≤ length s
      kept s n room slots t q one two three h = go (leb n room) refl (leb (length (opened t)) slots) refl
        where
          go : (a : Bool) → leb n room ≡ a → (b : Bool) → leb (length (opened t)) slots ≡ b → (sweep_of last room slots s t).used ≤ length s
          go true a true b = rw (one (leb-true n room a) (leb-true (length (opened t)) slots b)) (omega (arith, q, length-drop n s))
          go true a false b = rw (three (leb-false (length (opened t)) slots b)) (omega arith)
          go false a b c = rw (two (leb-false n room a)) (omega arith)

      dropped : (s : List ℕ) (room slots : ℕ) (t : Tally) → 0 < length s → (sweep_of last room slots (drop 1 s) (drops t 1)).used ≤ length (drop 1 s) →
          (waits last s ≡ false → sweep_of last room slots s t ≡ record { text = (sweep_of last room slots (drop 1 s) (drops t 1)).text; told = (sweep_of last room slots (drop 1 s) (drops t 1)).told; used = 1 + (sweep_of last room slots (drop 1 s) (drops t 1)).used; tally = (sweep_of last room slots (drop 1 s) (drops t 1)).tally }) →
          (sweep_of last room slots s t).used ≤ length s
      dropped s room slots t h q one = go (waits last s) refl
        where
          go : (b : Bool) → waits last s ≡ b → (sweep_of last room slots s t).used ≤ length s
          go true w = rw (sweep_waits last room slots s t h w) (omega arith)
          go false w = rw (one w) (omega (arith, q, length-drop 1 s))

  pub used_most : (room slots : ℕ) (s : List ℕ) (t : Tally) → (window_of last room slots s t).used ≤ length s
  unfolding Within
  used_most room slots s t = go (sane t (length s)) refl
    where
      go : (b : Bool) → sane t (length s) ≡ b → (window_of last room slots s t).used ≤ length s
      go true e = rw (window_so last room slots s t e) (within 0 s room slots t)
      go false e = rw (window_not last room slots s t e) (omega arith)

-- ── a turn, by what was mended ──

-- the step is one of three
module _ (last : Bool) (s : State) (w : Windowed) where
  goes_so : went_on w.used (length w.told) ≡ true → by_mended last s w ≡ stepped next.Again s w
  goes_so e = rw e

  ends_so : went_on w.used (length w.told) ≡ false → last ≡ true → by_mended last s w ≡ stepped next.Stop s w
  ends_so e f = rw (e, f)

  asks_so : went_on w.used (length w.told) ≡ false → last ≡ false → by_mended last s w ≡ stepped next.Read s w
  asks_so e f = rw (e, f)

module _ (window : List ℕ) {out starts lengths out' starts' lengths' : List ℕ} (h : Hold) (s : State) {done : Swept} (room : length out ≡ size) (one : length starts ≡ slots) (two : length lengths ≡ slots)
    (l : Sweeps (window_of h.ended (length out) (least (length starts) (length lengths)) (rest window h.from h.held) s.tally) out starts lengths done out' starts' lengths') where
  abbrev bs : List ℕ
  bs = rest window h.from h.held

  abbrev w : Windowed
  w = window_of h.ended size slots bs s.tally

  sweeps : Sweeps w out starts lengths done out' starts' lengths'
  sweeps = let least-so = least_same one two in rw (room, least-so) at l

  used_so : done.used ≡ w.used
  used_so = ap (λ (d : Swept). d.used) sweeps.answers

  used_within : done.used ≤ length bs
  used_within = omega (arith, used_so, used_most h.ended size slots bs s.tally)

  -- no more than the window has after the place
  pub used_fits : done.used ≤ length window - h.from
  used_fits = omega (arith, used_within, rest_most window h.from h.held)

  went : {b : Bool} → went_on done.used done.stretches ≡ b → went_on w.used (length w.told) ≡ b
  went e = ap (λ (d : Swept). went_on d.used d.stretches) (sym sweeps.answers) ∙ e

  -- ── its stretches stand at the fronts of the two lists ──

  count : done.stretches ≡ length w.told
  count = ap (λ (d : Swept). d.stretches) sweeps.answers

  -- the lists have room for them
  pub told_fits : (done.stretches ≤ length starts') × (done.stretches ≤ length lengths')
  told_fits = (
    omega (arith, count, ap length sweeps.starts_so, length-append (starts_of w.told) (drop (length (starts_of w.told)) starts), length-map w.told (λ p. p.start)),
    omega (arith, count, ap length sweeps.lengths_so, length-append (lengths_of w.told) (drop (length (lengths_of w.told)) lengths), length-map w.told (λ p. p.count)),
  )

  starts_told : take done.stretches starts' ≡ starts_of w.told
  starts_told = ap (λ k. take k starts') (count ∙ sym (length-map w.told (λ p. p.start))) ∙ ap (take (length (starts_of w.told))) sweeps.starts_so ∙ take-append_seam (starts_of w.told) (drop (length (starts_of w.told)) starts)

  lengths_told : take done.stretches lengths' ≡ lengths_of w.told
  lengths_told = ap (λ k. take k lengths') (count ∙ sym (length-map w.told (λ p. p.count))) ∙ ap (take (length (lengths_of w.told))) sweeps.lengths_so ∙ take-append_seam (lengths_of w.told) (drop (length (lengths_of w.told)) lengths)

  lines_told : lines_of (take done.stretches starts') (take done.stretches lengths') ≡ stretch_lines w.told
  lines_told = ap (λ v. lines_of v (take done.stretches lengths')) starts_told ∙ ap (lines_of (starts_of w.told)) lengths_told

  module _ {all : ℕ} (a : all ≡ (s.stretches + done.stretches) % 2 ^ 64) where
    pub turn_goes : {n : ℕ} {report report' : List ℕ} → went_on done.used done.stretches ≡ true → Put report 0 (lines_of (take done.stretches starts') (take done.stretches lengths')) report' n → n ≤ length report →
        Turns (by_step window h bs (by_mended h.ended s w)) out starts lengths report (turned done.written n next.Again (stood (holds (h.from + done.used) h.held h.ended) (state all done.tally))) window out' starts' lengths' report'
    turn_goes {report = report} e p fits =
        let q = put_fronted (omega (arith, p.place)) p in
        let n-so = q.0 ∙ ap length lines_told in
        rw (goes_so h.ended s w (went e)) (record { answers = rw (a, n-so, sweeps.answers); keeps = refl; bytes = sweeps.bytes; starts_so = sweeps.starts_so; lengths_so = sweeps.lengths_so; tells = q.1 ∙ ap (λ v. fronted v report) lines_told })

    stands : state all done.tally ≡ after_mending s w
    stands = rw (a, sweeps.answers)

    pub turn_ends : {n : ℕ} {report report' : List ℕ} → went_on done.used done.stretches ≡ false → h.ended ≡ true → Put report 0 (last_line (state all done.tally)) report' n → n ≤ length report →
        Turns (by_step window h bs (by_mended h.ended s w)) out starts lengths report (turned done.written n next.Stop (stood h (state all done.tally))) window out' starts' lengths' report'
    turn_ends {report = report} e f p fits =
        let q = put_fronted (omega (arith, p.place)) p in
        let n-so = q.0 ∙ ap (λ v. length (last_line v)) stands in
        rw (ends_so h.ended s w (went e) f) (record { answers = rw (a, n-so, sweeps.answers); keeps = refl; bytes = sweeps.bytes; starts_so = sweeps.starts_so; lengths_so = sweeps.lengths_so; tells = q.1 ∙ ap (λ v. fronted (last_line v) report) stands })

    pub turn_asks : {window' report : List ℕ} {kept : ℕ} → went_on done.used done.stretches ≡ false → h.ended ≡ false → Kept window (h.from + done.used) h.held kept window' →
        Turns (by_step window h bs (by_mended h.ended s w)) out starts lengths report (turned done.written 0 next.Read (stood (holds 0 kept false) (state all done.tally))) window' out' starts' lengths' report
    turn_asks e f k =
        let r = rest_less window h.from h.held done.used used_within ∙ ap (λ n. drop n bs) used_so in
        let kept-so = k.count ∙ ap length r in
        let leaves = k.leaves ∙ ap (λ v. fronted v window) r in
        rw (asks_so h.ended s w (went e) f) (record { answers = rw (a, sweeps.answers, kept-so); keeps = leaves; bytes = sweeps.bytes; starts_so = sweeps.starts_so; lengths_so = sweeps.lengths_so; tells = refl })
