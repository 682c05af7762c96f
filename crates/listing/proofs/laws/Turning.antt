-- Laws of a turn: which of its cases holds, and that what was listed and moved is what the case says.
-- Assumes nothing.
use Rattle.std.proofs.Common.{◌≡◌, ℕ, ◌+◌, ◌-◌, ◌<◌, ◌≤◌, Bool, true, false, List, length, drop, sym, refl, ap, ◌∙◌, arith, length-append, le-ltb, lt-ltb}
use Rattle.turns.specs.declared.Hold.{Hold}
use Rattle.turns.specs.declared.Next.TheVariants as next
use Rattle.turns.specs.Held.{holds, rest, fronted, Kept}
use Rattle.turns.specs.Turn.{Step, Turned, by_step, turn_of}
use Rattle.turns.proofs.laws.Running.{rest_most, rest_less, read_within}
use Rattle.listing.specs.declared.Listed.{Listed}
use Rattle.listing.specs.declared.Tally.{Tally}
use Rattle.listing.specs.declared.turn.Turn.{Turn}
use Rattle.listing.specs.declared.turn.Stage.{Stage}
use Rattle.listing.specs.declared.turn.Stage.TheVariants as stage
use Rattle.listing.specs.Window.{Windowed, window_of, Lists}
use Rattle.listing.specs.Turn.{size, State, state, stood, stepped, by_listed, lines_of, lines_turn, step_of, turned, Turns}
use Rattle.listing.proofs.Windows.{window_used}

-- ── a step of lines, by what was listed ──

module _ {w : Windowed} {out out' : List ℕ} {done : Listed} (l : Lists w out done out') where
  stopped_so : {b : Bool} → done.stopped ≡ b → w.stopped ≡ b
  stopped_so e = sym (ap (λ (d : Listed). d.stopped) l.answers) ∙ e

  used_so : done.used ≡ w.used
  used_so = ap (λ (d : Listed). d.used) l.answers

  stops_so : (last : Bool) → done.stopped ≡ true → by_listed last w ≡ stepped stage.Ending next.Again w
  stops_so last e = let i = stopped_so e in rw i

  goes_so : (last : Bool) → done.stopped ≡ false → 0 < done.used → by_listed last w ≡ stepped stage.Lines next.Again w
  goes_so last e h = let i = stopped_so e in let j = lt-ltb 0 w.used (omega (arith, used_so)) in rw (i, j)

  ends_so : (last : Bool) → done.stopped ≡ false → done.used ≤ 0 → last ≡ true → by_listed last w ≡ stepped stage.Ending next.Again w
  ends_so last e h g = let i = stopped_so e in let j = le-ltb 0 w.used (omega (arith, used_so)) in rw (i, j, g)

  asks_so : (last : Bool) → done.stopped ≡ false → done.used ≤ 0 → last ≡ false → by_listed last w ≡ stepped stage.Lines next.Read w
  asks_so last e h g = let i = stopped_so e in let j = le-ltb 0 w.used (omega (arith, used_so)) in rw (i, j, g)

  -- the turn of such a step
  module _ (window bs : List ℕ) (h : Hold) (g : Stage) where
    again_turn : {d : Step State (List ℕ)} → d ≡ stepped g next.Again w →
        Turns (by_step window h bs d) out (turned done.written next.Again (stood (holds (h.from + done.used) h.held h.ended) (state g done.tally))) window out'
    again_turn e = rw e (record { answers = rw l.answers; leaves = l.leaves; keeps = refl })

    read_turn : {d : Step State (List ℕ)} {kept : ℕ} {window' : List ℕ} → d ≡ stepped g next.Read w → rest window (h.from + done.used) h.held ≡ drop w.used bs → Kept window (h.from + done.used) h.held kept window' →
        Turns (by_step window h bs d) out (turned done.written next.Read (stood (holds 0 kept false) (state g done.tally))) window' out'
    read_turn e r k =
        let count = k.count ∙ ap length r in
        let leaves : _ ≡ fronted (drop w.used bs) window = k.leaves ∙ ap (λ v. fronted v window) r in
        rw e (record { answers = rw (l.answers, count); leaves = l.leaves; keeps = leaves })

module _ (window : List ℕ) {out out' : List ℕ} (h : Hold) (t : Tally) {done : Listed} (long : length out ≡ size)
    (l : Lists (window_of h.ended (length out) (rest window h.from h.held) t.place t.records) out done out') where
  abbrev bs : List ℕ
  bs = rest window h.from h.held

  abbrev w : Windowed
  w = window_of h.ended size bs t.place t.records

  lists : Lists w out done out'
  lists = rw long at l

  used_within : done.used ≤ length bs
  used_within = omega (arith, used_so lists, window_used h.ended size bs t.place t.records)

  -- no more than the window has after the place
  pub used_most : done.used ≤ length window - h.from
  used_most = omega (arith, used_within, rest_most window h.from h.held)

  pub turn_closes : done.stopped ≡ true → Turns (lines_turn window h t) out (turned done.written next.Again (stood (holds (h.from + done.used) h.held h.ended) (state stage.Ending done.tally))) window out'
  unfolding lines_of
  turn_closes e = again_turn lists window bs h stage.Ending (stops_so lists h.ended e)

  pub turn_goes : done.stopped ≡ false → 0 < done.used → Turns (lines_turn window h t) out (turned done.written next.Again (stood (holds (h.from + done.used) h.held h.ended) (state stage.Lines done.tally))) window out'
  unfolding lines_of
  turn_goes e u = again_turn lists window bs h stage.Lines (goes_so lists h.ended e u)

  pub turn_ends : done.stopped ≡ false → done.used ≤ 0 → h.ended ≡ true →
      Turns (lines_turn window h t) out (turned done.written next.Again (stood (holds (h.from + done.used) h.held h.ended) (state stage.Ending done.tally))) window out'
  unfolding lines_of
  turn_ends e u g = again_turn lists window bs h stage.Ending (ends_so lists h.ended e u g)

  pub turn_asks : done.stopped ≡ false → done.used ≤ 0 → h.ended ≡ false → {kept : ℕ} {window' : List ℕ} → Kept window (h.from + done.used) h.held kept window' →
      Turns (lines_turn window h t) out (turned done.written next.Read (stood (holds 0 kept false) (state stage.Lines done.tally))) window' out'
  unfolding lines_of
  turn_asks e u g k = read_turn lists window bs h stage.Lines (asks_so lists h.ended e u g) (rest_less window h.from h.held done.used used_within ∙ ap (λ n. drop n bs) (used_so lists)) k

-- ── what a program needs to know to obey ──

-- a turn's text stands in the output
pub text_within : {t : Turned State (List ℕ)} {out window' out' : List ℕ} {r : Turn} → Turns t out r window' out' → r.written ≤ length out'
text_within {t} {out} p = omega (arith, ap (λ (x : Turn). x.written) p.answers, ap length p.leaves, length-append t.text (drop (length t.text) out))

-- where it says to read, the bytes that are held stand in the window
pub held_within : (window : List ℕ) (h : Hold) (s : State) {out window' out' : List ℕ} {r : Turn} → Turns (turn_of step_of window h s) out r window' out' → r.next ≡ next.Read → r.stand.hold.held ≤ length window'
held_within window h s p e =
    let k = read_within step_of window h s (sym (ap (λ (x : Turn). x.next) p.answers) ∙ e) in
    omega (arith, ap (λ (x : Turn). x.stand.hold.held) p.answers, ap length p.keeps)
