-- However a recording comes in pieces, the texts of the turns, one after the other, are its listing; and the turns come to an end: the step's
-- laws, of which `turns` proves that. A window that lists nothing and was refused nothing waits: for nothing where the input has ended, and
-- else for the rest of a record that is cut, which is shorter than the window.
-- Assumes nothing.
use Rattle.std.proofs.Common.{◌≡◌, ℕ, ◌+◌, ◌*◌, ◌^◌, ◌<◌, ◌≤◌, Bool, true, false, ltb, List, [], ◌++◌, length, drop, sym, refl, ap, ◌∙◌, arith, lit≤, length-append, length-drop, ltb-false, ltb-true}
use mathlib.Core.Option.{some}
use Rattle.layout.specs.Answer.{Answer, got, refused, pick}
use Rattle.layout.proofs.laws.Accepted.{Accepts}
use Rattle.layout.proofs.laws.Numbers.{zero_one}
use Rattle.layout.proofs.laws.Words.{no_bytes}
use Rattle.turns.specs.declared.Next.TheVariants as next
use Rattle.turns.specs.Held.{none}
use Rattle.turns.specs.Run.{whole, run}
use Rattle.turns.specs.Fair.{Meaning, FairBy, Fair}
use Rattle.turns.proofs.laws.Running.{pieces_given}
use Rattle.recording.specs.Content.{Record}
use Rattle.recording.specs.Record.{record_of}
use Rattle.recording.proofs.laws.Rowed.{Stands, record_stands}
use Rattle.listing.specs.declared.Tally.{Tally}
use Rattle.listing.specs.declared.turn.Stage.{Stage}
use Rattle.listing.specs.declared.turn.Stage.TheVariants as stage
use Rattle.listing.specs.Lines.{heading, ending}
use Rattle.listing.specs.Listing.{remaining, listing}
use Rattle.listing.specs.Window.{line_room, Windowed, pauses, window_of}
use Rattle.listing.specs.Turn.{size, State, state, fresh, stepped, by_listed, lines_of, step_at, step_of}
use Rattle.listing.proofs.Windows.{window_used, window_waits, window_step}
use Rattle.listing.proofs.Cut.{waits_last, waits_short}
use Rattle.listing.proofs.Whole.{Tells, window_tells, remaining_none}

-- ── what the whole prints ──

abbrev to_print : Stage → Tally → List ℕ → List ℕ
to_print stage.Heading t s = heading ++ remaining t.place t.records s
to_print stage.Lines t s = remaining t.place t.records s
to_print stage.Ending t s = ending t.records t.place

abbrev turns_in : Stage → ℕ → ℕ
turns_in stage.Heading n = n + 2
turns_in stage.Lines n = n + 1
turns_in stage.Ending n = 0

abbrev printing : Meaning State (List ℕ)
printing = record {
  join = λ a b. a ++ b;
  all = λ s bs. to_print s.stage s.tally bs;
  Sound = λ s bs. (s.tally.place + length bs < 2 ^ 64) × (s.tally.records + length bs < 2 ^ 64);
  turns = λ s n. turns_in s.stage n;
}

-- ── a step of lines ──

-- no line could be listed: none is whole yet
module _ (last : Bool) (room : ℕ) (h : List ℕ) (place records : ℕ) where
  idle : line_room ≤ room → (window_of last room h place records).stopped ≡ false → (window_of last room h place records).used ≤ 0 → pauses last h ≡ true
  idle r e k = go (pauses last h) refl
    where
      by : pauses last h ≡ false → (x : Answer Record) → record_of h ≡ x → Accepts (Stands h) x → pauses last h ≡ true
      by f (got x n) g p = let z : ⊥ = omega (arith, p.till, ap (λ (w : Windowed). w.used) (rw g at (window_step last room h place records r f))) in absurd z
      by f (refused t) g p = let z : false ≡ true = sym e ∙ ap (λ (w : Windowed). w.stopped) (rw g at (window_step last room h place records r f)) in zero_one (cc)

      go : (b : Bool) → pauses last h ≡ b → pauses last h ≡ true
      go true f = f
      go false f = by f (record_of h) refl (record_stands h)

module _ (last : Bool) (t : Tally) (h more : List ℕ) (final : last ≡ true → more ≡ []) (sound : printing.Sound (state stage.Lines t) (h ++ more)) where
  abbrev w : Windowed
  w = window_of last size h t.place t.records

  abbrev s : List ℕ
  s = h ++ more

  tells : Tells t.place t.records s w
  tells = window_tells last more final size h t.place t.records sound.0 sound.1

  sound_left : (g : Stage) → printing.Sound (stepped g next.Again w).state (drop w.used s)
  sound_left g = let d = length-drop w.used s in (omega (arith, sound.0, tells.placed, tells.within), omega (arith, sound.1, tells.counted, tells.within))

  stopping : w.stopped ≡ true → FairBy printing size last (state stage.Lines t) h more (stepped stage.Ending next.Again w) next.Again
  stopping e = (record { gives = tells.stopping e; sound = sound_left stage.Ending }, omega arith)

  going : w.stopped ≡ false → ltb 0 w.used ≡ true → FairBy printing size last (state stage.Lines t) h more (stepped stage.Lines next.Again w) next.Again
  going e f = (record { gives = tells.going e; sound = sound_left stage.Lines }, omega (arith, ltb-true 0 w.used f, tells.within))

  waiting : w.stopped ≡ false → ltb 0 w.used ≡ false → pauses last h ≡ true
  waiting e f = idle last size h t.place t.records (lit≤ tt) e (ltb-false 0 w.used f)

  ended : w.stopped ≡ false → ltb 0 w.used ≡ false → last ≡ true → FairBy printing size last (state stage.Lines t) h more (stepped stage.Ending next.Again w) next.Again
  ended e f g =
      let gone : s ≡ [] = no_bytes s (omega (arith, length-append h more, ap length (final g), waits_last h (rw g at (waiting e f)))) in
      let nothing = window_waits last size h t.place t.records (waiting e f) in
      (record { gives = ap (remaining t.place t.records) gone ∙ remaining_none t.place t.records ∙ sym (ap (λ (v : Windowed). v.text ++ ending v.records v.place) nothing); sound = sound_left stage.Ending }, omega arith)

  asking : w.stopped ≡ false → ltb 0 w.used ≡ false → last ≡ false → FairBy printing size last (state stage.Lines t) h more (stepped stage.Lines next.Read w) next.Read
  asking e f g = (record { gives = tells.going e; sound = sound_left stage.Lines }, omega arith, g, omega (arith, waits_short h (rw g at (waiting e f))))

  lines_fair : FairBy printing size last (state stage.Lines t) h more (lines_of last t h) (lines_of last t h).next
  unfolding lines_of
  lines_fair = go w.stopped refl (ltb 0 w.used) refl last refl
    where
      go : (a : Bool) → w.stopped ≡ a → (b : Bool) → ltb 0 w.used ≡ b → (c : Bool) → last ≡ c → FairBy printing size last (state stage.Lines t) h more (by_listed last w) (by_listed last w).next
      go true e b f c g = rw e (stopping e)
      go false e true f c g = rw (e, f) (going e f)
      go false e false f true g = let p = ended e f g in rw (e, f, g) (rw g at p)
      go false e false f false g = let p = asking e f g in rw (e, f, g) (rw g at p)

-- ── every step ──

list_fair : Fair printing size step_of
unfolding step_of lines_of
list_fair = record { within = λ last st h. within last st.stage st.tally h; fair = λ last st h more final short sound. by last st.stage st.tally h more final sound }
  where
    listed : (w : Windowed) (n : ℕ) → w.used ≤ n → (a b c : Bool) →
        (pick a (stepped stage.Ending next.Again w) (pick b (stepped stage.Lines next.Again w) (pick c (stepped stage.Ending next.Again w) (stepped stage.Lines next.Read w)))).used ≤ n
    listed w n k true b c = k
    listed w n k false true c = k
    listed w n k false false true = k
    listed w n k false false false = k

    within : (last : Bool) (g : Stage) (t : Tally) (h : List ℕ) → (step_at g last t h).used ≤ length h
    within last stage.Heading t h = omega arith
    within last stage.Lines t h =
        let w = window_of last size h t.place t.records in
        listed w (length h) (window_used last size h t.place t.records) w.stopped (ltb 0 w.used) last
    within last stage.Ending t h = omega arith

    by : (last : Bool) (g : Stage) (t : Tally) (h more : List ℕ) → (last ≡ true → more ≡ []) → printing.Sound (state g t) (h ++ more) → FairBy printing size last (state g t) h more (step_at g last t h) (step_at g last t h).next
    by last stage.Heading t h more final sound = (record { gives = refl; sound = sound }, omega arith)
    by last stage.Lines t h more final sound = lines_fair last t h more final sound
    by last stage.Ending t h more final sound = refl

-- whatever the window holds before the first turn
pub pieces_listed : (window : List ℕ) (pieces : List (List ℕ)) → length window ≡ size → length (whole pieces) < 2 ^ 64 → (n : ℕ) → 2 * length (whole pieces) + 4 ≤ n →
    run (λ a b. a ++ b) size step_of n window none fresh pieces ≡ some (listing (whole pieces))
unfolding listing
pieces_listed window pieces long short n h = pieces_given printing size step_of list_fair (lit≤ tt) window fresh pieces long (omega arith, omega arith) n (omega arith)
