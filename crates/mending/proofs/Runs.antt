-- However a recording comes in pieces, what the turns write and tell, one after the other, is its mending, and the turns come to an end: the
-- step's laws, of which `turns` proves that. A byte costs two turns until it is mended, and a stretch that is open one until it is closed. A
-- window of which nothing was used waits: for nothing where the input has ended, and else for the rest of a record, which is shorter than it.
-- Assumes nothing.
use Rattle.std.proofs.Common.{◌≡◌, ℕ, ◌+◌, ◌-◌, ◌*◌, ◌%◌, ◌^◌, ◌<◌, ◌≤◌, Bool, true, false, ltb, leb, List, [], ◌∷◌, ◌++◌, length, drop, sym, refl, ap, ◌∙◌, append_assoc, append-nil, not-suc-le-zero, zero-add, arith, lit≤, length-append, length-drop, ltb-false, ltb-true, le-leb, leb-false, leb-true}
use mathlib.Core.Option.{some}
use Rattle.layout.specs.Answer.{Told, Answer, got, refused, pick}
use Rattle.layout.proofs.laws.Accepted.{accepted}
use Rattle.layout.proofs.laws.Numbers.{zero_one}
use Rattle.wire.specs.declared.Part.{Part}
use Rattle.turns.specs.declared.Next.{Next}
use Rattle.turns.specs.declared.Next.TheVariants as next
use Rattle.turns.specs.Held.{none}
use Rattle.turns.specs.Run.{whole, run}
use Rattle.turns.specs.Fair.{Meaning, Onward, FairBy, Fair}
use Rattle.turns.proofs.laws.Running.{pieces_given}
use Rattle.recording.specs.Content.{Record}
use Rattle.recording.specs.Record.{limit, record_of}
use Rattle.recording.specs.Row.{waits}
use Rattle.recording.proofs.laws.Rowed.{Stands, record_stands}
use Rattle.mending.specs.declared.window.Tally.{Tally}
use Rattle.mending.specs.Mended.{kept_of, mend_said, dropped_of, lengths_of}
use Rattle.mending.specs.Report.{stretch_lines, report_of}
use Rattle.mending.specs.Laid.{total, Tiles, all_laid, next_kept, next_dropped}
use Rattle.mending.specs.Window.{tally, fresh, closed, opened, Windowed, rests, sane, sweep_of, window_of}
use Rattle.mending.specs.Turn.{size, slots, State, state, Given, given, both, went_on, last_line, reported, after_mending, stepped, by_mended, step_of}
use Rattle.mending.proofs.Sweeping.{Sound, sane_by, sweep_none, sweep_waits, sweep_refused, sweep_got, sweep_room, sweep_slots}
use Rattle.mending.proofs.Stretched.{stretch_none}
use Rattle.mending.proofs.Going.{closes_so, window_so}
use Rattle.mending.proofs.Cutting.{text, told, parts, text_whole, told_whole, parts_whole, text_none, told_none, parts_none}
use Rattle.mending.proofs.MendedExact.{pieces_tile, lengths}
use Rattle.mending.proofs.Room.{kept_long}
use Rattle.mending.proofs.Reporting.{lines_append, no_lines}
use Rattle.mending.proofs.Turning.{used_most}
use Rattle.mending.proofs.Windows.{Tells, window_tells, moves_on, stretch_few, sound_left}

-- ── a window of which nothing was used ──

no_parts : (ps : List Part) → length ps ≤ 0 → ps ≡ []
no_parts [] h = refl
no_parts (p ∷ ps) h = absurd (not-suc-le-zero h)

-- nothing was told, and nothing changed; or the open stretch was told
data Unused (t : Tally) (w : Windowed) : Type 0 where
  still : w ≡ rests t → Unused t w
  told_it : w ≡ record { text = []; told = opened t; used = 0; tally = closed t } → Unused t w

unused : (last : Bool) (room slots : ℕ) (s : List ℕ) (t : Tally) → (sweep_of last room slots s t).used ≡ 0 → Unused t (sweep_of last room slots s t)
unused last room slots s t none = go (ltb 0 (length s)) refl (record_of s) refl
  where
    closing : (a b : Bool) → Unused t (pick a (pick b (record { text = []; told = opened t; used = 0; tally = closed t }) (rests t)) (rests t))
    closing true true = told_it refl
    closing true false = still refl
    closing false b = still refl

    kept : {x : Record} {n : ℕ} → 0 < length s → got x n ≡ record_of s → (a : Bool) → leb n room ≡ a → (b : Bool) → leb (length (opened t)) slots ≡ b → Unused t (sweep_of last room slots s t)
    kept {x} {n} h e true a true b =
        let p = accepted (Stands s) (record_stands s) e in
        let step = ap (λ (w : Windowed). w.used) (sweep_got last room slots s t h e (leb-true n room a) (leb-true (length (opened t)) slots b)) in
        let z : ⊥ = omega (arith, p.till, none, step) in
        absurd z
    kept {x} {n} h e true a false b = still (sweep_slots last room slots s t h e (leb-false (length (opened t)) slots b))
    kept {x} {n} h e false a b c = still (sweep_room last room slots s t h e (leb-false n room a))

    dropped : {u : Told} → 0 < length s → refused u ≡ record_of s → (b : Bool) → waits last s ≡ b → Unused t (sweep_of last room slots s t)
    dropped h e true w = still (sweep_waits last room slots s t h w)
    dropped h e false w =
        let step = ap (λ (w : Windowed). w.used) (sweep_refused last room slots s t h w e) in
        let z : ⊥ = omega (arith, none, step) in
        absurd z

    go : (b : Bool) → ltb 0 (length s) ≡ b → (x : Answer Record) → x ≡ record_of s → Unused t (sweep_of last room slots s t)
    go false e x f = rw (sweep_none last room slots s t (ltb-false 0 (length s) e)) (closing last (leb (length (opened t)) slots))
    go true e (got x n) f = kept (ltb-true 0 (length s) e) f (leb n room) refl (leb (length (opened t)) slots) refl
    go true e (refused u) f = dropped (ltb-true 0 (length s) e) f (waits last s) refl

-- ── what the whole gives ──

abbrev flag : Tally → ℕ
flag t = pick (ltb 0 t.untold) 1 0

flag_most : (t : Tally) → flag t ≤ 1
flag_most t = go (ltb 0 t.untold)
  where
    go : (b : Bool) → pick b 1 0 ≤ 1
    go true = omega arith
    go false = omega arith

-- where the program stands after all
abbrev at-end : State → List ℕ → State
at-end st s =
    let t = st.tally in
    state (st.stretches + length (told t.place t.untold s)) (tally (t.place + length s) (t.records + length (parts t.place s)) (t.bytes + length (text t.place s)) 0)

abbrev to_give : State → List ℕ → Given
to_give st s =
    let t = st.tally in
    given (text t.place s) (told t.place t.untold s) (stretch_lines (told t.place t.untold s) ++ last_line (at-end st s)) (at-end st s)

abbrev mending : Meaning State Given
mending = record {
  join = both;
  all = to_give;
  Sound = λ st s. Sound st.tally (length s) × (st.stretches + length (told st.tally.place st.tally.untold s) < 2 ^ 64);
  turns = λ st n. 2 * n + flag st.tally;
}

given_same : {a a' : List ℕ} {b b' : List Part} {c c' : List ℕ} {e e' : State} → a ≡ a' → b ≡ b' → c ≡ c' → e ≡ e' → given a b c e ≡ given a' b' c' e'
given_same e f g h = rw (e, f, g, h)

state_same : {n n' p p' r r' k k' u u' : ℕ} → n ≡ n' → p ≡ p' → r ≡ r' → k ≡ k' → u ≡ u' → state n (tally p r k u) ≡ state n' (tally p' r' k' u')
state_same g h i j l = rw (g, h, i, j, l)

-- ── a step ──

module _ (last : Bool) (st : State) (h more : List ℕ) (final : last ≡ true → more ≡ []) (sound : mending.Sound st (h ++ more)) where
  abbrev t : Tally
  t = st.tally

  abbrev s : List ℕ
  s = h ++ more

  abbrev w : Windowed
  w = window_of last size slots h t

  q : Tells t s w
  q = window_tells last more final size slots h t sound.0

  -- the tally is one of a recording
  swept : w ≡ sweep_of last size slots h t
  swept =
      let k = sound.0 in
      let fit : sane t (length h) ≡ true = sane_by t (length h) (omega (arith, k.0, length-append h more)) k.1 ∙ le-leb t.records t.bytes k.2 in
      window_so last size slots h t fit

  abbrev later : List Part
  later = told w.tally.place w.tally.untold (drop w.used s)

  -- the stretches add up
  adds : (st.stretches + length w.told) % 2 ^ 64 ≡ st.stretches + length w.told
  adds = omega (arith, sound.1, ap length q.tells, length-append w.told later)

  onward : (x : Next) → reported x (after_mending st w) w.told ≡ stretch_lines w.told → Onward mending st s (stepped x st w)
  onward x lines =
      let left = length-drop w.used s in
      let n = ap length q.tells ∙ length-append w.told later in
      let bytes = ap length q.out ∙ length-append w.text (text w.tally.place (drop w.used s)) in
      let end : at-end st s ≡ at-end (after_mending st w) (drop w.used s) = state_same (omega (arith, adds, n)) (omega (arith, q.placed, q.within, left)) q.counts (omega (arith, q.bytes, bytes)) refl in
      let told_so = ap stretch_lines q.tells ∙ lines_append w.told later ∙ ap (λ v. v ++ stretch_lines later) (sym lines) in
      let report = ap (λ v. v ++ last_line (at-end st s)) told_so ∙ append_assoc (reported x (after_mending st w) w.told) (stretch_lines later) (last_line (at-end st s)) ∙ ap (λ v. reported x (after_mending st w) w.told ++ (stretch_lines later ++ last_line v)) end in
      record {
        gives = given_same q.out q.tells report end;
        sound = (sound_left q, omega (arith, adds, n, sound.1));
      }

  -- nothing was used: the flag is no more
  flag_less : w.used ≡ 0 → (flag w.tally ≤ flag t) × (0 < length w.told → flag w.tally < flag t)
  flag_less e = go (rw (sym swept) at (unused last size slots h t (sym (ap (λ (x : Windowed). x.used) swept) ∙ e)))
    where
      opening : (b : Bool) → ltb 0 t.untold ≡ b → 0 < length (opened t) → 0 < pick b 1 0
      opening true f k = omega arith
      opening false f k =
          let none_open : t.untold ≡ 0 = omega (arith, ltb-false 0 t.untold f) in
          let z : ⊥ = omega (arith, k, ap length (stretch_none t.place none_open)) in
          absurd z

      go : Unused t w → (flag w.tally ≤ flag t) × (0 < length w.told → flag w.tally < flag t)
      go (still f) =
          let same : flag w.tally ≡ flag t = ap (λ (x : Windowed). flag x.tally) f in
          let empty : length w.told ≡ 0 = ap (λ (x : Windowed). length x.told) f in
          (omega arith, λ k. let z : ⊥ = omega (arith, k, empty) in absurd z)
      go (told_it f) =
          let nothing : flag w.tally ≡ 0 = ap (λ (x : Windowed). flag x.tally) f in
          let all : length w.told ≡ length (opened t) = ap (λ (x : Windowed). length x.told) f in
          (omega arith, λ k. omega (arith, nothing, opening (ltb 0 t.untold) refl (omega (arith, k, all))))

  going : went_on w.used (length w.told) ≡ true → FairBy mending size last st h more (stepped next.Again st w) next.Again
  going e = (onward next.Again refl, go (ltb 0 w.used) refl e)
    where
      go : (b : Bool) → ltb 0 w.used ≡ b → pick b true (ltb 0 (length w.told)) ≡ true → 2 * (length s - w.used) + flag w.tally < 2 * length s + flag t
      go true f g = omega (arith, ltb-true 0 w.used f, q.within, flag_most w.tally)
      go false f g =
          let nothing : w.used ≡ 0 = omega (arith, ltb-false 0 w.used f) in
          omega (arith, nothing, (flag_less nothing).1 (ltb-true 0 (length w.told) g))

  -- ── where nothing was done ──

  module _ (rested : went_on w.used (length w.told) ≡ false) where
    none_used : w.used ≡ 0
    none_used = go (ltb 0 w.used) refl rested
      where
        go : (b : Bool) → ltb 0 w.used ≡ b → pick b true (ltb 0 (length w.told)) ≡ false → w.used ≡ 0
        go true e f = zero_one (cc)
        go false e f = omega (arith, ltb-false 0 w.used e)

    none_told : w.told ≡ []
    none_told = no_parts w.told (go (ltb 0 w.used) refl rested)
      where
        go : (b : Bool) → ltb 0 w.used ≡ b → pick b true (ltb 0 (length w.told)) ≡ false → length w.told ≤ 0
        go true e f = zero_one (cc)
        go false e f = ltb-false 0 (length w.told) f

    -- there are too few bytes for that
    stuck : 0 < length h → (last ≡ false → 6 + limit ≤ length h) → ⊥
    stuck few much = let u = moves_on last size slots h t (omega arith) (omega arith) few much in omega (arith, u, ap (λ (x : Windowed). x.used) swept, none_used)

    asking : last ≡ false → FairBy mending size last st h more (stepped next.Read st w) next.Read
    asking g = (onward next.Read (sym (ap stretch_lines none_told ∙ no_lines)), omega (arith, none_used, (flag_less none_used).0), g, go (leb (6 + limit) (length h)) refl)
      where
        go : (b : Bool) → leb (6 + limit) (length h) ≡ b → length h - w.used < size
        go true e = let much = leb-true (6 + limit) (length h) e in absurd (stuck (omega (arith, much)) (λ _. much))
        go false e = omega (arith, leb-false (6 + limit) (length h) e)

    -- the input has ended: nothing is held, and the stretch that was open is told
    module _ (ended : last ≡ true) where
      nothing_held : length h ≤ 0
      nothing_held = go (ltb 0 (length h)) refl
        where
          go : (b : Bool) → ltb 0 (length h) ≡ b → length h ≤ 0
          go true e = absurd (stuck (ltb-true 0 (length h) e) (λ f. zero_one (cc)))
          go false e = ltb-false 0 (length h) e

      closed_so : w.tally.untold ≡ 0
      closed_so =
          let one : leb (length (opened t)) slots ≡ true = le-leb (length (opened t)) slots (omega (arith, stretch_few t.place t.untold)) in
          ap (λ (x : Windowed). x.tally.untold) (swept ∙ sweep_none last size slots h t nothing_held ∙ closes_so last slots t ended one)

      stopping : FairBy mending size last st h more (stepped next.Stop st w) next.Stop
      stopping =
          let empty : length s ≤ 0 = omega (arith, length-append h more, nothing_held, ap length (final ended)) in
          let left : length (drop w.used s) ≤ 0 = omega (arith, length-drop w.used s) in
          let bytes = q.out ∙ ap (λ v. w.text ++ v) (text_none w.tally.place (drop w.used s) left) ∙ append-nil w.text in
          let stretches = q.tells ∙ ap (λ ps. w.told ++ ps) (told_none w.tally.place (drop w.used s) w.tally.untold left ∙ stretch_none w.tally.place closed_so) ∙ append-nil w.told in
          let end : at-end st s ≡ after_mending st w =
          state_same (omega (arith, adds, ap length stretches)) (omega (arith, q.placed, q.within, empty)) (omega (arith, q.counts, ap length (parts_none w.tally.place (drop w.used s) left))) (omega (arith, q.bytes, ap length bytes)) (sym closed_so) in
          given_same bytes stretches (ap (λ v. v ++ last_line (at-end st s)) (ap stretch_lines (stretches ∙ none_told) ∙ no_lines) ∙ ap last_line end) end

  mended : FairBy mending size last st h more (by_mended last st w) (by_mended last st w).next
  mended = go (went_on w.used (length w.told)) refl last refl
    where
      go : (a : Bool) → went_on w.used (length w.told) ≡ a → (b : Bool) → last ≡ b → FairBy mending size last st h more (by_mended last st w) (by_mended last st w).next
      go true e b f = rw e (going e)
      go false e true f = let p = stopping e f in rw (e, f) (rw f at p)
      go false e false f = let p = asking e f in rw (e, f) (rw f at p)

-- ── every step ──

mend_fair : Fair mending size step_of
unfolding step_of
mend_fair = record {
  within = λ last st h. let w = window_of last size slots h st.tally in used_in st w (length h) (used_most last size slots h st.tally) (went_on w.used (length w.told)) last;
  fair = λ last st h more final short sound. mended last st h more final sound;
}
  where
    used_in : (st : State) (w : Windowed) (n : ℕ) → w.used ≤ n → (a b : Bool) → (pick a (stepped next.Again st w) (pick b (stepped next.Stop st w) (stepped next.Read st w))).used ≤ n
    used_in st w n k true b = k
    used_in st w n k false true = k
    used_in st w n k false false = k

-- ── the whole run ──

tiles_count : {from end : ℕ} {ks ds : List Part} → Tiles from ks ds end → from + length ds ≤ end
tiles_count (all_laid e) = omega arith
tiles_count (next_kept e h t) = omega (arith, tiles_count t)
tiles_count (next_dropped e h t) = omega (arith, tiles_count t)

-- what is told of the whole
report_whole : (s : List ℕ) → length s < 2 ^ 64 → stretch_lines (told 0 0 s) ++ last_line (at-end (state 0 fresh) s) ≡ report_of s
report_whole s h =
    let sum : (0 + length s + 2 ^ 64 - (0 + length (text 0 s))) % 2 ^ 64 ≡ total (lengths_of (dropped_of s)) = omega (arith, ap length (text_whole s), kept_long s, lengths s) in
    rw (sum, told_whole s, parts_whole s, ← text_whole s, zero-add (length (dropped_of s)), zero-add (length (kept_of s)), zero-add (length (mend_said s)))

-- whatever the window holds before the first turn: what comes out is the mended recording, what is told its stretches, what is reported their lines and the counts, and the program stands at the end
pub runs_mended : (window : List ℕ) (pieces : List (List ℕ)) → length window ≡ size → length (whole pieces) < 2 ^ 64 → (n : ℕ) → 3 * length (whole pieces) + 2 ≤ n →
    run both size step_of n window none (state 0 fresh) pieces ≡
    some (given (mend_said (whole pieces)) (dropped_of (whole pieces)) (report_of (whole pieces)) (state (length (dropped_of (whole pieces))) (tally (length (whole pieces)) (length (kept_of (whole pieces))) (length (mend_said (whole pieces))) 0)))
runs_mended window pieces wide short n h =
    let s = whole pieces in
    let few : 0 + length (told 0 0 s) < 2 ^ 64 = omega (arith, ap length (told_whole s), tiles_count (pieces_tile s)) in
    pieces_given mending size step_of mend_fair (lit≤ tt) window (state 0 fresh) pieces wide ((omega arith, omega arith, omega arith), few) n (omega arith)
    ∙ ap some (given_same (sym (text_whole s)) (told_whole s) (report_whole s short)
    (state_same (omega (arith, ap length (told_whole s))) (omega arith) (omega (arith, ap length (parts_whole s))) (omega (arith, ap length (text_whole s))) refl))
