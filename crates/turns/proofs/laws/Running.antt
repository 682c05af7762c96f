-- However an input comes in pieces, what the turns give, one after the other, is what the whole gives; and the turns come to an end. What is
-- held and what has yet to come are, together, what is still to be treated: a step takes from what is held, and a read moves bytes from what
-- has yet to come. Each turn makes `cost` less: of the step's own turns, of a turn for each byte that is read, and of one for the end.
-- Assumes nothing.
use Rattle.std.proofs.Common.{◌≡◌, ℕ, zero, suc, ◌+◌, ◌-◌, ◌%◌, ◌^◌, ◌<◌, ◌≤◌, Bool, true, false, eqb, List, [], ◌∷◌, ◌++◌, length, take, drop, sym, refl, ap, ◌∙◌, subst, append_assoc, not-suc-le-zero, arith, length-append, length-drop, take-append-drop, length-take, length-take-le, drop-drop, take-add, drop_at, eqb-true}
use mathlib.Core.Option.{some}
use borrow.Author.Tests.{eqb-false}
use lib.Seq.{drop-append-le, take-append_seam}
use Rattle.layout.specs.Answer.{pick}
use Rattle.layout.proofs.laws.Numbers.{zero_one}
use Rattle.layout.proofs.laws.Words.{no_bytes}
use Rattle.turns.specs.declared.Hold.{Hold}
use Rattle.turns.specs.declared.Next.{Next}
use Rattle.turns.specs.declared.Next.TheVariants as next
use Rattle.turns.specs.Held.{holds, none, rest, fronted, filled}
use Rattle.turns.specs.Turn.{Step, Stepping, after_step, turn_of}
use Rattle.turns.specs.Run.{whole, Came, read_of, onto, run}
use Rattle.turns.specs.Fair.{Meaning, Onward, FairBy, Fair}

-- ── lists ──

-- a part without its first bytes
drop_part : (u n : ℕ) (l : List ℕ) → u ≤ length (take n l) → drop u (take n l) ≡ take (n - u) (drop u l)
drop_part u n l h =
    let k = length-take n l in
    let e : n ≡ u + (n - u) = omega arith in
    ap (λ m. drop u (take m l)) e ∙ ap (drop u) (take-add u (n - u) l) ∙ drop_at (take u l) (take (n - u) (drop u l)) u (length-take-le u l (omega arith))

-- ── a read ──

record Reads (room : ℕ) (ps : List (List ℕ)) (r : Came) : Type 0 where
  pub all : r.bytes ++ whole r.later ≡ whole ps
  pub fits : length r.bytes ≤ room
  pub end : length r.bytes ≤ 0 → length (whole ps) ≤ 0

reads : (room : ℕ) → 0 < room → (ps : List (List ℕ)) → Reads room ps (read_of room ps)
reads room h [] = record { all = refl; fits = omega arith; end = λ _. omega arith }
reads room h ([] ∷ ps) = let r = reads room h ps in record { all = r.all; fits = r.fits; end = r.end }
reads room h ((b ∷ bs) ∷ ps) = record {
  all = sym (append_assoc (take room (b ∷ bs)) (drop room (b ∷ bs)) (whole ps)) ∙ ap (λ l. l ++ whole ps) (take-append-drop room (b ∷ bs));
  fits = omega (arith, length-take room (b ∷ bs));
  end = λ e. absurd (front room h e);
}
  where
    front : (n : ℕ) → 0 < n → length (take n (b ∷ bs)) ≤ 0 → ⊥
    front zero h e = not-suc-le-zero h
    front (suc n) h e = not-suc-le-zero e

-- ── what is held ──

-- no more than the window has from there on
pub rest_most : (window : List ℕ) (from held : ℕ) → length (rest window from held) ≤ length window - from
unfolding rest
rest_most window from held = omega (arith, length-take (held - from) (drop from window), length-drop from window)

pub rest_none : (window : List ℕ) → rest window 0 0 ≡ []
unfolding rest
rest_none window = refl

-- after u bytes of it were used
pub rest_less : (window : List ℕ) (from held u : ℕ) → u ≤ length (rest window from held) → rest window (from + u) held ≡ drop u (rest window from held)
unfolding rest
rest_less window from held u h =
    let e : held - (from + u) ≡ held - from - u = omega arith in
    rw (e, ← drop-drop u from window) (sym (drop_part u (held - from) (drop from window) h))

-- after it moved to the front and bs came
module _ (window h bs : List ℕ) (room : length h + length bs ≤ length window) where
  rest_more : rest (filled (fronted h window) (length h) bs) 0 (length h + length bs) ≡ h ++ bs
  unfolding rest
  rest_more =
      let e : length h + length bs - 0 ≡ length (h ++ bs) = omega (arith, length-append h bs) in
      rw (e, take-append_seam h (drop (length h) window)) (take-append_seam (h ++ bs) (drop (length h + length bs) (fronted h window)))

  filled_long : length (filled (fronted h window) (length h) bs) ≡ length window
  filled_long =
      rw (take-append_seam h (drop (length h) window))
      (omega (
        arith,
        length-append (h ++ bs) (drop (length h + length bs) (fronted h window)),
        length-append h bs,
        length-drop (length h + length bs) (fronted h window),
        length-append h (drop (length h) window),
        length-drop (length h) window,
      ))

-- ── a turn, by what is next ──

module _ {S O : Type 0} (join : O → O → O) (size : ℕ) (step : Stepping S O) (n : ℕ) (window : List ℕ) (h : Hold) (s : S) (ps : List (List ℕ)) where
  abbrev bytes : List ℕ
  bytes = rest window h.from h.held

  abbrev d : Step S O
  d = step h.ended s bytes

  turn_again : d.next ≡ next.Again → run join size step (suc n) window h s ps ≡ onto join d.text (run join size step n window (holds (h.from + d.used) h.held h.ended) d.state ps)
  unfolding run turn_of
  turn_again e = rw e

  abbrev left : List ℕ
  left = drop d.used bytes

  abbrev came : Came
  came = read_of (size - length left) ps

  turn_read : d.next ≡ next.Read →
      run join size step (suc n) window h s ps ≡
      onto join d.text (run join size step n (filled (fronted left window) (length left) came.bytes) (holds 0 ((length left + length came.bytes) % 2 ^ 64) (eqb (length came.bytes) 0)) d.state came.later)
  unfolding run turn_of
  turn_read e = rw e

  turn_stop : d.next ≡ next.Stop → run join size step (suc n) window h s ps ≡ some d.text
  unfolding run turn_of
  turn_stop e = rw e

-- where a turn says to read, the bytes that are held stand in the window
module _ {S O : Type 0} (step : Stepping S O) (window : List ℕ) (h : Hold) (s : S) where
  pub read_within : (turn_of step window h s).next ≡ next.Read → (turn_of step window h s).hold.held ≤ length (turn_of step window h s).window
  unfolding turn_of
  read_within e = go (step h.ended s (rest window h.from h.held)).next e
    where
      b : List ℕ
      b = rest window h.from h.held

      d : Step S O
      d = step h.ended s b

      go : (x : Next) → (after_step x window h b d).next ≡ next.Read → (after_step x window h b d).hold.held ≤ length (after_step x window h b d).window
      go next.Again e = zero_one (cc)
      go next.Read e = omega (arith, length-append (drop d.used b) (drop (length (drop d.used b)) window))
      go next.Stop e = zero_one (cc)

-- ── all turns ──

module _ {S O : Type 0} (m : Meaning S O) (size : ℕ) (step : Stepping S O) (f : Fair m size step) (small : size < 2 ^ 64) where
  abbrev ahead : List ℕ → Hold → List (List ℕ) → List ℕ
  ahead window h ps = rest window h.from h.held ++ whole ps

  -- turns that are left at most
  abbrev cost : S → List ℕ → List (List ℕ) → Bool → ℕ
  cost s bs ps ended = m.turns s (length bs) + length (whole ps) + pick ended 0 1

  abbrev Gives : ℕ → Type 0
  Gives n =
      (window : List ℕ) (h : Hold) (s : S) (ps : List (List ℕ)) → length window ≡ size → (h.ended ≡ true → length (whole ps) ≤ 0) → m.Sound s (ahead window h ps) →
      cost s (ahead window h ps) ps h.ended < n → run m.join size step n window h s ps ≡ some (m.all s (ahead window h ps))

  -- one turn, if those after it give what remains then
  module _ (n : ℕ) (later : Gives n) (window : List ℕ) (h : Hold) (s : S) (ps : List (List ℕ)) (long : length window ≡ size) (last : h.ended ≡ true → length (whole ps) ≤ 0)
      (sound : m.Sound s (ahead window h ps)) (c : cost s (ahead window h ps) ps h.ended < suc n) where
    abbrev b : List ℕ
    b = rest window h.from h.held

    abbrev e : Step S O
    e = step h.ended s b

    abbrev all_given : Type 0
    all_given = run m.join size step (suc n) window h s ps ≡ some (m.all s (ahead window h ps))

    used : e.used ≤ length b
    used = f.within h.ended s b

    -- what is left, with what has yet to come
    passed : drop e.used b ++ whole ps ≡ drop e.used (b ++ whole ps)
    passed = sym (drop-append-le e.used b (whole ps) used)

    given : {r : List ℕ} → r ≡ drop e.used (b ++ whole ps) → Onward m s (b ++ whole ps) e → onto m.join e.text (some (m.all e.state r)) ≡ some (m.all s (b ++ whole ps))
    given is o = ap (λ r. some (m.join e.text (m.all e.state r))) is ∙ ap some (sym o.gives)

    turns_so : {r : List ℕ} → r ≡ drop e.used (b ++ whole ps) → m.turns e.state (length r) ≡ m.turns e.state (length (b ++ whole ps) - e.used)
    turns_so is = ap (m.turns e.state) (ap length is ∙ length-drop e.used (b ++ whole ps))

    after_again : e.next ≡ next.Again → FairBy m size h.ended s b (whole ps) e next.Again → all_given
    after_again g p =
        let k = holds (h.from + e.used) h.held h.ended in
        let same : ahead window k ps ≡ drop e.used (b ++ whole ps) = ap (λ l. l ++ whole ps) (rest_less window h.from h.held e.used used) ∙ passed in
        let on = later window k e.state ps long last (subst (m.Sound e.state) (sym same) p.0.sound) (omega (arith, turns_so same, p.1)) in
        turn_again m.join size step n window h s ps g ∙ ap (onto m.join e.text) on ∙ given same p.0

    after_read : e.next ≡ next.Read → FairBy m size h.ended s b (whole ps) e next.Read → all_given
    after_read g p =
        let l = drop e.used b in
        let short = length-drop e.used b in
        let r = read_of (size - length l) ps in
        let q = reads (size - length l) (omega (arith, p.3)) ps in
        let fits : length l + length r.bytes ≤ length window = omega (arith, q.fits, p.3) in
        let unwrapped : (length l + length r.bytes) % 2 ^ 64 ≡ length l + length r.bytes = omega (arith, small) in
        let after = filled (fronted l window) (length l) r.bytes in
        let more : rest after 0 ((length l + length r.bytes) % 2 ^ 64) ≡ l ++ r.bytes = ap (rest after 0) unwrapped ∙ rest_more window l r.bytes fits in
        let k = holds 0 ((length l + length r.bytes) % 2 ^ 64) (eqb (length r.bytes) 0) in
        let same : ahead after k r.later ≡ drop e.used (b ++ whole ps) = ap (λ v. v ++ whole r.later) more ∙ append_assoc l r.bytes (whole r.later) ∙ ap (λ v. l ++ v) q.all ∙ passed in
        let on = later after k e.state r.later (filled_long window l r.bytes fits ∙ long) (ends_too q) (subst (m.Sound e.state) (sym same) p.0.sound)
        (cheaper q (ahead after k r.later) (turns_so same) p.1 p.2) in
        turn_read m.join size step n window h s ps g ∙ ap (onto m.join e.text) on ∙ given same p.0
      where
        ends_too : {room : ℕ} {r : Came} → Reads room ps r → eqb (length r.bytes) 0 ≡ true → length (whole r.later) ≤ 0
        ends_too {r = r} q x = let z = eqb-true (length r.bytes) 0 x in omega (arith, q.end (omega arith), ap length q.all, length-append r.bytes (whole r.later))

        cheaper : {room : ℕ} {r : Came} → Reads room ps r → (u : List ℕ) → m.turns e.state (length u) ≡ m.turns e.state (length (b ++ whole ps) - e.used) →
            m.turns e.state (length (b ++ whole ps) - e.used) ≤ m.turns s (length (b ++ whole ps)) → h.ended ≡ false → cost e.state u r.later (eqb (length r.bytes) 0) < n
        cheaper {r = r} q u is le open-still = go (eqb (length r.bytes) 0) refl
          where
            due : ◌≡◌ {A = ℕ} (pick h.ended 0 1) 1
            due = rw open-still

            go : (a : Bool) → eqb (length r.bytes) 0 ≡ a → m.turns e.state (length u) + length (whole r.later) + pick a 0 1 < n
            go true x = omega (arith, is, le, due, c, length-append r.bytes (whole r.later), ap length q.all)
            go false x = omega (arith, is, le, due, c, length-append r.bytes (whole r.later), ap length q.all, eqb-false (length r.bytes) 0 x)

    next_given : all_given
    next_given = go e.next refl (f.fair h.ended s b (whole ps) (λ x. no_bytes (whole ps) (last x)) (omega (arith, rest_most window h.from h.held)) sound)
      where
        go : (x : Next) → e.next ≡ x → FairBy m size h.ended s b (whole ps) e x → all_given
        go next.Again g p = after_again g p
        go next.Read g p = after_read g p
        go next.Stop g p = turn_stop m.join size step n window h s ps g ∙ ap some (sym p)

  pub gives : (n : ℕ) → Gives n
  gives zero = λ window h s ps long last sound c. absurd (not-suc-le-zero c)
  gives (suc n) = λ window h s ps long last sound c. next_given n (gives n) window h s ps long last sound c

  -- from the first turn on, whatever the window holds before it
  pub pieces_given : (window : List ℕ) (s : S) (pieces : List (List ℕ)) → length window ≡ size → m.Sound s (whole pieces) → (n : ℕ) → m.turns s (length (whole pieces)) + length (whole pieces) + 1 < n →
      run m.join size step n window none s pieces ≡ some (m.all s (whole pieces))
  unfolding rest
  pieces_given window s pieces long sound n c = gives n window none s pieces long (λ e. zero_one (cc)) sound c
