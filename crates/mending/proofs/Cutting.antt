-- Laws of the pieces: a piece at a time, with fuel enough; the kept bytes and the stretches along them; and past a gap or a row of records at once.
-- Assumes nothing.
use Rattle.std.proofs.Common.{◌≡◌, ℕ, zero, suc, ◌+◌, ◌-◌, ◌<◌, ◌≤◌, Bool, true, false, ltb, List, [], ◌∷◌, ◌++◌, length, take, drop, sym, refl, ap, ◌∙◌, append-nil, not-suc-le-zero, arith, length-append, length-drop, length-take-le, drop-drop, ltb-false, ltb-true, le-ltb, lt-ltb}
use Rattle.layout.specs.Answer.{Answer, Told, got, refused, pick}
use Rattle.layout.proofs.laws.Accepted.{Accepts, accepted, accepts_all}
use Rattle.layout.proofs.laws.Numbers.{zero_one}
use Rattle.wire.specs.declared.Part.{Part}
use Rattle.recording.specs.Content.{Record}
use Rattle.recording.specs.Record.{record_of}
use Rattle.recording.specs.Row.{waits}
use Rattle.recording.proofs.laws.Rowed.{Stands, record_stands}
use Rattle.mending.specs.declared.search.Run.{Run}
use Rattle.mending.specs.Mended.{part, Piece, kept, dropped, pieced, cut_from, cut_at, kept_in, kept_of, parts_of, mend_said, stretch, joined_in, dropped_of}
use Rattle.mending.specs.Passed.{Drops, none_dropped, one_dropped, Keeps, none_kept, one_kept, Held, at-end, waiting, stands, Ended, no_bytes, stands_none, no_room, Gap, Row}
use Rattle.mending.proofs.Sweeping.{drops_least, keeps_least, keeps_none, some_bytes}

-- ── a piece at a time ──

pieced_same : (place : ℕ) (x : Answer Record) (f g : ℕ → List Piece) → Accepts (λ _ n. f n ≡ g n) x → f 1 ≡ g 1 → pieced place x f ≡ pieced place x g
pieced_same place (got x n) f g e d = ap (λ ps. kept (part place n) ∷ ps) e
pieced_same place (refused t) f g e d = ap (λ ps. dropped (part place 1) ∷ ps) d

cut_from_none : (f place : ℕ) (s : List ℕ) → length s ≤ 0 → cut_from f place s ≡ []
unfolding cut_from
cut_from_none zero place s h = refl
cut_from_none (suc f) place s h = rw (le-ltb 0 (length s) h)

enough : (f g place : ℕ) (s : List ℕ) → length s ≤ f → length s ≤ g → cut_from f place s ≡ cut_from g place s
unfolding cut_from
enough zero g place s h k = sym (cut_from_none g place s h)
enough (suc f) zero place s h k = cut_from_none (suc f) place s k
enough (suc f) (suc g) place s h k =
    ap (λ ps. pick (ltb 0 (length s)) ps [])
    (pieced_same place (record_of s) (λ n. cut_from f (place + n) (drop n s)) (λ n. cut_from g (place + n) (drop n s))
    (accepts_all (Stands s) _ (record_of s) (record_stands s) λ x n p. enough f g (place + n) (drop n s) (omega (arith, length-drop n s, p.till)) (omega (arith, length-drop n s, p.till)))
    (enough f g (place + 1) (drop 1 s) (omega (arith, length-drop 1 s)) (omega (arith, length-drop 1 s))))

cut_none : (place : ℕ) (s : List ℕ) → length s ≤ 0 → cut_at place s ≡ []
unfolding cut_at
cut_none place s h = cut_from_none (length s) place s h

cut_step : (place : ℕ) (s : List ℕ) → 0 < length s → cut_at place s ≡ pieced place (record_of s) (λ n. cut_at (place + n) (drop n s))
unfolding cut_at cut_from
cut_step place s h =
    enough (length s) (suc (length s)) place s (omega arith) (omega arith)
    ∙ rw (lt-ltb 0 (length s) h)
    (pieced_same place (record_of s) (λ n. cut_from (length s) (place + n) (drop n s)) (λ n. cut_from (length (drop n s)) (place + n) (drop n s))
    (accepts_all (Stands s) _ (record_of s) (record_stands s) λ x n p. enough (length s) (length (drop n s)) (place + n) (drop n s) (rw (length-drop n s) (omega arith)) (omega arith))
    (enough (length s) (length (drop 1 s)) (place + 1) (drop 1 s) (rw (length-drop 1 s) (omega arith)) (omega arith)))

cut_got : (place : ℕ) (s : List ℕ) {x : Record} {n : ℕ} → 0 < length s → got x n ≡ record_of s → cut_at place s ≡ kept (part place n) ∷ cut_at (place + n) (drop n s)
cut_got place s h e = cut_step place s h ∙ ap (λ y. pieced place y (λ n. cut_at (place + n) (drop n s))) (sym e)

cut_refused : (place : ℕ) (s : List ℕ) {t : Told} → 0 < length s → refused t ≡ record_of s → cut_at place s ≡ dropped (part place 1) ∷ cut_at (place + 1) (drop 1 s)
cut_refused place s h e = cut_step place s h ∙ ap (λ y. pieced place y (λ n. cut_at (place + n) (drop n s))) (sym e)

-- ── the kept bytes, the stretches and the number of records, from a place on ──

abbrev pub text_of : List ℕ → List Piece → List ℕ
text_of s [] = []
text_of s (kept p ∷ ps) = take p.count s ++ text_of (drop p.count s) ps
text_of s (dropped p ∷ ps) = text_of (drop p.count s) ps

unfoldable pub text : ℕ → List ℕ → List ℕ
text place s = text_of s (cut_at place s)

unfoldable pub told : ℕ → ℕ → List ℕ → List Part
told place untold s = joined_in place untold (cut_at place s)

unfoldable pub parts : ℕ → List ℕ → List Part
parts place s = kept_in (cut_at place s)

pub parts_whole : (s : List ℕ) → parts 0 s ≡ kept_of s
unfolding parts kept_of
parts_whole s = refl

pub told_whole : (s : List ℕ) → told 0 0 s ≡ dropped_of s
unfolding told dropped_of
told_whole s = refl

-- the bytes of the kept parts are those that are passed
parts_from : (f : ℕ) (s : List ℕ) (at : ℕ) → parts_of s (kept_in (cut_from f at (drop at s))) ≡ text_of (drop at s) (cut_from f at (drop at s))
unfolding cut_from kept_in parts_of
parts_from zero s at = refl
parts_from (suc f) s at = go (ltb 0 (length (drop at s))) (record_of (drop at s)) (parts_from f s)
  where
    go : (b : Bool) (x : Answer Record) → ((n : ℕ) → parts_of s (kept_in (cut_from f n (drop n s))) ≡ text_of (drop n s) (cut_from f n (drop n s))) →
        parts_of s (kept_in (pick b (pieced at x λ n. cut_from f (at + n) (drop n (drop at s))) [])) ≡ text_of (drop at s) (pick b (pieced at x λ n. cut_from f (at + n) (drop n (drop at s))) [])
    go true (got x n) on = rw (drop-drop n at s) (ap (λ v. take n (drop at s) ++ v) (on (at + n)))
    go true (refused t) on =
        ap (λ v. parts_of s (kept_in (cut_from f (at + 1) v))) (drop-drop 1 at s) ∙ on (at + 1) ∙ ap (λ v. text_of v (cut_from f (at + 1) v)) (sym (drop-drop 1 at s))
    go false x on = refl

pub text_whole : (s : List ℕ) → mend_said s ≡ text 0 s
unfolding mend_said kept_of text cut_at
text_whole s = parts_from (length s) s 0

-- ── each, a piece at a time ──

module _ (place : ℕ) (s : List ℕ) where
  pub text_none : length s ≤ 0 → text place s ≡ []
  unfolding text
  text_none h = rw (cut_none place s h)

  pub told_none : (untold : ℕ) → length s ≤ 0 → told place untold s ≡ stretch place untold
  unfolding told joined_in
  told_none untold h = rw (cut_none place s h)

  pub parts_none : length s ≤ 0 → parts place s ≡ []
  unfolding parts kept_in
  parts_none h = rw (cut_none place s h)

  module _ {x : Record} {n : ℕ} (h : 0 < length s) (e : got x n ≡ record_of s) where
    pub text_got : text place s ≡ take n s ++ text (place + n) (drop n s)
    unfolding text
    text_got = ap (text_of s) (cut_got place s h e)

    pub told_got : (untold : ℕ) → told place untold s ≡ stretch place untold ++ told (place + n) 0 (drop n s)
    unfolding told joined_in
    told_got untold = ap (joined_in place untold) (cut_got place s h e)

    pub parts_got : parts place s ≡ part place n ∷ parts (place + n) (drop n s)
    unfolding parts kept_in
    parts_got = ap kept_in (cut_got place s h e)

  module _ {t : Told} (h : 0 < length s) (e : refused t ≡ record_of s) where
    pub text_refused : text place s ≡ text (place + 1) (drop 1 s)
    unfolding text
    text_refused = ap (text_of s) (cut_refused place s h e)

    pub told_refused : (untold : ℕ) → told place untold s ≡ told (place + 1) (untold + 1) (drop 1 s)
    unfolding told joined_in
    told_refused untold = ap (joined_in place untold) (cut_refused place s h e)

    pub parts_refused : parts place s ≡ parts (place + 1) (drop 1 s)
    unfolding parts kept_in
    parts_refused = ap kept_in (cut_refused place s h e)

-- ── what holds of all bytes, if it holds piece by piece ──

module _ (P : ℕ → List ℕ → Type 0) (none : (place : ℕ) (s : List ℕ) → length s ≤ 0 → P place s)
    (one_kept : (place : ℕ) (s : List ℕ) (x : Record) (n : ℕ) → 0 < length s → got x n ≡ record_of s → Stands s x n → P (place + n) (drop n s) → P place s)
    (one_dropped : (place : ℕ) (s : List ℕ) (t : Told) → 0 < length s → refused t ≡ record_of s → P (place + 1) (drop 1 s) → P place s) where
  by_pieces_from : (f place : ℕ) (s : List ℕ) → length s ≤ f → P place s
  by_pieces_from zero place s h = none place s h
  by_pieces_from (suc f) place s h = go (ltb 0 (length s)) refl (record_of s) refl (record_stands s) (λ n. by_pieces_from f (place + n) (drop n s))
    where
      go : (b : Bool) → ltb 0 (length s) ≡ b → (x : Answer Record) → x ≡ record_of s → Accepts (Stands s) x → ((n : ℕ) → length (drop n s) ≤ f → P (place + n) (drop n s)) → P place s
      go false e x r p on = none place s (ltb-false 0 (length s) e)
      go true e (got x n) r p on = one_kept place s x n (ltb-true 0 (length s) e) r p (on n (omega (arith, length-drop n s, p.till)))
      go true e (refused u) r p on = one_dropped place s u (ltb-true 0 (length s) e) r (on 1 (omega (arith, length-drop 1 s)))

  pub by_pieces : (place : ℕ) (s : List ℕ) → P place s
  by_pieces place s = by_pieces_from (length s) place s (omega arith)

-- ── past the bytes of a gap ──

text_drops : {last : Bool} {s : List ℕ} {from at : ℕ} → Drops last s from at → text from (drop from s) ≡ text at (drop at s)
text_drops none_dropped = refl
text_drops {s = s} (one_dropped {at} d h w e) = text_drops d ∙ text_refused at (drop at s) (some_bytes s at h) e ∙ ap (text (at + 1)) (drop-drop 1 at s)

told_drops : {last : Bool} {s : List ℕ} {from at : ℕ} → Drops last s from at → (untold : ℕ) → told from untold (drop from s) ≡ told at (untold + (at - from)) (drop at s)
told_drops {s = s} {from = from} none_dropped untold = let none : untold + (from - from) ≡ untold = omega arith in rw none
told_drops {s = s} {from = from} (one_dropped {at} d h w e) untold =
    let more : untold + (at - from) + 1 ≡ untold + (at + 1 - from) = omega (arith, drops_least d) in
    told_drops d untold ∙ told_refused at (drop at s) (some_bytes s at h) e (untold + (at - from)) ∙ ap (told (at + 1) (untold + (at - from) + 1)) (drop-drop 1 at s) ∙ ap (λ u. told (at + 1) u (drop (at + 1) s)) more

-- ── past the records of a row ──

text_keeps : {s : List ℕ} {from at k : ℕ} → Keeps s from at k → length (text from (drop from s)) ≡ at - from + length (text at (drop at s))
text_keeps {s} {from} none_kept = omega arith
text_keeps {s} {from} (one_kept {at} {n = n} d h e) =
    let p = accepted (Stands (drop at s)) (record_stands (drop at s)) e in
    let first = text_got at (drop at s) (some_bytes s at h) e ∙ ap (λ v. take n (drop at s) ++ text (at + n) v) (drop-drop n at s) in
    let size = length-take-le n (drop at s) p.within in
    omega (arith, text_keeps d, ap length first, length-append (take n (drop at s)) (text (at + n) (drop (at + n) s)), size, keeps_least d)

told_more : (s : List ℕ) (from at k n untold : ℕ) {x : Record} → Keeps s from at k → at < length s → got x n ≡ record_of (drop at s) →
    (0 < k → told from untold (drop from s) ≡ stretch from untold ++ told at 0 (drop at s)) → told from untold (drop from s) ≡ stretch from untold ++ told (at + n) 0 (drop (at + n) s)
told_more s from at zero n untold d h e on =
    let here : at ≡ from = keeps_none d refl in
    rw here (told_got from (drop from s) (some_bytes s from (omega (arith, here))) (rw here at e) untold ∙ ap (λ v. stretch from untold ++ told (from + n) 0 v) (drop-drop n from s))
told_more s from at (suc j) n untold d h e on =
    on (omega arith) ∙ ap (λ ps. stretch from untold ++ ps) (told_got at (drop at s) (some_bytes s at h) e 0 ∙ ap (told (at + n) 0) (drop-drop n at s))

told_keeps : {s : List ℕ} {from at k : ℕ} → Keeps s from at k → 0 < k → (untold : ℕ) → told from untold (drop from s) ≡ stretch from untold ++ told at 0 (drop at s)
told_keeps none_kept some untold = absurd (not-suc-le-zero some)
told_keeps {s} {from} (one_kept {at} {k} {n} d h e) some untold = told_more s from at k n untold d h e (λ j. told_keeps d j untold)

-- ── a turn of the first pass ──

module _ {s : List ℕ} {at gap : ℕ} {run : Run} (g : Gap true s at gap) (r : Row s gap (length s) run) where
  -- where no record is found, all bytes are passed
  no_record : run.records ≡ 0 → length s ≤ gap
  unfolding waits
  no_record none = go g.held
    where
      here : run.end ≡ gap
      here = keeps_none r.keeps none

      go : Held true s gap → length s ≤ gap
      go (at-end h) = h
      go (waiting h w) = zero_one (cc)
      go (stands {x} {n} h e) = found r.ended
        where
          read : got x n ≡ record_of (drop run.end s)
          read = rw here e

          found : Ended (length s - (run.end - gap)) s run.end → length s ≤ gap
          found (no_bytes k) = omega (arith, here)
          found (stands_none f) = let q = read in zero_one (cc)
          found (no_room {n = m} f k) =
              let q = read in
              let same : n ≡ m = cc in
              let p = accepted (Stands (drop gap s)) (record_stands (drop gap s)) e in
              omega (arith, p.within, length-drop gap s, here)

  told_by : (k : ℕ) → run.records ≡ k → told gap (gap - at) (drop gap s) ≡ stretch gap (gap - at) ++ told run.end 0 (drop run.end s)
  told_by zero e =
      let here : run.end ≡ gap = keeps_none r.keeps e in
      let none : length (drop gap s) ≤ 0 = omega (arith, no_record e, length-drop gap s) in
      rw here (told_none gap (drop gap s) (gap - at) none ∙ sym (ap (λ ps. stretch gap (gap - at) ++ ps) (told_none gap (drop gap s) 0 none) ∙ append-nil (stretch gap (gap - at))))
  told_by (suc k) e = told_keeps r.keeps (omega (arith, e)) (gap - at)

  pub turn_told : length (told at 0 (drop at s)) ≡ length (stretch gap (gap - at)) + length (told run.end 0 (drop run.end s))
  turn_told =
      let all : 0 + (gap - at) ≡ gap - at = omega arith in
      ap length (told_drops g.drops 0 ∙ ap (λ u. told gap u (drop gap s)) all ∙ told_by run.records refl) ∙ length-append (stretch gap (gap - at)) (told run.end 0 (drop run.end s))

  pub turn_text : length (text at (drop at s)) ≡ run.end - gap + length (text run.end (drop run.end s))
  turn_text = ap length (text_drops g.drops) ∙ text_keeps r.keeps

  pub turn_on : at < length s → at < run.end
  turn_on h = go run.records refl
    where
      go : (k : ℕ) → run.records ≡ k → at < run.end
      go zero e = omega (arith, no_record e, r.least)
      go (suc k) e = omega (arith, r.few, r.least, g.least, e)

pub stretch_most : (place n : ℕ) → length (stretch place n) ≤ n
stretch_most place n = go (ltb 0 n) refl
  where
    go : (b : Bool) → ltb 0 n ≡ b → length (pick b (part (place - n) n ∷ []) []) ≤ n
    go true e = ltb-true 0 n e
    go false e = omega arith
