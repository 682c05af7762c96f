-- Laws of the whole records at the front of bytes: they are accepted as a recording; and with bytes that follow, they are still at the front,
-- before those that stand behind them.
-- Assumes nothing.
use mathlib.Core.Path.{◌≡◌, refl, sym, ap, ◌∙◌}
use mathlib.Core.Bool.{Bool, true, false}
use mathlib.Core.List.{List, [], ◌++◌, append-nil}
use Prim.Native.Nat.{ℕ, zero, suc, ◌+◌, ◌≤◌, ◌<◌}
use native.Mathlib.Omega.{arith}
use borrow.Author.Tests.{ltb-true, le-leb}
use lib.Dec.{ltb}
use lib.ListN.{length, take, drop, length-append, length-drop, length-take, take-append-drop}
use lib.Seq.{take-add, take-append-le, take-length, length-take-le}
use Rattle.layout.specs.Answer.{Answer, Told, got, refused, pick, after, means}
use Rattle.layout.specs.Written.{says, no, said_of, answer_of, left_of}
use Rattle.layout.proofs.laws.Accepted.{accepted}
use Rattle.recording.specs.Content.{Record}
use Rattle.recording.specs.Record.{record_at, record_of}
use Rattle.recording.specs.Row.{row_from, row_of, onward, whole_from, whole_of}
use Rattle.recording.specs.Copied.{kept, kept_of, copy_said, none, counted, left_by, left_out, copy_of, CopiesFront, says_copied, front_text, left_in, front_left, move_told, move, plus}
use Rattle.recording.specs.declared.copy.Left.{Left}
use Rattle.recording.specs.declared.copy.Front.{Front}
use Rattle.recording.proofs.Moved.{shifted, more_moved, record_moved, record_stays}
use Rattle.recording.proofs.Placed.{whole_rest, whole_enough, whole_got, whole_refused, counted_least, left_ends, copied_adds, said}
use Rattle.recording.proofs.laws.Rowed.{record_placed, Stands, record_stands}
use Rattle.recording.proofs.Copying.{front_more, copied_parts, refused_parts}
use Rattle.recording.proofs.laws.Fronted.{row_not}

-- ── they are accepted ──

-- so many bytes at the front are, with this left out
pub record Taken (s : List ℕ) (n : ℕ) : Type 0 where
  pub left : Left
  pub is : left_out (take n s) ≡ got left n
  pub fewer : left.records ≤ left.bytes
  pub less : left.bytes ≤ n

taken_from : (f : ℕ) (s : List ℕ) (at : ℕ) → Taken s at → Taken s (whole_from f s at)
unfolding whole_from
taken_from zero s at p = p
taken_from (suc f) s at p = go (ltb at (length s)) (record_at s at) refl (λ n q. taken_from f s n q)
  where
    go : (b : Bool) (x : Answer Record) → x ≡ record_at s at → ((n : ℕ) → Taken s n → Taken s (whole_from f s n)) → Taken s (pick b (onward at x (λ n. whole_from f s n)) at)
    go true (got x n) e on =
        let k = counted_least p.left x.kind x.body.count at p.fewer p.less in
        on n (record { left = counted p.left x.kind x.body.count; is = front_more s at p.left p.is e; fewer = k.0; less = omega (arith, k.1, (accepted _ (record_placed s at) e).till) })
    go true (refused t) e on = p
    go false x e on = p

pub front_taken : (s : List ℕ) → Taken s (whole_of s)
unfolding whole_of left_out left_by means row_of row_from
front_taken s = taken_from (length s) s 0 (record { left = none; is = refl; fewer = omega arith; less = omega arith })

pub whole_most : (s : List ℕ) → whole_of s ≤ length s
whole_most s = omega (arith, accepted _ (left_ends (take (whole_of s) s)) (sym (front_taken s).is), length-take (whole_of s) s)

pub front-left : (s : List ℕ) → front_left s ≡ (front_taken s).left
unfolding front_left
front-left s = ap left_in (front_taken s).is

pub front_said : (s : List ℕ) → copy_said (take (whole_of s) s) ≡ says (front_text s)
unfolding front_text
front_said s = said (take (whole_of s) s) s (sym (front_taken s).is)

-- what is left out is of them
pub front_few : (s : List ℕ) → ((front_left s).records ≤ (front_left s).bytes) × ((front_left s).bytes ≤ whole_of s)
front_few s = let p = front_taken s in let e = front-left s in rw e (p.fewer, p.less)

-- ── bytes that follow ──

module _ (pre : List ℕ) where
  whole_moved : (f : ℕ) (s : List ℕ) (at : ℕ) → whole_from f (pre ++ s) (length pre + at) ≡ length pre + whole_from f s at
  unfolding whole_from
  whole_moved zero s at = refl
  whole_moved (suc f) s at = rw (more_moved pre s at, record_moved pre s at) (go (ltb at (length s)) (record_at s at) (λ n. whole_moved f s n))
    where
      go : (b : Bool) (x : Answer Record) → ((n : ℕ) → whole_from f (pre ++ s) (length pre + n) ≡ length pre + whole_from f s n) →
          pick b (onward (length pre + at) (shifted (move (length pre)) (length pre) x) (λ n. whole_from f (pre ++ s) n)) (length pre + at) ≡ length pre + pick b (onward at x (λ n. whole_from f s n)) at
      go true (got x n) on = on n
      go true (refused t) on = refl
      go false x on = refl

-- from a place on they are those of the rest
whole_behind : (s : List ℕ) (u : ℕ) → u ≤ length s → whole_rest s u ≡ u + whole_of (drop u s)
unfolding whole_of
whole_behind s u h =
    let long : length (take u s) ≡ u = length-take-le u s h in
    let place : u ≡ length (take u s) + 0 = omega (arith, long) in
    ap (λ v. whole_from (length s) v u) (sym (take-append-drop u s))
    ∙ ap (whole_from (length s) (take u s ++ drop u s)) place
    ∙ whole_moved (take u s) (length s) (drop u s) 0
    ∙ ap (λ n. n + whole_from (length s) (drop u s) 0) long
    ∙ ap (λ n. u + n) (whole_enough (length s) (length (drop u s)) (drop u s) 0 (omega (arith, length-drop u s)) (omega arith))

module _ (h more : List ℕ) where
  whole_stays : (f at : ℕ) → whole_rest (h ++ more) at ≡ whole_rest (h ++ more) (whole_from f h at)
  unfolding whole_from
  whole_stays zero at = refl
  whole_stays (suc f) at = go (ltb at (length h)) refl (record_at h at) refl (λ n. whole_stays f n)
    where
      go : (b : Bool) → ltb at (length h) ≡ b → (x : Answer Record) → x ≡ record_at h at → ((n : ℕ) → whole_rest (h ++ more) n ≡ whole_rest (h ++ more) (whole_from f h n)) →
          whole_rest (h ++ more) at ≡ whole_rest (h ++ more) (pick b (onward at x (λ n. whole_from f h n)) at)
      go true e (got x n) f on = whole_got (h ++ more) at (omega (arith, ltb-true at (length h) e, length-append h more)) (sym (record_stays h more at f)) ∙ on n
      go true e (refused t) f on = refl
      go false e x f on = refl

  abbrev s : List ℕ
  s = h ++ more

  abbrev u : ℕ
  u = whole_of h

  pub whole_split : whole_of s ≡ u + whole_of (drop u s)
  unfolding whole_of
  whole_split = whole_stays (length h) 0 ∙ whole_behind s u (omega (arith, whole_most h, length-append h more))

  abbrev a : List ℕ
  a = take u h

  abbrev b : List ℕ
  b = take (whole_of (drop u s)) (drop u s)

  front_split : take (whole_of s) s ≡ a ++ b
  front_split = ap (λ n. take n s) whole_split ∙ take-add u (whole_of (drop u s)) s ∙ ap (λ v. v ++ b) (take-append-le u h more (whole_most h))

  joins : (copy_said (a ++ b) ≡ says (front_text h ++ front_text (drop u s))) × (left_out (a ++ b) ≡ got (plus (front_taken h).left (front_taken (drop u s)).left) (length a + whole_of (drop u s)))
  joins = copied_parts a b (front_text h) (front_text (drop u s)) (front_taken h).left (front_taken (drop u s)).left u (whole_of (drop u s)) (front_said h) (front_taken h).is (front_said (drop u s)) (front_taken (drop u s)).is

  pub front-text : front_text s ≡ front_text h ++ front_text (drop u s)
  front-text = same (front_text s) (front_text h ++ front_text (drop u s)) (sym (front_said s) ∙ ap copy_said front_split ∙ joins.0)
    where
      same : (x y : List ℕ) → says x ≡ says y → x ≡ y
      same x y e = cc

  pub front_lefts : front_left s ≡ plus (front_left h) (front_left (drop u s))
  unfolding front_left
  front_lefts = ap (λ v. left_in (left_out v)) front_split ∙ ap left_in joins.1 ∙ sym (ap (λ l. plus l (left_in (left_out b))) (ap left_in (front_taken h).is) ∙ ap (λ l. plus (front_taken h).left l) (ap left_in (front_taken (drop u s)).is))

-- ── where no record stands at the front ──

pub front_none : (s : List ℕ) → 0 < length s → {t : Told} → refused t ≡ record_of s → whole_of s ≡ 0
unfolding whole_of
front_none s h e = whole_refused s 0 h e

pub front_some : (s : List ℕ) → 0 < length s → {x : Record} {n : ℕ} → got x n ≡ record_of s → 0 < whole_of s
unfolding whole_of
front_some s h {x} {n} e =
    let p = accepted (Stands s) (record_stands s) e in
    omega (arith, whole_got s 0 h e ∙ whole_behind s n p.within, p.till)

pub text_none : (s : List ℕ) → whole_of s ≡ 0 → front_text s ≡ []
unfolding front_text kept kept_of means row_of row_from
text_none s e = rw e

-- ── what stands behind them ──

-- no record
pub rest_none : (s : List ℕ) → whole_of (drop (whole_of s) s) ≡ 0
rest_none s = let e : whole_of s ≡ whole_of s + whole_of (drop (whole_of s) s) = rw append-nil at (whole_split s []) in omega (arith, e)

-- nothing: the recording is accepted
pub front_all : (s : List ℕ) → whole_of s ≡ length s → (copy_said s ≡ says (front_text s)) × (left_out s ≡ got (front_left s) (length s))
front_all s e =
    let same : take (whole_of s) s ≡ s = ap (λ n. take n s) e ∙ take-length s in
    (ap copy_said (sym same) ∙ front_said s, ap left_out (sym same) ∙ (front_taken s).is ∙ ap (λ n. got (front_taken s).left n) e ∙ ap (λ l. got l (length s)) (sym (front-left s)))

-- a record that is refused: so is the recording, at its place
said_none : (s : List ℕ) {t : Told} → 0 < length s → refused t ≡ record_of s → copy_said s ≡ no t
unfolding copy_said kept said_of means
said_none s h e = ap (λ y. said_of (means (kept_of s) y)) (row_not s h e)

pub front_refused : (s : List ℕ) {t : Told} → 0 < length (drop (whole_of s) s) → refused t ≡ record_of (drop (whole_of s) s) → copy_said s ≡ no (move_told (whole_of s) t)
front_refused s {t} h e =
    ap copy_said (sym (take-append-drop (whole_of s) s)) ∙ refused_parts (take (whole_of s) s) (drop (whole_of s) s) (front_text s) t (front_said s) (said_none (drop (whole_of s) s) h e)
    ∙ ap (λ n. no (move_told n t)) (length-take-le (whole_of s) s (whole_most s))

-- ── what `copy_front` leaves, where there is room ──

pub record Fronts (s old : List ℕ) (r : Front) (new : List ℕ) : Type 0 where
  pub used : r.used ≡ whole_of s
  pub answer : says_copied r.copied ≡ got (front_left s) (length (front_text s))
  pub leaves : new ≡ front_text s ++ drop (length (front_text s)) old

front_fits : (s : List ℕ) → length (front_text s) ≤ length s
unfolding front_text
front_fits s = omega (arith, (accepted _ (copied_adds (take (whole_of s) s)) (sym (front_taken s).is)).0, length-take (whole_of s) s)

pub fronts : {s old new : List ℕ} {r : Front} → length s ≤ length old → CopiesFront s old r new → Fronts s old r new
unfolding copy_of after means answer_of left_of
fronts {s} {old} {new} {r} h c =
    let p = front_taken s in
    let text = front_said s in
    let room = le-leb (length (front_text s)) (length old) (omega (arith, front_fits s)) in
    record {
      used = c.used;
      answer = c.copies.answers ∙ ap (λ y. after y λ l _. means (λ _. l) (answer_of (copy_said (take (whole_of s) s)) old)) p.is ∙ ap (λ y. means (λ _. p.left) (answer_of y old)) text ∙ rw (room, front-left s);
      leaves = c.copies.leaves ∙ ap (λ y. left_of y old) text ∙ rw room;
    }
