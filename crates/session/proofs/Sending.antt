-- Two writings behind each other. The first was made apart, and the second is written where it is to stand: if it is refused, so are both,
-- for too little room is too little for both; if it is not, the first goes before it, and both are there.
-- Assumes nothing.
use Rattle.std.proofs.Common.{◌≡◌, ℕ, ◌+◌, ◌-◌, ◌<◌, ◌≤◌, Bool, true, false, leb, List, ◌++◌, length, take, drop, sym, refl, ap, ◌∙◌, append_assoc, append-nil, arith, length-append, length-drop, take-append-drop, drop_of_length-le, length-take-le, take_all, drop-drop, drop_at, leb-false, leb-true}
use lib.Seq.{take-append_seam}
use Rattle.layout.specs.Answer.{Told, got, refused, pick}
use Rattle.layout.specs.Written.{Said, says, no, Wrote, Put, roomed}
use Rattle.layout.proofs.laws.Did.{Whole, whole, Kept, not_due, too_short, kept}
use Rattle.layout.proofs.laws.Writing.{refusal, no_room, done, put_front, roomy}
use Rattle.session.specs.Transaction.{together}

-- ── a part that was lent from a place on ──

module _ (out : List ℕ) (at : ℕ) where
  abbrev tail : List ℕ
  tail = take (length out - at) (drop at out)

  -- out, once the part is back
  abbrev pub back : List ℕ → List ℕ
  back new = take at out ++ (new ++ drop (length out - at) (drop at out))

  tail_is : tail ≡ drop at out
  tail_is = take_all (length out - at) (drop at out) (omega (arith, length-drop at out))

  back_is : (new : List ℕ) → back new ≡ take at out ++ new
  back_is new = rw (drop_of_length-le (drop at out) {i = length out - at} (omega (arith, length-drop at out)), append-nil new)

-- as far as there is room
pub start-of : (n start size : ℕ) → start ≡ pick (leb n size) n size → (start ≤ size) × (start ≤ n) × (start < size → start ≡ n)
start-of n start size e = go (leb n size) refl e
  where
    go : (b : Bool) → leb n size ≡ b → start ≡ pick b n size → (start ≤ size) × (start ≤ n) × (start < size → start ≡ n)
    go true h e = (omega (arith, leb-true n size h), omega arith, λ _. e)
    go false h e = (omega arith, omega (arith, leb-false n size h), λ l. absurd (omega arith))

-- what is put before bytes that stand behind its place
put_before :
    (out a b base : List ℕ) {new : List ℕ} {k : ℕ} → length a + length b ≤ length out → base ≡ take (length a) out ++ (b ++ drop (length a + length b) out) →
    Put base 0 (roomed base 0 a) new k → Put out 0 (a ++ b) new (k + length b)
put_before out a b base {new} {k} fit e p =
    let front : length (take (length a) out) ≡ length a = length-take-le (length a) out (omega arith) in
    let size : length a ≤ length base = omega (arith, ap length e, length-append (take (length a) out) (b ++ drop (length a + length b) out)) in
    let q = roomy a p (omega arith) in
    let behind : drop (length a) base ≡ b ++ drop (length a + length b) out = rw e (drop_at (take (length a) out) (b ++ drop (length a + length b) out) (length a) front) in
    let both : length (a ++ b) ≤ length out = omega (arith, length-append a b) in
    record {
      bytes = q.bytes ∙ put_front base a size ∙ rw behind (rw (← append_assoc, ← length-append) (sym (put_front out (a ++ b) both)));
      place = omega (arith, q.place, length-append a b);
    }

-- the front of what was made apart, put before what was written into the part from there on
joined :
    (out a b front room part : List ℕ) {n start : ℕ} {new : List ℕ} {k : ℕ} → n ≡ length a → front ≡ a ++ room → part ≡ b ++ drop (length b) (tail out start) → start ≡ n →
    length a + length b ≤ length out → Put (back out start part) 0 (roomed (back out start part) 0 (take n (drop 0 front))) new k → Put out 0 (a ++ b) new (k + length b)
joined out a b front room part {n} {start} count made written here fit p =
    let cut : take n (drop 0 front) ≡ a = rw (count, made) (take-append_seam a room) in
    let base : back out start part ≡ take (length a) out ++ (b ++ drop (length a + length b) out) =
    back_is out start part ∙ rw (written, tail_is out start, drop-drop, here, count) in
    put_before out a b (back out start part) fit base (rw cut at p)

-- ── both ──

both_due : {s t : Said} {a b : List ℕ} → s ≡ says a → t ≡ says b → together s t ≡ says (a ++ b)
unfolding together
both_due e f = rw (e, f)

second_not_due : {s t : Said} {a : List ℕ} {f : Told} → s ≡ says a → t ≡ no f → together s t ≡ no f
unfolding together
second_not_due e f = rw (e, f)

module _ (s t : Said) (out : List ℕ) where
  pub first_refused : (room front : List ℕ) (f : Told) → ((w : List ℕ) → s ≡ says w → length w ≤ length room) → Wrote s room (refused f) front → Wrote (together s t) out (refused f) out
  unfolding together
  first_refused room front f short w = of (kept w).1
    where
      of : Kept s room f → Wrote (together s t) out (refused f) out
      of (not_due e) = refusal (rw e)
      of (too_short bs e h g) = absurd (omega (arith, short bs e))

  module _ {room front part : List ℕ} {n start : ℕ} (first : Wrote s room (got tt n) front) (from : start ≡ pick (leb n (length out)) n (length out)) where
    pub second_refused : {f : Told} → Wrote t (tail out start) (refused f) part → Wrote (together s t) out (refused f) (back out start part)
    second_refused {f} w =
        let a = whole first in
        let p = start-of n start (length out) from in
        let same : back out start part ≡ out = back_is out start part ∙ ap (λ (x : List ℕ). take start out ++ x) ((kept w).0 ∙ tail_is out start) ∙ take-append-drop start out in
        rw same (of a p (kept w).1)
      where
        of : Whole s room n front → (start ≤ length out) × (start ≤ n) × (start < length out → start ≡ n) → Kept t (tail out start) f → Wrote (together s t) out (refused f) out
        of a p (not_due e) = refusal (second_not_due a.due e)
        of a p (too_short bs e h g) =
            let size : length (tail out start) ≡ length out - start = ap length (tail_is out start) ∙ length-drop start out in
            no_room (both_due a.due e) (omega (arith, length-append a.bs bs, a.count)) g

    pub both_written :
        {new : List ℕ} {m k : ℕ} → ((w : List ℕ) → t ≡ says w → 0 < length w) → Wrote t (tail out start) (got tt m) part →
        Put (back out start part) 0 (roomed (back out start part) 0 (take n (drop 0 front))) new k → Wrote (together s t) out (got tt (k + m)) new
    both_written {new} {m} {k} some w p =
        let a = whole first in
        let b = whole w in
        let size : length (tail out start) ≡ length out - start = ap length (tail_is out start) ∙ length-drop start out in
        let st = start-of n start (length out) from in
        let here : start ≡ n = st.2 (omega (arith, some b.bs b.due)) in
        rw b.count
        (done
        (both_due a.due b.due)
        (omega (arith, length-append a.bs b.bs))
        (joined out a.bs b.bs front (drop (length a.bs) room) part a.count a.left b.left here (omega arith) p))
