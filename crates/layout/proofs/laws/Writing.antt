-- The laws of writing.
--     then                        a row of writes is one write
--     start, byte, part, end      a loop that writes: `Owes` says what it still has to write, and where
--     part-over                   one that writes farther than it goes on from, over what it still has to write
--     refusal, no_room, done      a public writer's answers
-- Assumes nothing.
use mathlib.Core.Path.{◌≡◌, refl, sym, ap, ◌∙◌}
use mathlib.Core.Bool.{Bool, true, false}
use mathlib.Core.List.{List, [], ◌∷◌, ◌++◌}
use Prim.Native.Nat.{ℕ, zero, suc, ◌+◌, ◌-◌, ◌/◌, ◌%◌, ◌≤◌, ◌<◌}
use native.Mathlib.Nat.{add-zero, zero-add, add-suc, suc-add, not-suc-le-zero}
use native.Mathlib.Numerals.{add-one, sub-one}
use native.Mathlib.Omega.{arith}
use borrow.Author.Tests.{le-leb, lt-leb, leb-true, leb-false}
use lib.Dec.{leb}
use lib.ListN.{length, take, drop, set, get_or, length-set, length-append}
use lib.Seq.{sets, length-sets, sets-eq, set-set, set_comm, drop-cons, take_all, take-length, length-take-le}
use Rattle.layout.specs.Answer.{Told, Answer, got, refused, bare, pick}
use Rattle.layout.specs.Bytes.{bytes}
use Rattle.layout.specs.Written.{Said, says, no, Wrote, answer_of, left_of, put, Put, roomed}
use Rattle.layout.specs.Refusals.{ROOM}

pub length_put : (out : List ℕ) (at : ℕ) (bs : List ℕ) → length (put out at bs) ≡ length out
unfolding put
length_put out at bs = length-sets out at bs

-- two writes that adjoin are one
put_put : (out : List ℕ) (at : ℕ) (a b : List ℕ) → put (put out at a) (at + length a) b ≡ put out at (a ++ b)
unfolding put
put_put out at [] b = rw add-zero
put_put out at (x ∷ a) b = ap (λ (k : ℕ). sets (sets (set out at x) (suc at) a) k b) (add-suc at (length a) ∙ sym (suc-add at (length a))) ∙ put_put (set out at x) (suc at) a b

-- what is written over is as if it had not been written
set_sets : (out : List ℕ) (at k b : ℕ) (bs : List ℕ) → at < k → set (sets out k bs) at b ≡ sets (set out at b) k bs
set_sets out at k b [] h = refl
set_sets out at k b (x ∷ bs) h = set_sets (set out k x) at (suc k) b bs (omega arith) ∙ rw (set_comm out k at x b (λ e. omega arith))

put_over : (out : List ℕ) (at : ℕ) (a b : List ℕ) → length a ≤ length b → put (put out at a) at b ≡ put out at b
unfolding put
put_over out at [] b h = refl
put_over out at (x ∷ a) [] h = absurd (not-suc-le-zero h)
put_over out at (x ∷ a) (y ∷ b) h = rw (set_sets (set out at x) at (suc at) y a (omega arith), set-set) (put_over (set out at y) (suc at) a b (omega arith))

pub put_front : (out bs : List ℕ) → length bs ≤ length out → put out 0 bs ≡ bs ++ drop (length bs) out
unfolding put
put_front out bs h = sets-eq bs out 0 (omega arith) ∙ rw zero-add

pub then : {old mid new a b : List ℕ} {at k m : ℕ} → Put old at a mid k → Put mid k b new m → Put old at (a ++ b) new m
then {old} {mid} {new} {a} {b} {at} {k} {m} p q = record {
  bytes = q.bytes ∙ rw (p.bytes, p.place, put_put);
  place = omega (arith, p.place, q.place, length-append a b);
}

pub long : {old new bs : List ℕ} {at k : ℕ} → Put old at bs new k → length new ≡ length old
long {old} {new} {bs} {at} p = ap length p.bytes ∙ length_put old at bs

-- what has room is put, and what has none is not
pub in_room : (out : List ℕ) (at : ℕ) (bs : List ℕ) → length bs ≤ length out - at → roomed out at bs ≡ bs
unfolding roomed
in_room out at bs h = rw (le-leb (length bs) (length out - at) h)

pub out_of_room : (out : List ℕ) (at : ℕ) (bs : List ℕ) → length out - at < length bs → roomed out at bs ≡ []
unfolding roomed
out_of_room out at bs h = rw (lt-leb (length bs) (length out - at) h)

pub roomy : {old new : List ℕ} {at next : ℕ} (bs : List ℕ) → Put old at (roomed old at bs) new next → length bs ≤ length old - at → Put old at bs new next
roomy {old} {new} {at} {next} bs p h = rw (in_room old at bs h) at p

-- a write that has room, after others
pub then_roomy : {old mid new a : List ℕ} {at k m : ℕ} (b : List ℕ) → Put old at a mid k → Put mid k (roomed mid k b) new m → length a + length b ≤ length old - at → Put old at (a ++ b) new m
then_roomy {old} {mid} {new} {a} {at} {k} {m} b p q h = then p (roomy b q (omega (arith, p.place, long p)))

pub nothing : {out : List ℕ} {o : ℕ} → Put out o [] out o
unfolding put
nothing = record { bytes = refl; place = sym (add-zero _) }

-- to take no more than there is
pub take_least : (m n : ℕ) (l : List ℕ) → m ≡ pick (leb n (length l)) n (length l) → (take m l ≡ take n l) × (m ≤ length l) × (length (take n l) ≡ m)
take_least m n l e = go (leb n (length l)) refl e
  where
    go : (b : Bool) → leb n (length l) ≡ b → m ≡ pick b n (length l) → (take m l ≡ take n l) × (m ≤ length l) × (length (take n l) ≡ m)
    go true f e = let h : n ≤ length l = leb-true n (length l) f in (rw e, omega arith, length-take-le n l h ∙ sym e)
    go false f e =
        let h : length l ≤ n = omega (arith, leb-false n (length l) f) in
        (rw (e, take-length l, take_all n l h), omega arith, ap length (take_all n l h) ∙ sym e)

-- ── loops ──

-- to write bs at o over out is to write all of it at `at` over out₀
pub record Owes (out : List ℕ) (o : ℕ) (bs out₀ : List ℕ) (at : ℕ) (all : List ℕ) : Type 0 where
  pub bytes : put out o bs ≡ put out₀ at all
  pub place : o + length bs ≡ at + length all
  pub long : length out ≡ length out₀

pub start : {out all : List ℕ} {at : ℕ} → Owes out at all out at all
start = record { bytes = refl; place = refl; long = refl }

-- one byte is stored
pub byte : {out rest bs out₀ all : List ℕ} {o b at : ℕ} → rest ≡ b ∷ bs → Owes out o rest out₀ at all → Owes (set out o b) (o + 1) bs out₀ at all
unfolding put
byte {out} {rest} {bs} {out₀} {all} {o} {b} {at} e w = record {
  bytes = rw add-one (ap (sets out o) (sym e) ∙ w.bytes);
  place = omega (arith, w.place, ap length e);
  long = length-set out o b ∙ w.long;
}

-- a part is written
pub part : {out rest bs out₀ all out' c : List ℕ} {o o' at : ℕ} → rest ≡ c ++ bs → Owes out o rest out₀ at all → Put out o c out' o' → Owes out' o' bs out₀ at all
part {out} {rest} {bs} {out₀} {all} {out'} {c} {o} {o'} {at} e w p = record {
  bytes = rw (p.bytes, p.place, put_put) (ap (put out o) (sym e) ∙ w.bytes);
  place = omega (arith, w.place, p.place, ap length e, length-append c bs);
  long = ap length p.bytes ∙ length_put out o c ∙ w.long;
}

-- a part is written, and more behind it, which no longer is than what is left
pub part_over : {out rest bs out₀ all out' : List ℕ} {o at : ℕ} (c more : List ℕ) → rest ≡ c ++ bs → Owes out o rest out₀ at all → out' ≡ put out o (c ++ more) → length more ≤ length bs
    → Owes out' (o + length c) bs out₀ at all
part_over {out} {rest} {bs} {out₀} {all} {out'} {o} {at} c more e w p h = record {
  bytes = rw (p, ← put_put out o c more, put_over (put out o c) (o + length c) more bs h, put_put) (ap (put out o) (sym e) ∙ w.bytes);
  place = omega (arith, w.place, ap length e, length-append c bs);
  long = ap length p ∙ length_put out o (c ++ more) ∙ w.long;
}

pub end : {out rest out₀ all : List ℕ} {o at : ℕ} → rest ≡ [] → Owes out o rest out₀ at all → Put out₀ at all out o
unfolding put
end {out} {rest} {out₀} {all} {o} {at} e w = record {
  bytes = ap (sets out o) (sym e) ∙ w.bytes;
  place = omega (arith, w.place, ap length e);
}

-- ── answers ──

pub refusal : {s : Said} {out : List ℕ} {t : Told} → s ≡ no t → Wrote s out (refused t) out
unfolding answer_of left_of
refusal e = record { answers = rw e; leaves = rw e }

pub no_room : {s : Said} {out bs : List ℕ} {t : Told} → s ≡ says bs → length out < length bs → t ≡ bare ROOM → Wrote s out (refused t) out
unfolding answer_of left_of
no_room {s} {out} {bs} e h f = record { answers = rw (e, lt-leb (length bs) (length out) h, f); leaves = rw (e, lt-leb (length bs) (length out) h) }

pub done : {s : Said} {out bs new : List ℕ} {n : ℕ} → s ≡ says bs → length bs ≤ length out → Put out 0 bs new n → Wrote s out (got tt n) new
unfolding answer_of left_of
done {s} {out} {bs} {new} {n} e h p = record {
  answers = rw (e, le-leb (length bs) (length out) h) (ap (got tt) (p.place ∙ zero-add (length bs)));
  leaves = rw (e, le-leb (length bs) (length out) h) (p.bytes ∙ put_front out bs h);
}

-- a promise kept with room enough
pub wrote_so : {s : Said} {old bs new : List ℕ} {a : Answer (Unit {0})} → s ≡ says bs → length bs ≤ length old → Wrote s old a new → (a ≡ got tt (length bs)) × (new ≡ bs ++ drop (length bs) old)
unfolding answer_of left_of
wrote_so {s} {old} {bs} e h w = (w.answers ∙ rw (e, le-leb (length bs) (length old) h), w.leaves ∙ rw (e, le-leb (length bs) (length old) h))

-- ── what is spelled, a step at a time ──

pub bytes_step : (n x : ℕ) → 0 < n → bytes n x ≡ x % 256 ∷ bytes (n - 1) (x / 256)
unfolding bytes
bytes_step zero x h = absurd (not-suc-le-zero h)
bytes_step (suc n) x h = rw sub-one

pub bytes_none : (n x : ℕ) → n ≤ 0 → bytes n x ≡ []
unfolding bytes
bytes_none zero x h = refl
bytes_none (suc n) x h = absurd (not-suc-le-zero h)

pub take_step : (src : List ℕ) (i n : ℕ) → 0 < n → n ≤ length src - i → take n (drop i src) ≡ get_or src i 0 ∷ take (n - 1) (drop (i + 1) src)
take_step src i zero h k = absurd (not-suc-le-zero h)
take_step src i (suc n) h k = rw (add-one, sub-one, drop-cons src i 0 (omega arith))

pub take_none : (src : List ℕ) (n : ℕ) → n ≤ 0 → take n src ≡ []
take_none src zero h = refl
take_none src (suc n) h = absurd (not-suc-le-zero h)
