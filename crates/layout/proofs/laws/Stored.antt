-- A row of total stores that all have room is one write.
-- Assumes nothing.
use mathlib.Core.Path.{◌≡◌, ◌∙◌}
use mathlib.Core.List.{List, ◌++◌}
use Prim.Native.Nat.{ℕ, ◌+◌, ◌≤◌}
use native.Mathlib.Nat.{zero-add}
use native.Mathlib.Omega.{arith}
use lib.ListN.{length, take, drop}
use lib.Seq.{take-append_seam}
use Rattle.layout.specs.Written.{Put, roomed}
use Rattle.layout.proofs.laws.Writing.{then, long, in_room, put_front}

-- the first of them
pub first : {out bs new : List ℕ} {at n : ℕ} → at + length bs ≤ length out → Put out at (roomed out at bs) new n → Put out at bs new n
first {out} {bs} {new} {at} h p = rw (in_room out at bs (omega arith)) at p

-- one more
pub more : {out mid new done : List ℕ} {at k m : ℕ} → Put out at done mid k → (next : List ℕ) → at + length done + length next ≤ length out → Put mid k (roomed mid k next) new m → Put out at (done ++ next) new m
more p next h q = then p (first (omega (arith, p.place, long p)) q)

-- the room that is left for the next
pub room_left : {out mid done : List ℕ} {at k : ℕ} → Put out at done mid k → (n : ℕ) → at + length done + n ≤ length out → k + n ≤ length mid
room_left p n h = omega (arith, p.place, long p)

-- what was put at the front stands there
pub put_whole : {old bs new : List ℕ} {n : ℕ} → Put old 0 bs new n → length bs ≤ length old → take n new ≡ bs
put_whole {old} {bs} {new} {n} p h =
    let e : n ≡ length bs = p.place ∙ zero-add (length bs) in
    rw (e, p.bytes, put_front old bs h) (take-append_seam bs (drop (length bs) old))
