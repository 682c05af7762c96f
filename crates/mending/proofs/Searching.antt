-- Laws of the two searches: what a turn goes past is one byte or one record more.
-- Assumes nothing.
use Rattle.std.proofs.Common.{◌≡◌, ℕ, ◌+◌, ◌-◌, ◌≤◌, List, length, subst, arith}
use Rattle.mending.specs.Passed.{Keeps, Ended, Row}

-- the records that were found, with `left` of the room left
pub row_so : {s : List ℕ} {from room end records left : ℕ} → Keeps s from end records → from ≤ end → end ≤ length s → left + (end - from) ≡ room → records ≤ end - from → Ended left s end →
    Row s from room (record { end = end; records = records })
row_so {s} {from} {room} {end} {records} {left} k least within e few ended =
    let same : left ≡ room - (end - from) = omega arith in
    record { keeps = k; ended = subst (λ n. Ended n s end) same ended; least = least; within = within; fits = omega arith; few = few }
