-- `wire::encode::put_points`: the loop owes the bytes of the units that are left. Assumes nothing.
use mathlib.Core.Path.{◌≡◌, refl, ap}
use Prim.Native.Nat.{◌≤◌, ◌+◌, ◌*◌}
use native.Mathlib.Omega.{arith}
use lib.ListN.{length, drop, length-append}
use Rattle.layout.specs.Bytes.{cells}
use Rattle.layout.proofs.laws.Writing.{Owes, start, part, end}
use Rattle.wire.specs.Utf8.{utf8}
use Rattle.wire.proofs.laws.Points.{utf8_step, utf8_none}
use Rattle.wire.proofs.encode.put_points.Statement.{statement}
use Rattle.wire.proofs.encode.put_points.Tie as tie

abbrev invariant-loop : tie.invariant-loop-left
invariant-loop s start count out₀ o at₀ left₀ next₀ out at left next =
    Owes out next (utf8 (cells 2 left (drop at s))) out₀ o (utf8 (cells 2 count (drop start s))) × (at + left * 2 ≡ start + count * 2) × (left ≤ count) × (o ≤ next)

abbrev decreases-loop : tie.decreases-loop-left
decreases-loop s start count out₀ o at₀ left₀ next₀ out at left next = left

put-point-requires : tie.Need-put_point-next-requires invariant-loop decreases-loop
put-point-requires c κs =
    let p = c.point_at-p.ensures in
    let size = simp length-append at (ap length (utf8_step p)) in
    let w = c.loop-left.invariant.0 in
    (p.small, omega (arith, c.requires.1, w.place, w.long))

loop-again : tie.Need-loop-left-preserved invariant-loop decreases-loop
loop-again c =
    let p = c.point_at-p.ensures in
    let put = c.put_point-next.ensures in
    (part (utf8_step p) c.loop-left.invariant.0 put, omega (arith, p.there), omega arith, omega (arith, put.place))

pub put_points_spec : {M : Type 1} → statement M
put_points_spec =
    tie.close
    (tie.spec
    invariant-loop
    decreases-loop
    (λ c. (start, refl, omega arith, omega arith))
    (λ c κs. omega arith)
    put-point-requires
    (λ c. omega arith)
    (λ c. omega arith)
    (λ c. omega arith)
    (λ c. omega arith)
    loop-again
    (λ c. c.loop-left.invariant.0.long)
    (λ c. end (utf8_none c.args.s.now c.loop-left.at c.loop-left.left c.loop-left-test.false) c.loop-left.invariant.0))
