-- `shots::addition::put_object`: five stores. Assumes nothing.
use mathlib.Core.List.{List}
use mathlib.Core.Path.{refl, ap, ◌∙◌}
use Prim.Native.Nat.{ℕ, ◌+◌}
use native.Mathlib.Omega.{arith}
use borrow.Author.Rules.{rules}
use lib.ListN.{length, set}
use lib.Seq.{take-length}
use Rattle.layout.proofs.laws.Writing.{roomy}
use Rattle.layout.specs.Written.{put}
use Rattle.shots.proofs.addition.put_object.Statement.{statement}
use Rattle.shots.proofs.addition.put_object.Tie as tie

last-end-requires : tie.Need-last_end-from-requires
last-end-requires c κs = let r = c.requires in (omega (arith, r.free, r.ended), r.ended)

mul-handles : tie.Need-offset_bounds-handles-count
mul-handles c = omega (arith, c.requires.free)

slice-write-handles : tie.Need-bounds-handles-count
slice-write-handles c = omega (arith, c.requires.free, c.requires.handled)

mul-parents : tie.Need-offset_bounds-parents-count
mul-parents c = omega (arith, c.requires.free)

slice-write-parents : tie.Need-bounds-parents-count
slice-write-parents c = omega (arith, c.requires.free, c.requires.parented)

add-ends : tie.Need-overflow_add-ends
add-ends c = omega (arith, c.requires.short, c.last_end-from.ensures)

cast_ends : tie.Need-overflow_cast-ends
cast_ends c = omega (arith, c.requires.short, c.last_end-from.ensures)

mul-ends : tie.Need-offset_bounds-ends-count
mul-ends c = omega (arith, c.requires.free)

slice-write-ends : tie.Need-bounds-ends-count
slice-write-ends c = omega (arith, c.requires.free, c.requires.ended)

slice-write-marks : tie.Need-bounds-marks-count
slice-write-marks c = omega (arith, c.requires.free, c.requires.flagged)

copy-requires : tie.Need-copy-requires
copy-requires c κs = search rules

same_length : tie.Need-shape_of-handles
same_length c = search rules

same-length-2 : tie.Need-shape_of-parents
same-length-2 c = search rules

same-length-3 : tie.Need-shape_of-ends
same-length-3 c = search rules

same-length-4 : tie.Need-shape_of-marks
same-length-4 c = search rules

same-length-5 : tie.Need-shape_of-names
same-length-5 c = search rules

returns : tie.Need-returns
returns c =
    let a = c.args in
    let r = c.requires in
    let from = c.last_end-from.ensures in
    let all = take-length a.name.now in
    let long = ap length all in
    let p = roomy _ c.copy.ensures (omega (arith, r.holds)) in
    record {
      handles = refl;
      parents = refl;
      ends = ap (λ (x : ℕ). set a.ends.now a.count (x + length a.name.now)) from;
      marks = refl;
      names = p.bytes ∙ ap (λ (x : List ℕ). put a.names.now c.last_end-from.result x) all ∙ ap (λ (x : ℕ). put a.names.now x a.name.now) from;
    }

pub put_object_spec : {M : Type 1} → statement M
put_object_spec =
    tie.close
    (tie.spec
    last-end-requires
    mul-handles
    slice-write-handles
    mul-parents
    slice-write-parents
    add-ends
    cast_ends
    mul-ends
    slice-write-ends
    slice-write-marks
    copy-requires
    same_length
    same-length-2
    same-length-3
    same-length-4
    same-length-5
    returns)
