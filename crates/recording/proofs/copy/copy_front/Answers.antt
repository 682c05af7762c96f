-- `recording::copy::copy_front`: the records up to where the sweep ended are all accepted. Assumes nothing.
use mathlib.Core.Path.{◌≡◌, sym}
use mathlib.Core.List.{List}
use Prim.Native.Nat.{ℕ}
use lib.ListN.{length, take}
use Rattle.layout.proofs.laws.Accepted.{accepted}
use Rattle.recording.specs.Row.{whole_of}
use Rattle.recording.specs.Copied.{Sweeps}
use Rattle.recording.specs.declared.copy.Swept.{Swept}
use Rattle.recording.proofs.Placed.{left_ends}
use Rattle.recording.proofs.copy.copy_front.Goals as goal

-- the part has just those bytes
part-long : (s : List ℕ) {r : Swept} → Sweeps s r → r.end ≡ length (take r.end s)
part-long s w = rw w.end (accepted _ (left_ends (take (whole_of s) s)) (sym w.front))

pub slice_bounds-copy_swept-end : goal.slice_bounds-copy_swept-end
slice_bounds-copy_swept-end c = part-long c.args.s.now c.sweep-swept.ensures

pub copy_swept-copied-requires : goal.copy_swept-copied-requires
copy_swept-copied-requires c =
    let s = c.args.s.now in
    let w = c.sweep-swept.ensures in
    rw (← part-long s w) (rw w.end w.front)

pub returns : goal.returns
returns c = let w = c.sweep-swept.ensures in record { used = w.end; copies = rw w.end at c.copy_swept-copied.ensures }
