-- What a copy leaves: as many of the bytes as there are, where all of them have room.
-- Assumes nothing.
use mathlib.Core.Path.{◌≡◌, ◌∙◌, refl, sym}
use mathlib.Core.List.{List, [], ◌∷◌}
use Prim.Native.Nat.{ℕ, min, ◌+◌, ◌-◌, ◌≤◌, ◌<◌}
use native.Mathlib.Nat.{add-sub_cancel_left}
use native.Mathlib.Omega.{arith}
use borrow.Rule.Slice.PartMut.{put_mid}
use lib.ListN.{length, take, drop, length-drop}
use lib.Seq.{sets-eq, take_all}
use Rattle.std.proofs.lemmas.List.{length-take, take_min}
use Rattle.std.proofs.lemmas.Slice.{put_mid-paste}
use Rattle.layout.specs.Written.{put, Put, roomed}
use Rattle.layout.proofs.laws.Writing.{in_room, out_of_room, nothing}

count : (src : List ℕ) (a n left m : ℕ) → left ≡ length src - a → m ≡ min n left → length (take n (drop a src)) ≡ m
count src a n left m e h = length-take n (drop a src) ∙ rw (length-drop a src, ← e) (sym h)

-- of more than have room
pub no_room_copied : (out src : List ℕ) (at a n left room m : ℕ) → left ≡ length src - a → m ≡ min n left → room ≡ length out - at → room < m → Put out at (roomed out at (take n (drop a src))) out at
no_room_copied out src at a n left room m e h r z =
    let k = count src a n left m e h in
    rw (out_of_room out at (take n (drop a src)) (omega arith)) nothing

-- of those that have room
pub copied : (out src : List ℕ) (at a n left room m : ℕ) {out' : List ℕ} {o : ℕ} → left ≡ length src - a → m ≡ min n left → room ≡ length out - at → m ≤ room
    → Put out at (take m (drop a src)) out' o → Put out at (roomed out at (take n (drop a src))) out' o
copied out src at a n left room m e h r f p =
    let k = count src a n left m e h in
    let same : take m (drop a src) ≡ take n (drop a src) = rw (h, e, ← length-drop a src) (take_min n (drop a src)) in
    rw (in_room out at (take n (drop a src)) (omega arith), ← same) p
