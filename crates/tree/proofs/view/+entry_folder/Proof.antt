-- `tree::view::entry` and `tree::view::folder`: each calls the other on fewer objects. Assumes nothing.
use Prim.Native.Nat.{ℕ, ◌+◌, ◌≤◌, ◌<◌}
use borrow.Fn.Kinds.{In}
use borrow.Fn.PlainCycle.{Measures, is, falls, and}
use Rattle.tree.proofs.view.entry.Reads as entry
use Rattle.tree.proofs.view.entry.Kinds as entry-kinds
use Rattle.tree.proofs.view.+entry_folder.Lts-entry as entry-lts
use Rattle.tree.proofs.view.folder.Reads as folder
use Rattle.tree.proofs.view.folder.Kinds as folder-kinds
use Rattle.tree.proofs.view.+entry_folder.Lts-folder as folder-lts
use Rattle.tree.proofs.view.+entry_folder.{statement}
use Rattle.tree.proofs.view.+entry_folder.Tie.{close}
use mathlib.Core.Path.{ap, ◌∙◌}
use native.Mathlib.Omega.{arith}
use lib.ListN.{length, get_or, length-set, length-append}
use Rattle.layout.proofs.laws.Writing.{Owes, start, byte, part, end, long}
use Rattle.tree.specs.Links.{chain}
use Rattle.tree.specs.Below.{join, full, inside}
use Rattle.tree.proofs.Folding.{chain_step, full_step, left_hit, left_none, left_start}

-- the measure of both is the count of objects left below: twice that of a place and all below it, and twice that of all below it, and one
abbrev μ-entry : Measures 3 entry-kinds.ps ℕ
μ-entry κs a = length (full a.0.now a.1.0.now a.1.1.0) + length (full a.0.now a.1.0.now a.1.1.0)

abbrev μ-folder : Measures 3 folder-kinds.ps ℕ
μ-folder κs a = length (inside a.0.now a.1.0.now a.1.1.0) + length (inside a.0.now a.1.0.now a.1.1.0) + 1

abbrev entry_at : ℕ → In 3 entry-kinds.ps
entry_at t = and 3 entry-kinds.ps (is 3 entry-kinds.ps μ-entry t) entry.Pre

abbrev entry-below : ℕ → In 3 entry-kinds.ps
entry-below t = and 3 entry-kinds.ps (falls 3 entry-kinds.ps ◌<◌ μ-entry t) entry.Pre

abbrev folder-at : ℕ → In 3 folder-kinds.ps
folder-at t = and 3 folder-kinds.ps (is 3 folder-kinds.ps μ-folder t) folder.Pre

abbrev folder-below : ℕ → In 3 folder-kinds.ps
folder-below t = and 3 folder-kinds.ps (falls 3 folder-kinds.ps ◌<◌ μ-folder t) folder.Pre

entry-cast-places :
    (t : ℕ) → entry-lts.Need-overflow_cast-places (folder-below t, folder.Post) (entry_at t) entry.Post
entry-cast-places t c = omega (arith, c.requires.1.0.few)

entry-mul-places :
    (t : ℕ) → entry-lts.Need-offset_bounds-places-n (folder-below t, folder.Post) (entry_at t) entry.Post
entry-mul-places t c =
    let a = c in
    let e = ap length (full_step a.requires.1.0 a.args.k a.requires.1.1.0) in
    omega (arith, a.well_formed)

entry-slice-write-places :
    (t : ℕ) → entry-lts.Need-bounds-places-n (folder-below t, folder.Post) (entry_at t) entry.Post
entry-slice-write-places t c =
    let a = c in
    let e = ap length (full_step a.requires.1.0 a.args.k a.requires.1.1.0) in
    omega arith

entry-add-folder :
    (t : ℕ) → entry-lts.Need-overflow_add-n (folder-below t, folder.Post) (entry_at t) entry.Post
entry-add-folder t c =
    let a = c in
    let e = ap length (full_step a.requires.1.0 a.args.k a.requires.1.1.0) in
    omega (arith, a.well_formed)

entry-folder-requires :
    (t : ℕ) → entry-lts.Need-folder-requires (folder-below t, folder.Post) (entry_at t) entry.Post
entry-folder-requires t c κs =
    let a = c in
    let e = ap length (full_step a.requires.1.0 a.args.k a.requires.1.1.0) in
    let l = length-set a.args.places.now a.args.n a.args.k in
    (omega (arith, a.requires.0), (a.requires.1.0, (a.requires.1.1.0, omega arith)))

entry-same-length :
    (t : ℕ) → entry-lts.Need-shape_of-places (folder-below t, folder.Post) (entry_at t) entry.Post
entry-same-length t c =
    let a = c.args in
    long c.folder.ensures ∙ length-set a.places.now a.n a.k

entry-returns :
    (t : ℕ) → entry-lts.Need-returns (folder-below t, folder.Post) (entry_at t) entry.Post
entry-returns t c =
    let a = c in
    let put = c.folder.ensures in
    let owed = byte (full_step a.requires.1.0 a.args.k a.requires.1.1.0) (start {out = a.args.places.now}) in
    record { bytes = put.bytes ∙ owed.bytes; place = omega (arith, put.place, owed.place) }

abbrev folder-Inv-loop : folder-lts.invariant-loop-k
folder-Inv-loop first next p places₀ n m₀ k₀ places m k =
    Owes places m (join (full first next) (chain next k)) places₀ n (inside first next p)
    × (k < length first)
    × (length (join (full first next) (chain next k)) ≤ length (inside first next p))

abbrev folder-μ-loop : folder-lts.decreases-loop-k
folder-μ-loop first next p places₀ n m₀ k₀ places m k = length (chain next k)

folder-mul-k :
    (t : ℕ) →
    folder-lts.Need-offset_bounds-first-p
    (entry-below t, entry.Post)
    (folder-at t)
    folder.Post
    folder-Inv-loop
    folder-μ-loop
folder-mul-k t c = omega (arith, c.requires.1.0.few)

folder-shared-slice-read-k : (t : ℕ) → folder-lts.Need-bounds-first-p (
  entry-below t,
  entry.Post,
) (folder-at t) folder.Post folder-Inv-loop folder-μ-loop
folder-shared-slice-read-k t c = c.requires.1.1.0

folder-cast-k :
    (t : ℕ) →
    folder-lts.Need-overflow_cast-k
    (entry-below t, entry.Post)
    (folder-at t)
    folder.Post
    folder-Inv-loop
    folder-μ-loop
folder-cast-k t c =
    let a = c in
    omega (arith, a.requires.1.0.few, a.requires.1.0.first_in a.args.p a.requires.1.1.0)

folder-loop-holds :
    (t : ℕ) →
    folder-lts.Need-loop-k-init
    (entry-below t, entry.Post)
    (folder-at t)
    folder.Post
    folder-Inv-loop
    folder-μ-loop
folder-loop-holds t c =
    let a = c in
    let e = left_start a.args.first.now a.args.next.now a.args.p in
    (rw e start, a.requires.1.0.first_in a.args.p a.requires.1.1.0, omega (arith, ap length e))

folder-entry-requires :
    (t : ℕ) →
    folder-lts.Need-entry-m-requires
    (entry-below t, entry.Post)
    (folder-at t)
    folder.Post
    folder-Inv-loop
    folder-μ-loop
folder-entry-requires t c κs =
    let a = c in
    let i = c.loop-k in
    let hit = left_hit a.requires.1.0 i.k c.loop-k-test.true i.invariant.1 in
    let s = ap length hit in
    let b = length-append (full a.args.first.now a.args.next.now i.k) (join (full a.args.first.now a.args.next.now) (chain a.args.next.now (get_or a.args.next.now i.k 0))) in
    (omega (arith, a.requires.0, i.invariant.2), (a.requires.1.0, (i.invariant.1, omega (arith, i.invariant.0.place, i.invariant.0.long))))

folder-mul-k-2 :
    (t : ℕ) →
    folder-lts.Need-offset_bounds-next-k
    (entry-below t, entry.Post)
    (folder-at t)
    folder.Post
    folder-Inv-loop
    folder-μ-loop
folder-mul-k-2 t c = omega (arith, c.requires.1.0.few, c.loop-k.invariant.1)

folder-shared-slice-read-k-2 : (t : ℕ) → folder-lts.Need-bounds-next-k (
  entry-below t,
  entry.Post,
) (folder-at t) folder.Post folder-Inv-loop folder-μ-loop
folder-shared-slice-read-k-2 t c = omega (arith, c.requires.1.0.long, c.loop-k.invariant.1)

folder-cast-k-2 :
    (t : ℕ) →
    folder-lts.Need-overflow_cast-k-in-loop-k
    (entry-below t, entry.Post)
    (folder-at t)
    folder.Post
    folder-Inv-loop
    folder-μ-loop
folder-cast-k-2 t c =
    let a = c in
    let i = c.loop-k in
    omega (arith, a.requires.1.0.few, a.requires.1.0.next_in i.k i.invariant.1)

folder-loop-less :
    (t : ℕ) →
    folder-lts.Need-loop-k-smaller
    (entry-below t, entry.Post)
    (folder-at t)
    folder.Post
    folder-Inv-loop
    folder-μ-loop
folder-loop-less t c =
    let a = c in
    let i = c.loop-k in
    omega (arith, ap length (chain_step a.requires.1.0 i.k c.loop-k-test.true i.invariant.1))

folder-loop-again :
    (t : ℕ) →
    folder-lts.Need-loop-k-preserved
    (entry-below t, entry.Post)
    (folder-at t)
    folder.Post
    folder-Inv-loop
    folder-μ-loop
folder-loop-again t c =
    let a = c in
    let i = c.loop-k in
    let hit = left_hit a.requires.1.0 i.k c.loop-k-test.true i.invariant.1 in
    let b = length-append (full a.args.first.now a.args.next.now i.k) (join (full a.args.first.now a.args.next.now) (chain a.args.next.now (get_or a.args.next.now i.k 0))) in
    (part hit i.invariant.0 c.entry-m.ensures, a.requires.1.0.next_in i.k i.invariant.1, omega (arith, ap length hit, i.invariant.2))

folder-same-length :
    (t : ℕ) →
    folder-lts.Need-shape_of-places
    (entry-below t, entry.Post)
    (folder-at t)
    folder.Post
    folder-Inv-loop
    folder-μ-loop
folder-same-length t c = c.loop-k.invariant.0.long

folder-returns :
    (t : ℕ) →
    folder-lts.Need-returns
    (entry-below t, entry.Post)
    (folder-at t)
    folder.Post
    folder-Inv-loop
    folder-μ-loop
folder-returns t c =
    let a = c.args in
    end (left_none a.first.now a.next.now _ c.loop-k-test.false) c.loop-k.invariant.0

pub +entry_folder_spec : {M : Type 1} → statement M
+entry_folder_spec =
    close
    μ-entry
    μ-folder
    (λ t. entry-lts.spec
    (folder-below t, folder.Post)
    (entry_at t)
    entry.Post
    (entry-cast-places t)
    (entry-mul-places t)
    (entry-slice-write-places t)
    (entry-add-folder t)
    (entry-folder-requires t)
    (entry-same-length t)
    (entry-returns t))
    λ t. folder-lts.spec
    (entry-below t, entry.Post)
    (folder-at t)
    folder.Post
    folder-Inv-loop
    folder-μ-loop
    (folder-mul-k t)
    (folder-shared-slice-read-k t)
    (folder-cast-k t)
    (folder-loop-holds t)
    (folder-entry-requires t)
    (folder-mul-k-2 t)
    (folder-shared-slice-read-k-2 t)
    (folder-cast-k-2 t)
    (folder-loop-less t)
    (folder-loop-again t)
    (folder-same-length t)
    (folder-returns t)
