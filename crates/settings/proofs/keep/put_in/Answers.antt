-- `settings::keep::put_in`: the key is sought, the room is judged, and the three parts are copied. Assumes nothing.
use mathlib.Core.Path.{◌≡◌, ◌∙◌}
use mathlib.Core.List.{List}
use Prim.Native.Nat.{ℕ}
use native.Mathlib.Omega.{arith}
use lib.ListN.{length}
use Rattle.layout.specs.Answer.{got}
use Rattle.layout.specs.Bytes.{Bytes}
use Rattle.layout.proofs.laws.Numbers.{bytes_of}
use Rattle.wire.specs.Property as property
use Rattle.settings.specs.Entry.{alone_in, key_slot}
use Rattle.settings.specs.Row.{Whole}
use Rattle.settings.specs.Search.{Seeks}
use Rattle.settings.specs.declared.entry.Edition.{Edition}
use Rattle.settings.specs.declared.entry.Entry.{Entry}
use Rattle.settings.proofs.Entries.{read_within}
use Rattle.settings.proofs.Accepted.{known}
use Rattle.settings.proofs.Storing.{Sought, alone_spelt, stored_full, sought_end, sought_same, stored_done}
use Rattle.settings.proofs.keep.put_in.Goals as goal

pub key_of-requires : goal.key_of-requires
key_of-requires c =
    let q = c.requires.1 in
    read_within (alone_spelt c.args.edition c.args.entry.now (bytes_of _ (λ i. (c.type_inv.entry i).fits)) c.args.x q.0 q.1).read

pub seek-place-requires : goal.seek-place-requires
seek-place-requires c =
    let a = c.args in
    let k = known a.edition a.row.now (bytes_of _ (λ i. (c.type_inv.row i).fits)) a.count c.requires.0 in
    (a.edition, k.entries, k.chain)

-- what is known once the key was sought
sought : {e : Edition} {s w : List ℕ} {count : ℕ} {x : Entry} {p : ℕ} {key : List ℕ} → Bytes s → Bytes w → Whole e s count × ((n : ℕ) × (alone_in e w ≡ got x n)) → key ≡ property.bytes_of w (key_slot x)
    → Seeks s (length s) key p → Sought e s w count x p
sought h k q e f = record { bytes = h; entry-bytes = k; checked = q.0; end = q.1.0; alone = q.1.1; key = _; key_is = e; seeks = f }

pub returns-then-is_full : goal.returns-then-is_full
returns-then-is_full c =
    let k = sought (bytes_of _ (λ i. (c.type_inv.row i).fits)) (bytes_of _ (λ i. (c.type_inv.entry i).fits)) c.requires c.key_of.ensures c.seek-place.ensures in
    stored_full k c.is_full.ensures c.if-is_full.true c.plain.ensures

pub replaced-requires : goal.replaced-requires
replaced-requires c =
    let k = sought (bytes_of _ (λ i. (c.type_inv.row i).fits)) (bytes_of _ (λ i. (c.type_inv.entry i).fits)) c.requires c.key_of.ensures c.seek-place.ensures in
    let p = sought_end k in
    (omega (arith, p.0, sought_same k, c.end_of.ensures), omega (arith, p.1, sought_same k, c.end_of.ensures))

pub returns : goal.returns
returns c =
    let k = sought (bytes_of _ (λ i. (c.type_inv.row i).fits)) (bytes_of _ (λ i. (c.type_inv.entry i).fits)) c.requires c.key_of.ensures c.seek-place.ensures in
    stored_done k c.is_full.ensures c.if-is_full.false (c.end_of.ensures ∙ sought_same k) c.replaced.ensures
