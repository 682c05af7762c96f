-- `settings::keep::take_out`: the key is sought, and what stands before the entry and behind it is copied. Assumes nothing.
use mathlib.Core.Path.{refl}
use native.Mathlib.Omega.{arith}
use Rattle.layout.proofs.laws.Numbers.{bytes_of}
use Rattle.settings.proofs.Accepted.{known}
use Rattle.settings.proofs.Storing.{place_end, removed_done}
use Rattle.settings.proofs.keep.take_out.Goals as goal

pub key_place-place-requires : goal.key_place-place-requires
key_place-place-requires c =
    let a = c.args in
    let k = known a.edition a.row.now (bytes_of _ (λ i. (c.type_inv.row i).fits)) c.requires.0 c.requires.1 in
    (a.edition, k.entries, k.chain)

pub end_of-requires : goal.end_of-requires
end_of-requires c =
    let h = bytes_of c.args.row.now (λ i. (c.type_inv.row i).fits) in
    let k = known c.args.edition c.args.row.now h c.requires.0 c.requires.1 in
    (place_end h k _ (c.key_place-place.ensures.places c.args.edition k.entries k.chain)).1

pub replaced-requires : goal.replaced-requires
replaced-requires c =
    let h = bytes_of c.args.row.now (λ i. (c.type_inv.row i).fits) in
    let k = known c.args.edition c.args.row.now h c.requires.0 c.requires.1 in
    let p = place_end h k _ (c.key_place-place.ensures.places c.args.edition k.entries k.chain) in
    (omega (arith, p.0, c.end_of.ensures), omega (arith, p.1, c.end_of.ensures))

pub returns : goal.returns
returns c =
    let h = bytes_of c.args.row.now (λ i. (c.type_inv.row i).fits) in
    let k = known c.args.edition c.args.row.now h c.requires.0 c.requires.1 in
    removed_done h k _ (c.key_place-place.ensures.places c.args.edition k.entries k.chain) refl c.end_of.ensures c.replaced.ensures
