-- `tree::every::len_by`: the parent's length, a slash and the name make up the path's. Assumes nothing.
use mathlib.Core.Path.{refl, sym, ap, ◌∙◌}
use native.Mathlib.Omega.{arith}
use borrow.Author.Rules.{rules}
use lib.ListN.{length, get_or}
use Rattle.layout.proofs.laws.Numbers.{bytes_of}
use Rattle.tree.proofs.Routes.{path_root, path_short, size_alone, size_joined}
use Rattle.tree.proofs.every.len_by.Statement.{statement}
use Rattle.tree.proofs.every.len_by.Tie as tie

name-len-requires : tie.Need-name_len-n-requires
name-len-requires c κs = search rules

returns : tie.Need-returns-then-place-eq0
returns c =
    let a = c.args in
    let z = c.if-place-eq0.true in
    rw z (rw z at c.name_len-n.ensures ∙ ap length (sym (path_root a.parents.now a.ends.now a.names.now 0 refl)))

mul-q : tie.Need-offset_bounds-parents-place
mul-q c = search rules

shared-slice-read-q : tie.Need-bounds-parents-place
shared-slice-read-q c = search rules

cast-q : tie.Need-overflow_cast-q
cast-q c = omega (arith, c.shared_slice_known-5-1.given c.args.place)

mul-above : tie.Need-offset_bounds-lens-q
mul-above c = omega (arith, c.shared_slice_known-5-1.given c.args.place)

shared-slice-read-above : tie.Need-bounds-lens-q
shared-slice-read-above c =
    let b = c in
    let less = b.requires.0.ruling.smaller b.args.place (omega (arith, c.if-place-eq0.false)) b.requires.1.0 in
    omega (arith, b.requires.0.ruling.few, b.requires.1.0, b.requires.1.1.0)

add-result : tie.Need-overflow_add-result
add-result c =
    let b = c in
    let a = b.args in
    let h = bytes_of a.names.now (λ i. (c.shared_slice_known-3-1.given i).fits) in
    let less = b.requires.0.ruling.smaller a.place (omega (arith, c.if-place-eq0.false)) b.requires.1.0 in
    let short = path_short a.parents.now a.ends.now a.names.now b.requires.0.ruling h (get_or a.parents.now a.place 0) (omega (arith, b.requires.1.0)) in
    let up = (b.requires.1.1.1.up c.if-place-eq0.false).size in
    omega arith

add-result-2 : tie.Need-overflow_add-result-else-above-eq0
add-result-2 c =
    let b = c in
    let a = b.args in
    let h = bytes_of a.names.now (λ i. (c.shared_slice_known-3-1.given i).fits) in
    let short = path_short a.parents.now a.ends.now a.names.now b.requires.0.ruling h a.place b.requires.1.0 in
    let up = (b.requires.1.1.1.up c.if-place-eq0.false).size in
    let whole = size_joined a.parents.now a.ends.now a.names.now b.requires.0.ruling a.place c.if-place-eq0.false b.requires.1.0 (λ z. c.if-above-eq0.false (up ∙ z)) in
    omega (arith, c.name_len-n.ensures)

returns-2 : tie.Need-returns-then-above-eq0
returns-2 c =
    let b = c in
    let a = b.args in
    let up = (b.requires.1.1.1.up c.if-place-eq0.false).size in
    c.name_len-n.ensures ∙ size_alone a.parents.now a.ends.now a.names.now b.requires.0.ruling a.place c.if-place-eq0.false b.requires.1.0 (sym up ∙ c.if-above-eq0.true)

returns-3 : tie.Need-returns-else-above-eq0
returns-3 c =
    let b = c in
    let a = b.args in
    let up = (b.requires.1.1.1.up c.if-place-eq0.false).size in
    let whole = size_joined a.parents.now a.ends.now a.names.now b.requires.0.ruling a.place c.if-place-eq0.false b.requires.1.0 (λ z. c.if-above-eq0.false (up ∙ z)) in
    omega (arith, c.name_len-n.ensures)

pub len_by_spec : {M : Type 1} → statement M
len_by_spec =
    tie.close
    (tie.spec
    name-len-requires
    returns
    mul-q
    shared-slice-read-q
    cast-q
    mul-above
    shared-slice-read-above
    add-result
    add-result-2
    returns-2
    returns-3)
