-- `tree::climb::path_len`: the place falls at each call, and the sizes add up as the parts of the path do. Assumes nothing.
use mathlib.Core.Path.{◌≡◌, sym, ap, ◌∙◌}
use Prim.Native.Nat.{ℕ, ◌+◌, ◌≤◌, ◌<◌}
use native.Mathlib.Omega.{arith}
use borrow.Author.Rules.{rules}
use borrow.Fn.Kinds.{In}
use borrow.Fn.PlainCycle.{Measures, is, falls, and}
use lib.ListN.{length}
use Rattle.layout.proofs.laws.Numbers.{bytes_of}
use Rattle.tree.specs.Path.{path_of}
use Rattle.tree.proofs.Routes.{path_root, path_short, size_alone, size_joined}
use Rattle.tree.proofs.climb.path_len.Reads as path-len
use Rattle.tree.proofs.climb.path_len.Kinds as path-len-kinds
use Rattle.tree.proofs.climb.+path_len.Lts-path_len as path-len-lts
use Rattle.tree.proofs.name.name_len.Reads as name-len-reads
use Rattle.tree.proofs.climb.+path_len.{statement}
use Rattle.tree.proofs.climb.+path_len.Tie.{close}

abbrev μ-path-len : Measures 3 path-len-kinds.ps ℕ
μ-path-len κs a = a.1.1.1.0

abbrev path-len-at : ℕ → In 3 path-len-kinds.ps
path-len-at t = and 3 path-len-kinds.ps (is 3 path-len-kinds.ps μ-path-len t) path-len.Pre

abbrev path-len-below : ℕ → In 3 path-len-kinds.ps
path-len-below t = and 3 path-len-kinds.ps (falls 3 path-len-kinds.ps ◌<◌ μ-path-len t) path-len.Pre

-- the parent's path, a slash and the name make up the path, which is short
sum : (t : ℕ) (c : path-len-lts.Else-above-eq0 (name-len-reads.Asked, name-len-reads.Learnt, path-len-below t, path-len.Post) (path-len-at t) path-len.Post)
    → (c.path_len-above.result + 1 + c.name_len-n.result ≡ length (path_of c.args.parents.now c.args.ends.now c.args.names.now c.args.place))
    × (c.path_len-above.result + 1 + c.name_len-n.result ≤ 1041408)
sum t c =
    let b = c in
    let a = b.args in
    let rule = b.requires.1.0.ruling in
    let h = bytes_of a.names.now (λ i. (c.shared_slice_known-3-1.given i).fits) in
    let short = path_short a.parents.now a.ends.now a.names.now rule h a.place b.requires.1.1 in
    let whole = size_joined a.parents.now a.ends.now a.names.now rule a.place c.if-place-eq0.false b.requires.1.1 (λ z. c.if-above-eq0.false (c.path_len-above.ensures ∙ z)) in
    (omega (arith, c.path_len-above.ensures, c.name_len-n.ensures), omega (arith, c.path_len-above.ensures, c.name_len-n.ensures))

pub +path_len_spec : {M : Type 1} → statement M
+path_len_spec = close μ-path-len λ t. path-len-lts.spec (name-len-reads.Asked, name-len-reads.Learnt, path-len-below t, path-len.Post) (path-len-at t) path-len.Post
    -- at the root
    (λ c κs. let k = c.requires.1 in (k.0.spaced, omega (arith, k.0.ended)))
    (λ c.
    let a = c.args in
    c.name_len.ensures ∙ ap length (sym (path_root a.parents.now a.ends.now a.names.now a.place c.if-place-eq0.true)))
    -- elsewhere: the parent's place
    (λ c. search rules)
    (λ c. search rules)
    (λ c. omega (arith, c.shared_slice_known-4-1.given c.args.place))
    (λ c κs.
    let b = c in
    let less = b.requires.1.0.ruling.smaller b.args.place (omega (arith, c.if-place-eq0.false)) b.requires.1.1 in
    (omega arith, (b.requires.1.0, omega arith)))
    (λ c κs. let k = c.requires.1 in (k.0.spaced, omega (arith, k.0.ended)))
    -- and the sums
    (λ c. let s = sum t c in omega arith)
    (λ c. let s = sum t c in omega arith)
    (λ c.
    let b = c in
    c.name_len-n.ensures ∙ size_alone b.args.parents.now b.args.ends.now b.args.names.now b.requires.1.0.ruling b.args.place c.if-place-eq0.false b.requires.1.1 (sym c.path_len-above.ensures ∙ c.if-above-eq0.true))
    (λ c. (sum t c).0)
