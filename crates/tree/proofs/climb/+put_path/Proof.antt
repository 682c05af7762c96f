-- `tree::climb::put_path`: the place falls at each call; the parent's path, the slash and the name are one write. Assumes nothing.
use mathlib.Core.Path.{ap}
use Prim.Native.Nat.{ℕ, ◌<◌}
use native.Mathlib.Omega.{arith}
use borrow.Author.Rules.{rules}
use borrow.Fn.Kinds.{In}
use borrow.Fn.PlainCycle.{Measures, is, falls, and}
use lib.ListN.{length, length-append}
use Rattle.layout.proofs.laws.Writing.{then, long}
use Rattle.tree.proofs.Routes.{path_root, path_step, size_step, then_slash}
use Rattle.tree.proofs.climb.put_path.Reads as put-path
use Rattle.tree.proofs.climb.put_path.Kinds as put-path-kinds
use Rattle.tree.proofs.climb.+put_path.Lts-put_path as put-path-lts
use Rattle.tree.proofs.name.put_name.Reads as put-name-reads
use Rattle.tree.proofs.climb.slash.Reads as slash-reads
use Rattle.tree.proofs.climb.+put_path.{statement}
use Rattle.tree.proofs.climb.+put_path.Tie.{close}

abbrev μ-put-path : Measures 4 put-path-kinds.ps ℕ
μ-put-path κs a = a.1.1.1.0

abbrev put-path-at : ℕ → In 4 put-path-kinds.ps
put-path-at t = and 4 put-path-kinds.ps (is 4 put-path-kinds.ps μ-put-path t) put-path.Pre

abbrev put-path-below : ℕ → In 4 put-path-kinds.ps
put-path-below t = and 4 put-path-kinds.ps (falls 4 put-path-kinds.ps ◌<◌ μ-put-path t) put-path.Pre

pub +put_path_spec : {M : Type 1} → statement M
+put_path_spec = close μ-put-path λ t. put-path-lts.spec (put-name-reads.Asked, put-name-reads.Learnt, put-path-below t, put-path.Post, slash-reads.Asked, slash-reads.Learnt) (put-path-at t) put-path.Post
    -- at the root
    (λ c κs.
    let k = c in
    let p = k.requires.1 in
    let e = ap length (path_root k.args.parents.now k.args.ends.now k.args.names.now k.args.place c.if-place-eq0.true) in
    (p.0.spaced, (omega (arith, p.0.ended), omega (arith, p.1.1))))
    (λ c. search rules)
    (λ c.
    let k = c in
    rw (path_root k.args.parents.now k.args.ends.now k.args.names.now k.args.place c.if-place-eq0.true) c.put_name.ensures)
    -- elsewhere: the parent's path
    (λ c. search rules)
    (λ c. search rules)
    (λ c. omega (arith, c.shared_slice_known-4-1.given c.args.place))
    (λ c κs.
    let k = c in
    let p = k.requires.1 in
    let left = c.if-place-eq0.false in
    let less = p.0.ruling.smaller k.args.place (omega (arith, left)) p.1.0 in
    let sum = size_step k.args.parents.now k.args.ends.now k.args.names.now p.0.ruling k.args.place left p.1.0 in
    (omega arith, (p.0, (omega arith, omega (arith, p.1.1)))))
    (λ c κs. search rules)
    -- the slash and the name
    (λ c κs.
    let s = c in
    let q = s in
    let k = q in
    let p = k.requires.1 in
    let sum = size_step k.args.parents.now k.args.ends.now k.args.names.now p.0.ruling k.args.place q.if-place-eq0.false p.1.0 in
    let row = then_slash q.put_path-a.ensures s.slash-b.ensures (omega (arith, p.1.1)) in
    (p.0.spaced, (omega (arith, p.0.ended), omega (arith, p.1.1, row.place, long row, simp length-append at row.place))))
    (λ c. search rules)
    (λ c.
    let s = c in
    let q = s in
    let k = q in
    let p = k.requires.1 in
    let left = q.if-place-eq0.false in
    let sum = size_step k.args.parents.now k.args.ends.now k.args.names.now p.0.ruling k.args.place left p.1.0 in
    let row = then_slash q.put_path-a.ensures s.slash-b.ensures (omega (arith, p.1.1)) in
    rw (path_step k.args.parents.now k.args.ends.now k.args.names.now p.0.ruling k.args.place left p.1.0) (then row c.put_name-2.ensures))
