-- `text::put_at`: nothing, or two pieces in a row. Assumes nothing.
use native.Mathlib.Omega.{arith}
use borrow.Author.Tests.{not-true, not-false}
use Rattle.names.specs.Names.{spelled}
use Rattle.layout.proofs.laws.Stored.{first, more}
use Rattle.layout.proofs.laws.Writing.{nothing}
use Rattle.text.specs.Number.{decimal}
use Rattle.text.proofs.laws.Refusing.{at_none, at_some, at_length}
use Rattle.text.proofs.put_at.Goals as goal

pub returns-then-not-f : goal.returns-then-not-f
returns-then-not-f c = rw (at_none c.args.f (not-true _ c.if-not-f.true)) nothing

pub returns : goal.returns
returns c =
    let f = c.args.f in
    let e = not-false _ c.if-not-f.false in
    let l = at_length f e in
    rw (at_some f e) (more (first {bs = spelled " "} (omega (arith, c.requires)) c.copy-a.ensures) (decimal f.at) (omega (arith, c.requires)) c.put_number.ensures)
