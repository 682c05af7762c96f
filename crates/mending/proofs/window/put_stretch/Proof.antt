-- `mending::window::put_stretch`: nothing is stored, or one number in each list. Assumes nothing.
use Rattle.std.proofs.Common.{◌<◌, length, arith, rules}
use Rattle.layout.proofs.laws.Writing.{nothing}
use Rattle.mending.proofs.Stretched.{stretch_none, stretch_one, one_slot, put_one}
use Rattle.mending.proofs.window.put_stretch.Statement.{statement}
use Rattle.mending.proofs.window.put_stretch.Tie as tie

returns : tie.Need-returns-then-untold-eq0
returns c = rw (stretch_none c.args.place c.if-untold-eq0.true) (nothing, nothing)

-- both lists have the place
rooms : (c : tie.Else-untold-eq0) → (c.args.n < length c.args.starts.now) × (c.args.n < length c.args.lengths.now)
rooms c =
    let a = c.args in
    let some = one_slot a.place a.untold (omega (arith, c.if-untold-eq0.false)) in
    (omega (arith, some, c.requires.1), omega (arith, some, c.requires.2))

returns-2 : tie.Need-returns
returns-2 c =
    let a = c.args in
    rw (stretch_one a.place a.untold (omega (arith, c.if-untold-eq0.false))) (put_one a.starts.now a.n _, put_one a.lengths.now a.n _)

pub put_stretch_spec : {M : Type 1} → statement M
put_stretch_spec =
    tie.close
    (tie.spec
    returns
    (λ c. search rules)
    (λ c. let r = rooms c in record { fits = omega (arith, r.0, r.1) })
    (λ c. (rooms c).0)
    (λ c. let r = rooms c in record { fits = omega (arith, r.0, r.1) })
    (λ c. (rooms c).1)
    (λ c. let r = rooms c in record { fits = omega (arith, r.0, r.1) })
    (λ c. search rules)
    (λ c. search rules)
    returns-2)
