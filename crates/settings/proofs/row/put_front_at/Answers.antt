-- `settings::row::put_front_at`: its three stores, one after the other. Assumes nothing.
use native.Mathlib.Omega.{arith}
use lib.ListN.{length-append}
use Rattle.layout.specs.Bytes.{bytes}
use Rattle.layout.proofs.laws.Numbers.{length_bytes}
use Rattle.layout.proofs.laws.Stored.{first, more}
use Rattle.settings.proofs.row.put_front_at.Goals as goal

pub returns : goal.returns
returns c =
    let a = c in
    more
    (more
    (first (simp length_bytes (omega (arith, a.requires))) c.store-a.ensures)
    (bytes 4 a.args.vendor) (simp length_bytes (omega (arith, a.requires))) c.store-b.ensures)
    (bytes 2 a.args.property) (simp (length-append, length_bytes) (omega (arith, a.requires))) c.store.ensures
