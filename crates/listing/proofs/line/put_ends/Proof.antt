-- `listing::line::put_ends`: the last bytes over the first. Assumes nothing.
use Rattle.std.proofs.Common.{◌-◌, length, sym, arith, length-take-le, rules}
use Rattle.layout.proofs.laws.Words.{part_from}
use Rattle.listing.proofs.Ends.{ends}
use Rattle.listing.proofs.line.put_ends.Statement.{statement}
use Rattle.listing.proofs.line.put_ends.Tie as tie

put-bytes-requires : tie.Need-put_bytes-requires
put-bytes-requires c κs = let k = c in omega (arith, k.requires.2, length-take-le k.args.n k.args.text.now k.requires.0)

returns : tie.Need-returns
returns c =
    let k = c in
    let t = k.args.text.now in
    ends k.requires.0 k.requires.1 c.put_bytes.ensures (rw (part_from t (length t - k.args.n)) at c.put_bytes-2.ensures)

pub put_ends_spec : {M : Type 1} → statement M
put_ends_spec =
    tie.close
    (tie.spec
    (λ c. search rules)
    (λ c. sym (length-take-le c.args.n c.args.text.now c.requires.0))
    put-bytes-requires
    (λ c. search rules)
    (λ c. search rules)
    (λ c. search rules)
    (λ c. search rules)
    (λ c κs. search rules)
    (λ c. search rules)
    returns)
