-- `listing::line::put_hex`: the prefix, then four digits. Assumes nothing.
use Rattle.std.proofs.Common.{arith, rules}
use Rattle.io.specs.Digits.{last_digits}
use Rattle.names.specs.Names.{spelled}
use Rattle.listing.specs.Lines.{hex_code}
use Rattle.text.proofs.laws.Numerals.{shown}
use Rattle.listing.proofs.Fitting.{hex_is}
use Rattle.listing.proofs.Pieces.{row2}
use Rattle.listing.proofs.line.put_hex.Statement.{statement}
use Rattle.listing.proofs.line.put_hex.Tie as tie

returns : tie.Need-returns
unfolding hex_code
returns c =
    let h = c.hex-k in
    let code = c.args.code in
    let four = hex_is code h.result (omega arith) h.ensures.1.0 in
    row2 (spelled "0x") (last_digits 16 4 code) c.requires c.copy-a.ensures (rw (shown h.result _ _ h.ensures.1.1.0, four) at c.copy.ensures)

pub put_hex_spec : {M : Type 1} → statement M
put_hex_spec =
    tie.close
    (tie.spec
    (λ c κs. search rules)
    (λ c κs. search rules)
    (λ c. search rules)
    (λ c. search rules)
    (λ c κs. search rules)
    (λ c. search rules)
    returns)
