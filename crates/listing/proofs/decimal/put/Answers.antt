-- `listing::decimal::put`: one digit, two, or by its size. Assumes nothing.
use Rattle.std.proofs.Common.{arith, rules}
use Rattle.text.proofs.laws.Numerals.{decimal_is, decimal_length, one_digit, two_digits}
use Rattle.listing.proofs.decimal.put.Goals as goal

pub put_one-requires : goal.put_one-requires
put_one-requires c = let n = c.args.n in omega (arith, c.requires, decimal_length n 1 (one_digit n c.if-n-lt10.true))

pub returns-then-n-lt10 : goal.returns-then-n-lt10
returns-then-n-lt10 c = let n = c.args.n in rw (← decimal_is n 1 (one_digit n c.if-n-lt10.true)) c.put_one.ensures

pub put_two-requires : goal.put_two-requires
put_two-requires c = let n = c.args.n in omega (arith, c.requires, decimal_length n 2 (two_digits n c.if-n-lt10.false c.if-n-lt100.true))

pub returns-then-n-lt100 : goal.returns-then-n-lt100
returns-then-n-lt100 c = let n = c.args.n in rw (← decimal_is n 2 (two_digits n c.if-n-lt10.false c.if-n-lt100.true)) c.put_two.ensures
