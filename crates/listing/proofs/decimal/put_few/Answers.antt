-- `listing::decimal::put_few`: one digit to four, by its size. Assumes nothing.
use Rattle.std.proofs.Common.{arith, rules}
use Rattle.layout.proofs.laws.Stored.{room_left}
use Rattle.layout.proofs.laws.Writing.{then}
use Rattle.text.proofs.laws.Numerals.{decimal_is, decimal_length, one_digit, two_digits, three_digits, four_digits}
use Rattle.listing.proofs.Spelling.{in_parts}
use Rattle.listing.proofs.decimal.put_few.Goals as goal

pub put_one-requires : goal.put_one-requires
put_one-requires c = let n = c.args.n in omega (arith, c.requires.1, decimal_length n 1 (one_digit n c.if-n-lt10.true))

pub returns-then-n-lt10 : goal.returns-then-n-lt10
returns-then-n-lt10 c = let n = c.args.n in rw (← decimal_is n 1 (one_digit n c.if-n-lt10.true)) c.put_one.ensures

pub put_two-requires : goal.put_two-requires
put_two-requires c = let n = c.args.n in omega (arith, c.requires.1, decimal_length n 2 (two_digits n c.if-n-lt10.false c.if-n-lt100.true))

pub returns-then-n-lt100 : goal.returns-then-n-lt100
returns-then-n-lt100 c = let n = c.args.n in rw (← decimal_is n 2 (two_digits n c.if-n-lt10.false c.if-n-lt100.true)) c.put_two.ensures

pub put_one-a-requires : goal.put_one-a-requires
put_one-a-requires c = let n = c.args.n in omega (arith, c.requires.1, decimal_length n 3 (three_digits n c.if-n-lt100.false c.if-n-lt1000.true))

pub put_two-requires-then-n-lt1000 : goal.put_two-requires-then-n-lt1000
put_two-requires-then-n-lt1000 c =
    let n = c.args.n in
    let l = decimal_length n 3 (three_digits n c.if-n-lt100.false c.if-n-lt1000.true) in
    room_left c.put_one-a.ensures 2 (omega (arith, c.requires.1))

pub returns-then-n-lt1000 : goal.returns-then-n-lt1000
returns-then-n-lt1000 c =
    let n = c.args.n in
    rw (← decimal_is n 3 (three_digits n c.if-n-lt100.false c.if-n-lt1000.true), in_parts 1 2 n) (then c.put_one-a.ensures c.put_two-then-n-lt1000.ensures)

pub put_four-requires : goal.put_four-requires
put_four-requires c = let n = c.args.n in omega (arith, c.requires.1, decimal_length n 4 (four_digits n c.if-n-lt1000.false c.requires.0))

pub returns : goal.returns
returns c = let n = c.args.n in rw (← decimal_is n 4 (four_digits n c.if-n-lt1000.false c.requires.0)) c.put_four.ensures
