-- `wire::encode::put_point`: the bytes of its number, as many as it has, which have room. Assumes nothing.
use native.Mathlib.Omega.{arith}
use Rattle.layout.specs.Bytes.{number}
use Rattle.layout.proofs.laws.Writing.{roomy}
use Rattle.wire.specs.Utf8.{encoded}
use Rattle.wire.proofs.laws.Points.{one_is, one_word, two_word, three_word, four_word}
use Rattle.wire.proofs.encode.put_point.Goals as goal

pub returns-then-c-lt128 : goal.returns-then-c-lt128
unfolding number
returns-then-c-lt128 c =
    let k = c in
    let v = k.args.c in
    let h = c.if-c-lt128.true in
    roomy (encoded v) (rw (one_word v v (rw (one_is v h) (omega arith)) h) at c.store.ensures) k.requires.1

pub returns-then-c-lt2048 : goal.returns-then-c-lt2048
returns-then-c-lt2048 c =
    let k = c in
    let w = c.two_bytes in
    let is = two_word k.args.c w.result w.ensures.0 c.if-c-lt128.false c.if-c-lt2048.true in
    roomy (encoded k.args.c) (rw is at c.store-then-c-lt2048.ensures) k.requires.1

pub returns-then-c-lt65536 : goal.returns-then-c-lt65536
returns-then-c-lt65536 c =
    let k = c in
    let w = c.three_bytes in
    let is = three_word k.args.c w.result w.ensures c.if-c-lt2048.false c.if-c-lt65536.true in
    roomy (encoded k.args.c) (rw is at c.store-then-c-lt65536.ensures) k.requires.1

pub returns : goal.returns
returns c =
    let k = c in
    let w = c.four_bytes in
    let is = four_word k.args.c w.result w.ensures c.if-c-lt65536.false k.requires.0 in
    roomy (encoded k.args.c) (rw is at c.store-2.ensures) k.requires.1
