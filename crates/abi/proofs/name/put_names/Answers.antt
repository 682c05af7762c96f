-- The room, then all of them.
use Rattle.std.proofs.Common.{◌≡◌, ◌≤◌, length, take, refl, arith, take_all}
use Rattle.layout.proofs.laws.Stored.{first}
use Rattle.layout.proofs.laws.Writing.{no_room, done}
use Rattle.names.specs.Names.{name_bytes, responses, commands}
use Rattle.abi.proofs.name.put_names.Goals as goal

names_long : length name_bytes ≡ 975
unfolding name_bytes responses commands
names_long = refl

pub returns-then-out-lt975 : goal.returns-then-out-lt975
returns-then-out-lt975 c = no_room {bs = name_bytes} refl (omega (arith, names_long, c.if-out-lt975.true)) c.plain.ensures

pub returns : goal.returns
returns c =
    let room : 975 ≤ length c.args.out.now = c.if-out-lt975.false in
    let all : take 975 name_bytes ≡ name_bytes = take_all 975 name_bytes (omega (arith, names_long)) in
    done {bs = name_bytes} refl (omega (arith, names_long, room)) (first (omega (arith, names_long, room)) (rw (c.name_bytes-all.ensures, all) at c.copy.ensures))
