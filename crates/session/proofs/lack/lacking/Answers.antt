-- By what stands where the search stopped.
use Rattle.std.proofs.Common.{arith, length-drop}
use Rattle.layout.proofs.laws.Numbers.{bytes_of}
use Rattle.session.specs.Needs.{head}
use Rattle.session.proofs.NeedsRead.{stop_lacks, stop_cut, stop_closed}
use Rattle.session.proofs.lack.lacking.Goals as goal

pub returns-then-left-lt-KIND_END : goal.returns-then-left-lt-KIND_END
returns-then-left-lt-KIND_END c =
    let size = length-drop c.args.at c.args.s.now in
    rw (← size) (stop_lacks _ _ c.requires (bytes_of _ (λ i. (c.type_inv.s i).fits)) (head (omega arith)))

pub rest_lacks-requires : goal.rest_lacks-requires
rest_lacks-requires c = stop_cut _ _ c.requires (omega (arith, length-drop c.args.at c.args.s.now)) c.is_cut.ensures c.if-is_cut.true

pub returns-then-is_cut : goal.returns-then-is_cut
returns-then-is_cut c = stop_lacks _ _ c.requires (bytes_of _ (λ i. (c.type_inv.s i).fits)) c.rest_lacks.ensures

pub returns : goal.returns
returns c = stop_closed _ _ c.requires (omega (arith, length-drop c.args.at c.args.s.now)) c.is_cut.ensures c.if-is_cut.false
