-- `wire::text::is_paired`: units below the surrogates pair; else it is asked of each. Assumes nothing.
use mathlib.Core.Path.{refl}
use native.Mathlib.Omega.{arith}
use lib.ListN.{drop}
use Rattle.layout.specs.Bytes.{cells}
use Rattle.wire.proofs.Small.{small_pairs}
use Rattle.wire.proofs.text.is_paired.Goals as goal

pub returns-then-largest-lt55296 : goal.returns-then-largest-lt55296
returns-then-largest-lt55296 c =
    let a = c.args in
    let l = c.largest in
    small_pairs 0 l.result (cells 2 a.n (drop a.at a.s.now)) refl (omega arith) l.ensures
