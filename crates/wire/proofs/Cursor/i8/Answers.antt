-- What `int_at` reads, narrowed to its own width. Assumes nothing.
use mathlib.Core.Path.{refl}
use lib.Dec.{lit≤}
use mir.Syntax.{w8}
use Rattle.wire.proofs.Twos.{narrow_fits, narrow_says}
use Rattle.wire.proofs.Cursor.i8.Goals as goal

pub overflow_cast-result : goal.overflow_cast-result
overflow_cast-result c = narrow_fits w8 1 refl (lit≤ tt) c.in_ok-v.was c.int_at.ensures

pub returns : goal.returns
returns c = narrow_says w8 1 refl (lit≤ tt) c.in_ok-v.was c.int_at.ensures
