-- `shots::addition::is_tight`: the places, then the name bytes. Assumes nothing.
use mathlib.Core.Path.{ap, ◌∙◌}
use Prim.Native.Nat.{ℕ, ◌-◌}
use native.Mathlib.Omega.{arith}
use lib.Dec.{ltb}
use lib.ListN.{length}
use Rattle.shots.proofs.Additions.{tight_full, tight_names, last_inside}
use Rattle.shots.proofs.addition.is_tight.Statement.{statement}
use Rattle.shots.proofs.addition.is_tight.Tie as tie

returns : tie.Need-returns-then-count-eq1024
returns c = tight_full c.requires c.if-count-eq1024.true c.args.size

last-end-requires : tie.Need-last_end-requires
last-end-requires c κs = let f = c.requires in (omega (arith, f.few, f.ended), f.ended)

sub-result : tie.Need-overflow_sub-result
sub-result c = omega (arith, last_inside c.requires, c.last_end.ensures)

returns-2 : tie.Need-returns
returns-2 c =
    let a = c.args in
    ap (λ (x : ℕ). ltb (length a.names.now - x) a.size) c.last_end.ensures ∙ tight_names c.requires c.if-count-eq1024.false a.size

pub is_tight_spec : {M : Type 1} → statement M
is_tight_spec = tie.close (tie.spec returns last-end-requires sub-result returns-2)
