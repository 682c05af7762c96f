-- What the answers of `names` say determines them, so two answers that a promise allows are the same.
-- Assumes nothing.
use mathlib.Core.Path.{◌≡◌, refl, ap}
use Prim.Native.Nat.{ℕ}
use Rattle.layout.proofs.laws.Determined.{Tells}
use Rattle.names.specs.Says.{says_name}
use Rattle.names.specs.declared.Name.{Name}
use Rattle.std.specs.declared.option.Option.TheVariants.{Some, None}

abbrev name_at : ℕ × ℕ → Name
name_at x = record { start = x.0; len = x.1 }

pub tells_name : Tells says_name
tells_name (Some p) (Some q) e =
    let same : ◌≡◌ {A = ℕ × ℕ} (p.start, p.len) (q.start, q.len) = cc in
    ap (λ x. Some (name_at x)) same
tells_name (Some p) None e = cc
tells_name None (Some q) e = cc
tells_name None None e = refl
