-- What the answers of `names` say.
-- Assumes nothing.
use Rattle.std.specs.Prelude.{List, ℕ, ◌+◌, ◌≤◌, length, take, drop}
use Rattle.std.proofs.Math.Option.{Option, none, some}
use Rattle.names.specs.Names.{name_bytes}
use Rattle.names.specs.declared.Name.{Name}
use Rattle.std.specs.declared.option.Option as declared
use Rattle.std.specs.declared.option.Option.TheVariants.{Some, None}

-- start and length in the name bytes
abbrev pub says_name : declared.Option Name → Option (ℕ × ℕ)
says_name (Some p) = some (p.start, p.len)
says_name None = none

-- the bytes at a place
abbrev pub bytes_at : ℕ × ℕ → List ℕ
bytes_at p = take p.1 (drop p.0 name_bytes)

-- a place that lies within them
abbrev pub Inside : Option (ℕ × ℕ) → Type 0
Inside none = Unit {0}
Inside (some p) = p.0 + p.1 ≤ length name_bytes
