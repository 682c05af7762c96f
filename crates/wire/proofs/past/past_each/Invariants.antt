-- What is left, from the place reached. Assumes nothing.
use Rattle.std.proofs.Common.{◌≡◌, ◌-◌}
use Rattle.wire.specs.Property.{passed_at}
use Rattle.wire.proofs.past.past_each.Given as goal

abbrev pub invariant-loop : goal.invariant-loop
invariant-loop l = passed_at l.code (l.n - l.counter) l.src l.at ≡ passed_at l.code l.n l.src l.first
