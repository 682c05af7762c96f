-- `wire::container::put_params`: after i turns the first i parameters are written. Assumes nothing.
use Rattle.layout.specs.Written.{Put}
use Rattle.wire.specs.Container.{param_bytes}
use Rattle.wire.proofs.container.put_params.Given as goal

abbrev pub invariant-loop-param : goal.invariant-loop-param
invariant-loop-param l = Put l.initial.out 0 (param_bytes l.param-index l.params) l.out l.o
