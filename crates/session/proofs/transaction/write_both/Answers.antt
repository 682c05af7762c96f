-- The command into room that is enough for any, the data behind its place, then the command before them.
use Rattle.std.proofs.Common.{arith, rules, ◌≤◌, ◌+◌, length}
use Rattle.std.proofs.lemmas.Result.{err_from_is_err_and}
use Rattle.wire.specs.Container.{command_said, container_said}
use Rattle.wire.proofs.laws.Sent.{command_size, container_size}
use Rattle.layout.proofs.laws.Did.{whole}
use Rattle.session.proofs.Sending.{first_refused, second_refused, both_written}
use Rattle.session.proofs.transaction.write_both.Goals as goal

pub returns-in_err-n : goal.returns-in_err-n
returns-in_err-n c =
    let a = c.args in
    let p = err_from_is_err_and c.from_residual.result c.from_residual.ensures.1 in
    rw (p.1, p.2) (first_refused (command_said a.c a.number) (container_said 2 a.c.code a.number a.payload.now) a.out.now _ _ _ (λ w. command_size a.c a.number w) c.in_err-n.ensures)

pub returns-in_err-m : goal.returns-in_err-m
returns-in_err-m c =
    let a = c.args in
    let p = err_from_is_err_and c.from_residual-in_err-m.result c.from_residual-in_err-m.ensures.1 in
    rw (p.1, p.2) (second_refused (command_said a.c a.number) (container_said 2 a.c.code a.number a.payload.now) a.out.now c.in_ok-n.ensures c.least-start.ensures c.in_err-m.ensures)

pub returns : goal.returns
returns c =
    let a = c.args in
    both_written (command_said a.c a.number) (container_said 2 a.c.code a.number a.payload.now) a.out.now c.in_ok-n.ensures c.least-start.ensures
    (λ b e. omega (arith, container_size 2 a.c.code a.number a.payload.now b e)) c.in_ok-m.ensures c.copy.ensures

-- so the sum is a count of bytes that are there
pub overflow_add-result : goal.overflow_add-result
overflow_add-result c =
    let w = whole (returns c) in
    let fits : c.copy.result + c.in_ok-m.m ≤ length c.args.out.now = omega arith in
    search rules
