-- `settings::row::check_row`: a turn accepts one entry more. Assumes nothing.
use mathlib.Core.Path.{◌≡◌}
use mathlib.Core.List.{List}
use Prim.Native.Nat.{ℕ, ◌<◌}
use native.Mathlib.Omega.{arith}
use lib.ListN.{length}
use Rattle.layout.specs.Answer.{got}
use Rattle.layout.specs.Bytes.{Bytes}
use Rattle.layout.proofs.laws.Numbers.{bytes_of}
use Rattle.std.proofs.lemmas.Result.{err_from_is_err_and}
use Rattle.settings.specs.Entry.{entry_at}
use Rattle.settings.specs.declared.entry.Edition.{Edition}
use Rattle.settings.specs.declared.entry.Entry.{Entry}
use Rattle.settings.proofs.Entries.{read_within}
use Rattle.settings.proofs.Rows.{Rowing, rowing, rowing_end, rowing_refused, Met, spelt, met_far, rowing_twice, rowing_full, rowing_next}
use Rattle.settings.proofs.row.check_row.Goals as goal

-- what is known once the next entry is read
met : {e : Edition} {s : List ℕ} {at count n : ℕ} {x : Entry} → Bytes s → Rowing e s at count → at < length s → got x n ≡ entry_at e s at → Met e s at count x n
met h r l e = record { bytes = h; rowing = r; more = l; reads = e }

pub loop-at-init : goal.loop-at-init
loop-at-init c = rowing c.args.edition c.args.row.now

pub key_of-requires : goal.key_of-requires
key_of-requires c = read_within (spelt (met (bytes_of _ (λ i. (c.type_inv.row i).fits)) c.loop-at.invariant c.loop-at-test.true c.in_ok-x.ensures)).read

pub seek-requires : goal.seek-requires
seek-requires c = (_, c.loop-at.invariant.before, c.loop-at.invariant.chain)

pub returns-then-seek-at : goal.returns-then-seek-at
returns-then-seek-at c = rowing_twice (met (bytes_of _ (λ i. (c.type_inv.row i).fits)) c.loop-at.invariant c.loop-at-test.true c.in_ok-x.ensures) c.key_of.ensures c.seek.ensures c.if-seek-at.true c.plain.ensures

pub returns-then-count-ge-LIMIT : goal.returns-then-count-ge-LIMIT
returns-then-count-ge-LIMIT c =
    rowing_full (met (bytes_of _ (λ i. (c.type_inv.row i).fits)) c.loop-at.invariant c.loop-at-test.true c.in_ok-x.ensures) c.key_of.ensures c.seek.ensures c.if-seek-at.false c.if-count-ge-LIMIT.true
    c.plain-then-count-ge-LIMIT.ensures

pub loop-at-smaller : goal.loop-at-smaller
loop-at-smaller c = let far = met_far (met (bytes_of _ (λ i. (c.type_inv.row i).fits)) c.loop-at.invariant c.loop-at-test.true c.in_ok-x.ensures) in omega (arith, far.0, far.1)

pub loop-at-preserved : goal.loop-at-preserved
loop-at-preserved c =
    rowing_next (met (bytes_of _ (λ i. (c.type_inv.row i).fits)) c.loop-at.invariant c.loop-at-test.true c.in_ok-x.ensures) c.key_of.ensures c.seek.ensures c.if-seek-at.false c.if-count-ge-LIMIT.false

pub returns-in_err-x : goal.returns-in_err-x
returns-in_err-x c =
    let p = err_from_is_err_and c.from_residual.result c.from_residual.ensures.1 in
    rw (p.1, p.2) (rowing_refused c.loop-at.invariant c.loop-at-test.true c.in_err-x.ensures)

pub returns : goal.returns
returns c = rowing_end c.loop-at.invariant c.loop-at-test.false
