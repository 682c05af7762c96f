-- `mending::window::finish`: the tests are those of the definition, in their order. Assumes nothing.
use Rattle.std.proofs.Common.{◌≡◌, ◌-◌, true, false, leb, length, sym, ◌∙◌, arith, rules, leb-true}
use Rattle.mending.specs.Mended.{least}
use Rattle.mending.specs.Window.{opened}
use Rattle.mending.proofs.Going.{least_min, least_most, least_fits, closes_off, closes_not, closes_so, finishes_not, finishes_so}
use Rattle.mending.proofs.window.finish.Statement.{statement}
use Rattle.mending.proofs.window.finish.Tie as tie

-- how much room is left
slots : (c : tie.After-min-slots) → c.min-slots.result ≡ least (length c.args.starts.now) (length c.args.lengths.now)
slots c = let a = c.args in c.min-slots.ensures ∙ least_min (length a.starts.now) (length a.lengths.now)

returns : tie.Need-returns-then-not-all
returns c =
    let a = c.args in
    finishes_not a.t (closes_off a.all (least (length a.starts.now) (length a.lengths.now) - a.told) a.t (c.if-not-all.true)) c.answer.ensures

sub-has-slot : tie.Need-overflow_sub-slots
sub-has-slot c =
    let k = c in
    rw (slots c.before) (least_fits (length k.args.starts.now) (length k.args.lengths.now) k.requires.1 k.requires.2)

returns-2 : tie.Need-returns-then-not-has_slot
returns-2 c =
    let k = c in
    let a = k.args in
    let none : leb (length (opened a.t)) (least (length a.starts.now) (length a.lengths.now) - a.told) ≡ false = rw (slots c.before.before.before.before) at (sym c.has_slot.ensures ∙ c.if-not-has_slot.true) in
    finishes_not a.t (closes_not a.all (least (length a.starts.now) (length a.lengths.now) - a.told) a.t none) c.answer-then-not-has_slot.ensures

-- where the stretch has room, both lists have it
room : (c : tie.Else-not-has_slot) → leb (length (opened c.args.t))
    (least (length c.args.starts.now) (length c.args.lengths.now) - c.args.told) ≡ true
room c = rw (slots c.before.before.before) at (sym c.has_slot.ensures ∙ c.if-not-has_slot.false)

put-stretch-requires : tie.Need-put_stretch-n-requires
put-stretch-requires c κs =
    let k = c in
    let p = k in
    let most = least_most (length p.args.starts.now) (length p.args.lengths.now) in
    let h = leb-true (length (opened p.args.t)) (least (length p.args.starts.now) (length p.args.lengths.now) - p.args.told) (room c.before.before) in
    (p.requires.0, omega (arith, h, most.0), omega (arith, h, most.1))

returns-3 : tie.Need-returns
returns-3 c =
    let k = c in
    let a = k.args in
    let p = c.put_stretch-n.ensures in
    finishes_so a.t (closes_so a.all (least (length a.starts.now) (length a.lengths.now) - a.told) a.t (k.if-not-all.false) (room c.before.before.before.before.before.before.before.before.before))
    (rw c.closed.ensures at c.answer-2.ensures) p.0 p.1

pub finish_spec : {M : Type 1} → statement M
finish_spec =
    tie.close
    (tie.spec
    (λ c κs. search rules)
    (λ c κs. search rules)
    returns
    sub-has-slot
    (λ c κs. search rules)
    (λ c κs. search rules)
    returns-2
    put-stretch-requires
    (λ c κs. search rules)
    (λ c κs. search rules)
    (λ c. search rules)
    (λ c. search rules)
    returns-3)
