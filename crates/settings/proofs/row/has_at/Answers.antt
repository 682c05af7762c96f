-- `settings::row::has_at`: where they have room. Assumes nothing.
use Rattle.layout.proofs.laws.Numbers.{zero_one}
use Rattle.settings.proofs.Rows.{none_same, short_bytes}
use Rattle.settings.proofs.row.has_at.Goals as goal

pub returns-then-s-at : goal.returns-then-s-at
returns-then-s-at c =
    let a = c.args in
    none_same a.s.now a.key.now a.at c.if-s-at.true

pub returns-then-s-at-2 : goal.returns-then-s-at-2
returns-then-s-at-2 c =
    let a = c.args in
    (λ e. zero_one (cc), λ e. absurd (short_bytes a.s.now a.key.now a.at e c.if-s-at-2.true))

pub returns : goal.returns
returns c = c.same_at.ensures
