-- `text::put_refusal`: the line is made in a place of its own, which shows its length, and copied. Assumes nothing.
use native.Mathlib.Omega.{arith}
use Rattle.layout.proofs.laws.Stored.{put_whole}
use Rattle.text.proofs.laws.Numerals.{shown}
use Rattle.text.proofs.put_refusal.Goals as goal

pub returns : goal.returns
returns c =
    let p = c.fill_refusal-n.ensures in
    rw (shown c.fill_refusal-n.result _ _ (put_whole p.0 (omega (arith, p.0.place, p.1)))) at c.copy.ensures
