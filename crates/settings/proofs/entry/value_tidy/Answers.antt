-- `settings::entry::value_tidy`: the bytes of the value, by its type. Assumes nothing.
use mathlib.Core.Path.{◌≡◌, ap, ◌∙◌}
use Prim.Native.Nat.{◌+◌, ◌-◌}
use native.Mathlib.Omega.{arith}
use lib.ListN.{take, drop}
use Rattle.settings.specs.Entry.{word_tidy, value_tidy}
use Rattle.settings.proofs.entry.value_tidy.Goals as goal

pub returns : goal.returns
unfolding value_tidy
returns c =
    let a = c.args in
    let size : a.x.value.start + a.x.value.len - a.x.value.start ≡ a.x.value.len = omega arith in
    c.word_tidy.ensures ∙ ap (λ k. word_tidy a.x.code (take k (drop a.x.value.start a.s.now))) size
