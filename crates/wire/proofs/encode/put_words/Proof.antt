-- `wire::encode::put_words`: the loop owes the bytes of the units from its place up to the end, of which a word is the first; the code points that are
-- left are the rest. Assumes nothing.
use mathlib.Core.Path.{◌≡◌, refl, sym, ◌∙◌}
use mathlib.Core.List.{append-nil}
use Prim.Native.Nat.{◌≤◌, ◌+◌, ◌-◌, ◌*◌, ◌/◌}
use native.Mathlib.Omega.{arith}
use borrow.Author.Rules.{rules}
use lib.ListN.{length, drop}
use Rattle.layout.specs.Bytes.{cells}
use Rattle.layout.proofs.laws.Writing.{Owes, start, part, end, long}
use Rattle.wire.specs.Utf8.{utf8}
use Rattle.wire.proofs.Filled.{word_room, word_owed}
use Rattle.wire.proofs.encode.put_words.Statement.{statement}
use Rattle.wire.proofs.encode.put_words.Tie as tie

abbrev invariant-loop : tie.invariant-loop-at
invariant-loop s start count out₀ o stop at₀ next₀ out at next =
    Owes out next (utf8 (cells 2 ((start + count * 2 - at) / 2) (drop at s))) out₀ o (utf8 (cells 2 count (drop start s))) × (at + (start + count * 2 - at) / 2 * 2 ≡ start + count * 2) × (start ≤ at) × (o ≤ next)

abbrev decreases-loop : tie.decreases-loop-at
decreases-loop s start count out₀ o stop at₀ next₀ out at next = start + count * 2 - at

loop-holds : tie.Need-loop-at-init invariant-loop decreases-loop
loop-holds c =
    let a = c.args in
    let all : (a.start + a.count * 2 - a.start) / 2 ≡ a.count = omega arith in
    (rw all start, omega arith, omega arith, omega arith)

-- four units are left
enough : (c : tie.In-loop-at invariant-loop decreases-loop)
    → let a = c.args in 4 ≤ (a.start + a.count * 2 - c.loop-at.at) / 2
enough c = omega (arith, c.left.ensures, c.loop-at.invariant.1, c.loop-at.invariant.2)

-- and a word has room
room : (c : tie.In-loop-at invariant-loop decreases-loop) → 4 ≤ length c.loop-at.out - c.loop-at.next
room c =
    let a = c.args in
    let w = c.loop-at.invariant.0 in
    omega (arith, c.requires.1, word_room a.s.now c.loop-at.at ((a.start + a.count * 2 - c.loop-at.at) / 2) (enough c), w.place, w.long, c.loop-at.invariant.3)

loop-again : tie.Need-loop-at-preserved invariant-loop decreases-loop
loop-again c =
    let a = c.args in
    let l = c.loop-at in
    let word = c.word_at-w in
    let w = word.ensures in
    let h = enough c.before.before.before.before.before.before in
    let left : (a.start + a.count * 2 - l.at) / 2 - w.units ≡ (a.start + a.count * 2 - word.result.at) / 2 = omega (arith, w.after, w.few) in
    (rw left at (word_owed w ((a.start + a.count * 2 - l.at) / 2) h l.invariant.0 c.put_word.ensures), omega (arith, w.after, w.few, l.invariant.1, h), omega (arith, w.after, l.invariant.2), omega (arith, l.invariant.3))

pub put_words_spec : {M : Type 1} → statement M
put_words_spec =
    tie.close
    (tie.spec
    invariant-loop
    decreases-loop
    (λ c κs. search rules)
    (λ c. omega (arith, c.left.ensures))
    (λ c. omega (arith, c.left.ensures))
    loop-holds
    (λ c κs. omega (arith, enough c))
    (λ c κs. room c.before.before)
    (λ c. omega (arith, room c.before.before.before.before.before.before, c.word_at-w.ensures.fits, c.loop-at.invariant.0.long))
    (λ c. let w = c.word_at-w.ensures in omega (arith, w.after, w.some, enough c.before.before.before.before.before.before))
    loop-again
    (λ c. omega arith)
    (λ c. omega arith)
    (λ c. omega (arith, c.loop-at.invariant.1))
    (λ c κs.
    let l = c.loop-at in
    (omega (arith, l.invariant.1), omega (arith, c.requires.1, l.invariant.0.place, l.invariant.0.long, l.invariant.3)))
    (λ c. long c.put_points.ensures ∙ c.loop-at.invariant.0.long)
    (λ c. end refl (part (sym (append-nil _)) c.loop-at.invariant.0 c.put_points.ensures)))
