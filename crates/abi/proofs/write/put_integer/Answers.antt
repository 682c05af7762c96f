-- 12, then the room; then one store, or two.
use Rattle.std.proofs.Common.{◌≡◌, ℕ, ◌≤◌, length, sym, ap, ◌∙◌, arith}
use Rattle.layout.specs.Written.{says, no}
use Rattle.abi.specs.Integers.{integer_width, integer_bytes, integer_said}
use Rattle.layout.proofs.laws.Writing.{refusal, no_room, done}
use Rattle.abi.proofs.Integers.{said_none, said_bytes, narrow, integer_length, one_store, two_stores}
use Rattle.abi.proofs.write.put_integer.Goals as goal

pub returns-then-w-eq0 : goal.returns-then-w-eq0
returns-then-w-eq0 c =
    let a = c.args in
    let w = c.integer_width-w.ensures in
    refusal (said_none a.code a.low a.high (sym w ∙ c.if-w-eq0.true) ∙ ap no (sym c.plain.ensures))

-- the width of a type that is an integer's
is-bytes : (code low high w : ℕ) → w ≡ integer_width code → (w ≡ 0 → ⊥) → integer_said code low high ≡ says (integer_bytes w low high)
is-bytes code low high w e some = said_bytes code low high (λ z. some (e ∙ z)) ∙ ap (λ n. says (integer_bytes n low high)) (sym e)

pub returns-then-out-w : goal.returns-then-out-w
returns-then-out-w c =
    let a = c.args in
    let w = c.integer_width-w in
    no_room (is-bytes a.code a.low a.high w.result w.ensures c.if-w-eq0.false) (omega (arith, integer_length w.result a.low a.high, c.if-out-w.true)) c.plain-then-out-w.ensures

pub returns-then-w-eq16 : goal.returns-then-w-eq16
returns-then-w-eq16 c =
    let a = c.args in
    let w = c.integer_width-w in
    let wide = c.if-w-eq16.true in
    let room : 16 ≤ length a.out.now = omega (arith, wide, c.if-out-w.false) in
    done (is-bytes a.code a.low a.high w.result w.ensures c.if-w-eq0.false ∙ ap (λ n. says (integer_bytes n a.low a.high)) wide) (omega (arith, integer_length 16 a.low a.high, room))
    (two_stores a.low a.high room c.store-half.ensures c.store.ensures)

pub returns : goal.returns
returns c =
    let a = c.args in
    let w = c.integer_width-w in
    let small : w.result ≤ 8 = rw (← w.ensures) at (narrow a.code (λ z. c.if-w-eq16.false (w.ensures ∙ z))) in
    done (is-bytes a.code a.low a.high w.result w.ensures c.if-w-eq0.false) (omega (arith, integer_length w.result a.low a.high, c.if-out-w.false))
    (one_store w.result a.low a.high small c.if-out-w.false c.store-2.ensures)
