-- `wire::given::bits_of`: each type as its own reader of numbers means it. Assumes nothing.
use mathlib.Core.Path.{sym, ap, ◌∙◌}
use native.Mathlib.Omega.{arith}
use lib.Dec.{lit≤}
use lib.IntN.{ℤ}
use mir.Syntax.{w8, w16, w32, w64}
use mir.Val.{SFits, to_z, of_z}
use mir.ValLaws.{to_z-of_z}
use Rattle.layout.specs.Bytes.{bytes}
use Rattle.wire.specs.Codecs.{unsigned}
use Rattle.wire.specs.Given.{integer_word}
use Rattle.wire.proofs.laws.Numbered.{signed_word, unsigned_word}
use Rattle.wire.proofs.Twos.{wider}
use borrow.Author.Rules.{rules}
use Rattle.wire.proofs.given.bits_of.Statement.{statement}
use Rattle.wire.proofs.given.bits_of.Tie as tie

returns : tie.Need-returns-in-I8
returns c =
    let fits : SFits w8 c.in-I8.z = record { sfits = c.in-I8.known_told-1-own.given.0.1 } in
    let k = c.signed_bits.ensures in
    let same = ap (λ (y : ℤ). to_z w64 (of_z w64 y)) (to_z-of_z w8 c.in-I8.z fits) ∙ to_z-of_z w64 c.in-I8.z (wider w8 c.in-I8.z (lit≤ tt) fits) in
    (signed_word c.signed_bits.result 1 k.0 k.2 c.in-I8.z (lit≤ tt) (omega (arith, fits.sfits)) (k.1 ∙ ap (unsigned 18446744073709551616) same) ∙ ap integer_word (sym c.in-I8.is), omega arith, omega arith)

returns-2 : tie.Need-returns-in-U8
returns-2 c =
    let k = c.unsigned_bits.ensures in
    (unsigned_word c.unsigned_bits.result 1 k.0 k.2 c.in-U8.n k.1 ∙ ap integer_word (sym c.in-U8.is), omega arith, omega arith)

returns-3 : tie.Need-returns-in-I16
returns-3 c =
    let fits : SFits w16 c.in-I16.z = record { sfits = c.in-I16.known_told-in-I16-1-own.given.0.1 } in
    let k = c.signed_bits-in-I16.ensures in
    let same = ap (λ (y : ℤ). to_z w64 (of_z w64 y)) (to_z-of_z w16 c.in-I16.z fits) ∙ to_z-of_z w64 c.in-I16.z (wider w16 c.in-I16.z (lit≤ tt) fits) in
    (signed_word c.signed_bits-in-I16.result 2 k.0 k.2 c.in-I16.z (lit≤ tt) (omega (arith, fits.sfits)) (k.1 ∙ ap (unsigned 18446744073709551616) same) ∙ ap integer_word (sym c.in-I16.is), omega arith, omega arith)

returns-4 : tie.Need-returns-in-U16
returns-4 c =
    let k = c.unsigned_bits-in-U16.ensures in
    (unsigned_word c.unsigned_bits-in-U16.result 2 k.0 k.2 c.in-U16.n k.1 ∙ ap integer_word (sym c.in-U16.is), omega arith, omega arith)

returns-5 : tie.Need-returns-in-I32
returns-5 c =
    let fits : SFits w32 c.in-I32.z = record { sfits = c.in-I32.known_told-in-I32-1-own.given.0.1 } in
    let k = c.signed_bits-in-I32.ensures in
    let same = ap (λ (y : ℤ). to_z w64 (of_z w64 y)) (to_z-of_z w32 c.in-I32.z fits) ∙ to_z-of_z w64 c.in-I32.z (wider w32 c.in-I32.z (lit≤ tt) fits) in
    (signed_word c.signed_bits-in-I32.result 4 k.0 k.2 c.in-I32.z (lit≤ tt) (omega (arith, fits.sfits)) (k.1 ∙ ap (unsigned 18446744073709551616) same) ∙ ap integer_word (sym c.in-I32.is), omega arith, omega arith)

returns-6 : tie.Need-returns-in-U32
returns-6 c =
    let k = c.unsigned_bits-in-U32.ensures in
    (unsigned_word c.unsigned_bits-in-U32.result 4 k.0 k.2 c.in-U32.n k.1 ∙ ap integer_word (sym c.in-U32.is), omega arith, omega arith)

returns-7 : tie.Need-returns-in-I64
returns-7 c =
    let fits : SFits w64 c.in-I64.z = record { sfits = c.in-I64.known_told-in-I64-1-own.given.0.1 } in
    let k = c.signed_bits-in-I64.ensures in
    (signed_word c.signed_bits-in-I64.result 8 k.0 k.2 c.in-I64.z (lit≤ tt) (omega (arith, fits.sfits)) (k.1 ∙ ap (unsigned 18446744073709551616) (to_z-of_z w64 c.in-I64.z fits)) ∙ ap integer_word (sym c.in-I64.is), omega arith, omega arith)

returns-8 : tie.Need-returns-in-U64
returns-8 c =
    let k = c.unsigned_bits-in-U64.ensures in
    (unsigned_word c.unsigned_bits-in-U64.result 8 k.0 k.2 c.in-U64.n k.1 ∙ ap integer_word (sym c.in-U64.is), omega arith, omega arith)

returns-9 : tie.Need-returns-in-I128
returns-9 c =
    (c.pair_bits.ensures.0 ∙ ap integer_word (sym c.in-I128.is), c.pair_bits.ensures.1, c.pair_bits.ensures.2)

returns-10 : tie.Need-returns-in-U128
returns-10 c =
    (c.pair_bits-in-U128.ensures.0 ∙ ap integer_word (sym c.in-U128.is), c.pair_bits-in-U128.ensures.1, c.pair_bits-in-U128.ensures.2)

returns-11 : tie.Need-returns-in-Undef
unfolding bytes
returns-11 c =
    let k = c.unsigned_bits-in-Undef.ensures in
    (unsigned_word c.unsigned_bits-in-Undef.result 0 k.0 k.2 0 k.1 ∙ ap integer_word (sym c.in-Undef.is), omega arith, omega arith)

pub bits_of_spec : {M : Type 1} → statement M
bits_of_spec =
    tie.close
    (tie.spec
    (λ c. search rules)
    (λ c. rw (to_z-of_z w8 _ (record { sfits = c.in-I8.known_told-1-own.given.0.1 })) (wider w8 _ (lit≤ tt) (record { sfits = c.in-I8.known_told-1-own.given.0.1 })))
    (λ c κs. search rules)
    (λ c. search rules)
    (λ c. search rules)
    (λ c κs. search rules)
    (λ c. search rules)
    (λ c. rw (to_z-of_z w16 _ (record { sfits = c.in-I16.known_told-in-I16-1-own.given.0.1 })) (wider w16 _ (lit≤ tt) (record { sfits = c.in-I16.known_told-in-I16-1-own.given.0.1 })))
    (λ c κs. search rules)
    (λ c. search rules)
    (λ c. search rules)
    (λ c κs. search rules)
    (λ c. search rules)
    (λ c. rw (to_z-of_z w32 _ (record { sfits = c.in-I32.known_told-in-I32-1-own.given.0.1 })) (wider w32 _ (lit≤ tt) (record { sfits = c.in-I32.known_told-in-I32-1-own.given.0.1 })))
    (λ c κs. search rules)
    (λ c. search rules)
    (λ c. search rules)
    (λ c κs. search rules)
    (λ c. search rules)
    (λ c κs. search rules)
    (λ c. search rules)
    (λ c κs. search rules)
    (λ c. search rules)
    (λ c κs. search rules)
    (λ c. search rules)
    (λ c κs. search rules)
    (λ c. search rules)
    (λ c κs. search rules)
    returns
    returns-2
    returns-3
    returns-4
    returns-5
    returns-6
    returns-7
    returns-8
    returns-9
    returns-10
    returns-11)
