-- `wire::numbers::put_numbers`: each type by its code, with what its words have above its bytes. Assumes nothing.
use mathlib.Core.Path.{◌≡◌, refl, ap}
use Prim.Native.Nat.{ℕ, ◌-◌, ◌*◌, ◌^◌, ◌≤◌}
use native.Mathlib.Omega.{arith}
use borrow.Author.Rules.{rules}
use lib.Dec.{lit≤}
use lib.ListN.{length}
use Rattle.layout.proofs.laws.Numbers.{bytes_of}
use Rattle.wire.specs.Layout.{integer_width, shape, sint, uint}
use Rattle.wire.specs.Numbers.{one_byte, two_bytes, four_bytes, eight_bytes}
use Rattle.wire.proofs.NumberWords.{signed_extended, plain_extended, words_put}
use Rattle.wire.proofs.laws.Kinds.{past_key}
use Rattle.wire.proofs.numbers.put_numbers.Statement.{statement}
use Rattle.wire.proofs.numbers.put_numbers.Tie as tie

-- the bytes of a type's numbers are there
room : (c : tie.Start) (t : ℕ) → c.args.code ≡ t → c.args.n * integer_width t ≤ length c.args.s.now - c.args.at
room c t e = rw e at c.requires.2

eight-only : (t : ℕ) → t ≤ 8 → 8 ≤ t → t ≡ 8
eight-only t h k = omega arith

-- the last is the only one that is left
last : (t : ℕ) → 1 ≤ t → t ≤ 8 → (t ≡ 1 → ⊥) → (t ≡ 2 → ⊥) → (t ≡ 3 → ⊥) → (t ≡ 4 → ⊥) → (t ≡ 5 → ⊥) → (t ≡ 6 → ⊥) → (t ≡ 7 → ⊥) → t ≡ 8
last t h k a b c d e f g = let far = past_key 7 t (past_key 6 t (past_key 5 t (past_key 4 t (past_key 3 t (past_key 2 t (past_key 1 t h a) b) c) d) e) f) g in eight-only t k far

put-words-requires : tie.Need-put_words-requires
unfolding integer_width
put-words-requires c κs = let d = c in (one_byte, room c.before.before.before.before 1 c.in-1.is, d.requires.3, lit≤ tt)

put-words-requires-2 : tie.Need-put_words-requires-in-2
unfolding integer_width
put-words-requires-2 c κs = let d = c in (one_byte, room c.before.before.before.before 2 c.in-2.is, d.requires.3, lit≤ tt)

put-words-requires-3 : tie.Need-put_words-requires-in-3
unfolding integer_width
put-words-requires-3 c κs = let d = c in (two_bytes, room c.before.before.before.before 3 c.in-3.is, d.requires.3, lit≤ tt)

put-words-requires-4 : tie.Need-put_words-requires-in-4
unfolding integer_width
put-words-requires-4 c κs = let d = c in (two_bytes, room c.before.before.before.before 4 c.in-4.is, d.requires.3, lit≤ tt)

put-words-requires-5 : tie.Need-put_words-requires-in-5
unfolding integer_width
put-words-requires-5 c κs = let d = c in (four_bytes, room c.before.before.before.before 5 c.in-5.is, d.requires.3, lit≤ tt)

put-words-requires-6 : tie.Need-put_words-requires-in-6
unfolding integer_width
put-words-requires-6 c κs = let d = c in (four_bytes, room c.before.before.before.before 6 c.in-6.is, d.requires.3, lit≤ tt)

put-words-requires-7 : tie.Need-put_words-requires-in-7
unfolding integer_width
put-words-requires-7 c κs = let d = c in (eight_bytes, room c.before.before.before.before 7 c.in-7.is, d.requires.3, lit≤ tt)

put-words-requires-8 : tie.Need-put_words-requires-in_default
unfolding integer_width
put-words-requires-8 c κs = let d = c in (eight_bytes, room c.before.before.before.before 8 (last d.args.code d.requires.0 d.requires.1 c.in_default.in_default-own.rest.0.0.0.0.0.0.1 c.in_default.in_default-own.rest.0.0.0.0.0.1 c.in_default.in_default-own.rest.0.0.0.0.1 c.in_default.in_default-own.rest.0.0.0.1 c.in_default.in_default-own.rest.0.0.1 c.in_default.in_default-own.rest.0.1 c.in_default.in_default-own.rest.1), d.requires.3, lit≤ tt)

returns : tie.Need-returns-in-1
unfolding integer_width
returns c =
    let d = c in
    let e = c.in-1.is in
    words_put d.args.code d.args.n d.args.s.now d.args.at (sint 1) 0x80 0xFFFFFFFFFFFFFF00 (bytes_of d.args.s.now (λ i. (c.shared_slice_known-1.given i).fits)) (ap shape e) (λ v h. signed_extended (256 ^ 1) 0x80 0xFFFFFFFFFFFFFF00 v refl refl h) (room c.before.before.before.before.before.before.before 1 e) c.put_words.ensures

returns-2 : tie.Need-returns-in-2
unfolding integer_width
returns-2 c =
    let d = c in
    let e = c.in-2.is in
    words_put d.args.code d.args.n d.args.s.now d.args.at (uint 1) 0 0 (bytes_of d.args.s.now (λ i. (c.shared_slice_known-1.given i).fits)) (ap shape e) (λ v h. plain_extended 0 v) (room c.before.before.before.before.before.before.before 2 e) c.put_words-in-2.ensures

returns-3 : tie.Need-returns-in-3
unfolding integer_width
returns-3 c =
    let d = c in
    let e = c.in-3.is in
    words_put d.args.code d.args.n d.args.s.now d.args.at (sint 2) 0x8000 0xFFFFFFFFFFFF0000 (bytes_of d.args.s.now (λ i. (c.shared_slice_known-1.given i).fits)) (ap shape e) (λ v h. signed_extended (256 ^ 2) 0x8000 0xFFFFFFFFFFFF0000 v refl refl h) (room c.before.before.before.before.before.before.before 3 e) c.put_words-in-3.ensures

returns-4 : tie.Need-returns-in-4
unfolding integer_width
returns-4 c =
    let d = c in
    let e = c.in-4.is in
    words_put d.args.code d.args.n d.args.s.now d.args.at (uint 2) 0 0 (bytes_of d.args.s.now (λ i. (c.shared_slice_known-1.given i).fits)) (ap shape e) (λ v h. plain_extended 0 v) (room c.before.before.before.before.before.before.before 4 e) c.put_words-in-4.ensures

returns-5 : tie.Need-returns-in-5
unfolding integer_width
returns-5 c =
    let d = c in
    let e = c.in-5.is in
    words_put d.args.code d.args.n d.args.s.now d.args.at (sint 4) 0x80000000 0xFFFFFFFF00000000 (bytes_of d.args.s.now (λ i. (c.shared_slice_known-1.given i).fits)) (ap shape e) (λ v h. signed_extended (256 ^ 4) 0x80000000 0xFFFFFFFF00000000 v refl refl h) (room c.before.before.before.before.before.before.before 5 e) c.put_words-in-5.ensures

returns-6 : tie.Need-returns-in-6
unfolding integer_width
returns-6 c =
    let d = c in
    let e = c.in-6.is in
    words_put d.args.code d.args.n d.args.s.now d.args.at (uint 4) 0 0 (bytes_of d.args.s.now (λ i. (c.shared_slice_known-1.given i).fits)) (ap shape e) (λ v h. plain_extended 0 v) (room c.before.before.before.before.before.before.before 6 e) c.put_words-in-6.ensures

returns-7 : tie.Need-returns-in-7
unfolding integer_width
returns-7 c =
    let d = c in
    let e = c.in-7.is in
    words_put d.args.code d.args.n d.args.s.now d.args.at (sint 8) 0x8000000000000000 0 (bytes_of d.args.s.now (λ i. (c.shared_slice_known-1.given i).fits)) (ap shape e) (λ v h. signed_extended (256 ^ 8) 0x8000000000000000 0 v refl refl h) (room c.before.before.before.before.before.before.before 7 e) c.put_words-in-7.ensures

returns-8 : tie.Need-returns-in_default
unfolding integer_width
returns-8 c =
    let d = c in
    let e = last d.args.code d.requires.0 d.requires.1 c.in_default.in_default-own.rest.0.0.0.0.0.0.1 c.in_default.in_default-own.rest.0.0.0.0.0.1 c.in_default.in_default-own.rest.0.0.0.0.1 c.in_default.in_default-own.rest.0.0.0.1 c.in_default.in_default-own.rest.0.0.1 c.in_default.in_default-own.rest.0.1 c.in_default.in_default-own.rest.1 in
    words_put d.args.code d.args.n d.args.s.now d.args.at (uint 8) 0 0 (bytes_of d.args.s.now (λ i. (c.shared_slice_known-1.given i).fits)) (ap shape e) (λ v h. plain_extended 0 v) (room c.before.before.before.before.before.before.before 8 e) c.put_words-in_default.ensures

pub put_numbers_spec : {M : Type 1} → statement M
put_numbers_spec =
    tie.close
    (tie.spec
    put-words-requires
    put-words-requires-2
    put-words-requires-3
    put-words-requires-4
    put-words-requires-5
    put-words-requires-6
    put-words-requires-7
    put-words-requires-8
    (λ c. search rules)
    returns
    (λ c. search rules)
    returns-2
    (λ c. search rules)
    returns-3
    (λ c. search rules)
    returns-4
    (λ c. search rules)
    returns-5
    (λ c. search rules)
    returns-6
    (λ c. search rules)
    returns-7
    (λ c. search rules)
    returns-8)
