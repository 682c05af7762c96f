-- An integer's bytes are one store of its low word, and for 128 bits a second one behind it.
-- Assumes nothing.
use Rattle.std.proofs.Common.{◌≡◌, ℕ, ◌+◌, ◌-◌, ◌≤◌, Bool, true, false, eqb, leb, List, length, refl, ◌∙◌, append-nil, arith, lit≤, length-append, eq-eqb, ne_eqb, le-leb, leb-false, leb-true}
use Rattle.layout.specs.Answer.{bare, pick}
use Rattle.layout.specs.Bytes.{bytes}
use Rattle.layout.specs.Refusals.{PLACE}
use Rattle.layout.specs.Written.{says, no, Put, roomed}
use Rattle.layout.proofs.laws.Numbers.{length_bytes}
use Rattle.layout.proofs.laws.Writing.{roomy, then_roomy}
use Rattle.abi.specs.Integers.{integer_width, integer_bytes, integer_said}

module _ (code low high : ℕ) where
  pub said_none : integer_width code ≡ 0 → integer_said code low high ≡ no (bare PLACE)
  unfolding integer_said
  said_none e = rw (eq-eqb (integer_width code) 0 e)

  pub said_bytes : (integer_width code ≡ 0 → ⊥) → integer_said code low high ≡ says (integer_bytes (integer_width code) low high)
  unfolding integer_said
  said_bytes e = rw (ne_eqb (integer_width code) 0 e)

-- no type has a width between
pub narrow : (code : ℕ) → (integer_width code ≡ 16 → ⊥) → integer_width code ≤ 8
unfolding integer_width
narrow code h = go (eqb code 0) (leb code 2) (leb code 4) (leb code 6) (leb code 8) (leb code 10) h
  where
    go : (a b c d e f : Bool) → (◌≡◌ {A = ℕ} (pick a 0 (pick b 1 (pick c 2 (pick d 4 (pick e 8 (pick f 16 0)))))) 16 → ⊥) → pick a 0 (pick b 1 (pick c 2 (pick d 4 (pick e 8 (pick f 16 0))))) ≤ 8
    go true b c d e f h = lit≤ tt
    go false true c d e f h = lit≤ tt
    go false false true d e f h = lit≤ tt
    go false false false true e f h = lit≤ tt
    go false false false false true f h = lit≤ tt
    go false false false false false true h = absurd (h refl)
    go false false false false false false h = lit≤ tt

module _ (w low high : ℕ) where
  pub integer_length : length (integer_bytes w low high) ≡ w
  unfolding integer_bytes
  integer_length = length-append (bytes (pick (leb w 8) w 8) low) (bytes (w - 8) high) ∙ go (leb w 8) refl
    where
      go : (b : Bool) → leb w 8 ≡ b → length (bytes (pick b w 8) low) + length (bytes (w - 8) high) ≡ w
      go true e = omega (arith, length_bytes w low, length_bytes (w - 8) high, leb-true w 8 e)
      go false e = omega (arith, length_bytes 8 low, length_bytes (w - 8) high, leb-false w 8 e)

  pub one_store : {old new : List ℕ} {n : ℕ} → w ≤ 8 → w ≤ length old → Put old 0 (roomed old 0 (bytes w low)) new n → Put old 0 (integer_bytes w low high) new n
  unfolding integer_bytes bytes
  one_store h k p =
      let none : w - 8 ≡ 0 = omega arith in
      rw (le-leb w 8 h, none, append-nil (bytes w low)) (roomy (bytes w low) p (omega (arith, length_bytes w low)))

pub two_stores : (low high : ℕ) {old mid new : List ℕ} {m n : ℕ} → 16 ≤ length old → Put old 0 (roomed old 0 (bytes 8 low)) mid m → Put mid m (roomed mid m (bytes 8 high)) new n → Put old 0 (integer_bytes 16 low high) new n
unfolding integer_bytes
two_stores low high k p q =
    then_roomy (bytes 8 high) (roomy (bytes 8 low) p (omega (arith, length_bytes 8 low))) q (omega (arith, length_bytes 8 low, length_bytes 8 high))
