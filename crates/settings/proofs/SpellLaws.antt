-- An entry written from its fields: what is due by the tests that led there, and the writes that make it.
-- Assumes nothing.
use Rattle.layout.specs.Answer.{says_count}
use Rattle.std.specs.Prelude.{Ok, Err}
use Rattle.std.specs.declared.result.Result.{Result}
use Rattle.layout.specs.declared.Refusal.{Refusal}
use mathlib.Core.Path.{◌≡◌, ap, sym, ◌∙◌, subst}
use mathlib.Core.Bool.{Bool, true, false}
use mathlib.Core.List.{List, [], ◌++◌}
use Prim.Native.Nat.{ℕ, ◌+◌, ◌≤◌, ◌<◌}
use native.Mathlib.Omega.{arith}
use borrow.Author.Tests.{eq-eqb, ne_eqb, le-leb, lt-leb}
use lib.ListN.{length, take, drop, length-append}
use lib.Seq.{take_at, take-length}
use Rattle.layout.specs.Answer.{Told, Answer, got, refused, bare}
use Rattle.layout.specs.Bytes.{bytes}
use Rattle.layout.specs.Refusals.{RECORD}
use Rattle.layout.specs.Written.{Said, says, no, Wrote, Put, roomed}
use Rattle.layout.proofs.laws.Did.{whole, Kept, not_due, too_short, kept}
use Rattle.layout.proofs.laws.Numbers.{length_bytes}
use Rattle.layout.proofs.laws.Stored.{first, more}
use Rattle.layout.proofs.laws.Writing.{then, long, refusal}
use Rattle.wire.specs.Places.{Located, value_at}
use Rattle.settings.specs.Entry.{word_tidy}
use Rattle.settings.specs.Spell.{kind_of, serial_said, is_value, entry_bytes, spelled_said, entry_said}
use Rattle.settings.proofs.Keys.{said_text, text_short}

-- ── one tidy value ──

module _ (type : ℕ) (w : List ℕ) where
  pub value_longer : {v : Located} {m : ℕ} → got v m ≡ value_at type w 0 → (m ≡ length w → ⊥) → false ≡ is_value type w
  unfolding is_value
  value_longer {m = m} e n = rw (← e, ne_eqb m (length w) n)

  pub value_tested : {v : Located} {m : ℕ} → got v m ≡ value_at type w 0 → m ≡ length w → {b : Bool} → b ≡ word_tidy type w → b ≡ is_value type w
  unfolding is_value
  value_tested {m = m} e n h = rw (← e, eq-eqb m (length w) n) h

  pub value_none : {t : Told} → refused t ≡ value_at type w 0 → false ≡ is_value type w
  unfolding is_value
  value_none e = rw (← e)

-- ── what is due ──

module _ (own : Bool) (vendor property type : ℕ) (sw w : List ℕ) where
  pub no_value : is_value type w ≡ false → spelled_said own vendor property type w (says sw) ≡ no (bare RECORD)
  unfolding spelled_said
  no_value e = rw e

  pub too_long : is_value type w ≡ true → 4294967295 < 14 + length sw + length w → spelled_said own vendor property type w (says sw) ≡ no (bare RECORD)
  unfolding spelled_said
  too_long e l = rw (e, lt-leb (14 + length sw + length w) 4294967295 l)

  pub all_due : is_value type w ≡ true → 14 + length sw + length w ≤ 4294967295 → spelled_said own vendor property type w (says sw) ≡ says (entry_bytes (kind_of own) vendor property sw type w)
  unfolding spelled_said
  all_due e l = rw (e, le-leb (14 + length sw + length w) 4294967295 l)

module _ (kind vendor property type : ℕ) (sw w : List ℕ) where
  pub entry_size : length (entry_bytes kind vendor property sw type w) ≡ 14 + length sw + length w
  unfolding entry_bytes
  entry_size = simp (length-append, length_bytes) (omega arith)

  -- five writes
  pub fields_put : {out m₁ m₂ m₃ m₄ new : List ℕ} {a b c d n : ℕ} → 14 + length sw + length w ≤ length out
      → Put out 0 (roomed out 0 (bytes 4 (14 + length sw + length w))) m₁ a → Put m₁ a (bytes 2 kind ++ bytes 4 vendor ++ bytes 2 property) m₂ b
      → Put m₂ b (roomed m₂ b (take (length sw) sw)) m₃ c → Put m₃ c (roomed m₃ c (bytes 2 type)) m₄ d → Put m₄ d (roomed m₄ d (take (length w) w)) new n
      → Put out 0 (entry_bytes kind vendor property sw type w) new n
  unfolding entry_bytes
  fields_put h p q r s t =
      more
      (more
      (more
      (then (first (simp length_bytes (omega arith)) p) q)
      sw (simp (length-append, length_bytes) (omega arith)) (rw (take-length sw) at r))
      (bytes 2 type) (simp (length-append, length_bytes) (omega arith)) s)
      w (simp (length-append, length_bytes) (omega arith)) (rw (take-length w) at t)

-- the room behind the length
pub front_room : {out m : List ℕ} {a : ℕ} (size : ℕ) → 14 ≤ length out → Put out 0 (roomed out 0 (bytes 4 size)) m a → a + 8 ≤ length m
front_room size h p =
    let q = first (simp length_bytes (omega arith)) p in
    omega (arith, q.place, long q, length_bytes 4 size)

-- ── the serial's bytes ──

-- what was written is what is due
pub done_due : {s : Said} {old new : List ℕ} {r : (Result ℕ Refusal)} {n : ℕ} → r ≡ Ok n → Wrote s old (says_count r) new → (n ≤ length old) × (n ≤ length new) × (s ≡ says (take n new))
done_due {s} {old} {new} {r} {n} e w =
    let d = whole (subst (λ x. Wrote s old (says_count x) new) e w) in
    let size = ap length d.left ∙ length-append d.bs (drop (length d.bs) old) in
    (omega (arith, d.fits, d.count), omega (arith, size, d.count), d.due ∙ ap says (sym (ap (take n) d.left ∙ take_at d.bs (drop (length d.bs) old) n (sym d.count))))

serial_short : (own : Bool) (us bs : List ℕ) → serial_said own us ≡ says bs → length bs ≤ 511
unfolding serial_said
serial_short true us bs e = let s = said_text us bs e in omega (arith, ap length s.2, text_short us s.1)
serial_short false us bs e = let is : [] ≡ bs = cc in omega (arith, ap length is)

-- so a serial that was refused was not for its room
pub serial_refused : (own : Bool) (us : List ℕ) {old new : List ℕ} {r : (Result ℕ Refusal)} {t : Told} → r ≡ Err t → 511 ≤ length old → Wrote (serial_said own us) old (says_count r) new → serial_said own us ≡ no t
serial_refused own us {old} {new} {r} {t} e room w = of (kept (subst (λ x. Wrote (serial_said own us) old (says_count x) new) e w)).1
  where
    of : Kept (serial_said own us) old t → serial_said own us ≡ no t
    of (not_due d) = d
    of (too_short bs d l i) = let z : ⊥ = omega (arith, serial_short own us bs d) in absurd z

module _ (vendor property type : ℕ) (w : List ℕ) (own : Bool) (us : List ℕ) where
  pub entry_refused : {t : Told} {out : List ℕ} → serial_said own us ≡ no t → Wrote (entry_said vendor property type w own us) out (refused t) out
  unfolding spelled_said
  entry_refused e = refusal (rw e)

  pub entry_done : {sw out new : List ℕ} {a : Answer (Unit {0})} → serial_said own us ≡ says sw → Wrote (spelled_said own vendor property type w (says sw)) out a new → Wrote (entry_said vendor property type w own us) out a new
  entry_done e h = rw e h
