-- What mending with a number beside its answer comes to, by the cases of the code; and that it is one answer.
-- Assumes nothing.
use Rattle.std.proofs.Common.{◌≡◌, ℕ, ◌<◌, ◌≤◌, Bool, true, false, ltb, List, [], ◌∷◌, length, drop, set, sym, refl, ap, ◌∙◌, not-suc-le-zero, arith, ltb-false, ltb-true}
use Rattle.layout.specs.Answer.{Told, Answer, got, refused, bare}
use Rattle.layout.specs.Refusals.{ROOM}
use Rattle.mending.specs.Mended.{Mends}
use Rattle.abi.specs.Answered.{word, Tells}
use Rattle.abi.specs.Mended.{count_after, MendsCounted}

both_lengths : {n : ℕ} → 0 < n → n ≤ 0 → ⊥
both_lengths h k = omega arith

stored : (k : ℕ) (l : List ℕ) → 0 < length l → set l 0 k ≡ k ∷ drop 1 l
stored k [] h = absurd (not-suc-le-zero h)
stored k (x ∷ l) h = refl

module _ (s out starts lengths counts : List ℕ) where
  pub counted_short : {t : Told} {r : ℕ} → length counts ≤ 0 → t ≡ bare ROOM → r ≡ word {A = Unit {0}} (refused t) → Tells (MendsCounted s out starts lengths counts out starts lengths counts) r
  unfolding word
  counted_short {t} h e f = record { answer = refused t; allows = record { roomy = λ k. absurd (both_lengths k h); short = λ _. (ap refused e, refl, refl, refl, refl) }; told = f }

  module _ {out' starts' lengths' : List ℕ} {r : ℕ} (some : 0 < length counts) where
    pub counted_done : {k n : ℕ} → Mends s out starts lengths (got k n) out' starts' lengths' → r ≡ word (got (tt {0}) n) → Tells (MendsCounted s out starts lengths counts out' starts' lengths' (set counts 0 k)) r
    unfolding word
    counted_done {k} {n} m f = record { answer = got k n; allows = record { roomy = λ _. (m, stored k counts some); short = λ h. absurd (both_lengths some h) }; told = f }

    pub counted_refused : {t : Told} → Mends s out starts lengths (refused t) out' starts' lengths' → r ≡ word {A = Unit {0}} (refused t) → Tells (MendsCounted s out starts lengths counts out' starts' lengths' counts) r
    unfolding word
    counted_refused {t} m f = record { answer = refused t; allows = record { roomy = λ _. (m, refl); short = λ h. absurd (both_lengths some h) }; told = f }

  -- ── one answer ──

  one_mended : {x y : Answer ℕ} {o o' a a' b b' c c' : List ℕ} → MendsCounted s out starts lengths counts o a b c x → MendsCounted s out starts lengths counts o' a' b' c' y →
      (x ≡ y) × (o ≡ o') × (a ≡ a') × (b ≡ b') × (c ≡ c')
  one_mended {x} {y} {o} {o'} {a} {a'} {b} {b'} {c} {c'} p q = go (ltb 0 (length counts)) refl
    where
      go : (d : Bool) → ltb 0 (length counts) ≡ d → (x ≡ y) × (o ≡ o') × (a ≡ a') × (b ≡ b') × (c ≡ c')
      go true e =
          let m = p.roomy (ltb-true 0 (length counts) e) in
          let n = q.roomy (ltb-true 0 (length counts) e) in
          let same = m.0.answers ∙ sym n.0.answers in
          (same, m.0.bytes ∙ sym n.0.bytes, m.0.starts_so ∙ sym n.0.starts_so, m.0.lengths_so ∙ sym n.0.lengths_so, m.1 ∙ ap (count_after counts) same ∙ sym n.1)
      go false e =
          let m = p.short (ltb-false 0 (length counts) e) in
          let n = q.short (ltb-false 0 (length counts) e) in
          (m.0 ∙ sym n.0, m.1 ∙ sym n.1, m.2 ∙ sym n.2, m.3 ∙ sym n.3, m.4 ∙ sym n.4)

  pub one_counted : {r r' : ℕ} {o o' a a' b b' c c' : List ℕ} → Tells (MendsCounted s out starts lengths counts o a b c) r → Tells (MendsCounted s out starts lengths counts o' a' b' c') r' →
      (r ≡ r') × (o ≡ o') × (a ≡ a') × (b ≡ b') × (c ≡ c')
  one_counted x y = let all = one_mended x.allows y.allows in (x.told ∙ ap word all.0 ∙ sym y.told, all.1, all.2, all.3, all.4)
