-- A container that stands whole stays when bytes follow, and so does a front of them.
-- Assumes nothing.
use Rattle.std.proofs.Common.{◌≡◌, ℕ, ◌+◌, ◌<◌, ◌≤◌, leb, ◌⊎◌, List, ◌++◌, length, take, drop, sym, refl, ap, ◌∙◌, subst, inl, inr, arith, length-append, length-drop}
use lib.Seq.{take-append-le, drop-append-le}
use Rattle.layout.specs.Answer.{Answer, got, pick}
use Rattle.layout.specs.Bytes.{number}
use Rattle.layout.proofs.laws.Numbers.{zero_one}
use Rattle.wire.specs.Tests.{holds, fails, otherwise}
use Rattle.wire.specs.Refused.{announced, kind_in, code_in, number_in, container_in, ContainerSays}
use Rattle.wire.specs.declared.container.Container.{Container}
use Rattle.wire.proofs.laws.Judged.{least}
use Rattle.session.specs.Answered.{Front, none, one}
use Rattle.session.specs.Needs.{whole_in}
use Rattle.session.proofs.Answered.{goes}

-- ── the numbers of a header, when bytes follow ──

module _ (d more : List ℕ) where
  same_at : (k j : ℕ) → j + k ≤ length d → take k (drop j (d ++ more)) ≡ take k (drop j d)
  same_at k j h = ap (take k) (drop-append-le j d more (omega arith)) ∙ take-append-le k (drop j d) more (omega (arith, length-drop j d))

  pub announced_same : 4 ≤ length d → announced (d ++ more) ≡ announced d
  announced_same h = ap number (take-append-le 4 d more h)

  pub kind_same : 6 ≤ length d → kind_in (d ++ more) ≡ kind_in d
  kind_same h = ap number (same_at 2 4 h)

  code_same : 8 ≤ length d → code_in (d ++ more) ≡ code_in d
  code_same h = ap number (same_at 2 6 h)

  pub number_same : 12 ≤ length d → number_in (d ++ more) ≡ number_in d
  number_same h = ap number (same_at 4 8 h)

  pub whole_same : 4 ≤ length d → whole_in (d ++ more) ≡ whole_in d
  whole_same h = ap (λ n. pick (leb 12 n) n 12) (announced_same h)

-- ── a whole container, and that it stays ──

pub record WholeAt (at : ℕ) (d : List ℕ) (x : Container) (n : ℕ) : Type 0 where
  pub long : 12 ≤ length d
  pub low : 1 ≤ kind_in d
  pub high : kind_in d ≤ 4
  pub least_length : 12 ≤ announced d
  pub there : announced d ≤ length d
  pub is : container_in at d ≡ x
  pub till : at + announced d ≡ n

whole-at : {at : ℕ} {d : List ℕ} {y : Answer Container} → ContainerSays at d y → {x : Container} {n : ℕ} → y ≡ got x n → WholeAt at d x n
whole-at (holds c) e = zero_one (cc)
whole-at (fails a (holds c)) e = zero_one (cc)
whole-at (fails a (fails b (holds c))) e = zero_one (cc)
whole-at (fails a (fails b (fails k (holds c)))) e = zero_one (cc)
whole-at (fails a (fails b (fails k (fails f (holds c))))) e = zero_one (cc)
whole-at (fails a (fails b (fails k (fails f (fails g (holds c)))))) e = zero_one (cc)
whole-at (fails a (fails b (fails k (fails f (fails g (fails h (holds c))))))) e = zero_one (cc)
whole-at (fails a (fails b (fails k (fails f (fails g (fails h (fails i otherwise))))))) e =
    record { long = least g; low = least (λ l. k (inl l)); high = least (λ l. k (inr l)); least_length = least h; there = least i; is = cc; till = cc }

pub known_kind : (d : List ℕ) → 1 ≤ kind_in d → kind_in d ≤ 4 → (kind_in d < 1) ⊎ (4 < kind_in d) → ⊥
known_kind d a b (inl l) = omega arith
known_kind d a b (inr l) = omega arith

pub at_whole : {at : ℕ} {d : List ℕ} {x : Container} {n : ℕ} → WholeAt at d x n → ContainerSays at d (got x n)
at_whole {at} {d} w =
    rw (← w.is, ← w.till)
    (fails (λ l. omega (arith, w.long)) (fails (λ l. omega (arith, w.long)) (fails (known_kind d w.low w.high) (fails (λ l. omega (arith, w.long)) (fails (λ l. omega (arith, w.long)) (fails (λ l. omega (arith, w.least_length)) (fails (λ l. omega (arith, w.there)) otherwise)))))))

lasts : {at : ℕ} {d : List ℕ} {x : Container} {n : ℕ} (more : List ℕ) → WholeAt at d x n → WholeAt at (d ++ more) x n
lasts {at} {d} more w =
    let announced_is = announced_same d more (omega (arith, w.long)) in
    let kind_is = kind_same d more (omega (arith, w.long)) in
    let size = length-append d more in
    record {
      long = omega (arith, w.long);
      low = omega (arith, kind_is, w.low);
      high = omega (arith, kind_is, w.high);
      least_length = omega (arith, announced_is, w.least_length);
      there = omega (arith, announced_is, w.there);
      is = rw (announced_is, kind_is, code_same d more (omega (arith, w.long)), number_same d more w.long) w.is;
      till = omega (arith, announced_is, w.till);
    }

module _ (number : ℕ) (s more : List ℕ) where
  pub front_lasts : {at n : ℕ} {cs : List Container} → Front number s at cs n → Front number (s ++ more) at cs n
  front_lasts none = none
  front_lasts {at} (one {m = m} {x} h ours k f) =
      let g = goes number s h in
      let w : WholeAt at (drop at s) x m = whole-at {d = drop at s} h.says refl in
      one (record { says = subst (λ l. ContainerSays at l (got x m)) (sym (drop-append-le at s more (omega arith))) (at_whole {d = drop at s ++ more} (lasts {d = drop at s} more w)) }) ours k (front_lasts f)
