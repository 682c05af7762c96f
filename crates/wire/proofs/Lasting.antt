-- What bytes that follow do to the answer of `read_header` and `read_container`: an answer other than 1 and 6 stays, since what it rests on is there already; and
-- zeros enough after the bytes give such an answer, since then the header and all that it announces are there.
-- Assumes nothing.
use Rattle.wire.specs.Read.{Read, says_read}
use mathlib.Core.Path.{◌≡◌, refl, ap}
use mathlib.Core.Bool.{Bool, true, false}
use mathlib.Core.List.{List, ◌++◌, append_assoc}
use Prim.Native.Nat.{ℕ, ◌+◌, ◌-◌, ◌≤◌, ◌<◌}
use native.Mathlib.Omega.{arith}
use borrow.Author.Tests.{le-leb, leb-true}
use lib.Dec.{leb}
use lib.ListN.{length, drop, replicate, length-append, length-drop, length-replicate}
use Rattle.layout.specs.Answer.{Answer, got, refused, pick, after, bare}
use Rattle.layout.specs.Bytes.{Bytes, number}
use Rattle.layout.specs.Fault.{Stays, same, more, Final}
use Rattle.layout.specs.Refusals.{SIZE}
use Rattle.layout.proofs.laws.Final.{Bytes-append, Bytes-zeros, part_stays, stays_after, field_final}
use Rattle.wire.specs.Container.{is_kind, header_rest, header_at, container_at}
use Rattle.wire.specs.Tests.{◌gives◌else◌, holds, fails, Otherwise, otherwise}
use Rattle.wire.specs.Refused.{announced, HeaderTests, ContainerSays, Lasts, stays, cut, unfinished, Settled, accepted, no_kind, too_low}
use Rattle.wire.specs.declared.container.Header.{Header}
use Rattle.wire.specs.declared.container.Container.{Container}
use Rattle.wire.proofs.laws.Judged.{enough, header_says, container_says}

-- ── what stays ──

stays_pick : {A : Type 0} (b : Bool) {x x' : Answer A} (y : Answer A) → Stays x x' → Stays (pick b x y) (pick b x' y)
stays_pick true y h = h
stays_pick false y h = same

header_final : Final header_at
unfolding header_at header_rest
header_final s t at =
    stays_after _ _ (field_final 4 number s t at) λ len a.
    stays_after _ _ (field_final 2 number s t a) λ kind b.
    stays_pick (is_kind kind) _ (
    stays_after _ _ (field_final 2 number s t b) λ code c.
    stays_after _ _ (field_final 4 number s t c) λ tid n. same)

container_final : (s t : List ℕ) (at : ℕ) → Lasts (container_at s at) (container_at (s ++ t) at)
unfolding container_at after
container_final s t at = go (header_at s at) (header_at (s ++ t) at) (header_final s t at)
  where
    boxed : Header → ℕ → Answer Container
    boxed h n = got (record { kind = h.kind; code = h.code; number = h.number; payload = record { start = n; count = h.payload_len } }) (n + h.payload_len)

    within : (h : Header) (n : ℕ) (b : Bool) → leb h.payload_len (length s - n) ≡ b →
        Lasts (pick b (boxed h n) (refused (bare SIZE))) (pick (leb h.payload_len (length (s ++ t) - n)) (boxed h n) (refused (bare SIZE)))
    within h n true e =
        let f = leb-true h.payload_len (length s - n) e in
        rw (le-leb h.payload_len (length (s ++ t) - n) (omega (arith, length-append s t))) stays
    within h n false e = unfinished

    go : (x y : Answer Header) → Stays x y →
        Lasts (after x λ h n. pick (leb h.payload_len (length s - n)) (boxed h n) (refused (bare SIZE)))
        (after y λ h n. pick (leb h.payload_len (length (s ++ t) - n)) (boxed h n) (refused (bare SIZE)))
    go (got h n) y same = within h n (leb h.payload_len (length s - n)) refl
    go (refused u) y same = stays
    go x y (more p) = cut p

module _ (s t : List ℕ) (at : ℕ) where
  pub header_lasts : (r r' : (Read Header)) → says_read r ≡ header_at s at → says_read r' ≡ header_at (s ++ t) at → Stays (says_read r) (says_read r')
  header_lasts r r' e f = rw (e, f) (header_final s t at)

  pub container_lasts : (r r' : (Read Container)) → says_read r ≡ container_at s at → says_read r' ≡ container_at (s ++ t) at → Lasts (says_read r) (says_read r')
  container_lasts r r' e f = rw (e, f) (container_final s t at)

-- ── what can be carried on ──

header_there : {A : Type 0} (at : ℕ) (d : List ℕ) {P : Answer A → Type 0} (x : Answer A) → 12 ≤ length d → (P x → Settled x) → HeaderTests at d P x → Settled x
header_there at d x h f (holds c) = absurd (enough {m = 4} (omega arith) c)
header_there at d x h f (fails n₁ (holds c)) = absurd (enough {m = 6} (omega arith) c)
header_there at d x h f (fails n₁ (fails n₂ (holds c))) = no_kind
header_there at d x h f (fails n₁ (fails n₂ (fails n₃ (holds c)))) = absurd (enough {m = 8} (omega arith) c)
header_there at d x h f (fails n₁ (fails n₂ (fails n₃ (fails n₄ (holds c))))) = absurd (enough {m = 12} (omega arith) c)
header_there at d x h f (fails n₁ (fails n₂ (fails n₃ (fails n₄ (fails n₅ (holds c)))))) = too_low
header_there at d x h f (fails n₁ (fails n₂ (fails n₃ (fails n₄ (fails n₅ (fails n₆ r)))))) = f r

container_there : (at : ℕ) (d : List ℕ) (x : Answer Container) → 12 ≤ length d → announced d ≤ length d → ContainerSays at d x → Settled x
container_there at d x h k = header_there at d x h last
  where
    last : {y : Answer Container} {a : Container} {n : ℕ} → (length d < announced d gives refused (bare SIZE) else Otherwise (got a n)) y → Settled y
    last (holds c) = absurd (enough k c)
    last (fails n otherwise) = accepted

-- zeros that make the header whole, and then all that it announces
module _ (s : List ℕ) (at : ℕ) where
  abbrev zeros : ℕ → List ℕ
  zeros n = replicate n 0

  abbrev headed : List ℕ
  headed = s ++ zeros (at + 12)

  long : 12 ≤ length (drop at headed)
  long = omega (arith, length-drop at headed, length-append s (zeros (at + 12)), length-replicate {A = ℕ} (at + 12) 0)

  pub header_opens : (t : List ℕ) × (Bytes t × ((r : (Read Header)) → says_read r ≡ header_at (s ++ t) at → Settled (says_read r)))
  header_opens = (zeros (at + 12), (Bytes-zeros (at + 12), λ r e. header_there at (drop at headed) (says_read r) long done (header_says headed at r e)))
    where
      done : {x : Answer Header} {a : Header} {n : ℕ} → Otherwise (got a n) x → Settled x
      done otherwise = accepted

  pub container_opens : (t : List ℕ) × (Bytes t × ((r : (Read Container)) → says_read r ≡ container_at (s ++ t) at → Settled (says_read r)))
  container_opens =
      (zeros (at + 12) ++ zeros m, (Bytes-append (zeros (at + 12)) (zeros m) (Bytes-zeros (at + 12)) (Bytes-zeros m), λ r e. settled r (rw (← append_assoc) at e)))
    where
      m : ℕ
      m = announced (drop at headed)

      whole : List ℕ
      whole = headed ++ zeros m

      same_number : announced (drop at whole) ≡ m
      same_number = ap number (part_stays 4 headed (zeros m) at (omega (arith, long, length-drop at headed)))

      settled : (r : (Read Container)) → says_read r ≡ container_at whole at → Settled (says_read r)
      settled r e =
          let size = length-append headed (zeros m) in
          container_there at (drop at whole) (says_read r) (omega (arith, long, length-drop at headed, length-drop at whole)) (omega (arith, long, same_number, length-drop at headed, length-drop at whole, length-replicate {A = ℕ} m 0))
          (container_says whole at r e)
