-- A row of numbers: what its words are by their bytes, and that a number is in it where it was met or is in what is left.
-- Assumes nothing.
use Rattle.std.proofs.Common.{◌≡◌, ℕ, zero, suc, ◌+◌, ◌-◌, ◌*◌, ◌^◌, ◌<◌, ◌≤◌, Bool, true, false, ◌||◌, eqb, List, ◌∷◌, length, get_or, take, drop, refl, ap, ◌∙◌, not-suc-le-zero, arith, lit≤, drop-cons, drop-drop}
use Rattle.layout.specs.Answer.{pick}
use Rattle.layout.specs.Bytes.{number, cells}
use Rattle.panel.specs.Words.{Plain, one_byte, two_bytes, four_bytes, eight_bytes, is_in}

-- ── words ──

first_byte : (s : List ℕ) (at n : ℕ) → at < length s → number (take (suc n) (drop at s)) ≡ get_or s at 0 + 256 * number (take n (drop (at + 1) s))
unfolding number
first_byte s at n h =
    let e : suc at ≡ at + 1 = omega arith in
    ap (λ l. number (take (suc n) l)) (drop-cons s at 0 h) ∙ ap (λ i. get_or s at 0 + 256 * number (take n (drop i s))) e

module _ (s : List ℕ) (at : ℕ) where
  pub one_word : at < length s → number (take 1 (drop at s)) ≡ get_or s at 0
  unfolding number
  one_word h =
      let e : number (take 1 (drop at s)) ≡ get_or s at 0 + 256 * number (take 0 (drop (at + 1) s)) = first_byte s at 0 h in
      omega (arith, e)

  pair_front : (n : ℕ) → at + 1 < length s → number (take (suc (suc n)) (drop at s)) ≡ get_or s at 0 + 256 * get_or s (at + 1) 0 + 65536 * number (take n (drop (at + 2) s))
  pair_front n h =
      let e : at + 1 + 1 ≡ at + 2 = omega arith in
      omega (arith, first_byte s at (suc n) (omega arith), first_byte s (at + 1) n h, ap (λ i. number (take n (drop i s))) e)

  pub two_word : 2 ≤ length s - at → number (take 2 (drop at s)) ≡ get_or s at 0 + 256 * get_or s (at + 1) 0
  unfolding number
  two_word h =
      let e : number (take 2 (drop at s)) ≡ get_or s at 0 + 256 * get_or s (at + 1) 0 + 65536 * number (take 0 (drop (at + 2) s)) = pair_front 0 (omega arith) in
      omega (arith, e)

pub four_word : (s : List ℕ) (at : ℕ) → 4 ≤ length s - at → number (take 4 (drop at s)) ≡ number (take 2 (drop at s)) + 65536 * number (take 2 (drop (at + 2) s))
four_word s at h =
    let e : number (take 4 (drop at s)) ≡ get_or s at 0 + 256 * get_or s (at + 1) 0 + 65536 * number (take 2 (drop (at + 2) s)) = pair_front s at 2 (omega arith) in
    omega (arith, e, two_word s at (omega arith))

pub eight_word : (s : List ℕ) (at : ℕ) → 8 ≤ length s - at → number (take 8 (drop at s)) ≡ number (take 4 (drop at s)) + 4294967296 * number (take 4 (drop (at + 4) s))
eight_word s at h =
    let e : number (take 8 (drop at s)) ≡ get_or s at 0 + 256 * get_or s (at + 1) 0 + 65536 * number (take 6 (drop (at + 2) s)) = pair_front s at 6 (omega arith) in
    let f : number (take 6 (drop (at + 2) s)) ≡ get_or s (at + 2) 0 + 256 * get_or s (at + 2 + 1) 0 + 65536 * number (take 4 (drop (at + 2 + 2) s)) = pair_front s (at + 2) 4 (omega arith) in
    let g : at + 2 + 2 ≡ at + 4 = omega arith in
    omega (arith, e, f, four_word s at (omega arith), two_word s at (omega arith), two_word s (at + 2) (omega arith), ap (λ i. number (take 4 (drop i s))) g)

-- ── the row ──

pub times_less : (n w : ℕ) → 0 < n → n * w ≡ w + (n - 1) * w
times_less zero w h = absurd (not-suc-le-zero h)
times_less (suc n) w h = let e : suc n - 1 ≡ n = omega arith in rw e (omega arith)

cells_step : (w n : ℕ) (l : List ℕ) → 0 < n → cells w n l ≡ number (take w l) ∷ cells w (n - 1) (drop w l)
unfolding cells
cells_step w zero l h = absurd (not-suc-le-zero h)
cells_step w (suc n) l h = let e : suc n - 1 ≡ n = omega arith in rw e

-- one word more
pub met : (s : List ℕ) (at n i w x : ℕ) (found : Bool) → i < n →
    pick (found || eqb (number (take w (drop (at + i * w) s))) x) true (is_in x (cells w (n - (i + 1)) (drop (at + (i + 1) * w) s))) ≡ pick found true (is_in x (cells w (n - i) (drop (at + i * w) s)))
unfolding is_in
met s at n i w x found h =
    let o : at + (i + 1) * w ≡ at + i * w + w = omega arith in
    let m : n - (i + 1) ≡ n - i - 1 = omega arith in
    rw (o, m, cells_step w (n - i) (drop (at + i * w) s) (omega arith), drop-drop w (at + i * w) s) (go found (eqb (number (take w (drop (at + i * w) s))) x))
  where
    go : (f b : Bool) → pick (f || b) true (is_in x (cells w (n - i - 1) (drop (at + i * w + w) s))) ≡ pick f true (pick b true (is_in x (cells w (n - i - 1) (drop (at + i * w + w) s))))
    go true b = refl
    go false b = refl

-- no word is left
pub all_met : (l : List ℕ) (left w x : ℕ) (found : Bool) → left ≡ 0 → pick found true (is_in x (cells w left l)) ≡ found
unfolding is_in cells
all_met l zero w x true h = refl
all_met l zero w x false h = refl
all_met l (suc n) w x found h = absurd (omega arith)

-- ── the room of a product ──

eight_times : (n w : ℕ) → w ≤ 8 → n * w ≤ 8 * n
eight_times zero w k = omega arith
eight_times (suc n) w k = omega (arith, eight_times n w k)

pub times_small : (n w : ℕ) → n < 65536 → w ≤ 8 → n * w < 2 ^ 64
times_small n w h k = omega (arith, eight_times n w k)

-- ── the widths ──

pub eight : {w : ℕ} → Plain w → (w ≡ 1 → ⊥) → (w ≡ 2 → ⊥) → (w ≡ 4 → ⊥) → w ≡ 8
eight one_byte a b c = absurd (a refl)
eight two_bytes a b c = absurd (b refl)
eight four_bytes a b c = absurd (c refl)
eight eight_bytes a b c = refl

pub plain_some : {w : ℕ} → Plain w → 1 ≤ w
plain_some one_byte = lit≤ tt
plain_some two_bytes = lit≤ tt
plain_some four_bytes = lit≤ tt
plain_some eight_bytes = lit≤ tt
