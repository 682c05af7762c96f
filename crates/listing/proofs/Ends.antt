-- Bytes that are copied to a place. Where they go by their first n and their last n, the second part writes what the first wrote.
-- Assumes nothing.
use Rattle.std.proofs.Common.{◌≡◌, ℕ, suc, ◌+◌, ◌-◌, ◌<◌, ◌≤◌, List, [], ◌∷◌, ◌++◌, length, take, drop, set, sym, refl, ap, ◌∙◌, append_assoc, le_of_suc-le-suc, not-suc-le-zero, arith, length-drop, take-append-drop, length-take-le, drop-drop, take-add, set-set}
use lib.Seq.{sets, sets-eq, set_comm}
use Rattle.layout.specs.Written.{put, Put}
use Rattle.layout.proofs.laws.Writing.{then}

-- a text over the part of its length from a place on
pub copied : (out t : List ℕ) (at : ℕ) {ys : List ℕ} → at + length t ≤ length out → ys ≡ t → Put out at t (take at out ++ (ys ++ drop (at + length t - at) (drop at out))) (at + length t)
unfolding put
copied out t at {ys} h f =
    let k : at + length t - at ≡ length t = omega arith in
    record {
      bytes = ap (λ z. take at out ++ z) (rw (f, k, drop-drop (length t) at out)) ∙ sym (append_assoc (take at out) t (drop (at + length t) out)) ∙ sym (sets-eq t out at h);
      place = refl;
    }

-- a byte before a row may be stored first
set_sets : (l : List ℕ) (i j b : ℕ) (u : List ℕ) → i < j → set (sets l j u) i b ≡ sets (set l i b) j u
set_sets l i j b [] h = refl
set_sets l i j b (x ∷ u) h = set_sets (set l j x) i (suc j) b u (omega arith) ∙ ap (λ m. sets m (suc j) u) (set_comm l j i x b (λ e. omega arith))

-- a row over one at its place that is no longer
over : (l : List ℕ) (i : ℕ) (u v : List ℕ) → length u ≤ length v → put (put l i u) i v ≡ put l i v
unfolding put
over l i [] v h = refl
over l i (a ∷ u) [] h = absurd (not-suc-le-zero h)
over l i (a ∷ u) (b ∷ v) h = ap (λ m. sets m (suc i) v) (set_sets (set l i a) i (suc i) b u (omega arith) ∙ ap (λ m. sets m (suc i) u) (set-set l i a b)) ∙ over (set l i b) (suc i) u v (le_of_suc-le-suc h)

wrote : (out : List ℕ) (at : ℕ) (bs : List ℕ) → Put out at bs (put out at bs) (at + length bs)
wrote out at bs = record { bytes = refl; place = refl }

module _ {out mid new t : List ℕ} {at n i j : ℕ} where
  pub ends : n ≤ length t → length t ≤ n + n → Put out at (take n t) mid i → Put mid (at + (length t - n)) (drop (length t - n) t) new j → Put out at t new j
  ends h k p q =
      let r = length t - n in
      let u = take (n - r) (drop r t) in
      let m = put out at (take r t) in
      let f = wrote out at (take r t) in
      let d = length-drop r t in
      let s : n ≡ r + (n - r) = omega arith in
      let l : at + length (take r t) ≡ at + r = ap (λ x. at + x) (length-take-le r t (omega arith)) in
      let a : mid ≡ put m (at + r) u = p.bytes ∙ ap (put out at) (ap (λ x. take x t) s ∙ take-add r (n - r) t) ∙ sym (then f (wrote m (at + length (take r t)) u)).bytes ∙ ap (λ x. put m x u) l in
      let b : new ≡ put m (at + r) (drop r t) = q.bytes ∙ ap (λ x. put x (at + r) (drop r t)) a ∙ over m (at + r) u (drop r t) (omega (arith, length-take-le (n - r) (drop r t) (omega arith))) in
      let c : put m (at + r) (drop r t) ≡ put out at t = ap (λ x. put m x (drop r t)) (sym l) ∙ (then f (wrote m (at + length (take r t)) (drop r t))).bytes ∙ ap (put out at) (take-append-drop r t) in
      record { bytes = b ∙ c; place = omega (arith, q.place) }
