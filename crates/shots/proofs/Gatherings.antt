-- A table collected, list by list.
-- Assumes nothing.
use mathlib.Core.Path.{◌≡◌, refl, sym, ap, ◌∙◌}
use mathlib.Core.Bool.{Bool, true, false}
use mathlib.Core.List.{List, [], ◌∷◌, ◌++◌}
use Prim.Native.Nat.{ℕ, suc, ◌+◌, ◌≤◌, ◌<◌}
use native.Mathlib.Omega.{arith}
use lib.Dec.{ltb}
use lib.ListN.{length, get_or, drop, replicate, length-replicate, length-append, length-drop, get_or-append}
use lib.Seq.{length-take-le}
use Rattle.layout.specs.Answer.{pick}
use Rattle.tree.specs.Table.{Table, flags}
use Rattle.shots.specs.Collected.{alive, places_from, kept_by, ends_kept, ahead, places, live_names}
use Rattle.shots.specs.Facts.{Fit, Hung, Fronted, Lowered, Gathered}

-- ── lengths ──

pub places_long : (n : ℕ) (ms : List ℕ) → length (places_from n ms) ≡ length ms
unfolding places_from
places_long n [] = refl
places_long n (m ∷ ms) = ap suc (places_long (n + pick (ltb 0 m) 1 0) ms)

pub alive_few : (ms : List ℕ) → alive ms ≤ length ms
unfolding alive
alive_few [] = omega arith
alive_few (m ∷ ms) = let h = alive_few ms in by (ltb 0 m) h
  where
    by : (b : Bool) → alive ms ≤ length ms → pick {A = ℕ} b 1 0 + alive ms ≤ suc (length ms)
    by true h = omega arith
    by false h = omega arith

pub ahead_long : (front old : List ℕ) → length front ≤ length old → length (ahead front old) ≡ length old
unfolding ahead
ahead_long front old h = simp (length-append, length-drop) (omega arith)

-- the first n made 1
pub filled : (l : List ℕ) (n : ℕ) → n ≤ length l → Fronted (replicate n 1) l (replicate n 1 ++ drop n l) n
unfolding ahead
filled l n h = record { list = rw length-replicate; size = sym (length-replicate {A = ℕ} n 1); room = h }

pub fronted_long : {front old new : List ℕ} {n : ℕ} → Fronted front old new n → length new ≡ length old
fronted_long {front} {old} f = let s = f.size in let r = f.room in ap length f.list ∙ ahead_long front old (omega arith)

pub ahead_at : (front old : List ℕ) (k : ℕ) → k < length front → get_or (ahead front old) k 0 ≡ get_or front k 0
unfolding ahead
ahead_at front old k h = get_or-append front (drop (length front) old) 0 k h

-- what is kept, through functions that agree on what there is
kept_same : (f g : ℕ → ℕ) (ms xs : List ℕ) → ((k : ℕ) → k < length ms → k < length xs → f (get_or xs k 0) ≡ g (get_or xs k 0)) → kept_by f ms xs ≡ kept_by g ms xs
unfolding kept_by
kept_same f g [] xs h = refl
kept_same f g (m ∷ ms) [] h = refl
kept_same f g (m ∷ ms) (x ∷ xs) h =
    let a : f x ≡ g x = h 0 (omega arith) (omega arith) in
    let r : kept_by f ms xs ≡ kept_by g ms xs = kept_same f g ms xs (λ k i j. h (suc k) (omega arith) (omega arith)) in
    rw (a, r)

module _ {t : Table} (fit : Fit t) where
  pub flags_long : length (flags t) ≡ t.count
  flags_long = let a = fit.few in let b = fit.flagged in length-take-le t.count t.marks (omega arith)

  pub alive_in : alive (flags t) ≤ t.count
  alive_in = let l = alive_few (flags t) in let n = flags_long in omega arith

  pub hung_in : {size : ℕ} → 1024 ≤ size → Hung (length (flags t)) t.parents size
  hung_in h = record { hung = λ k l. let n = flags_long in let a = fit.few in let g = fit.hanging.hung k (omega arith) in omega arith }

  pub lowered : {news hs ps es ms ns : List ℕ} {n a b d e f : ℕ} → n ≡ alive (flags t) → Fronted (kept_by (λ h. h) (flags t) t.handles) t.handles hs a
      → Fronted (kept_by (λ p. get_or news p 0) (flags t) t.parents) t.parents ps b → Fronted (live_names t) t.names ns d → Fronted (ends_kept 0 0 (flags t) t.ends) t.ends es e
      → Fronted (replicate n 1) t.marks ms f → Lowered t news hs ps es ms ns
  lowered c h p m e k = record {
    handles = h.list;
    parents = p.list;
    ends = e.list;
    marks = k.list ∙ ap (λ (x : ℕ). ahead (replicate x 1) t.marks) c;
    names = m.list;
  }

  pub gathered : {old hs ps es ms ns new : List ℕ} {n a : ℕ} → n ≡ alive (flags t) → Fronted (places t) old new a → Lowered t new hs ps es ms ns → Gathered t old n hs ps es ms ns new
  gathered {old} {new = new} c w l = record {
    count = c;
    handles = l.handles;
    parents = l.parents ∙ ap (λ (l : List ℕ). ahead l t.parents) (kept_same (λ q. get_or new q 0) (λ q. get_or (places t) q 0) (flags t) t.parents each);
    ends = l.ends;
    marks = l.marks;
    names = l.names;
    news = w.list;
  }
    where
      each : (k : ℕ) → k < length (flags t) → k < length t.parents → get_or new (get_or t.parents k 0) 0 ≡ get_or (places t) (get_or t.parents k 0) 0
      each k i j =
          let l = flags_long in
          let z = places_long 0 (flags t) in
          let u = fit.hanging.hung k (omega arith) in
          ap (λ (x : List ℕ). get_or x (get_or t.parents k 0) 0) w.list ∙ ahead_at (places t) old (get_or t.parents k 0) (omega arith)
