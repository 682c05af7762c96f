-- However a recording comes in pieces, what the turns write, one after the other, is the copy of its whole records, and they end as the recording
-- does behind them; and the turns come to an end: the step's laws, of which `turns` proves that.
-- Assumes nothing.
use Rattle.std.proofs.Common.{◌≡◌, ℕ, ◌+◌, ◌-◌, ◌*◌, ◌%◌, ◌^◌, ◌<◌, ◌≤◌, Bool, true, false, ltb, List, [], ◌++◌, length, drop, sym, refl, ap, ◌∙◌, append-nil, zero-add, arith, lit≤, length-append, length-drop, drop-drop, ltb-false, ltb-true, lt-ltb}
use mathlib.Core.Option.{some}
use Rattle.layout.specs.Answer.{Answer, got, refused, pick}
use Rattle.layout.proofs.laws.Numbers.{zero_one}
use Rattle.turns.specs.declared.Next.{Next}
use Rattle.turns.specs.declared.Next.TheVariants as next
use Rattle.turns.specs.Held.{none}
use Rattle.turns.specs.Run.{whole, run}
use Rattle.turns.specs.Fair.{Meaning, Onward, FairBy, Fair}
use Rattle.turns.proofs.laws.Running.{pieces_given}
use Rattle.recording.specs.Content.{Record}
use Rattle.recording.specs.Record.{limit, record_of}
use Rattle.recording.specs.Row.{whole_of, is_cut, waits}
use Rattle.recording.specs.Copied.{front_text, front_left}
use Rattle.recording.specs.declared.copy.Left.{Left}
use Rattle.recording.proofs.laws.Rowed.{uncut_same, uncut_some, cut_short}
use Rattle.recording.proofs.laws.Fronts.{whole_most, whole_split, front_few, front-text, front_lefts, front_none, front_some, text_none, rest_none, front_all, front_refused, front_taken, front-left, front_said}
use Rattle.copying.specs.declared.Tally.{Tally}
use Rattle.copying.specs.declared.Fate.{Fate}
use Rattle.copying.specs.declared.Fate.TheVariants as fate
use Rattle.copying.specs.Turn.{size, tally, fresh, end_of, fate_of, Given, given, both, stepped, by_front, step_of}
use Rattle.copying.specs.Copy.{copied_from, Copying, all_copied, one_refused}

abbrev copying : Meaning Tally Given
copying = record {
  join = both;
  all = copied_from;
  Sound = λ t s. (t.place + length s < 2 ^ 64) × (t.records + length s < 2 ^ 64) × (t.bytes + length s < 2 ^ 64);
  turns = λ t n. n;
}

given_same : {a a' : List ℕ} {f f' : Fate} {p p' r r' k k' : ℕ} → a ≡ a' → f ≡ f' → p ≡ p' → r ≡ r' → k ≡ k' → given a f (tally p r k) ≡ given a' f' (tally p' r' k')
given_same e f g h i = rw (e, f, g, h, i)

-- ── what waits ──

waits_short : (last : Bool) (h : List ℕ) → waits last h ≡ true → (last ≡ false) × (length h < 6 + limit)
unfolding waits
waits_short last h e = go last e
  where
    go : (a : Bool) → pick a false (is_cut h) ≡ true → (a ≡ false) × (length h < 6 + limit)
    go true e = zero_one (cc)
    go false e = (refl, cut_short h e)

-- what does not wait ends the copy as it does with the bytes that follow
module _ (last : Bool) (h more : List ℕ) (final : last ≡ true → more ≡ []) where
  ends_alike : waits last h ≡ false → whole_of h ≡ 0 → (whole_of (h ++ more) ≡ 0) × (fate_of (h ++ more) ≡ fate_of h)
  unfolding waits fate_of
  ends_alike e none-whole = go last final e
    where
      by : 0 < length h → record_of (h ++ more) ≡ record_of h → (x : Answer Record) → x ≡ record_of h → whole_of (h ++ more) ≡ 0
      by some_bytes same (got x n) f = let z : ⊥ = omega (arith, front_some h some_bytes f, none-whole) in absurd z
      by some_bytes same (refused t) f = front_none (h ++ more) (omega (arith, length-append h more)) (f ∙ sym same)

      go : (a : Bool) → (a ≡ true → more ≡ []) → pick a false (is_cut h) ≡ false →
          (whole_of (h ++ more) ≡ 0) × (pick (ltb 0 (length (h ++ more))) (end_of (record_of (h ++ more))) fate.Whole ≡ pick (ltb 0 (length h)) (end_of (record_of h)) fate.Whole)
      go true f e =
          let same : h ++ more ≡ h = ap (λ v. h ++ v) (f refl) ∙ append-nil h in
          (ap whole_of same ∙ none-whole, ap (λ v. pick (ltb 0 (length v)) (end_of (record_of v)) fate.Whole) same)
      go false f e =
          let some_bytes = uncut_some h e in
          let same = uncut_same h more e in
          let longer = lt-ltb 0 (length (h ++ more)) (omega (arith, length-append h more)) in
          (by some_bytes same (record_of h) refl, rw (longer, lt-ltb 0 (length h) some_bytes, same))

-- ── a step ──

module _ (last : Bool) (t : Tally) (h more : List ℕ) (final : last ≡ true → more ≡ []) (sound : copying.Sound t (h ++ more)) where
  abbrev s : List ℕ
  s = h ++ more

  abbrev u : ℕ
  u = whole_of h

  abbrev l : Left
  l = front_left h

  within : u ≤ length s
  within = omega (arith, whole_most h, length-append h more)

  placed : (t.place + u) % 2 ^ 64 ≡ t.place + u
  placed = omega (arith, within, sound.0)

  counted : (t.records + l.records) % 2 ^ 64 ≡ t.records + l.records
  counted = omega (arith, within, sound.1, (front_few h).0, (front_few h).1)

  weighed : (t.bytes + l.bytes) % 2 ^ 64 ≡ t.bytes + l.bytes
  weighed = omega (arith, within, sound.2, (front_few h).1)

  onward : (n : Next) → Onward copying t s (stepped fate.Going n t h)
  onward n =
      let v = drop u s in
      let split = whole_split h more in
      let lefts = front_lefts h more in
      let few = front_few h in
      let left = length-drop u s in
      record {
        gives = given_same (front-text h more) (ap fate_of (ap (λ k. drop k s) split ∙ sym (drop-drop (whole_of v) u s))) (omega (arith, split, placed)) (omega (arith, ap (λ (x : Left). x.records) lefts, counted)) (omega (arith, ap (λ (x : Left). x.bytes) lefts, weighed));
        sound = (omega (arith, placed, within, sound.0, left), omega (arith, counted, within, sound.1, left, few.0, few.1), omega (arith, weighed, within, sound.2, left, few.1));
      }

  stopping : waits last h ≡ false → u ≡ 0 → FairBy copying size last t h more (stepped (fate_of h) next.Stop t h) next.Stop
  stopping e f =
      let same = ends_alike last h more final e f in
      let n = same.0 in
      let split = whole_split h more in
      let few = front_few (drop u s) in
      let nothing : whole_of (drop u s) ≡ 0 = omega (arith, split, n) in
      let lefts = front_lefts h more in
      given_same (front-text h more ∙ ap (λ v. front_text h ++ v) (text_none (drop u s) nothing) ∙ append-nil (front_text h)) (ap fate_of (ap (λ k. drop k s) n) ∙ same.1) (omega (arith, placed, n, f))
      (omega (arith, counted, ap (λ (x : Left). x.records) lefts, few.0, few.1, nothing)) (omega (arith, weighed, ap (λ (x : Left). x.bytes) lefts, few.1, nothing))

  by-front : FairBy copying size last t h more (by_front last t h) (by_front last t h).next
  by-front = go (ltb 0 u) refl (waits last h) refl
    where
      go : (a : Bool) → ltb 0 u ≡ a → (b : Bool) → waits last h ≡ b → FairBy copying size last t h more (by_front last t h) (by_front last t h).next
      go true e b f = rw e (onward next.Again, omega (arith, ltb-true 0 u e, within))
      go false e true f = let w = waits_short last h f in rw (e, f) (onward next.Read, omega arith, w.0, omega (arith, w.1))
      go false e false f = let n : u ≡ 0 = omega (arith, ltb-false 0 u e) in let p = stopping f n in rw (e, f) p

-- ── every step ──

copy_fair : Fair copying size step_of
unfolding step_of
copy_fair = record {
  within = λ last t h. used_in last t h (ltb 0 (whole_of h)) (waits last h);
  fair = λ last t h more final short sound. by-front last t h more final sound;
}
  where
    used_in : (last : Bool) (t : Tally) (h : List ℕ) (a b : Bool) → (pick a (stepped fate.Going next.Again t h) (pick b (stepped fate.Going next.Read t h) (stepped (fate_of h) next.Stop t h))).used ≤ length h
    used_in last t h true b = whole_most h
    used_in last t h false true = whole_most h
    used_in last t h false false = whole_most h

-- ── the whole run ──

copied_so : (s : List ℕ) → Copying s (copied_from fresh s)
unfolding fate_of
copied_so s = go (ltb 0 (length v)) refl (record_of v) refl
  where
    v : List ℕ
    v = drop (whole_of s) s

    left : length v ≡ length s - whole_of s
    left = length-drop (whole_of s) s

    go : (b : Bool) → ltb 0 (length v) ≡ b → (x : Answer Record) → x ≡ record_of v →
        Copying s (given (front_text s) (pick (ltb 0 (length v)) (end_of (record_of v)) fate.Whole) (tally (0 + whole_of s) (0 + (front_left s).records) (0 + (front_left s).bytes)))
    go false e x f =
        let all : whole_of s ≡ length s = omega (arith, left, ltb-false 0 (length v) e, whole_most s) in
        let p = front_all s all in
        rw (e, zero-add (whole_of s), zero-add (front_left s).records, zero-add (front_left s).bytes, all) (all_copied p.0 p.1)
    go true e (got x n) f = let z : ⊥ = omega (arith, front_some v (ltb-true 0 (length v) e) f, rest_none s) in absurd z
    go true e (refused t) f =
        let p = front_taken s in
        let l = front-left s in
        rw (e, zero-add (whole_of s), zero-add (front_left s).records, zero-add (front_left s).bytes, ← f, l) (one_refused f (front_refused s (ltb-true 0 (length v) e) f) (front_said s) p.is)

-- whatever the window holds before the first turn
pub runs_copied : (window : List ℕ) (pieces : List (List ℕ)) → length window ≡ size → length (whole pieces) < 2 ^ 64 → (n : ℕ) → 2 * length (whole pieces) + 2 ≤ n →
    (g : Given) × (run both size step_of n window none fresh pieces ≡ some g) × Copying (whole pieces) g
runs_copied window pieces wide short n h =
    (copied_from fresh (whole pieces), pieces_given copying size step_of copy_fair (lit≤ tt) window fresh pieces wide (omega arith, omega arith, omega arith) n (omega arith), copied_so (whole pieces))
