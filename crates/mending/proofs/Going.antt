-- The loop of a sweep: what is still to be written of the three outputs, and how the last stretch is told.
-- Assumes nothing.
use Rattle.std.proofs.Common.{◌≡◌, ℕ, ◌+◌, ◌-◌, ◌<◌, ◌≤◌, Bool, true, false, leb, List, [], length, take, drop, sym, refl, ap, ◌∙◌, subst, append-nil, add-zero, zero-add, arith, length-drop, length-take-le, leb-false, leb-true, min}
use mathlib.Core.List.{map-append}
use lib.ListN.{length-map}
use Rattle.layout.specs.Answer.{pick}
use Rattle.layout.specs.Written.{Put, roomed}
use Rattle.layout.proofs.laws.Reading.{pick_alike}
use Rattle.layout.proofs.laws.Writing.{Owes, start, part, end, roomy, long, nothing, put_front}
use Rattle.wire.specs.declared.Part.{Part}
use Rattle.mending.specs.declared.window.Tally.{Tally}
use Rattle.mending.specs.declared.window.Swept.{Swept}
use Rattle.mending.specs.Mended.{least, starts_of, lengths_of}
use Rattle.mending.specs.declared.search.Run.{Run}
use Rattle.mending.specs.Window.{keeps, drops, closed, opened, Windowed, rests, before, closes, sane, sweep_of, window_of, answered, Sweeps, Finishes}
use Rattle.mending.specs.Passed.{Gap, Row}
use Rattle.mending.proofs.Sweeping.{sweep_drops, sweep_keeps}

-- ── the report's room ──

pub least_is : {m : ℕ} (x y : ℕ) → m ≡ pick (leb x y) x y → m ≡ least x y
unfolding least
least_is x y e = e

pub least_min : (x y : ℕ) → min x y ≡ least x y
unfolding least
least_min x y = go (leb x y) refl
  where
    go : (b : Bool) → leb x y ≡ b → min x y ≡ pick b x y
    go true f = omega (arith, leb-true x y f)
    go false f = omega (arith, leb-false x y f)

pub least_most : (x y : ℕ) → (least x y ≤ x) × (least x y ≤ y)
unfolding least
least_most x y = go (leb x y) refl
  where
    go : (b : Bool) → leb x y ≡ b → (pick b x y ≤ x) × (pick b x y ≤ y)
    go true e = (omega arith, leb-true x y e)
    go false e = (omega (arith, leb-false x y e), omega arith)

pub least_fits : {n : ℕ} (x y : ℕ) → n ≤ x → n ≤ y → n ≤ least x y
unfolding least
least_fits {n} x y h k = go (leb x y)
  where
    go : (b : Bool) → n ≤ pick b x y
    go true = h
    go false = k

pub least_same : {x y n : ℕ} → x ≡ n → y ≡ n → least x y ≡ n
unfolding least
least_same {x} {y} {n} e f = go (leb x y)
  where
    go : (b : Bool) → pick b x y ≡ n
    go true = e
    go false = f

-- ── the last stretch ──

pub closes_off : (all : Bool) (slots : ℕ) (t : Tally) → all ≡ false → closes all slots t ≡ rests t
closes_off all slots t e = rw e

pub closes_not : (all : Bool) (slots : ℕ) (t : Tally) → leb (length (opened t)) slots ≡ false → closes all slots t ≡ rests t
closes_not all slots t e = rw e (pick_alike all (rests t))

abbrev telling : Tally → Windowed
telling t = record { text = []; told = opened t; used = 0; tally = closed t }

pub closes_so : (all : Bool) (slots : ℕ) (t : Tally) → all ≡ true → leb (length (opened t)) slots ≡ true → closes all slots t ≡ telling t
closes_so all slots t e f = rw (e, f)

module _ {w : Windowed} (t : Tally) {used written told : ℕ} {starts lengths : List ℕ} {r : Swept} where
  pub finishes_not : w ≡ rests t → r ≡ answered used written told t → Finishes w used written told starts lengths r starts lengths
  finishes_not e f = rw e (record { answers = rw (add-zero told) f; starts_so = rw (add-zero told) nothing; lengths_so = rw (add-zero told) nothing })

  pub finishes_so : {n : ℕ} {starts' lengths' : List ℕ} → w ≡ telling t → r ≡ answered used written n (closed t) → Put starts told (starts_of (opened t)) starts' n → Put lengths told (lengths_of (opened t)) lengths' n →
      Finishes w used written told starts lengths r starts' lengths'
  finishes_so {n} {starts'} {lengths'} e f p q =
      let count : n ≡ told + length (opened t) = p.place ∙ ap (λ k. told + k) (length-map (opened t) (λ x. x.start)) in
      rw e
      (record {
        answers = f ∙ ap (λ k. answered used written k (closed t)) count;
        starts_so = subst (λ k. Put starts told (starts_of (opened t)) starts' k) count p;
        lengths_so = subst (λ k. Put lengths told (lengths_of (opened t)) lengths' k) count q;
      })

-- ── the loop ──

-- with `rest` done too, the whole is
pub record Goes (w rest : Windowed) (out₀ out starts₀ starts lengths₀ lengths : List ℕ) (used written told : ℕ) : Type 0 where
  pub bytes : Owes out written rest.text out₀ 0 w.text
  pub starts_so : Owes starts told (starts_of rest.told) starts₀ 0 (starts_of w.told)
  pub lengths_so : Owes lengths told (lengths_of rest.told) lengths₀ 0 (lengths_of w.told)
  pub uses : used + rest.used ≡ w.used
  pub tallies : rest.tally ≡ w.tally
  pub fits : written ≤ length out
  pub starts_fit : told ≤ length starts
  pub lengths_fit : told ≤ length lengths

pub goes : (w : Windowed) (out starts lengths : List ℕ) → Goes w w out out starts starts lengths lengths 0 0 0
goes w out starts lengths = record {
  bytes = start;
  starts_so = start;
  lengths_so = start;
  uses = zero-add w.used;
  tallies = refl;
  fits = omega arith;
  starts_fit = omega arith;
  lengths_fit = omega arith;
}

module _ {w rest : Windowed} {out₀ out starts₀ starts lengths₀ lengths : List ℕ} {used written told : ℕ} (g : Goes w rest out₀ out starts₀ starts lengths₀ lengths used written told) where
  goes_past : (n : ℕ) {next : Windowed} → rest ≡ before [] [] n next → Goes w next out₀ out starts₀ starts lengths₀ lengths (used + n) written told
  goes_past n {next} e =
      let o : rest.used ≡ n + next.used = ap (λ (x : Windowed). x.used) e in
      record {
        bytes = rw (ap (λ (x : Windowed). x.text) e) at g.bytes;
        starts_so = rw (ap (λ (x : Windowed). x.told) e) at g.starts_so;
        lengths_so = rw (ap (λ (x : Windowed). x.told) e) at g.lengths_so;
        uses = omega (arith, g.uses);
        tallies = sym (ap (λ (x : Windowed). x.tally) e) ∙ g.tallies;
        fits = g.fits;
        starts_fit = g.starts_fit;
        lengths_fit = g.lengths_fit;
      }

  goes_on : (n : ℕ) {next : Windowed} {out' starts' lengths' : List ℕ} {written' told' : ℕ} (text : List ℕ) (ps : List Part) → rest ≡ before text ps n next →
      Put out written text out' written' → written + length text ≤ length out → Put starts told (starts_of ps) starts' told' → Put lengths told (lengths_of ps) lengths' told' →
      told + length ps ≤ length starts → told + length ps ≤ length lengths →
      Goes w next out₀ out' starts₀ starts' lengths₀ lengths' (used + n) written' told'
  goes_on n {next} text ps e p room q r one two =
      let o : rest.used ≡ n + next.used = ap (λ (x : Windowed). x.used) e in
      let tells = ap (λ (x : Windowed). x.told) e in
      let count : length (starts_of ps) ≡ length ps = length-map ps (λ x. x.start) in
      record {
        bytes = part (ap (λ (x : Windowed). x.text) e) g.bytes p;
        starts_so = part (ap starts_of tells ∙ map-append (λ x. x.start) ps next.told) g.starts_so q;
        lengths_so = part (ap lengths_of tells ∙ map-append (λ x. x.count) ps next.told) g.lengths_so r;
        uses = omega (arith, g.uses);
        tallies = sym (ap (λ (x : Windowed). x.tally) e) ∙ g.tallies;
        fits = omega (arith, p.place, long p);
        starts_fit = omega (arith, q.place, long q);
        lengths_fit = omega (arith, q.place, long r);
      }

  -- nothing more comes out, and the last stretch is told or is not
  pub goes_out : {r : Swept} {starts' lengths' : List ℕ} → rest.text ≡ [] → rest.used ≡ 0 → told + length rest.told ≤ length starts → told + length rest.told ≤ length lengths →
      Finishes rest used written told starts lengths r starts' lengths' → Sweeps w out₀ starts₀ lengths₀ r out starts' lengths'
  goes_out {r} {starts'} {lengths'} none used-none one two f =
      let text = end none g.bytes in
      let ss = end refl (part (ap starts_of (sym (append-nil rest.told)) ∙ map-append (λ x. x.start) rest.told []) g.starts_so f.starts_so) in
      let ls = end refl (part (ap lengths_of (sym (append-nil rest.told)) ∙ map-append (λ x. x.count) rest.told []) g.lengths_so f.lengths_so) in
      let wrote : written ≡ length w.text = text.place ∙ zero-add (length w.text) in
      let count : told + length rest.told ≡ length w.told = ss.place ∙ zero-add (length (starts_of w.told)) ∙ length-map w.told (λ x. x.start) in
      let size : length (starts_of w.told) ≡ length w.told = length-map w.told (λ x. x.start) in
      let size-too : length (lengths_of w.told) ≡ length w.told = length-map w.told (λ x. x.count) in
      let took : used ≡ w.used = omega (arith, g.uses) in
      record {
        answers = f.answers ∙ rw (took, wrote, count, g.tallies);
        bytes = text.bytes ∙ put_front out₀ w.text (omega (arith, g.fits, g.bytes.long));
        starts_so = ss.bytes ∙ put_front starts₀ (starts_of w.told) (omega (arith, g.starts_so.long));
        lengths_so = ls.bytes ∙ put_front lengths₀ (lengths_of w.told) (omega (arith, g.lengths_so.long));
      }

-- ── a turn ──

pub closes_rest : (all : Bool) (k : ℕ) (t : Tally) → ((closes all k t).text ≡ []) × ((closes all k t).used ≡ 0) × (length (closes all k t).told ≤ k)
closes_rest all k t = go all (leb (length (opened t)) k) refl
  where
    go : (a b : Bool) → leb (length (opened t)) k ≡ b → ((pick a (pick b (telling t) (rests t)) (rests t)).text ≡ []) × ((pick a (pick b (telling t) (rests t)) (rests t)).used ≡ 0)
        × (length (pick a (pick b (telling t) (rests t)) (rests t)).told ≤ k)
    go true true e = (refl, refl, leb-true (length (opened t)) k e)
    go true false e = (refl, refl, omega arith)
    go false b e = (refl, refl, omega arith)

module _ (last : Bool) (s : List ℕ) {w : Windowed} {out₀ out starts₀ starts lengths₀ lengths : List ℕ} {used written told : ℕ} (slots : ℕ) (t : Tally)
    (g : Goes w (sweep_of last (length out - written) (slots - told) (drop used s) t) out₀ out starts₀ starts lengths₀ lengths used written told) where
  -- past the bytes of a gap
  pub goes_gap : {gap : ℕ} → Gap last s used gap → Goes w (sweep_of last (length out - written) (slots - told) (drop gap s) (drops t (gap - used))) out₀ out starts₀ starts lengths₀ lengths gap written told
  goes_gap {gap} p =
      let here : used + (gap - used) ≡ gap = omega (arith, p.least) in
      subst (λ i. Goes w (sweep_of last (length out - written) (slots - told) (drop gap s) (drops t (gap - used))) out₀ out starts₀ starts lengths₀ lengths i written told) here
      (goes_past g (gap - used) (sweep_drops last (length out - written) (slots - told) t p.drops))

  -- past the records of a row, which are written with the stretch before them
  pub goes_row : {run : Run} {out' starts' lengths' : List ℕ} {written' told' : ℕ} → Row s used (length out - written) run → 0 < run.records → length (opened t) ≤ slots - told →
      slots ≤ length starts → slots ≤ length lengths → Put out written (roomed out written (take (run.end - used) (drop used s))) out' written' →
      Put starts told (starts_of (opened t)) starts' told' → Put lengths told (lengths_of (opened t)) lengths' told' →
      Goes w (sweep_of last (length out' - written') (slots - told') (drop run.end s) (keeps t run.records (run.end - used))) out₀ out' starts₀ starts' lengths₀ lengths' run.end written' told'
  goes_row {run} {out'} {starts'} {lengths'} {written'} {told'} r some slot one two copied p q =
      let n = run.end - used in
      let text = take n (drop used s) in
      let size : length text ≡ n = length-take-le n (drop used s) (omega (arith, length-drop used s, r.least, r.within)) in
      let put = roomy text copied (omega (arith, size, r.fits)) in
      let count : length (starts_of (opened t)) ≡ length (opened t) = length-map (opened t) (λ x. x.start) in
      let here : used + n ≡ run.end = omega (arith, r.least) in
      let room : length out - written - n ≡ length out' - written' = omega (arith, put.place, long put, size) in
      let left : slots - told - length (opened t) ≡ slots - told' = omega (arith, p.place, count) in
      let on = goes_on g n text (opened t) (sweep_keeps last (length out - written) (slots - told) t r.keeps some r.fits slot) put (omega (arith, size, r.fits, g.fits)) p q
      (omega (arith, slot, g.starts_fit)) (omega (arith, slot, g.lengths_fit)) in
      rw (here, room, left) at on

  -- no more is done
  pub goes_end : (all : Bool) (k : ℕ) {r : Swept} {starts' lengths' : List ℕ} → sweep_of last (length out - written) (slots - told) (drop used s) t ≡ closes all k t → told + k ≤ length starts → told + k ≤ length lengths →
      Finishes (closes all k t) used written told starts lengths r starts' lengths' → Sweeps w out₀ starts₀ lengths₀ r out starts' lengths'
  goes_end all k e one two f =
      let c = closes_rest all k t in
      goes_out (rw e at g) c.0 c.1 (omega (arith, c.2)) (omega (arith, c.2)) f

-- nothing at all is done
pub rests_so : (t : Tally) (out starts lengths : List ℕ) {w : Windowed} {r : Swept} → w ≡ rests t → r ≡ answered 0 0 0 t → Sweeps w out starts lengths r out starts lengths
rests_so t out starts lengths e f = rw e (record { answers = f; bytes = refl; starts_so = refl; lengths_so = refl })

module _ (last : Bool) (room slots : ℕ) (s : List ℕ) (t : Tally) where
  pub window_not : sane t (length s) ≡ false → window_of last room slots s t ≡ rests t
  unfolding window_of
  window_not e = rw e

  pub window_so : sane t (length s) ≡ true → window_of last room slots s t ≡ sweep_of last room slots s t
  unfolding window_of
  window_so e = rw e
