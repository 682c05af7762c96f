-- Laws of a sweep: its definition a piece at a time, with fuel enough; past the bytes of a gap and the records of a row at once; and why it stops.
-- Assumes nothing.
use Rattle.std.proofs.Common.{◌≡◌, ℕ, zero, suc, ◌+◌, ◌-◌, ◌^◌, ◌<◌, ◌≤◌, Bool, true, false, ltb, leb, List, [], ◌++◌, length, take, drop, sym, refl, ap, ◌∙◌, append_assoc, not-suc-le-zero, add-zero, add_assoc, zero-add, arith, length-drop, drop-drop, take-add, ltb-true, le-ltb, lt-ltb, le-leb, leb-true}
use borrow.Author.Tests.{lt-leb}
use Rattle.layout.specs.Answer.{Answer, Told, got, refused, pick}
use Rattle.layout.proofs.laws.Accepted.{Accepts, accepts_all}
use Rattle.layout.proofs.laws.Reading.{pick_alike}
use Rattle.layout.proofs.laws.Numbers.{zero_one}
use Rattle.wire.specs.declared.Part.{Part}
use Rattle.recording.specs.Content.{Record}
use Rattle.recording.specs.Record.{record_of}
use Rattle.recording.specs.Row.{waits}
use Rattle.recording.proofs.laws.Rowed.{Stands, record_stands, whole_uncut}
use Rattle.mending.specs.declared.window.Tally.{Tally}
use Rattle.mending.specs.declared.search.Run.{Run}
use Rattle.mending.specs.Window.{tally, fresh, keeps, drops, opened, sane, Windowed, rests, before, closes, judged, sweep_from, sweep_of}
use Rattle.mending.specs.Passed.{Drops, none_dropped, one_dropped, Keeps, none_kept, one_kept, Held, at-end, waiting, stands, Ended, no_bytes, stands_none, no_room, Row}

-- ── tallies ──

pub tally_same : {p p' r r' b b' u u' : ℕ} → p ≡ p' → r ≡ r' → b ≡ b' → u ≡ u' → tally p r b u ≡ tally p' r' b' u'
tally_same e f g h = rw (e, f, g, h)

-- with n bytes to come
abbrev pub Sound : Tally → ℕ → Type 0
Sound t n = (t.place + n < 2 ^ 64) × (t.bytes + t.untold ≤ t.place) × (t.records ≤ t.bytes)

pub sane_so : (t : Tally) (n : ℕ) → sane t n ≡ true → Sound t n
unfolding sane
sane_so t n e = go (ltb (t.place + n) (2 ^ 64)) refl (leb (t.bytes + t.untold) t.place) refl e
  where
    go : (a : Bool) → ltb (t.place + n) (2 ^ 64) ≡ a → (b : Bool) → leb (t.bytes + t.untold) t.place ≡ b → pick a (pick b (leb t.records t.bytes) false) false ≡ true →
        (t.place + n < 2 ^ 64) × (t.bytes + t.untold ≤ t.place) × (t.records ≤ t.bytes)
    go true f true g e = (ltb-true (t.place + n) (2 ^ 64) f, leb-true (t.bytes + t.untold) t.place g, leb-true t.records t.bytes e)
    go true f false g e = zero_one (cc)
    go false f b g e = zero_one (cc)

pub sane_long : (t : Tally) (n : ℕ) → 2 ^ 64 ≤ t.place + n → sane t n ≡ false
unfolding sane
sane_long t n h = rw (le-ltb (t.place + n) (2 ^ 64) h)

pub sane_over : (t : Tally) (n : ℕ) → t.place < t.bytes + t.untold → sane t n ≡ false
unfolding sane
sane_over t n h = rw (lt-leb (t.bytes + t.untold) t.place h) (pick_alike (ltb (t.place + n) (2 ^ 64)) false)

pub sane_by : (t : Tally) (n : ℕ) → t.place + n < 2 ^ 64 → t.bytes + t.untold ≤ t.place → sane t n ≡ leb t.records t.bytes
unfolding sane
sane_by t n h k = rw (lt-ltb (t.place + n) (2 ^ 64) h, le-leb (t.bytes + t.untold) t.place k)

pub fresh_sane : (n : ℕ) → n < 2 ^ 64 → sane fresh n ≡ true
fresh_sane n h = sane_by fresh n (omega arith) (omega arith)

pub sound_drops : (t : Tally) (n m : ℕ) → Sound t m → n ≤ m → Sound (drops t n) (m - n)
sound_drops t n m h k = (omega (arith, h.0), omega (arith, h.1), h.2)

pub sound_keeps : (t : Tally) (records n m : ℕ) → Sound t m → n ≤ m → records ≤ n → Sound (keeps t records n) (m - n)
sound_keeps t records n m h k few = (omega (arith, h.0), omega (arith, h.1), omega (arith, h.2))

-- ── the searches go forward ──

pub drops_least : {last : Bool} {s : List ℕ} {from at : ℕ} → Drops last s from at → from ≤ at
drops_least none_dropped = omega arith
drops_least (one_dropped d h w e) = omega (arith, drops_least d)

pub keeps_least : {s : List ℕ} {from at k : ℕ} → Keeps s from at k → from ≤ at
keeps_least none_kept = omega arith
keeps_least (one_kept d h e) = omega (arith, keeps_least d)

pub keeps_none : {s : List ℕ} {from at k : ℕ} → Keeps s from at k → k ≡ 0 → at ≡ from
keeps_none none_kept e = refl
keeps_none (one_kept {k} d h f) e = omega arith

pub some_bytes : (s : List ℕ) (at : ℕ) → at < length s → 0 < length (drop at s)
some_bytes s at h = rw (length-drop at s) (omega arith)

-- ── a piece at a time ──

judged_same : (room slots : ℕ) (s : List ℕ) (t : Tally) (x : Answer Record) (f g : ℕ → ℕ → ℕ → Tally → Windowed) → Accepts (λ _ n. (r k : ℕ) (u : Tally) → f r k n u ≡ g r k n u) x →
    ((r k : ℕ) (u : Tally) → f r k 1 u ≡ g r k 1 u) → judged room slots s t x f ≡ judged room slots s t x g
judged_same room slots s t (got x n) f g e d = ap (λ w. pick (leb n room) (pick (leb (length (opened t)) slots) (before (take n s) (opened t) n w) (rests t)) (rests t)) (e (room - n) (slots - length (opened t)) (keeps t 1 n))
judged_same room slots s t (refused u) f g e d = ap (before [] [] 1) (d room slots (drops t 1))

module _ (last : Bool) where
  none_from : (f room slots : ℕ) (s : List ℕ) (t : Tally) → length s ≤ 0 → sweep_from f last room slots s t ≡ closes last slots t
  unfolding sweep_from
  none_from zero room slots s t h = refl
  none_from (suc f) room slots s t h = rw (le-ltb 0 (length s) h)

  enough : (f g room slots : ℕ) (s : List ℕ) (t : Tally) → length s ≤ f → length s ≤ g → sweep_from f last room slots s t ≡ sweep_from g last room slots s t
  unfolding sweep_from
  enough zero g room slots s t h k = none_from zero room slots s t h ∙ sym (none_from g room slots s t h)
  enough (suc f) zero room slots s t h k = none_from (suc f) room slots s t k ∙ sym (none_from zero room slots s t k)
  enough (suc f) (suc g) room slots s t h k =
      ap (λ w. pick (ltb 0 (length s)) (pick (waits last s) (rests t) w) (closes last slots t))
      (judged_same room slots s t (record_of s) (λ r k n u. sweep_from f last r k (drop n s) u) (λ r k n u. sweep_from g last r k (drop n s) u)
      (accepts_all (Stands s) _ (record_of s) (record_stands s) λ x n p r q u. enough f g r q (drop n s) u (omega (arith, length-drop n s, p.till)) (omega (arith, length-drop n s, p.till)))
      λ r q u. enough f g r q (drop 1 s) u (omega (arith, length-drop 1 s)) (omega (arith, length-drop 1 s)))

  pub sweep_none : (room slots : ℕ) (s : List ℕ) (t : Tally) → length s ≤ 0 → sweep_of last room slots s t ≡ closes last slots t
  unfolding sweep_of
  sweep_none room slots s t h = none_from (length s) room slots s t h

  pub sweep_waits : (room slots : ℕ) (s : List ℕ) (t : Tally) → 0 < length s → waits last s ≡ true → sweep_of last room slots s t ≡ rests t
  unfolding sweep_of sweep_from
  sweep_waits room slots s t h w = enough (length s) (suc (length s)) room slots s t (omega arith) (omega arith) ∙ rw (lt-ltb 0 (length s) h, w)

  sweep_step : (room slots : ℕ) (s : List ℕ) (t : Tally) → 0 < length s → waits last s ≡ false →
      sweep_of last room slots s t ≡ judged room slots s t (record_of s) (λ r k n u. sweep_of last r k (drop n s) u)
  unfolding sweep_of sweep_from
  sweep_step room slots s t h w =
      enough (length s) (suc (length s)) room slots s t (omega arith) (omega arith)
      ∙ rw (lt-ltb 0 (length s) h, w)
      (judged_same room slots s t (record_of s) (λ r k n u. sweep_from (length s) last r k (drop n s) u) (λ r k n u. sweep_from (length (drop n s)) last r k (drop n s) u)
      (accepts_all (Stands s) _ (record_of s) (record_stands s) λ x n p r k u. enough (length s) (length (drop n s)) r k (drop n s) u (rw (length-drop n s) (omega arith)) (omega arith))
      λ r k u. enough (length s) (length (drop 1 s)) r k (drop 1 s) u (rw (length-drop 1 s) (omega arith)) (omega arith))

  -- a record that is whole waits for nothing
  ready : (s : List ℕ) {x : Record} {n : ℕ} → got x n ≡ record_of s → waits last s ≡ false
  unfolding waits
  ready s e = go last (whole_uncut s e)
    where
      go : (b : Bool) {c : Bool} → c ≡ false → pick b false c ≡ false
      go true e = refl
      go false e = e

  pub sweep_refused : (room slots : ℕ) (s : List ℕ) (t : Tally) {u : Told} → 0 < length s → waits last s ≡ false → refused u ≡ record_of s →
      sweep_of last room slots s t ≡ before [] [] 1 (sweep_of last room slots (drop 1 s) (drops t 1))
  sweep_refused room slots s t h w e = sweep_step room slots s t h w ∙ ap (λ x. judged room slots s t x (λ r k n u. sweep_of last r k (drop n s) u)) (sym e)

  module _ (room slots : ℕ) (s : List ℕ) (t : Tally) {x : Record} {n : ℕ} (h : 0 < length s) (e : got x n ≡ record_of s) where
    found : sweep_of last room slots s t ≡ judged room slots s t (got x n) (λ r k n u. sweep_of last r k (drop n s) u)
    found = sweep_step room slots s t h (ready s e) ∙ ap (λ x. judged room slots s t x (λ r k n u. sweep_of last r k (drop n s) u)) (sym e)

    pub sweep_got : n ≤ room → length (opened t) ≤ slots →
        sweep_of last room slots s t ≡ before (take n s) (opened t) n (sweep_of last (room - n) (slots - length (opened t)) (drop n s) (keeps t 1 n))
    sweep_got r k = found ∙ rw (le-leb n room r, le-leb (length (opened t)) slots k)

    pub sweep_room : room < n → sweep_of last room slots s t ≡ rests t
    sweep_room r = found ∙ rw (lt-leb n room r)

    pub sweep_slots : slots < length (opened t) → sweep_of last room slots s t ≡ rests t
    sweep_slots k = found ∙ rw (lt-leb (length (opened t)) slots k) (pick_alike (leb n room) (rests t))

  -- ── at a place ──

  drops_one : (room slots : ℕ) (s : List ℕ) (at : ℕ) (t : Tally) {u : Told} → at < length s → waits last (drop at s) ≡ false → refused u ≡ record_of (drop at s) →
      sweep_of last room slots (drop at s) t ≡ before [] [] 1 (sweep_of last room slots (drop (at + 1) s) (drops t 1))
  drops_one room slots s at t h w e =
      sweep_refused room slots (drop at s) t (some_bytes s at h) w e ∙ ap (λ v. before [] [] 1 (sweep_of last room slots v (drops t 1))) (drop-drop 1 at s)

  keeps_one : (room slots : ℕ) (s : List ℕ) (at : ℕ) (t : Tally) {x : Record} {n : ℕ} → at < length s → got x n ≡ record_of (drop at s) → n ≤ room → length (opened t) ≤ slots →
      sweep_of last room slots (drop at s) t ≡ before (take n (drop at s)) (opened t) n (sweep_of last (room - n) (slots - length (opened t)) (drop (at + n) s) (keeps t 1 n))
  keeps_one room slots s at t {x} {n} h e r k =
      sweep_got room slots (drop at s) t (some_bytes s at h) e r k ∙ ap (λ v. before (take n (drop at s)) (opened t) n (sweep_of last (room - n) (slots - length (opened t)) v (keeps t 1 n))) (drop-drop n at s)

  -- ── all bytes of a gap ──

  before_both : (a b : ℕ) (w : Windowed) → before [] [] a (before [] [] b w) ≡ before [] [] (a + b) w
  before_both a b w = ap (λ n. record { text = w.text; told = w.told; used = n; tally = w.tally }) (sym (add_assoc a b w.used))

  pub sweep_drops : (room slots : ℕ) (t : Tally) {s : List ℕ} {from at : ℕ} → Drops last s from at →
      sweep_of last room slots (drop from s) t ≡ before [] [] (at - from) (sweep_of last room slots (drop at s) (drops t (at - from)))
  sweep_drops room slots t {s} {from} none_dropped =
      let none : from - from ≡ 0 = omega arith in
      rw (none, add-zero t.place, add-zero t.untold, zero-add)
  sweep_drops room slots t {s} {from} (one_dropped {at} d h w e) =
      let a = at - from in
      let more : a + 1 ≡ at + 1 - from = omega (arith, drops_least d) in
      let same : drops (drops t a) 1 ≡ drops t (a + 1) = tally_same (add_assoc t.place a 1) refl refl (add_assoc t.untold a 1) in
      sweep_drops room slots t d ∙ ap (before [] [] a) (drops_one room slots s at (drops t a) h w e) ∙ before_both a 1 _
      ∙ ap (λ u. before [] [] (a + 1) (sweep_of last room slots (drop (at + 1) s) u)) same ∙ ap (λ n. before [] [] n (sweep_of last room slots (drop (at + 1) s) (drops t n))) more

  -- ── all records of a row ──

  row_both : (s : List ℕ) (ps : List Part) (a n : ℕ) (w : Windowed) → before (take a s) ps a (before (take n (drop a s)) [] n w) ≡ before (take (a + n) s) ps (a + n) w
  row_both s ps a n w =
      let text : take a s ++ (take n (drop a s) ++ w.text) ≡ take (a + n) s ++ w.text = sym (append_assoc (take a s) (take n (drop a s)) w.text) ∙ ap (λ v. v ++ w.text) (sym (take-add a n s)) in
      rw (text, sym (add_assoc a n w.used))

  -- what so many records come to
  abbrev Rowed : ℕ → ℕ → Tally → List ℕ → ℕ → ℕ → ℕ → Type 0
  Rowed room slots t s from at k =
      sweep_of last room slots (drop from s) t ≡ before (take (at - from) (drop from s)) (opened t) (at - from) (sweep_of last (room - (at - from)) (slots - length (opened t)) (drop at s) (keeps t k (at - from)))

  rowed_more : (room slots : ℕ) (t : Tally) (s : List ℕ) (from at k n : ℕ) {x : Record} → Keeps s from at k → at < length s → got x n ≡ record_of (drop at s) → (0 < k → Rowed room slots t s from at k) →
      at + n - from ≤ room → length (opened t) ≤ slots → Rowed room slots t s from (at + n) (k + 1)
  rowed_more room slots t s from at zero n d h e rows r q =
      let here : at ≡ from = keeps_none d refl in
      let one : from + n - from ≡ n = omega arith in
      rw (here, one) (keeps_one room slots s from t (omega (arith, here)) (rw here at e) (omega arith) q)
  rowed_more room slots t s from at (suc j) n d h e rows r q =
      let a = at - from in
      let from_here : from + a ≡ at = omega (arith, keeps_least d) in
      let till : a + n ≡ at + n - from = omega (arith, keeps_least d) in
      let room_left : room - a - n ≡ room - (a + n) = omega arith in
      let slots-left : slots - length (opened t) - 0 ≡ slots - length (opened t) = omega arith in
      let same : keeps (keeps t (suc j) a) 1 n ≡ keeps t (suc j + 1) (a + n) = tally_same (add_assoc t.place a n) (add_assoc t.records (suc j) 1) (add_assoc t.bytes a n) refl in
      let place : drop at s ≡ drop a (drop from s) = sym (drop-drop a from s ∙ ap (λ i. drop i s) from_here) in
      rows (omega arith)
      ∙ ap (before (take a (drop from s)) (opened t) a) (keeps_one (room - a) (slots - length (opened t)) s at (keeps t (suc j) a) h e (omega arith) (omega arith))
      ∙ ap (λ v. before (take a (drop from s)) (opened t) a (before (take n v) [] n (sweep_of last (room - a - n) (slots - length (opened t) - 0) (drop (at + n) s) (keeps (keeps t (suc j) a) 1 n)))) place
      ∙ row_both (drop from s) (opened t) a n _
      ∙ rw (room_left, slots-left, same, till)

  pub sweep_keeps : (room slots : ℕ) (t : Tally) {s : List ℕ} {from at k : ℕ} → Keeps s from at k → 0 < k → at - from ≤ room → length (opened t) ≤ slots → Rowed room slots t s from at k
  sweep_keeps room slots t none_kept some r q = absurd (not-suc-le-zero some)
  sweep_keeps room slots t {s} {from} (one_kept {at} {k} {n} d h e) some r q = rowed_more room slots t s from at k n d h e (λ j. sweep_keeps room slots t d j (omega arith) q) r q

  -- the first of them
  record First (s : List ℕ) (from : ℕ) : Type 0 where
    pub found : Record
    pub taken : ℕ
    pub some : from < length s
    pub read : got found taken ≡ record_of (drop from s)

  first_more : (s : List ℕ) (from at k n : ℕ) {x : Record} → Keeps s from at k → at < length s → got x n ≡ record_of (drop at s) → (0 < k → First s from) → First s from
  first_more s from at zero n {x} d h e f = let here : at ≡ from = keeps_none d refl in record { found = x; taken = n; some = omega (arith, here); read = rw here at e }
  first_more s from at (suc j) n d h e f = f (omega arith)

  keeps_first : {s : List ℕ} {from at k : ℕ} → Keeps s from at k → 0 < k → First s from
  keeps_first none_kept some = absurd (not-suc-le-zero some)
  keeps_first {s} {from} (one_kept {at} {k} {n} d h e) some = first_more s from at k n d h e (λ j. keeps_first d j)

  pub no_slot : (room slots : ℕ) (t : Tally) {s : List ℕ} {from at k : ℕ} → Keeps s from at k → 0 < k → slots < length (opened t) → sweep_of last room slots (drop from s) t ≡ rests t
  no_slot room slots t {s} {from} d some few = let f = keeps_first d some in sweep_slots room slots (drop from s) t (some_bytes s from f.some) f.read few

  -- ── why it stops ──

  pub halted : (room slots : ℕ) (s : List ℕ) (used : ℕ) (t : Tally) (run : Run) → Held last s used → Row s used room run → run.records ≡ 0 →
      sweep_of last room slots (drop used s) t ≡ closes (pick (ltb used (length s)) false last) slots t
  halted room slots s used t run (at-end h) row none = rw (le-ltb used (length s) h) (sweep_none room slots (drop used s) t (rw (length-drop used s) (omega arith)))
  halted room slots s used t run (waiting h w) row none = rw (lt-ltb used (length s) h) (sweep_waits room slots (drop used s) t (some_bytes s used h) w)
  halted room slots s used t run (stands {x} {n} h e) row none = rw (lt-ltb used (length s) h) (go row.ended)
    where
      here : run.end ≡ used
      here = keeps_none row.keeps none

      read : got x n ≡ record_of (drop run.end s)
      read = rw here e

      go : Ended (room - (run.end - used)) s run.end → sweep_of last room slots (drop used s) t ≡ rests t
      go (no_bytes k) = absurd (over k)
        where
          over : length s ≤ run.end → ⊥
          over k = omega (arith, here)
      go (stands_none f) = let r = read in zero_one (cc)
      go (no_room {n = m} f k) = let r = read in let same : n ≡ m = cc in sweep_room room slots (drop used s) t (some_bytes s used h) e (omega (arith, here))
