-- What mending comes to, beyond its promise: the pieces are all bytes, each once; stretches are apart, and hide no record; a sound recording is unchanged; what comes out is
-- accepted, and has the kept records; so mending it again changes nothing. And each promise allows one answer.
-- Each is shown piece by piece from the front.
-- Assumes nothing.
use Rattle.std.specs.Prelude.{Ok, Err}
use Rattle.std.proofs.Common.{◌≡◌, ℕ, suc, ◌+◌, ◌-◌, ◌<◌, ◌≤◌, Bool, true, false, ltb, List, [], ◌∷◌, ◌++◌, map, length, take, drop, sym, refl, ap, ◌∙◌, subst, append-nil, arith, length-append, length-drop, take-append-drop, length-take-le, drop-drop, drop_at, ltb-false, ltb-true}
use lib.ListN.{length-map}
use lib.Seq.{drop-append-add}
use Rattle.layout.specs.Answer.{Told, Answer, got, refused, pick}
use Rattle.layout.proofs.laws.Determined.{Tells, retracts}
use Rattle.layout.proofs.laws.Numbers.{zero_one}
use Rattle.layout.proofs.laws.Words.{no_bytes}
use Rattle.wire.specs.Returned.{part_of}
use Rattle.wire.specs.declared.Part.{Part}
use Rattle.recording.specs.Content.{Record}
use Rattle.recording.specs.Record.{record_of}
use Rattle.recording.specs.Row.{row_from, row_of}
use Rattle.recording.specs.Copied.{move}
use Rattle.recording.proofs.laws.Rowed.{Stands}
use Rattle.recording.proofs.laws.Fronted.{body_same, record_before, row_join, row_rest, row_not}
use Rattle.std.specs.declared.result.Result.{Result}
use Rattle.layout.specs.declared.Refusal.{Refusal}
use Rattle.mending.specs.declared.window.Swept.{Swept}
use Rattle.mending.specs.declared.turn.Turn.{Turn}
use Rattle.mending.specs.Mended.{part, kept_of, mend_said, stretch, dropped_of, lengths_of, Mends, says_mended}
use Rattle.mending.specs.Window.{Windowed, Sweeps}
use Rattle.turns.specs.Turn.{Turned}
use Rattle.mending.specs.Turn.{State, Given, Turns}
use Rattle.mending.specs.Laid.{total, Each, Tiles, all_laid, next_kept, next_dropped, Apart, StandsNone, Missed, Matches, no_more, and_one}
use Rattle.mending.proofs.Cutting.{text, told, parts, text_whole, told_whole, parts_whole, text_none, text_got, text_refused, told_none, told_got, told_refused, parts_none, parts_got, parts_refused, by_pieces}

-- ── one answer ──

abbrev mended_from : Answer ℕ → Result (ℕ × ℕ) Refusal
mended_from (got n m) = Ok (m, n)
mended_from (refused t) = Err t

mended_back : (r : Result (ℕ × ℕ) Refusal) → mended_from (says_mended r) ≡ r
mended_back (Ok (n, m)) = refl
mended_back (Err t) = refl

tells_mended : Tells says_mended
tells_mended = retracts mended_from mended_back

pub one_mended : (s out starts lengths : List ℕ) (x y : Result (ℕ × ℕ) Refusal) {o o' a a' b b' : List ℕ} → Mends s out starts lengths (says_mended x) o a b → Mends s out starts lengths (says_mended y) o' a' b' →
    (x ≡ y) × (o ≡ o') × (a ≡ a') × (b ≡ b')
one_mended s out starts lengths x y p q =
    (tells_mended x y (p.answers ∙ sym q.answers), p.bytes ∙ sym q.bytes, p.starts_so ∙ sym q.starts_so, p.lengths_so ∙ sym q.lengths_so)

pub one_swept : (w : Windowed) (out starts lengths : List ℕ) (x y : Swept) {o o' a a' b b' : List ℕ} → Sweeps w out starts lengths x o a b → Sweeps w out starts lengths y o' a' b' →
    (x ≡ y) × (o ≡ o') × (a ≡ a') × (b ≡ b')
one_swept w out starts lengths x y p q = (p.answers ∙ sym q.answers, p.bytes ∙ sym q.bytes, p.starts_so ∙ sym q.starts_so, p.lengths_so ∙ sym q.lengths_so)

pub one_turned : (t : Turned State Given) (out starts lengths report : List ℕ) (x y : Turn) {v v' o o' a a' b b' l l' : List ℕ} → Turns t out starts lengths report x v o a b l → Turns t out starts lengths report y v' o' a' b' l' →
    (x ≡ y) × (v ≡ v') × (o ≡ o') × (a ≡ a') × (b ≡ b') × (l ≡ l')
one_turned t out starts lengths report x y p q =
    (p.answers ∙ sym q.answers, p.keeps ∙ sym q.keeps, p.bytes ∙ sym q.bytes, p.starts_so ∙ sym q.starts_so, p.lengths_so ∙ sym q.lengths_so, p.tells ∙ sym q.tells)

-- ── the pieces are all bytes ──

tiles_from : {a b end : ℕ} {ks ds : List Part} → a ≡ b → Tiles a ks ds end → Tiles b ks ds end
tiles_from {end = end} {ks = ks} {ds = ds} e t = subst (λ n. Tiles n ks ds end) e t

-- a stretch that is open before the place
with_stretch : (place untold end : ℕ) (ks ds : List Part) → untold ≤ place → Tiles place ks ds end → Tiles (place - untold) ks (stretch place untold ++ ds) end
with_stretch place untold end ks ds h t = go (ltb 0 untold) refl
  where
    go : (b : Bool) → ltb 0 untold ≡ b → Tiles (place - untold) ks (pick b (part (place - untold) untold ∷ []) [] ++ ds) end
    go true e = next_dropped {p = part (place - untold) untold} refl (ltb-true 0 untold e) (tiles_from (omega arith) t)
    go false e = let k : untold ≤ 0 = ltb-false 0 untold e in tiles_from (omega arith) t

Laid : ℕ → List ℕ → Type 0
Laid place s = (untold : ℕ) → untold ≤ place → Tiles (place - untold) (parts place s) (told place untold s) (place + length s)

laid : (place : ℕ) (s : List ℕ) → Laid place s
unfolding Laid
laid =
    by_pieces Laid
    (λ place s h untold k. rw (parts_none place s h, told_none place s untold h, sym (append-nil (stretch place untold))) (with_stretch place untold (place + length s) [] [] k (all_laid (omega arith))))
    (λ place s x n h e p on untold k.
    rw (parts_got place s h e, told_got place s h e untold)
    (with_stretch place untold (place + length s) (part place n ∷ parts (place + n) (drop n s)) (told (place + n) 0 (drop n s)) k
    (next_kept {p = part place n} refl (omega (arith, p.till)) (further place s n (omega (arith, p.within)) (on 0 (omega arith))))))
    (λ place s t h e on untold k.
    rw (parts_refused place s h e, told_refused place s h e untold) (one_further place s untold h (on (untold + 1) (omega arith))))
  where
    further : (place : ℕ) (s : List ℕ) (n : ℕ) {ks ds : List Part} → n ≤ length s → Tiles (place + n - 0) ks ds (place + n + length (drop n s)) → Tiles (place + n) ks ds (place + length s)
    further place s n {ks} {ds} h t =
        let end : place + n + length (drop n s) ≡ place + length s = omega (arith, length-drop n s) in
        tiles_from (omega arith) (subst (Tiles (place + n - 0) ks ds) end t)

    one_further : (place : ℕ) (s : List ℕ) (untold : ℕ) {ks ds : List Part} → 0 < length s → Tiles (place + 1 - (untold + 1)) ks ds (place + 1 + length (drop 1 s)) → Tiles (place - untold) ks ds (place + length s)
    one_further place s untold {ks} {ds} h t =
        let end : place + 1 + length (drop 1 s) ≡ place + length s = omega (arith, length-drop 1 s) in
        tiles_from (omega arith) (subst (Tiles (place + 1 - (untold + 1)) ks ds) end t)

-- the kept parts and the dropped stretches, merged by start, are the bytes from end to end
pub pieces_tile : (s : List ℕ) → Tiles 0 (kept_of s) (dropped_of s) (length s)
unfolding Laid
pieces_tile s = let all : 0 + length s ≡ length s = omega arith in rw (parts_whole s, told_whole s, all) at (laid 0 s 0 (omega arith))

tiles_total : {from end : ℕ} {ks ds : List Part} → Tiles from ks ds end → from + (total (lengths_of ks) + total (lengths_of ds)) ≡ end
tiles_total (all_laid e) = omega arith
tiles_total (next_kept e h t) = omega (arith, tiles_total t)
tiles_total (next_dropped e h t) = omega (arith, tiles_total t)

-- so their lengths make its length
pub lengths : (s : List ℕ) → total (lengths_of (kept_of s)) + total (lengths_of (dropped_of s)) ≡ length s
lengths s = omega (arith, tiles_total (pieces_tile s))

-- ── stretches are apart ──

apart_least : (a b : ℕ) (ps : List Part) → a ≤ b → Apart b ps → Apart a ps
apart_least a b [] h t = tt
apart_least a b (p ∷ ps) h t = (omega (arith, t.0), t.1, t.2)

apart_stretch : (place untold : ℕ) (ps : List Part) → untold ≤ place → Apart (place + 1) ps → Apart (place - untold) (stretch place untold ++ ps)
apart_stretch place untold ps h t = go (ltb 0 untold) refl
  where
    go : (b : Bool) → ltb 0 untold ≡ b → Apart (place - untold) (pick b (part (place - untold) untold ∷ []) [] ++ ps)
    go true e = (omega arith, ltb-true 0 untold e, apart_least (place - untold + untold + 1) (place + 1) ps (omega arith) t)
    go false e = apart_least (place - untold) (place + 1) ps (omega arith) t

Parted : ℕ → List ℕ → Type 0
Parted place s = (untold : ℕ) → untold ≤ place → Apart (place - untold) (told place untold s)

-- starts rise, no stretch is empty, and none touches the next
pub joined : (s : List ℕ) → Apart 0 (dropped_of s)
unfolding Parted
joined s = rw (told_whole s) at (parted 0 s 0 (omega arith))
  where
    parted : (place : ℕ) (s : List ℕ) → Parted place s
    parted =
        by_pieces Parted
        (λ place s h untold k. rw (told_none place s untold h, sym (append-nil (stretch place untold))) (apart_stretch place untold [] k tt))
        (λ place s x n h e p on untold k.
        rw (told_got place s h e untold) (apart_stretch place untold (told (place + n) 0 (drop n s)) k (apart_least (place + 1) (place + n - 0) (told (place + n) 0 (drop n s)) (omega (arith, p.till)) (on 0 (omega arith)))))
        (λ place s t h e on untold k.
        let same : place + 1 - (untold + 1) ≡ place - untold = omega arith in
        rw (told_refused place s h e untold) (subst (λ n. Apart n (told (place + 1) (untold + 1) (drop 1 s))) same (on (untold + 1) (omega arith))))

-- ── no record is missed ──

each_stretch : (P : Part → Type 0) (place untold : ℕ) (ps : List Part) → P (part (place - untold) untold) → Each P ps → Each P (stretch place untold ++ ps)
each_stretch P place untold ps h t = go (ltb 0 untold)
  where
    go : (b : Bool) → Each P (pick b (part (place - untold) untold ∷ []) [] ++ ps)
    go true = (h, t)
    go false = t

-- nowhere in so many bytes before the place does a record stand
Behind : List ℕ → ℕ → ℕ → Type 0
Behind v place untold = (i : ℕ) → place - untold ≤ i → i < place → StandsNone v i

Missing : List ℕ → ℕ → List ℕ → Type 0
Missing v place s = drop place v ≡ s → (untold : ℕ) → untold ≤ place → Behind v place untold → Each (Missed v) (told place untold s)

open_missed : (v : List ℕ) (place untold : ℕ) → untold ≤ place → Behind v place untold → Missed v (part (place - untold) untold)
unfolding Behind
open_missed v place untold k b i h j = b i h (omega arith)

missing : (v : List ℕ) (place : ℕ) (s : List ℕ) → Missing v place s
unfolding Missing Behind
missing v =
    by_pieces (Missing v)
    (λ place s h e untold k b. rw (told_none place s untold h, sym (append-nil (stretch place untold))) (each_stretch (Missed v) place untold [] (open_missed v place untold k b) tt))
    (λ place s x n h r p on e untold k b.
    let next : drop (place + n) v ≡ drop n s = sym (drop-drop n place v) ∙ ap (drop n) e in
    rw (told_got place s h r untold) (each_stretch (Missed v) place untold (told (place + n) 0 (drop n s)) (open_missed v place untold k b) (on next 0 (omega arith) (λ i a c. absurd (nowhere (place + n) i a c)))))
    (λ place s t h r on e untold k b.
    let next : drop (place + 1) v ≡ drop 1 s = sym (drop-drop 1 place v) ∙ ap (drop 1) e in
    rw (told_refused place s h r untold) (on next (untold + 1) (omega arith) (λ i a c. one_more place untold s e t r b i a c (ltb i place) refl)))
  where
    nowhere : (m i : ℕ) → m - 0 ≤ i → i < m → ⊥
    nowhere m i a c = omega arith

    one_more : (place untold : ℕ) (s : List ℕ) → drop place v ≡ s → (t : Told) → refused t ≡ record_of s → Behind v place untold → (i : ℕ) → place + 1 - (untold + 1) ≤ i → i < place + 1 → (b : Bool) → ltb i place ≡ b → StandsNone v i
    one_more place untold s e t r b i a c true f = b i (omega arith) (ltb-true i place f)
    one_more place untold s e t r b i a c false f =
        let here : i ≡ place = omega (arith, ltb-false i place f) in
        (t, rw (here, e) r)

-- at no place of a dropped stretch does an acceptable record stand
pub nothing_missed : (s : List ℕ) → Each (Missed s) (dropped_of s)
unfolding Missing Behind
nothing_missed s = rw (told_whole s) at (missing s 0 s refl 0 (omega arith) (λ i a c. absurd (none i c)))
  where
    none : (i : ℕ) → i < 0 → ⊥
    none i c = omega arith

-- ── a sound recording ──

Unchanged : ℕ → List ℕ → Type 0
Unchanged place s = (xs : List Record) (m : ℕ) → row_of s ≡ got xs m → (text place s ≡ s) × (told place 0 s ≡ []) × (length (parts place s) ≡ length xs)

unchanged : (place : ℕ) (s : List ℕ) → Unchanged place s
unfolding Unchanged row_of row_from
unchanged =
    by_pieces Unchanged
    (λ place s h xs m f.
    let none = no_bytes s h in
    let row : got [] 0 ≡ got xs m = rw none at f in
    let empty : [] ≡ xs = cc in
    (text_none place s h ∙ sym none, told_none place s 0 h, ap length (parts_none place s h) ∙ ap length empty))
    (λ place s x n h e p on xs m f.
    let r = row_rest s e f in
    let q = on r.records r.end r.row in (
      text_got place s h e ∙ ap (λ v. take n s ++ v) q.0 ∙ take-append-drop n s,
      told_got place s h e 0 ∙ q.1,
      ap length (parts_got place s h e) ∙ ap suc (q.2 ∙ sym (length-map r.records (move n))) ∙ ap length (sym r.all),
    ))
    (λ place s t h e on xs m f. let g : refused t ≡ got xs m = sym (row_not s h e) ∙ f in zero_one (cc))

-- comes out unchanged, with an empty report, and every record of it is kept
pub sound_unchanged : (s : List ℕ) (xs : List Record) (m : ℕ) → row_of s ≡ got xs m → (mend_said s ≡ s) × (dropped_of s ≡ []) × (length (kept_of s) ≡ length xs)
unfolding Unchanged
sound_unchanged s xs m f =
    let u = unchanged 0 s xs m f in
    (text_whole s ∙ u.0, sym (told_whole s) ∙ u.1, ap length (sym (parts_whole s)) ∙ u.2)

-- ── what comes out ──

-- the bytes w are accepted from end to end, and have the records that stand in v at these parts
pub record Accepted (v w : List ℕ) (ps : List Part) : Type 0 where
  pub records : List Record
  pub row : row_of w ≡ got records (length w)
  pub same : Matches v w ps records

matches_behind : (v b w : List ℕ) {ps : List Part} {ys : List Record} → Matches v w ps ys → Matches v (b ++ w) ps (map (move (length b)) ys)
matches_behind v b w no_more = no_more
matches_behind v b w (and_one {y = y} e k f r) = and_one e k (f ∙ ap (take y.body.count) (sym (drop-append-add b w y.body.start))) (matches_behind v b w r)

-- one record more in front
accepted_one : (v s : List ℕ) (place : ℕ) {x : Record} {n : ℕ} → drop place v ≡ s → got x n ≡ record_of s → Stands s x n → (w : List ℕ) (ps : List Part) → Accepted v w ps → Accepted v (take n s ++ w) (part place n ∷ ps)
accepted_one v s place {x} {n} e r p w ps a =
    let b = take n s in
    let long : length b ≡ n = length-take-le n s p.within in
    let read : got x n ≡ record_of (b ++ w) = sym (record_before s r w) in
    let rest : row_of (drop n (b ++ w)) ≡ got a.records (length w) = ap row_of (drop_at b w n long) ∙ a.row in
    let whole : n + length w ≡ length (b ++ w) = omega (arith, length-append b w, long) in
    let first : x.body.start ≡ 6 = p.start in
    let count : 6 + x.body.count ≡ n = sym p.till in
    let body : part_of s x.body ≡ part_of (b ++ w) x.body =
    ap (λ i. take x.body.count (drop i s)) first
    ∙ body_same s w x.body.count (omega (arith, count, p.within))
    ∙ ap (λ k. take x.body.count (drop 6 (take k s ++ w))) count
    ∙ ap (λ i. take x.body.count (drop i (b ++ w))) (sym first) in
    let moved : map (move (length b)) a.records ≡ map (move n) a.records = ap (λ k. map (move k) a.records) long in
    record {
      records = x ∷ map (move n) a.records;
      row = row_join (b ++ w) read rest ∙ ap (got (x ∷ map (move n) a.records)) whole;
      same = and_one {p = part place n} {x = x} {y = x} (rw e r) refl (ap (λ u. part_of u x.body) e ∙ body) (subst (Matches v (b ++ w) ps) moved (matches_behind v b w a.same));
    }

Coming : List ℕ → ℕ → List ℕ → Type 0
Coming v place s = drop place v ≡ s → Accepted v (text place s) (parts place s)

coming : (v : List ℕ) (place : ℕ) (s : List ℕ) → Coming v place s
unfolding Coming row_of row_from
coming v =
    by_pieces (Coming v)
    (λ place s h e. rw (text_none place s h, parts_none place s h) (record { records = []; row = refl; same = no_more }))
    (λ place s x n h r p on e.
    let next : drop (place + n) v ≡ drop n s = sym (drop-drop n place v) ∙ ap (drop n) e in
    rw (text_got place s h r, parts_got place s h r) (accepted_one v s place e r p (text (place + n) (drop n s)) (parts (place + n) (drop n s)) (on next)))
    (λ place s t h r on e.
    let next : drop (place + 1) v ≡ drop 1 s = sym (drop-drop 1 place v) ∙ ap (drop 1) e in
    rw (text_refused place s h r, parts_refused place s h r) (on next))

-- it is accepted, and its records are the kept ones in order, kinds and bodies
pub always_accepted : (s : List ℕ) → Accepted s (mend_said s) (kept_of s)
unfolding Coming
always_accepted s = rw (text_whole s, sym (parts_whole s)) (coming s 0 s refl)

-- so mending it again changes nothing and drops nothing
pub mended_once : (s : List ℕ) → (mend_said (mend_said s) ≡ mend_said s) × (dropped_of (mend_said s) ≡ [])
mended_once s =
    let a = always_accepted s in
    let u = sound_unchanged (mend_said s) a.records (length (mend_said s)) a.row in
    (u.0, u.1)
