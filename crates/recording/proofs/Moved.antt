-- Where bytes stand changes nothing but places: a record behind other bytes is read as the record alone, with every place moved.
-- So a row of records behind others is moved as a whole, and a row goes on behind records that are accepted.
-- Assumes nothing.
use mathlib.Core.Path.{◌≡◌, refl, sym, ap, ◌∙◌}
use mathlib.Core.Bool.{Bool, true, false}
use mathlib.Core.List.{List, ◌∷◌, ◌++◌, map, append_assoc}
use Prim.Native.Nat.{ℕ, zero, suc, ◌+◌, ◌-◌, ◌≤◌, ◌<◌}
use native.Mathlib.Omega.{arith}
use borrow.Author.Tests.{eqb-true, eqb-false, eq-eqb, ne_eqb, ltb-true, ltb-false, lt-ltb, le-ltb}
use lib.Dec.{leb, ltb, eqb}
use lib.ListN.{length, take, drop, length-append, take-append-drop}
use lib.Seq.{length-take-le, take-append-add, drop-append-add}
use Rattle.layout.specs.Answer.{Answer, got, refused, pick, after, means, bare, end_at, span_at, field_at}
use Rattle.layout.specs.Bytes.{number}
use Rattle.layout.specs.Refusals.{TRAIL, KIND, LENGTH, SIZE, RECORD, LONG}
use Rattle.layout.proofs.laws.Accepted.{Accepts, accepted, accepts_means, accepts_pick}
use Rattle.layout.proofs.laws.Reading.{means_means, means_same}
use Rattle.layout.proofs.laws.Numbers.{zero_one}
use Rattle.wire.specs.Places.{num_at}
use Rattle.wire.specs.Container.{header_rest, header_at, container_at}
use Rattle.wire.specs.Container as C
use Rattle.recording.specs.Content.{Record}
use Rattle.recording.specs.Content as content
use Rattle.recording.specs.Record.{limit, begins, content_at, body_at, head_at, record_at, record_of}
use Rattle.recording.specs.Row.{row_from, row_of, is_cut}
use Rattle.recording.specs.Copied.{move_told, move_content, move_container, move}
use Rattle.recording.specs.declared.Head.{Head}
use Rattle.recording.proofs.laws.Rowed.{Placed, record_placed, uncut_same, whole_uncut}
use Rattle.recording.proofs.Placed.{rest, row_got, row_enough, row_ends}

-- ── answers, moved ──

abbrev pub shifted : {A : Type 0} → (A → A) → ℕ → Answer A → Answer A
shifted f k (got a n) = got (f a) (k + n)
shifted f k (refused t) = refused (move_told k t)

after_moved : {A B : Type 0} (f : A → A) (g : B → B) (k : ℕ) {y : Answer A} (x : Answer A) (d c : A → ℕ → Answer B) → y ≡ shifted f k x → ((a : A) (n : ℕ) → d (f a) (k + n) ≡ shifted g k (c a n)) →
    after y d ≡ shifted g k (after x c)
unfolding after
after_moved f g k (got a n) d c e h = ap (λ y. after y d) e ∙ h a n
after_moved f g k (refused t) d c e h = ap (λ y. after y d) e

means_moved : {A B : Type 0} (f : A → A) (g : B → B) (k : ℕ) {y : Answer A} (x : Answer A) (d c : A → B) → y ≡ shifted f k x → ((a : A) → d (f a) ≡ g (c a)) → means d y ≡ shifted g k (means c x)
unfolding means
means_moved f g k (got a n) d c e h = ap (means d) e ∙ ap (λ b. got b (k + n)) (h a)
means_moved f g k (refused t) d c e h = ap (means d) e

pick_moved : {A : Type 0} (g : A → A) (k : ℕ) (b : Bool) (x₁ y₁ x y : Answer A) → x₁ ≡ shifted g k x → y₁ ≡ shifted g k y → pick b x₁ y₁ ≡ shifted g k (pick b x y)
pick_moved g k true x₁ y₁ x y e f = e
pick_moved g k false x₁ y₁ x y e f = f

bare_moved : {A : Type 0} (g : A → A) (k given : ℕ) → refused (bare given) ≡ shifted g k (refused (bare given))
unfolding bare move_told
bare_moved g k given = refl

abbrev same : {A : Type 0} → A → A
same a = a

-- ── readers, moved ──

module _ (pre : List ℕ) where
  left_same : (s : List ℕ) (at : ℕ) → length (pre ++ s) - (length pre + at) ≡ length s - at
  left_same s at = omega (arith, length-append pre s)

  span_moved : (field n : ℕ) (s : List ℕ) (at : ℕ) → span_at (length pre + field) n (pre ++ s) (length pre + at) ≡ shifted same (length pre) (span_at field n s at)
  unfolding span_at end_at move_told
  span_moved field n s at = rw (left_same s at) (go (leb n (length s - at)))
    where
      go : (b : Bool) → pick b (got (tt {0}) (length pre + at + n)) (refused (end_at (length pre + field))) ≡ shifted same (length pre) (pick b (got (tt {0}) (at + n)) (refused (end_at field)))
      go true = let e : length pre + at + n ≡ length pre + (at + n) = omega arith in ap (got (tt {0})) e
      go false = refl

  field_moved : {A : Type 0} (n : ℕ) (mean : List ℕ → A) (s : List ℕ) (at : ℕ) → field_at n mean (pre ++ s) (length pre + at) ≡ shifted same (length pre) (field_at n mean s at)
  unfolding field_at
  field_moved n mean s at = after_moved same same (length pre) (span_at at n s at) _ _ (span_moved at n s at) λ u m. ap (λ l. got (mean (take n l)) (length pre + m)) (drop-append-add pre s at)

  rest_moved : (len kind : ℕ) (s : List ℕ) (at : ℕ) → header_rest len kind (pre ++ s) (length pre + at) ≡ shifted same (length pre) (header_rest len kind s at)
  unfolding header_rest
  rest_moved len kind s at =
      after_moved same same (length pre) (num_at 2 s at) _ _ (field_moved 2 number s at) λ code a.
      after_moved same same (length pre) (num_at 4 s a) _ _ (field_moved 4 number s a) λ tid next.
      pick_moved same (length pre) (leb 12 len) _ _ _ _ refl (bare_moved same (length pre) LENGTH)

  header_moved : (s : List ℕ) (at : ℕ) → header_at (pre ++ s) (length pre + at) ≡ shifted same (length pre) (header_at s at)
  unfolding header_at
  header_moved s at =
      after_moved same same (length pre) (num_at 4 s at) _ _ (field_moved 4 number s at) λ len a.
      after_moved same same (length pre) (num_at 2 s a) _ _ (field_moved 2 number s a) λ kind b.
      pick_moved same (length pre) (C.is_kind kind) _ _ _ _ (rest_moved len kind s b) (bare_moved same (length pre) KIND)

  container_moved : (s : List ℕ) (at : ℕ) → container_at (pre ++ s) (length pre + at) ≡ shifted (move_container (length pre)) (length pre) (container_at s at)
  unfolding container_at
  container_moved s at =
      after_moved same (move_container (length pre)) (length pre) (header_at s at) _ _ (header_moved s at) λ h start.
      let e : length pre + start + h.payload_len ≡ length pre + (start + h.payload_len) = omega arith in
      rw (left_same s start)
      (pick_moved (move_container (length pre)) (length pre) (leb h.payload_len (length s - start)) _ _ _ _ (ap (got (move_container (length pre) (record { kind = h.kind; code = h.code; number = h.number; payload = record { start = start; count = h.payload_len } }))) e) (bare_moved (move_container (length pre)) (length pre) SIZE))

  ends_moved : (s : List ℕ) (n : ℕ) → eqb (length pre + n) (length (pre ++ s)) ≡ eqb n (length s)
  ends_moved s n = go (eqb n (length s)) refl
    where
      go : (b : Bool) → eqb n (length s) ≡ b → eqb (length pre + n) (length (pre ++ s)) ≡ b
      go true e = let f : n ≡ length s = eqb-true n (length s) e in eq-eqb (length pre + n) (length (pre ++ s)) (omega (arith, length-append pre s))
      go false e = let f : n ≡ length s → ⊥ = eqb-false n (length s) e in ne_eqb (length pre + n) (length (pre ++ s)) (λ h. f (omega (arith, length-append pre s)))

  content_moved : (kind : ℕ) (s : List ℕ) (at : ℕ) → content_at kind (pre ++ s) (length pre + at) ≡ shifted (move_content (length pre)) (length pre) (content_at kind s at)
  unfolding content_at
  content_moved kind s at =
      pick_moved (move_content (length pre)) (length pre) (eqb kind 3) _ _ _ _ (ap (got content.note) (length-append pre s))
      (after_moved (move_container (length pre)) (move_content (length pre)) (length pre) (container_at s at) _ _ (container_moved s at) λ x n.
      rw (ends_moved s n) (pick_moved (move_content (length pre)) (length pre) (eqb n (length s)) _ _ _ _ refl (bare_moved (move_content (length pre)) (length pre) TRAIL)))

  abbrev move_head : Head → Head
  move_head h = record { kind = h.kind; body = record { start = length pre + h.body.start; count = h.body.count } }

  body_moved : (len kind : ℕ) (s : List ℕ) (start : ℕ) → body_at len kind (pre ++ s) (length pre + start) ≡ shifted move_head (length pre) (body_at len kind s start)
  unfolding body_at
  body_moved len kind s start =
      pick_moved move_head (length pre) (begins len kind) _ _ _ _
      (pick_moved move_head (length pre) (leb (len - 6) limit) _ _ _ _
      (means_moved same move_head (length pre) (span_at start (len - 6) s start) _ _ (span_moved start (len - 6) s start) λ u. refl)
      (bare_moved move_head (length pre) LONG))
      (bare_moved move_head (length pre) RECORD)

  head_moved : (s : List ℕ) (at : ℕ) → head_at (pre ++ s) (length pre + at) ≡ shifted move_head (length pre) (head_at s at)
  unfolding head_at
  head_moved s at =
      after_moved same move_head (length pre) (num_at 4 s at) _ _ (field_moved 4 number s at) λ len a.
      after_moved same move_head (length pre) (num_at 2 s a) _ _ (field_moved 2 number s a) λ kind start.
      body_moved len kind s start

  pub record_moved : (s : List ℕ) (at : ℕ) → record_at (pre ++ s) (length pre + at) ≡ shifted (move (length pre)) (length pre) (record_at s at)
  unfolding record_at
  record_moved s at =
      after_moved move_head (move (length pre)) (length pre) (head_at s at) _ _ (head_moved s at) λ h end.
      rw (take-append-add pre s end)
      (means_moved (move_content (length pre)) (move (length pre)) (length pre) (content_at h.kind (take end s) h.body.start) _ _ (content_moved h.kind (take end s) h.body.start) λ c. refl)

  pub more_moved : (s : List ℕ) (at : ℕ) → ltb (length pre + at) (length (pre ++ s)) ≡ ltb at (length s)
  more_moved s at = go (ltb at (length s)) refl
    where
      go : (b : Bool) → ltb at (length s) ≡ b → ltb (length pre + at) (length (pre ++ s)) ≡ b
      go true e = let f : at < length s = ltb-true at (length s) e in lt-ltb (length pre + at) (length (pre ++ s)) (omega (arith, length-append pre s))
      go false e = let f : length s ≤ at = ltb-false at (length s) e in le-ltb (length pre + at) (length (pre ++ s)) (omega (arith, length-append pre s))

  pub row_moved : (f : ℕ) (s : List ℕ) (at : ℕ) → row_from f (pre ++ s) (length pre + at) ≡ shifted (map (move (length pre))) (length pre) (row_from f s at)
  unfolding row_from
  row_moved zero s at = refl
  row_moved (suc f) s at =
      rw (more_moved s at)
      (pick_moved (map (move (length pre))) (length pre) (ltb at (length s)) _ _ _ _
      (after_moved (move (length pre)) (map (move (length pre))) (length pre) (record_at s at) _ _ (record_moved s at) λ x n.
      means_moved (map (move (length pre))) (map (move (length pre))) (length pre) (row_from f s n) _ _ (row_moved f s n) λ xs. refl)
      refl)

-- ── bytes that follow a record that is accepted ──

module _ (a b : List ℕ) where
  pub record_stays : (at : ℕ) {x : Record} {n : ℕ} → got x n ≡ record_at a at → record_at (a ++ b) at ≡ got x n
  record_stays at {x} {n} e =
      let p = accepted (Placed a at) (record_placed a at) e in
      let pre = take at a in
      let behind = drop at a in
      let k : length pre ≡ at = length-take-le at a (omega (arith, p.till, p.within)) in
      let place : length pre + 0 ≡ at = omega (arith, k) in
      let whole : a ≡ pre ++ behind = sym (take-append-drop at a) in
      let alone : record_at a at ≡ shifted (move (length pre)) (length pre) (record_of behind) =
      ap (λ v. record_at v at) whole ∙ ap (record_at (pre ++ behind)) (sym place) ∙ record_moved pre behind 0 in
      let both : record_at (a ++ b) at ≡ shifted (move (length pre)) (length pre) (record_of (behind ++ b)) =
      ap (λ v. record_at (v ++ b) at) whole ∙ ap (λ v. record_at v at) (append_assoc pre behind b) ∙ ap (record_at (pre ++ (behind ++ b))) (sym place) ∙ record_moved pre (behind ++ b) 0 in
      let uncut : record_of (behind ++ b) ≡ record_of behind = uncut_same behind b (is_whole (record_of behind) refl (e ∙ alone)) in
      both ∙ ap (shifted (move (length pre)) (length pre)) uncut ∙ sym alone ∙ sym e
    where
      is_whole : (y : Answer Record) → y ≡ record_of (drop at a) → got x n ≡ shifted (move (length (take at a))) (length (take at a)) y → is_cut (drop at a) ≡ false
      is_whole (got z m) f g = whole_uncut (drop at a) f
      is_whole (refused t) f g = zero_one (cc)

  -- so the row goes on behind them
  row_on : (f : ℕ) (at : ℕ) → Accepts (λ xs n. rest (a ++ b) at ≡ means (λ zs. xs ++ zs) (rest (a ++ b) n)) (row_from f a at)
  unfolding row_from after
  row_on zero at = sym (means_same (rest (a ++ b) at))
  row_on (suc f) at =
      accepts_pick _ (ltb at (length a)) _ _
      (λ more. record_by (record_at a at) refl (ltb-true at (length a) more) (row_on f))
      (λ _. sym (means_same (rest (a ++ b) at)))
    where
      record_by : (y : Answer Record) → y ≡ record_at a at → at < length a → ((n : ℕ) → Accepts (λ xs m. rest (a ++ b) n ≡ means (λ zs. xs ++ zs) (rest (a ++ b) m)) (row_from f a n)) →
          Accepts (λ xs n. rest (a ++ b) at ≡ means (λ zs. xs ++ zs) (rest (a ++ b) n)) (after y λ x n. means (λ xs. x ∷ xs) (row_from f a n))
      record_by (got x n) e h on = accepts_means _ _ (λ xs. x ∷ xs) (row_from f a n) (on n) λ xs m q.
          row_got (a ++ b) at (omega (arith, length-append a b)) (sym (record_stays at e)) ∙ ap (means (λ zs. x ∷ zs)) q ∙ means_means (λ zs. x ∷ zs) (λ zs. xs ++ zs) (rest (a ++ b) m)
      record_by (refused t) e h on = tt

  -- the row of both is the one and, moved, the other
  pub rows_join : {xs : List Record} {n : ℕ} → got xs n ≡ row_of a → row_of (a ++ b) ≡ means (λ zs. xs ++ zs) (shifted (map (move (length a))) (length a) (row_of b))
  unfolding row_of
  rows_join {xs} {n} e =
      let end : n ≡ length a = accepted _ (row_ends (length a) a 0 (omega arith) (omega arith)) e in
      let place : n ≡ length a + 0 = omega (arith, end) in
      accepted _ (row_on (length a) 0) e
      ∙ ap (means (λ zs. xs ++ zs)) (ap (rest (a ++ b)) place ∙ row_moved a (length (a ++ b)) b 0
      ∙ ap (shifted (map (move (length a))) (length a)) (row_enough (length (a ++ b)) (length b) b 0 (omega (arith, length-append a b)) (omega arith)))
