-- What `write_record` and `copy_records` answer, by specs/Writing: a kind is 1, 2 or another; a body is judged as every container is; a record that was read holds a container exactly where
-- its kind is written.
-- Assumes nothing.
use mathlib.Core.Path.{◌≡◌, refl, sym, ap, ◌∙◌, subst}
use mathlib.Core.Bool.{Bool, true, false}
use mathlib.Core.List.{List, [], ◌∷◌, ◌++◌}
use Prim.Native.Nat.{ℕ, zero, suc, ◌+◌, ◌-◌, ◌<◌}
use native.Mathlib.Omega.{arith}
use borrow.Author.Tests.{leb-true, leb-false, le-leb, lt-leb, eqb-true, eqb-false, ne_eqb}
use lib.Dec.{leb, eqb, ltb}
use lib.ListN.{length, take, drop}
use Rattle.layout.specs.Answer.{Answer, got, refused, pick, after, means, bare, span_at}
use Rattle.layout.specs.Refusals.{TRAIL, ROOM, RECORD, LONG}
use Rattle.layout.specs.Written.{no, said_of, answer_of, left_of, Wrote}
use Rattle.layout.proofs.laws.Accepted.{Accepts, accepts_any, accepts_after, accepts_means, accepts_pick}
use Rattle.layout.proofs.laws.Numbers.{zero_one}
use Rattle.wire.specs.Container.{container_at}
use Rattle.wire.specs.Places.{num_at}
use Rattle.wire.specs.Refused.{announced, container_in, ContainerTests}
use Rattle.wire.specs.Tests.{◌gives◌else◌, holds, fails, Otherwise, otherwise}
use Rattle.wire.specs.declared.container.Container.{Container}
use Rattle.wire.proofs.laws.Judged.{one_test, one_otherwise, goes_on, enough, beyond, container_judged}
use Rattle.recording.specs.Content.{Content, Record}
use Rattle.recording.specs.Content as content
use Rattle.recording.specs.Record.{limit, is_kind, is_written, begins, content_at, body_at, head_at, record_at, record_word, record_said}
use Rattle.recording.specs.Row.{row_from, row_of}
use Rattle.recording.specs.Copied.{bytes_in, kept_of, kept, copy_said, none, counted, left_by, left_out, copy_of, Copies}
use Rattle.recording.specs.Writing.{WriterSays, Copying, no_more, a_container, a_note, CopySays, unread, no_room, copied}
use Rattle.recording.specs.declared.copy.Left.{Left}
use Rattle.recording.proofs.Recorded.{record_length}

-- ── kinds ──

-- from the camera, to it, or another
data Kinds (kind : ℕ) : Bool → Type 0 where
  from_it : kind ≡ 1 → Kinds kind true
  to_it : kind ≡ 2 → Kinds kind true
  another : (kind ≡ 1 → ⊥) → (kind ≡ 2 → ⊥) → Kinds kind false

kinds : (kind : ℕ) → Kinds kind (is_written kind)
unfolding is_written
kinds zero = another (λ e. omega arith) (λ e. omega arith)
kinds (suc zero) = from_it refl
kinds (suc (suc zero)) = to_it refl
kinds (suc (suc (suc n))) = rw (le-leb 1 (suc (suc (suc n))) (omega arith), lt-leb (suc (suc (suc n))) 2 (omega arith)) (another (λ e. omega arith) (λ e. omega arith))

-- ── the writer ──

module _ (kind : ℕ) (body old : List ℕ) where
  -- what is answered of a body's reading
  abbrev heard : Answer Content → Answer (Unit {0})
  heard y = answer_of (said_of (means (λ _. record_word kind body) y)) old

  abbrev RoomSays : Answer (Unit {0}) → Type 0
  RoomSays = length old < 6 + length body gives refused (bare ROOM) else Otherwise (got tt (6 + length body))

  abbrev FilledSays : Answer (Unit {0}) → Type 0
  FilledSays = announced body < length body gives refused (bare TRAIL) else RoomSays

  roomy : (c : Content) (n : ℕ) → RoomSays (heard (got c n))
  unfolding answer_of said_of means
  roomy c n = rw (record_length kind body) (go (leb (6 + length body) (length old)) refl)
    where
      go : (b : Bool) → leb (6 + length body) (length old) ≡ b → RoomSays (pick b (got tt (6 + length body)) (refused (bare ROOM)))
      go true e = fails (enough (leb-true (6 + length body) (length old) e)) otherwise
      go false e = holds (leb-false (6 + length body) (length old) e)

  abbrev held : Container → ℕ → Answer (Unit {0})
  held x n = heard (pick (eqb n (length body)) (got (content.holds x) n) (refused (bare TRAIL)))

  fills : (x : Answer Container) → (length body < announced body → ⊥) → Otherwise (got (container_in 0 body) (0 + announced body)) x → FilledSays (after x held)
  unfolding after answer_of said_of means
  fills x within otherwise = go (eqb (0 + announced body) (length body)) refl
    where
      go : (b : Bool) → eqb (0 + announced body) (length body) ≡ b → FilledSays (heard (pick b (got (content.holds (container_in 0 body)) (0 + announced body)) (refused (bare TRAIL))))
      go true e = fails (λ h. omega (arith, eqb-true (0 + announced body) (length body) e)) (roomy (content.holds (container_in 0 body)) (0 + announced body))
      go false e = holds (omega (arith, eqb-false (0 + announced body) (length body) e))

  after_heard : (y : Answer Container) (k : Container → ℕ → Answer Content) → heard (after y k) ≡ after y (λ x n. heard (k x n))
  unfolding after answer_of said_of means
  after_heard (got x n) k = refl
  after_heard (refused t) k = refl

  body_judged : (kind ≡ 3 → ⊥) → ContainerTests 0 body FilledSays (heard (content_at kind body 0))
  unfolding content_at
  body_judged other =
      let tests : ContainerTests 0 body FilledSays (after (container_at body 0) held) = beyond 0 body held (λ x _ _ p. goes_on held fills x p) (container_at body 0) (container_judged body 0) in
      rw (ne_eqb kind 3 other, after_heard (container_at body 0) (λ x n. pick (eqb n (length body)) (got (content.holds x) n) (refused (bare TRAIL)))) tests

  written : (kind ≡ 3 → ⊥) →
      (limit < length body gives refused (bare LONG) else ContainerTests 0 body FilledSays)
      (answer_of (pick (leb (length body) limit) (said_of (means (λ _. record_word kind body) (content_at kind body 0))) (no (bare LONG))) old)
  unfolding answer_of
  written other = go (leb (length body) limit) refl
    where
      go : (b : Bool) → leb (length body) limit ≡ b →
          (limit < length body gives refused (bare LONG) else ContainerTests 0 body FilledSays)
          (answer_of (pick b (said_of (means (λ _. record_word kind body) (content_at kind body 0))) (no (bare LONG))) old)
      go true e = fails (enough (leb-true (length body) limit e)) (body_judged other)
      go false e = holds (leb-false (length body) limit e)

  writer_judged : WriterSays kind body old (answer_of (record_said kind body) old)
  unfolding record_said answer_of
  writer_judged = go (is_written kind) (kinds kind)
    where
      go : (b : Bool) → Kinds kind b →
          WriterSays kind body old (answer_of (pick b (pick (leb (length body) limit) (said_of (means (λ _. record_word kind body) (content_at kind body 0))) (no (bare LONG))) (no (bare RECORD))) old)
      go true (from_it e) = fails (λ n. n.0 e) (written λ f. omega arith)
      go true (to_it e) = fails (λ n. n.1 e) (written λ f. omega arith)
      go false (another a b) = holds (a, b)

  -- of the function's own answer; and no other answer is said of the same inputs
  pub writer_says : {answer : Answer (Unit {0})} {new : List ℕ} → Wrote (record_said kind body) old answer new → WriterSays kind body old answer
  writer_says w = rw w.answers writer_judged

  pub writer_one : (x y : Answer (Unit {0})) → WriterSays kind body old x → WriterSays kind body old y → x ≡ y
  writer_one =
      one_test (one_test
      (one_test (one_test (one_test (one_test (one_test (one_test (one_test
      (one_test (one_test one_otherwise))))))))))

-- ── a record that was read: a note exactly where its kind is not written ──

data Body : Bool → Content → Type 0 where
  of_container : (c : Container) → Body true (content.holds c)
  of_note : Body false content.note

abbrev Fitted : Record → Type 0
Fitted x = Body (is_written x.kind) x.content

content_fits : (kind : ℕ) (s : List ℕ) (at : ℕ) → is_kind kind ≡ true → Accepts (λ c n. Body (is_written kind) c) (content_at kind s at)
unfolding content_at is_kind is_written
content_fits zero s at e = zero_one (cc)
content_fits (suc zero) s at e = accepts_after _ _ (container_at s at) _ (accepts_any (container_at s at)) λ x n _. accepts_pick _ (eqb n (length s)) _ _ (λ _. of_container x) (λ _. tt)
content_fits (suc (suc zero)) s at e = accepts_after _ _ (container_at s at) _ (accepts_any (container_at s at)) λ x n _. accepts_pick _ (eqb n (length s)) _ _ (λ _. of_container x) (λ _. tt)
content_fits (suc (suc (suc zero))) s at e = of_note
content_fits (suc (suc (suc (suc n)))) s at e = let m = suc (suc (suc (suc n))) in let f : pick (leb 1 m) (leb m 3) false ≡ false = rw (le-leb 1 m (omega arith), lt-leb m 3 (omega arith)) in let g = sym e ∙ f in zero_one (cc)

known : (len kind : ℕ) → begins len kind ≡ true → is_kind kind ≡ true
known len kind = go (leb 6 len)
  where
    go : (b : Bool) → pick b (is_kind kind) false ≡ true → is_kind kind ≡ true
    go true e = e
    go false e = zero_one (cc)

head_fits : (s : List ℕ) (at : ℕ) → Accepts (λ h n. is_kind h.kind ≡ true) (head_at s at)
unfolding head_at body_at
head_fits s at =
    accepts_after _ _ (num_at 4 s at) _ (accepts_any (num_at 4 s at)) λ len a _.
    accepts_after _ _ (num_at 2 s a) _ (accepts_any (num_at 2 s a)) λ kind start _.
    accepts_pick _ (begins len kind) _ _
    (λ e. accepts_pick _ (leb (len - 6) limit) _ _ (λ _. accepts_means _ _ _ (span_at start (len - 6) s start) (accepts_any (span_at start (len - 6) s start)) λ _ n _. known len kind e) (λ _. tt))
    (λ _. tt)

record_fits : (s : List ℕ) (at : ℕ) → Accepts (λ x n. Fitted x) (record_at s at)
unfolding record_at
record_fits s at =
    accepts_after _ _ (head_at s at) _ (head_fits s at) λ h end k.
    accepts_means _ _ _ (content_at h.kind (take end s) h.body.start) (content_fits h.kind (take end s) h.body.start k) λ c n p. p

abbrev AllFit : List Record → Type 0
AllFit [] = Unit {0}
AllFit (x ∷ xs) = Fitted x × AllFit xs

row_fits : (f : ℕ) (s : List ℕ) (at : ℕ) → Accepts (λ xs n. AllFit xs) (row_from f s at)
unfolding row_from
row_fits zero s at = tt
row_fits (suc f) s at =
    accepts_pick _ (ltb at (length s)) _ _
    (λ _. accepts_after _ _ (record_at s at) _ (record_fits s at) λ x n p. accepts_means _ _ _ (row_from f s n) (row_fits f s n) λ xs m q. (p, q))
    (λ _. tt)

-- ── a copy ──

-- what is left out, whatever was before
left_more : (l : Left) (records bytes : ℕ) → Left
left_more l r b = record { records = l.records + r; bytes = l.bytes + b }

record Sums (s : List ℕ) (xs : List Record) : Type 0 where
  records : ℕ
  bytes : ℕ
  copying : Copying s xs (kept_of s xs) records bytes
  left : (l : Left) → left_by l xs ≡ left_more l records bytes

pair_same : {a b c d : ℕ} → a ≡ c → b ≡ d → ◌≡◌ {A = Left} (record { records = a; bytes = b }) (record { records = c; bytes = d })
pair_same e f = cc

sums : (s : List ℕ) (xs : List Record) → AllFit xs → Sums s xs
unfolding kept_of left_by left_more counted
sums s [] h = record { records = 0; bytes = 0; copying = no_more; left = λ l. pair_same (omega arith) (omega arith) }
sums s (x ∷ xs) h = go (is_written x.kind) refl x.content refl h.0 (sums s xs h.1)
  where
    go : (b : Bool) → is_written x.kind ≡ b → (c : Content) → x.content ≡ c → Body b c → Sums s xs → Sums s (x ∷ xs)
    go true e c f (of_container y) r = record {
      records = r.records;
      bytes = r.bytes;
      copying = rw e (a_container y f r.copying);
      left = λ l. ap (λ k. left_by k xs) (rw e) ∙ r.left l;
    }
    go false e c f of_note r = record {
      records = 1 + r.records;
      bytes = 6 + x.body.count + r.bytes;
      copying = rw e (a_note f r.copying);
      left = λ l. ap (λ k. left_by k xs) (rw e) ∙ r.left (record { records = l.records + 1; bytes = l.bytes + (6 + x.body.count) }) ∙ pair_same (omega arith) (omega arith);
    }

module _ (s old : List ℕ) where
  copy_judged : CopySays s old (copy_of s old) (left_of (copy_said s) old)
  unfolding copy_of copy_said kept left_out said_of answer_of left_of means after row_of left_more
  copy_judged = go (row_of s) refl (row_fits (length s) s 0)
    where
      room : (xs : List Record) (m : ℕ) → row_of s ≡ got xs m → Sums s xs → (b : Bool) → leb (length (kept_of s xs)) (length old) ≡ b →
          CopySays s old (means (λ _. left_by none xs) (pick b (got (tt {0}) (length (kept_of s xs))) (refused (bare ROOM)))) (pick b (kept_of s xs ++ drop (length (kept_of s xs)) old) old)
      room xs m e r true f =
          let is : left_by none xs ≡ record { records = r.records; bytes = r.bytes } = r.left none ∙ pair_same (omega arith) (omega arith) in
          rw is (copied e r.copying (leb-true (length (kept_of s xs)) (length old) f))
      room xs m e r false f = no_room e r.copying (leb-false (length (kept_of s xs)) (length old) f)

      go : (y : Answer (List Record)) → row_of s ≡ y → Accepts (λ xs n. AllFit xs) y →
          CopySays s old (after (means (left_by none) y) λ l _. means (λ _. l) (answer_of (said_of (means (kept_of s) y)) old)) (left_of (said_of (means (kept_of s) y)) old)
      go (got xs m) e h = room xs m e (sums s xs h) (leb (length (kept_of s xs)) (length old)) refl
      go (refused t) e h = unread e

  -- of the function's own answer
  pub copy_says : {answer : Answer Left} {new : List ℕ} → Copies s old answer new → CopySays s old answer new
  copy_says c = rw (c.answers, c.leaves) copy_judged

  -- ── and no other is said of the same bytes ──

  copying_one : (xs : List Record) (v w : List ℕ) (a b c d : ℕ) → Copying s xs v a b → Copying s xs w c d → (v ≡ w) × (a ≡ c) × (b ≡ d)
  copying_one xs v w a b c d no_more no_more = (refl, refl, refl)
  copying_one xs v w a b c d (a_container {x = x} {xs = ys} {w = p} {records = i} {bytes = j} y e r) (a_container {w = q} {records = k} {bytes = l} z f t) =
      let h = copying_one ys p q i j k l r t in (ap (λ u. bytes_in s x ++ u) h.0, h.1, h.2)
  copying_one xs v w a b c d (a_note {x = x} {xs = ys} {w = p} {records = i} {bytes = j} e r) (a_note {w = q} {records = k} {bytes = l} f t) =
      let h = copying_one ys p q i j k l r t in (h.0, omega (arith, h.1), omega (arith, h.2))
  copying_one xs v w a b c d (a_container y e r) (a_note f t) = let g = sym e ∙ f in zero_one (cc)
  copying_one xs v w a b c d (a_note f t) (a_container y e r) = let g = sym e ∙ f in zero_one (cc)

  one_copying : {xs ys : List Record} {i j : ℕ} {v w : List ℕ} {a b c d : ℕ} → row_of s ≡ got xs i → row_of s ≡ got ys j → Copying s xs v a b → Copying s ys w c d → (v ≡ w) × (a ≡ c) × (b ≡ d)
  one_copying {xs} {ys} {v = v} {w = w} {a = a} {b = b} {c = c} {d = d} e f p q =
      let g = sym f ∙ e in
      let same : ys ≡ xs = cc in
      copying_one xs v w a b c d p (subst (λ zs. Copying s zs w c d) same q)

  pub copy_one : (x y : Answer Left) (m n : List ℕ) → CopySays s old x m → CopySays s old y n → (x ≡ y) × (m ≡ n)
  copy_one x y m n (unread {t = t} e) (unread {t = u} f) = let g = sym e ∙ f in let same : t ≡ u = cc in (ap refused same, refl)
  copy_one x y m n (unread e) (no_room f q k) = let g = sym e ∙ f in zero_one (cc)
  copy_one x y m n (unread e) (copied f q k) = let g = sym e ∙ f in zero_one (cc)
  copy_one x y m n (no_room e p l) (unread f) = let g = sym e ∙ f in zero_one (cc)
  copy_one x y m n (no_room e p l) (no_room f q k) = (refl, refl)
  copy_one x y m n (no_room e p l) (copied f q k) = let h = one_copying e f p q in absurd (omega (arith, ap length h.0))
  copy_one x y m n (copied e p l) (unread f) = let g = sym e ∙ f in zero_one (cc)
  copy_one x y m n (copied e p l) (no_room f q k) = let h = one_copying e f p q in absurd (omega (arith, ap length h.0))
  copy_one x y m n (copied e p l) (copied f q k) = let h = one_copying e f p q in (rw (h.0, h.1, h.2), rw h.0)
