-- What the code reads of a container that is cut, and where its search stopped: what is lacking there is what is needed.
-- Assumes nothing.
use Rattle.std.specs.Prelude.{Ok, Err}
use Rattle.std.proofs.Common.{◌≡◌, ℕ, ◌+◌, ◌-◌, ◌<◌, ◌≤◌, Bool, true, false, eqb, List, length, drop, sym, refl, ap, ◌∙◌, subst, inl, inr, arith, length-drop, eqb-true, le-leb}
use borrow.Author.Tests.{lt-leb, eqb-false}
use Rattle.layout.specs.Answer.{Told, Answer, got, refused, pick, after, end_at, bare, span_at, field_at}
use Rattle.layout.specs.Bytes.{Bytes}
use Rattle.layout.specs.Refusals.{END, KIND, LENGTH, SIZE}
use Rattle.layout.proofs.laws.Make.{span_there}
use Rattle.layout.proofs.laws.Numbers.{zero_one}
use Rattle.layout.proofs.laws.Reading.{parted, one_got}
use Rattle.wire.specs.Container.{header_at}
use Rattle.wire.specs.Places.{num_at}
use Rattle.wire.specs.Tests.{holds, fails, otherwise}
use Rattle.wire.specs.Refused.{announced, kind_in, number_in, header_in, HeaderSays, ContainerSays}
use Rattle.wire.specs.declared.Cursor.{Cursor}
use Rattle.wire.specs.declared.Part.{Part}
use Rattle.wire.specs.declared.container.Container.{Container}
use Rattle.wire.specs.declared.container.Header.{Header}
use Rattle.wire.proofs.laws.Judged.{least, header_judged}
use Rattle.session.specs.Search.{answer_in}
use Rattle.session.specs.Answered.{Stop, no_phase, unread, another's, Ends, stopped}
use Rattle.session.specs.Needs.{Needs, whole_in, Cut, Lacks, rest, rest_and_head}
use Rattle.session.proofs.Answered.{answer_fails, ended_answer}
use Rattle.session.proofs.WholeLasts.{known_kind}
use Rattle.session.proofs.NeedsLaws.{is_open, settled, answered_settled, whole_most, lacks_needs, settled_needs}

-- ── where a search stops ──

-- by the refusal's number: 1 and 6, of a container that is cut
abbrev pub is_cut : Told → Bool
is_cut t = pick (eqb t.no END) true (eqb t.no SIZE)

pub data Standing (d : List ℕ) (t : Told) : Type 0 where
  early : length d < 6 → Standing d t
  cut_there : is_cut t ≡ true → Cut d → Standing d t
  closed : is_cut t ≡ false → is_open t ≡ false → Standing d t

container_stop : (at : ℕ) (d : List ℕ) {y : Answer Container} → ContainerSays at d y → {t : Told} → y ≡ refused t → Standing d t
unfolding end_at bare
container_stop at d (holds c) e = early (omega arith)
container_stop at d (fails a (holds c)) e = early c
container_stop at d (fails a (fails b (holds c))) {t} e = let is : bare KIND ≡ t = cc in subst (Standing d) is (closed refl refl)
container_stop at d (fails a (fails b (fails k (holds c)))) {t} e =
    let is : end_at (at + 6) ≡ t = cc in
    subst (Standing d) is (cut_there refl (record { six = least b; low = least (λ l. k (inl l)); high = least (λ l. k (inr l)); short = omega (arith, whole_most d) }))
container_stop at d (fails a (fails b (fails k (fails f (holds c))))) {t} e =
    let is : end_at (at + 8) ≡ t = cc in
    subst (Standing d) is (cut_there refl (record { six = least b; low = least (λ l. k (inl l)); high = least (λ l. k (inr l)); short = omega (arith, whole_most d) }))
container_stop at d (fails a (fails b (fails k (fails f (fails g (holds c)))))) {t} e = let is : bare LENGTH ≡ t = cc in subst (Standing d) is (closed refl refl)
container_stop at d (fails a (fails b (fails k (fails f (fails g (fails h (holds c))))))) {t} e =
    let is : bare SIZE ≡ t = cc in
    subst (Standing d) is (cut_there refl (record { six = least b; low = least (λ l. k (inl l)); high = least (λ l. k (inr l)); short = rw (le-leb 12 (announced d) (least h)) c }))
container_stop at d (fails a (fails b (fails k (fails f (fails g (fails h (fails i otherwise))))))) e = zero_one (cc)

pub stop_standing : (number' : ℕ) (s : List ℕ) (at : ℕ) {t : Told} → Stop number' s at t → Standing (drop at s) t
unfolding bare
stop_standing number' s at (no_phase h) = early (omega (arith, length-drop at s))
stop_standing number' s at (unread some h) = container_stop at (drop at s) h.says refl
stop_standing number' s at (another's h d) = closed refl refl

-- ── of a container that is cut, what is read of it ──

pub next_few : (p q : Bool) → pick p (pick q 0 6) 0 ≤ 6
next_few true true = omega arith
next_few true false = omega arith
next_few false q = omega arith

module _ (s : List ℕ) (at : ℕ) (c : Cut (drop at s)) where
  pub cut_size : (at ≤ length s) × (length (drop at s) ≡ length s - at)
  cut_size = (omega (arith, c.six, length-drop at s), length-drop at s)

  module _ {len n : ℕ} (e : got len n ≡ num_at 4 s at) where
    read_length : len ≡ announced (drop at s)
    unfolding field_at
    read_length = let a = parted (span_at at 4 s at) _ (sym e) in sym (one_got a.3).0

    pub short_whole : len < 12 → whole_in (drop at s) ≡ 12
    short_whole l = rw (lt-leb 12 (announced (drop at s)) (omega (arith, read_length)))

    pub long_whole : 12 ≤ len → whole_in (drop at s) ≡ len
    long_whole l = rw (le-leb 12 (announced (drop at s)) (omega (arith, read_length))) (sym read_length)

  pub length_there : {t : Told} → refused t ≡ num_at 4 s at → ⊥
  unfolding field_at after
  length_there e = let f = rw (span_there at 4 s at (omega (arith, c.six, length-drop at s))) at e in zero_one (cc)

  header_there : {h : Header} {n : ℕ} {y : Answer Header} → HeaderSays at (drop at s) y → y ≡ got h n → (header_in (drop at s) ≡ h) × (12 ≤ length (drop at s)) × (12 ≤ announced (drop at s))
  header_there (holds a) e = zero_one (cc)
  header_there (fails a (holds b)) e = zero_one (cc)
  header_there (fails a (fails b (holds k))) e = zero_one (cc)
  header_there (fails a (fails b (fails k (holds f)))) e = zero_one (cc)
  header_there (fails a (fails b (fails k (fails f (holds g))))) e = zero_one (cc)
  header_there (fails a (fails b (fails k (fails f (fails g (holds h)))))) e = zero_one (cc)
  header_there (fails a (fails b (fails k (fails f (fails g (fails h otherwise)))))) e = (cc, least g, least h)

  header_cut : {t : Told} {y : Answer Header} → HeaderSays at (drop at s) y → y ≡ refused t → length (drop at s) < 12
  header_cut (holds a) e = omega arith
  header_cut (fails a (holds b)) e = omega arith
  header_cut (fails a (fails b (holds k))) e = absurd (known_kind (drop at s) c.low c.high k)
  header_cut (fails a (fails b (fails k (holds f)))) e = omega arith
  header_cut (fails a (fails b (fails k (fails f (holds g))))) e = g
  header_cut (fails a (fails b (fails k (fails f (fails g (holds h)))))) e = let w : whole_in (drop at s) ≡ 12 = rw (lt-leb 12 (announced (drop at s)) h) in omega (arith, w, c.short)
  header_cut (fails a (fails b (fails k (fails f (fails g (fails h otherwise)))))) e = zero_one (cc)

  module _ {h : Header} {n : ℕ} (e : got h n ≡ header_at s at) where
    there : (header_in (drop at s) ≡ h) × (12 ≤ length (drop at s)) × (12 ≤ announced (drop at s))
    there = header_there (header_judged s at) (sym e)

    pub header_whole : (h.payload_len + 12 ≡ whole_in (drop at s)) × (length s - at < whole_in (drop at s))
    header_whole =
        let t = there in
        let w : whole_in (drop at s) ≡ announced (drop at s) = rw (le-leb 12 (announced (drop at s)) t.2) in
        (omega (arith, ap (λ x. x.payload_len) t.0, w, t.2), omega (arith, c.short, length-drop at s))

    pub got_lacks : (number' : ℕ) {b : ℕ} → b ≡ pick (eqb h.number number') (pick (eqb h.kind 3) 0 6) 0 → Lacks number' (drop at s) (h.payload_len + 12 - (length s - at) + b)
    got_lacks number' {b} f = rw (header_whole.0, ← length-drop at s, f) (go (eqb h.number number') refl (eqb h.kind 3) refl)
      where
        kind_is : kind_in (drop at s) ≡ h.kind
        kind_is = ap (λ x. x.kind) there.0

        number_is : number_in (drop at s) ≡ h.number
        number_is = ap (λ x. x.number) there.0

        plain : Lacks number' (drop at s) (whole_in (drop at s) - length (drop at s)) → Lacks number' (drop at s) (whole_in (drop at s) - length (drop at s) + 0)
        plain l = let z : whole_in (drop at s) - length (drop at s) + 0 ≡ whole_in (drop at s) - length (drop at s) = omega arith in rw z l

        go : (p : Bool) → eqb h.number number' ≡ p → (q : Bool) → eqb h.kind 3 ≡ q → Lacks number' (drop at s) (whole_in (drop at s) - length (drop at s) + pick p (pick q 0 6) 0)
        go false i q j = plain (rest c (inr (inl (λ k. eqb-false h.number number' i (sym number_is ∙ k)))))
        go true i true j = plain (rest c (inr (inr (kind_is ∙ eqb-true h.kind 3 j))))
        go true i false j = rest_and_head c there.1 (number_is ∙ eqb-true h.number number' i) (λ k. eqb-false h.kind 3 j (sym kind_is ∙ k))

  pub refused_lacks : (number' : ℕ) {t : Told} → refused t ≡ header_at s at → Lacks number' (drop at s) (whole_in (drop at s) - length (drop at s))
  refused_lacks number' e = rest c (inl (header_cut (header_judged s at) (sym e)))

-- ── where the search stopped, of its promise ──

module _ (number' : ℕ) (s : List ℕ) {t : Told} {at : ℕ} (e : Ends number' s (Err (t, at))) where
  pub stop_within : at ≤ length s
  stop_within = of e
    where
      of : Ends number' s (Err (t, at)) → at ≤ length s
      of (stopped f w h) = w

  pub stop_lacks : Bytes s → {n : ℕ} → Lacks number' (drop at s) n → Needs number' s n
  stop_lacks h {n} l = of e
    where
      of : Ends number' s (Err (t, at)) → Needs number' s n
      of (stopped f w p) = lacks_needs number' s h f w l

  module _ (six : 6 ≤ length (drop at s)) {b : Bool} (i : b ≡ is_cut t) where
    pub stop_cut : b ≡ true → Cut (drop at s)
    stop_cut j = of e
      where
        by : Standing (drop at s) t → Cut (drop at s)
        by (early l) = absurd (omega arith)
        by (cut_there k c) = c
        by (closed k o) = zero_one (cc)

        of : Ends number' s (Err (t, at)) → Cut (drop at s)
        of (stopped f w p) = by (stop_standing number' s at p)

    pub stop_closed : b ≡ false → Needs number' s 0
    stop_closed j = of e
      where
        by : answer_in number' s ≡ refused t → Standing (drop at s) t → Needs number' s 0
        by a (early l) = absurd (omega arith)
        by a (cut_there k c) = zero_one (cc)
        by a (closed k o) = settled_needs number' s (settled a o)

        of : Ends number' s (Err (t, at)) → Needs number' s 0
        of (stopped f w p) = by (answer_fails number' s f p) (stop_standing number' s at p)

pub found_needs : (number' : ℕ) (s : List ℕ) {r : Container} {last : Part} {c : Cursor} → Ends number' s (Ok (r, last, c)) → Needs number' s 0
found_needs number' s e = settled_needs number' s (answered_settled (sym (ended_answer number' s e refl)))
