-- What `find_answer` and `find_response` answer, by the paper's words: found exactly where a transaction stands at the front, told as its Response and its last Data say; refused exactly with
-- what stops the front. One induction over the steps of the search, and one over the containers.
-- Assumes nothing.
use Rattle.wire.specs.Read.{Read, says_read}
use Rattle.std.specs.Prelude.{Ok, Err}
use Rattle.std.proofs.Common.{◌≡◌, ℕ, zero, suc, ◌-◌, ◌<◌, ◌≤◌, Bool, true, false, eqb, leb, ◌↔◌, List, [], ◌∷◌, ◌++◌, length, drop, sym, refl, ap, ◌∙◌, subst, arith, eq-eqb, ne_eqb, eqb-true, le-leb, leb-false, leb-true}
use borrow.Author.Tests.{lt-leb, eqb-false}
use Rattle.layout.specs.Answer.{Told, Answer, got, refused, pick, after, means, bare}
use Rattle.layout.specs.Refusals.{TID, NOPHASE}
use Rattle.layout.proofs.laws.Accepted.{accepted}
use Rattle.layout.proofs.laws.Reading.{unmeant, refused_meant, meant, not_meant}
use Rattle.wire.specs.Container.{container_at}
use Rattle.wire.specs.declared.Cursor.{Cursor}
use Rattle.wire.specs.declared.Part.{Part}
use Rattle.wire.specs.declared.container.Container.{Container}
use Rattle.wire.proofs.laws.Contained.{Boxed, container_stands}
use Rattle.wire.proofs.laws.Judged.{container_judged, container_one}
use Rattle.session.specs.Search.{Phases, behind, phase_at, phases_from, newer, last_data, no_data, Reply, payload, response, reply_to, reply_of, answer_in, says_found, response_of, response_in}
use Rattle.session.specs.Answered.{Judged, Stands, Front, none, one, From, NoData, LastPayload, without, of_last, Replied, ok, other, Answered, Responded, Stop, no_phase, unread, another's, FailsFrom, Fails, Transaction, Ending, Ends, responded, stopped}
use Rattle.session.specs.declared.search.Found.{Found}
use Rattle.session.specs.declared.search.Response.{Response}

-- ── the last Data ──

newer_none : (p : Part) (x : Container) → (x.kind ≡ 2 → ⊥) → newer p x ≡ p
newer_none p x h = rw (ne_eqb x.kind 2 h)

newer_data : (p : Part) (x : Container) → x.kind ≡ 2 → newer p x ≡ x.payload
newer_data p x h = rw (eq-eqb x.kind 2 h)

last_none : (p : Part) (cs : List Container) → NoData cs → last_data p cs ≡ p
unfolding last_data
last_none p [] h = refl
last_none p (x ∷ cs) h = ap (λ q. last_data q cs) (newer_none p x h.0) ∙ last_none p cs h.1

last_there : (p : Part) (cs : List Container) (x : Container) (bs : List Container) → x.kind ≡ 2 → NoData bs → last_data p (cs ++ (x ∷ bs)) ≡ x.payload
unfolding last_data
last_there p [] x bs k h = ap (λ q. last_data q bs) (newer_data p x k) ∙ last_none x.payload bs h
last_there p (a ∷ cs) x bs k h = last_there (newer p a) cs x bs k h

last_one : (cs : List Container) (p : Part) → LastPayload cs p → last_data no_data cs ≡ p
last_one cs p (without h) = last_none no_data cs h
last_one cs p (of_last ds x bs k h) = last_there no_data ds x bs k h

-- none, or a last one
data Last : List Container → Type 0 where
  no-data : {cs : List Container} → NoData cs → Last cs
  some_data : (ds : List Container) (x : Container) (bs : List Container) → x.kind ≡ 2 → NoData bs → Last (ds ++ (x ∷ bs))

last_of : (cs : List Container) → Last cs
last_of [] = no-data {cs = []} tt
last_of (x ∷ cs) = go cs (last_of cs) (eqb x.kind 2) refl
  where
    go : (cs : List Container) → Last cs → (b : Bool) → eqb x.kind 2 ≡ b → Last (x ∷ cs)
    go cs (no-data h) true e = some_data [] x cs (eqb-true x.kind 2 e) h
    go cs (no-data h) false e = no-data {cs = x ∷ cs} (eqb-false x.kind 2 e, h)
    go cs (some_data ds y bs k h) b e = some_data (x ∷ ds) y bs k h

last_payload : (cs : List Container) → LastPayload cs (last_data no_data cs)
last_payload cs = go cs (last_of cs)
  where
    go : (cs : List Container) → Last cs → LastPayload cs (last_data no_data cs)
    go cs (no-data h) = rw (last_none no_data cs h) (without {cs = cs} h)
    go cs (some_data ds x bs k h) = rw (last_there no_data ds x bs k h) (of_last ds x bs k h)

-- ── the reply ──

replied : (cs : List Container) (r : Container) → Replied cs r (reply_to r.code (last_data no_data cs))
replied cs r = go (eqb r.code 0x2001) refl
  where
    go : (b : Bool) → eqb r.code 0x2001 ≡ b → Replied cs r (pick b (payload (last_data no_data cs)) (response r.code))
    go true e = ok (eqb-true r.code 0x2001 e) (last_payload cs)
    go false e = other (eqb-false r.code 0x2001 e)

replied_one : (cs : List Container) (r : Container) (y : Reply) → Replied cs r y → reply_to r.code (last_data no_data cs) ≡ y
replied_one cs r y (ok {p} e l) = rw (eq-eqb r.code 0x2001 e, last_one cs p l)
replied_one cs r y (other e) = rw (ne_eqb r.code 0x2001 e)

-- ── containers ──

module _ (number : ℕ) (s : List ℕ) where
  is_said : {at : ℕ} {x : Answer Container} → Judged s at x → container_at s at ≡ x
  is_said {at} {x} h = container_one at (drop at s) (container_at s at) x (container_judged s at) h.says

  said : (at : ℕ) {x : Answer Container} → container_at s at ≡ x → Judged s at x
  said at e = record { says = rw e at (container_judged s at) }

  -- an accepted container goes on, and lies within
  pub goes : {at n : ℕ} {x : Container} → Stands s at x n → (at < n) × (n ≤ length s)
  goes {at} {n} {x} h = let b = accepted (Boxed s at) (container_stands s at) (sym (is_said h)) in (omega (arith, b.start, b.till), b.within)

  -- ── a step of the search ──

  abbrev held : ℕ → Container → ℕ → Answer Phases
  held n x next = pick (eqb x.kind 3) (got (record { before = []; response = x }) next) (means (behind x) (phases_from n number s next))

  step : (n at : ℕ) → at < length s → phases_from (suc n) number s at ≡ after (phase_at number s at) (held n)
  unfolding phases_from
  step n at h = rw (lt-leb (length s) at h)

  step_none : (n at : ℕ) → length s ≤ at → phases_from n number s at ≡ refused (bare NOPHASE)
  unfolding phases_from
  step_none zero at h = refl
  step_none (suc n) at h = rw (le-leb (length s) at h)

  module _ (n : ℕ) {at m : ℕ} {x : Container} (h : Stands s at x m) (ours : x.number ≡ number) where
    step_last : x.kind ≡ 3 → phases_from (suc n) number s at ≡ got (record { before = []; response = x }) m
    unfolding phase_at after
    step_last k = let g = goes h in step n at (omega arith) ∙ rw (is_said h, eq-eqb x.number number ours, eq-eqb x.kind 3 k)

    step_on : (x.kind ≡ 3 → ⊥) → phases_from (suc n) number s at ≡ means (behind x) (phases_from n number s m)
    unfolding phase_at after
    step_on k = let g = goes h in step n at (omega arith) ∙ rw (is_said h, eq-eqb x.number number ours, ne_eqb x.kind 3 k)

  step_other : (n : ℕ) {at m : ℕ} {x : Container} → Stands s at x m → (x.number ≡ number → ⊥) → phases_from (suc n) number s at ≡ refused (bare TID)
  unfolding phase_at after
  step_other n {at} {m} {x} h another = let g = goes h in step n at (omega arith) ∙ rw (is_said h, ne_eqb x.number number another)

  step_refused : (n : ℕ) {at : ℕ} {t : Told} → at < length s → Judged s at (refused t) → phases_from (suc n) number s at ≡ refused t
  unfolding phase_at after
  step_refused n {at} h e = step n at h ∙ rw (is_said e)

  -- ── what is answered from a place on ──

  abbrev Told-from : ℕ → Answer Phases → Type 0
  Told-from at (got p n) = From number s at p.before p.response n
  Told-from at (refused t) = FailsFrom number s at t

  more : {at m : ℕ} {x : Container} → Stands s at x m → x.number ≡ number → (x.kind ≡ 3 → ⊥) → (y : Answer Phases) → Told-from m y → Told-from at (means (behind x) y)
  unfolding means
  more h ours k (got p n) f = record { behind = f.behind; front = one h ours k f.front; stands = f.stands; ours = f.ours; last = f.last }
  more {x = x} h ours k (refused t) f = record { before = x ∷ f.before; place = f.place; front = one h ours k f.front; stop = f.stop }

  judged : (fuel at : ℕ) → length s - at ≤ fuel → Told-from at (phases_from fuel number s at)
  judged zero at enough = rw (step_none zero at (omega arith)) (record { before = []; place = at; front = none; stop = no_phase (omega arith) })
  judged (suc n) at enough = left (λ m h. judged n m h) (leb (length s) at) refl
    where
      Rest : Type 0
      Rest = (m : ℕ) → length s - m ≤ n → Told-from m (phases_from n number s m)

      kinds : Rest → {x : Container} {m : ℕ} → Stands s at x m → x.number ≡ number → (b : Bool) → eqb x.kind 3 ≡ b → Told-from at (phases_from (suc n) number s at)
      kinds rest {x} {m} h ours true e =
          let k = eqb-true x.kind 3 e in
          rw (step_last n h ours k) (record { behind = at; front = none; stands = h; ours = ours; last = k })
      kinds rest {x} {m} h ours false e =
          let k = eqb-false x.kind 3 e in
          let g = goes h in
          rw (step_on n h ours k) (more h ours k (phases_from n number s m) (rest m (omega arith)))

      numbers : Rest → {x : Container} {m : ℕ} → Stands s at x m → (b : Bool) → eqb x.number number ≡ b → Told-from at (phases_from (suc n) number s at)
      numbers rest {x} h true e = kinds rest h (eqb-true x.number number e) (eqb x.kind 3) refl
      numbers rest {x} h false e =
          let k = eqb-false x.number number e in
          rw (step_other n h k) (record { before = []; place = at; front = none; stop = another's h k })

      here : Rest → at < length s → (y : Answer Container) → container_at s at ≡ y → Told-from at (phases_from (suc n) number s at)
      here rest l (got x m) e = numbers rest (said at e) (eqb x.number number) refl
      here rest l (refused t) e = rw (step_refused n l (said at e)) (record { before = []; place = at; front = none; stop = unread (λ h. omega arith) (said at e) })

      left : Rest → (b : Bool) → leb (length s) at ≡ b → Told-from at (phases_from (suc n) number s at)
      left rest true e =
          let h = leb-true (length s) at e in
          rw (step_none (suc n) at h) (record { before = []; place = at; front = none; stop = no_phase h })
      left rest false e = here rest (leb-false (length s) at e) (container_at s at) refl

  -- ── and back ──

  over : {X : Type 0} {at n : ℕ} {x : Container} → Stands s at x n → length s - at ≤ 0 → X
  over h k = let g = goes h in absurd (omega arith)

  finds : {at m n : ℕ} {cs : List Container} {r : Container} (fuel : ℕ) → length s - at ≤ fuel → Front number s at cs m → Stands s m r n → r.number ≡ number → r.kind ≡ 3 →
      phases_from fuel number s at ≡ got (record { before = cs; response = r }) n
  finds zero e none h ours k = over h e
  finds zero e (one g o d f) h ours k = over g e
  finds (suc fuel) e none h ours k = step_last fuel h ours k
  finds (suc fuel) e (one {x} g o d f) h ours k =
      let q = goes g in
      step_on fuel g o d ∙ sym (meant (behind x) (sym (finds fuel (omega arith) f h ours k)))

  stops : {at : ℕ} {t : Told} (fuel : ℕ) → length s - at ≤ fuel → Stop number s at t → phases_from fuel number s at ≡ refused t
  stops {at} fuel e (no_phase h) = step_none fuel at h
  stops zero e (unread some h) = absurd (some (omega arith))
  stops (suc fuel) e (unread some h) = step_refused fuel (omega arith) h
  stops zero e (another's h d) = over h e
  stops (suc fuel) e (another's h d) = step_other fuel h d

  fails : {at m : ℕ} {t : Told} {cs : List Container} (fuel : ℕ) → length s - at ≤ fuel → Front number s at cs m → Stop number s m t → phases_from fuel number s at ≡ refused t
  fails fuel e none h = stops fuel e h
  fails zero e (one g o d f) h = over g e
  fails (suc fuel) e (one {x} g o d f) h = let q = goes g in step_on fuel g o d ∙ sym (not_meant (behind x) (sym (fails fuel (omega arith) f h)))

  -- ── the answer, of what stands there ──

  pub answer_found : {cs : List Container} {r : Container} {n : ℕ} → Transaction number s cs r n → answer_in number s ≡ got (reply_of no_data (record { before = cs; response = r })) n
  unfolding answer_in
  answer_found t = sym (meant (reply_of no_data) (sym (finds (length s) (omega arith) t.front t.stands t.ours t.last)))

  pub answer_fails : {cs : List Container} {at : ℕ} {t : Told} → Front number s 0 cs at → Stop number s at t → answer_in number s ≡ refused t
  unfolding answer_in
  answer_fails f h = sym (not_meant (reply_of no_data) (sym (fails (length s) (omega arith) f h)))

  -- ── the search, container by container ──

  -- these were passed up to a place, and the last Data payload among them
  pub record Passed (at : ℕ) (last : Part) : Type 0 where
    pub before : List Container
    pub front : Front number s 0 before at
    pub last_is : last ≡ last_data no_data before
    pub within : at ≤ length s

  pub none_passed : Passed 0 no_data
  unfolding last_data
  none_passed = record { before = []; front = none; last_is = refl; within = omega arith }

  pub front_more : {at m n : ℕ} {cs : List Container} {x : Container} → Front number s at cs m → Stands s m x n → x.number ≡ number → (x.kind ≡ 3 → ⊥) → Front number s at (cs ++ (x ∷ [])) n
  front_more none h ours k = one h ours k none
  front_more (one g o d f) h ours k = one g o d (front_more f h ours k)

  last_more : (p : Part) (cs : List Container) (x : Container) → last_data p (cs ++ (x ∷ [])) ≡ newer (last_data p cs) x
  unfolding last_data
  last_more p [] x = refl
  last_more p (y ∷ cs) x = last_more (newer p y) cs x

  module _ {at : ℕ} {last : Part} (p : Passed at last) where
    pub ends_none : length s ≤ at → {t : Told} → t ≡ bare NOPHASE → Ends number s (Err (t, at))
    ends_none h e = rw e (stopped p.front p.within (no_phase h))

    pub ends_unread : at < length s → {t : Told} → refused t ≡ container_at s at → Ends number s (Err (t, at))
    ends_unread h e = stopped p.front p.within (unread (λ l. omega arith) (said at (sym e)))

    module _ {x : Container} {c : Cursor} (e : got x c.at ≡ container_at s at) where
      pub ends_another : (x.number ≡ number → ⊥) → {t : Told} → t ≡ bare TID → Ends number s (Err (t, at))
      ends_another h i = rw i (stopped p.front p.within (another's (said at (sym e)) h))

      pub ends_response : x.number ≡ number → x.kind ≡ 3 → Ends number s (Ok (x, last, c))
      ends_response h k = responded (record { behind = at; front = p.front; stands = said at (sym e); ours = h; last = k }) (subst (LastPayload p.before) (sym p.last_is) (last_payload p.before))

      pub passed_more : x.number ≡ number → (x.kind ≡ 3 → ⊥) → Passed c.at (newer last x)
      passed_more h k = record {
        before = p.before ++ (x ∷ []);
        front = front_more p.front (said at (sym e)) h k;
        last_is = ap (λ q. newer q x) p.last_is ∙ sym (last_more no_data p.before x);
        within = (goes (said at (sym e))).1;
      }

      pub goes_on : at < c.at
      goes_on = (goes (said at (sym e))).0

  -- what the search ended with is what the definitions find
  ended : {r : Container} {last : Part} {c : Cursor} → Ends number s (Ok (r, last, c)) → (cs : List Container) × (got (record { before = cs; response = r }) c.at ≡ phases_from (length s) number s 0) × (last ≡ last_data no_data cs)
  ended (responded {cs} {last = p} t l) = (cs, sym (finds (length s) (omega arith) t.front t.stands t.ours t.last), sym (last_one cs p l))

  stopped_at : {t : Told} {at : ℕ} → Ends number s (Err (t, at)) → refused t ≡ phases_from (length s) number s 0
  stopped_at (stopped f w h) = sym (fails (length s) (omega arith) f h)

  module _ {e : Ending} (ends : Ends number s e) where
    module _ {r : Container} {last : Part} {c : Cursor} (is : e ≡ Ok (r, last, c)) where
      pub ended_answer : got (reply_to r.code last) c.at ≡ answer_in number s
      unfolding answer_in
      ended_answer = let u = ended (subst (Ends number s) is ends) in rw u.2 (meant (reply_of no_data) u.1)

      pub ended_response : got (record { code = r.code; payload = r.payload; last = last }) c.at ≡ response_in number s
      unfolding response_in
      ended_response = let u = ended (subst (Ends number s) is ends) in rw u.2 (meant response_of u.1)

    module _ {t : Told} {at : ℕ} (is : e ≡ Err (t, at)) where
      pub stopped_answer : refused t ≡ answer_in number s
      unfolding answer_in
      stopped_answer = not_meant (reply_of no_data) (stopped_at (subst (Ends number s) is ends))

      pub stopped_response : refused t ≡ response_in number s
      unfolding response_in
      stopped_response = not_meant response_of (stopped_at (subst (Ends number s) is ends))

  -- ── of the functions' own answers ──

  all : Told-from 0 (phases_from (length s) number s 0)
  all = judged (length s) 0 (omega arith)

  module _ (f : Read Found) (promised : says_found f ≡ answer_in number s) where
    -- found exactly where a transaction stands at the front; told as its Response and its last Data say, with the place after the Response
    pub found_exact : (y : Reply) (n : ℕ) → says_found f ≡ got y n ↔ Answered number s y n
    unfolding answer_in
    found_exact y n = (forth, back)
      where
        forth : says_found f ≡ got y n → Answered number s y n
        forth e =
            let u = unmeant (reply_of no_data) (phases_from (length s) number s 0) (sym promised ∙ e) in
            let t = subst (Told-from 0) u.1 all in
            let p = u.0 in
            record { before = p.before; response = p.response; all = t; replied = rw u.2 at (replied p.before p.response) }

        back : Answered number s y n → says_found f ≡ got y n
        back a = promised ∙ answer_found a.all ∙ ap (λ z. got z n) (replied_one a.before a.response y a.replied)

    -- refused exactly with what stops the longest front
    pub found_refused : (t : Told) → says_found f ≡ refused t ↔ Fails number s t
    unfolding answer_in
    found_refused t = (
      λ e. subst (Told-from 0) (refused_meant (reply_of no_data) (phases_from (length s) number s 0) (sym promised ∙ e)) all,
      λ a. promised ∙ answer_fails a.front a.stop,
    )

  module _ (f : Read Response) (promised : says_read f ≡ response_in number s) where
    -- found exactly where a transaction stands at the front: the code and the payload of the Response that ends it, and the last Data payload before that
    pub response_exact : (y : Response) (n : ℕ) → says_read f ≡ got y n ↔ Responded number s y n
    unfolding response_in
    response_exact y n = (forth, back)
      where
        forth : says_read f ≡ got y n → Responded number s y n
        forth e =
            let u = unmeant response_of (phases_from (length s) number s 0) (sym promised ∙ e) in
            let p = u.0 in
            record {
              before = p.before;
              response = p.response;
              all = subst (Told-from 0) u.1 all;
              code = ap (λ z. z.code) (sym u.2);
              payload = ap (λ z. z.payload) (sym u.2);
              last = subst (λ z. LastPayload p.before z.last) u.2 (last_payload p.before);
            }

        back : Responded number s y n → says_read f ≡ got y n
        back a =
            let t = a.all in
            let is : response_of (record { before = a.before; response = a.response }) ≡ y = rw (← a.code, ← a.payload, last_one a.before y.last a.last) in
            promised ∙ sym (meant response_of (sym (finds (length s) (omega arith) t.front t.stands t.ours t.last))) ∙ ap (λ z. got z n) is

    pub response_refused : (t : Told) → says_read f ≡ refused t ↔ Fails number s t
    unfolding response_in
    response_refused t = (
      λ e. subst (Told-from 0) (refused_meant response_of (phases_from (length s) number s 0) (sym promised ∙ e)) all,
      λ a. promised ∙ sym (not_meant response_of (sym (fails (length s) (omega arith) a.front a.stop))),
    )
