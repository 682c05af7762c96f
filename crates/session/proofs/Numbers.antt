-- The numbers of a session, command by command. A command falls in one row of the rule (`row`), which tells the number sent and the state after it. Over
-- a run from a fresh session the state is never past 4,294,967,294, and is 0 exactly where the last command that opened or closed a session did not open
-- one: by induction, row by row. What is sent follows from the state.
-- Assumes nothing.
use Rattle.std.proofs.Common.{◌≡◌, ℕ, ◌+◌, ◌<◌, ◌≤◌, ◌⊎◌, ◌↔◌, List, [], ◌∷◌, ◌++◌, refl, ◌∙◌, inl, inr, arith, le-ltb, lt-ltb, eq-eqb, ne_eqb}
use native.Mathlib.Decide.{dec_lt, ℕ_discrete}
use borrow.Author.Tests.{eqb-false}
use Rattle.layout.specs.Answer.{Answer, got, refused, means}
use Rattle.layout.specs.Written.{Said}
use Rattle.layout.proofs.laws.Numbers.{zero_one}
use Rattle.session.specs.Calls.{open_session, close_session}
use Rattle.session.specs.Transaction.{fresh_session, last_number, number_sent, next_number, Turn, turn, Makes}
use Rattle.session.specs.declared.transaction.Session.{Session}

-- ── the rule, row by row ──

abbrev pub Opens : ℕ → Type 0
Opens code = code ≡ open_session.code

abbrev pub Closes : ℕ → Type 0
Closes code = code ≡ close_session.code

-- the rows, with the number sent and the state after it
pub data Row (state code : ℕ) : ℕ → ℕ → Type 0 where
  opens : Opens code → Row state code 0 1
  stays_closed : (Opens code → ⊥) → state ≡ 0 → Row state code state 0
  closes : (Opens code → ⊥) → 0 < state → Closes code → Row state code state 0
  counts : (Opens code → ⊥) → 0 < state → (Closes code → ⊥) → state < last_number → Row state code state (state + 1)
  begins_again : (Opens code → ⊥) → 0 < state → (Closes code → ⊥) → last_number ≤ state → Row state code state 1

-- the row of a command that opens a session
opens_row : {state code number next : ℕ} → Opens code → Row state code number next → (number ≡ 0) × (next ≡ 1)
opens_row o (opens _) = (refl, refl)
opens_row o (stays_closed n z) = absurd (n o)
opens_row o (closes n s c) = absurd (n o)
opens_row o (counts n s c l) = absurd (n o)
opens_row o (begins_again n s c l) = absurd (n o)

-- each number is that of its row, and every command falls in one
module _ (state code : ℕ) where
  pub sends_zero : Opens code → number_sent state code ≡ 0
  unfolding number_sent
  sends_zero o = simp (eq-eqb _ _ o)

  pub sends_state : (Opens code → ⊥) → number_sent state code ≡ state
  unfolding number_sent
  sends_state o = simp (ne_eqb _ _ o)

  pub then_one : Opens code → next_number state code ≡ 1
  unfolding next_number
  then_one o = simp (eq-eqb _ _ o)

  pub then_closed : (Opens code → ⊥) → state ≡ 0 → next_number state code ≡ 0
  unfolding next_number
  then_closed o z = simp (ne_eqb _ _ o, eq-eqb _ _ z)

  pub then_none : (Opens code → ⊥) → (state ≡ 0 → ⊥) → Closes code → next_number state code ≡ 0
  unfolding next_number
  then_none o z c = simp (ne_eqb _ _ o, ne_eqb _ _ z, eq-eqb _ _ c)

  pub then_more : (Opens code → ⊥) → (state ≡ 0 → ⊥) → (Closes code → ⊥) → state < last_number → next_number state code ≡ state + 1
  unfolding next_number
  then_more o z c l = simp (ne_eqb _ _ o, ne_eqb _ _ z, ne_eqb _ _ c, lt-ltb _ _ l)

  pub then_again : (Opens code → ⊥) → (state ≡ 0 → ⊥) → (Closes code → ⊥) → last_number ≤ state → next_number state code ≡ 1
  unfolding next_number
  then_again o z c l = simp (ne_eqb _ _ o, ne_eqb _ _ z, ne_eqb _ _ c, le-ltb _ _ l)

  pub row : Row state code (number_sent state code) (next_number state code)
  row = of (ℕ_discrete code open_session.code) (ℕ_discrete state 0) (ℕ_discrete code close_session.code) (dec_lt state last_number)
    where
      of : Dec (Opens code) → Dec (state ≡ 0) → Dec (Closes code) → Dec (state < last_number) → Row state code (number_sent state code) (next_number state code)
      of (yes o) z c l = rw (sends_zero o, then_one o) (opens o)
      of (no o) (yes z) c l = rw (sends_state o, then_closed o z) (stays_closed o z)
      of (no o) (no z) (yes c) l = rw (sends_state o, then_none o z c) (closes o (omega arith) c)
      of (no o) (no z) (no c) (yes l) = rw (sends_state o, then_more o z c l) (counts o (omega arith) c l)
      of (no o) (no z) (no c) (no l) = rw (sends_state o, then_again o z c (omega arith)) (begins_again o (omega arith) c (omega arith))

-- no number sent is more than the state
pub no_more : {state code number next : ℕ} → Row state code number next → number ≤ state
no_more (opens o) = omega arith
no_more (stays_closed o z) = omega arith
no_more (closes o s c) = omega arith
no_more (counts o s c l) = omega arith
no_more (begins_again o s c l) = omega arith

-- one computed example for each row, and those around the last number
abbrev sends : ℕ → ℕ → Turn
sends number next = record { number = number; next = record { number = next } }

abbrev at : ℕ → Session
at state = record { number = state }

example_opens : turn (at 57) 0x1002 ≡ sends 0 1
unfolding number_sent next_number
example_opens = refl

example_stays_closed : turn (at 0) 0x1003 ≡ sends 0 0
unfolding number_sent next_number
example_stays_closed = refl

example_closes : turn (at 57) 0x1003 ≡ sends 57 0
unfolding number_sent next_number
example_closes = refl

example_counts : turn (at 4294967293) 0x1004 ≡ sends 4294967293 4294967294
unfolding number_sent next_number
example_counts = refl

example_begins_again : turn (at 4294967294) 0x1004 ≡ sends 4294967294 1
unfolding number_sent next_number
example_begins_again = refl

example_past_the_last : turn (at 4294967295) 0x1004 ≡ sends 4294967295 1
unfolding number_sent next_number
example_past_the_last = refl

-- ── a command made ──

-- by any maker, whatever bytes are due
module _ {x : Session} {code : ℕ} {said : ℕ → Said} {old new : List ℕ} {t : Turn} {n : ℕ} where
  made_row : Makes x code said old (got t n) new → Row x.number code t.number t.next.number
  unfolding means
  made_row m = of m.written m.answers
    where
      of : (w : Answer (Unit {0})) → got t n ≡ means (λ _. turn x code) w → Row x.number code t.number t.next.number
      of (got u k) e = let same : t ≡ turn x code = cc in rw same (row x.number code)
      of (refused f) e = zero_one (cc)

-- ── runs ──

-- commands of these codes, the last one first, each made and none refused, and the session that a fresh one is after them
pub data Run : List ℕ → Session → Type 0 where
  start : Run [] fresh_session
  made : {codes : List ℕ} {x : Session} {code : ℕ} {said : ℕ → Said} {old new : List ℕ} {t : Turn} {n : ℕ} → Run codes x → Makes x code said old (got t n) new → Run (code ∷ codes) t.next

-- after these commands a session is open
pub data Open : List ℕ → Type 0 where
  opened : {code : ℕ} {codes : List ℕ} → Opens code → Open (code ∷ codes)
  still : {code : ℕ} {codes : List ℕ} → (Closes code → ⊥) → Open codes → Open (code ∷ codes)

-- no state is 4,294,967,295
pub state_most : {codes : List ℕ} {x : Session} → Run codes x → x.number ≤ last_number
state_most start = omega arith
state_most (made {x = x} {code = code} r m) = of (made_row m)
  where
    of : {number next : ℕ} → Row x.number code number next → next ≤ last_number
    of (opens o) = omega arith
    of (stays_closed o z) = omega arith
    of (closes o s c) = omega arith
    of (counts o s c l) = omega arith
    of (begins_again o s c l) = omega arith

-- the state is 0 exactly where no session is open
pub some_open : {codes : List ℕ} {x : Session} → Run codes x → 0 < x.number → Open codes
some_open start h = let f : ⊥ = omega arith in absurd f
some_open (made {codes = codes} {x = x} {code = code} r m) h = of (λ s. some_open r s) (made_row m) h
  where
    of : {number next : ℕ} → (0 < x.number → Open codes) → Row x.number code number next → 0 < next → Open (code ∷ codes)
    of was (opens o) h = opened o
    of was (stays_closed o z) h = let f : ⊥ = omega arith in absurd f
    of was (closes o s c) h = let f : ⊥ = omega arith in absurd f
    of was (counts o s c l) h = still c (was s)
    of was (begins_again o s c l) h = still c (was s)

pub open_some : {codes : List ℕ} {x : Session} → Run codes x → Open codes → 0 < x.number
open_some start x = elim x [ ]
open_some (made r m) (opened o) = omega (arith, (opens_row o (made_row m)).1)
open_some (made {x = x} {code = code} r m) (still on p) = of (open_some r p) (made_row m)
  where
    of : {number next : ℕ} → 0 < x.number → Row x.number code number next → 0 < next
    of h (opens _) = omega arith
    of h (stays_closed n z) = omega arith
    of h (closes n s c) = absurd (on c)
    of h (counts n s c l) = omega arith
    of h (begins_again n s c l) = omega arith

-- ── what is sent ──

module _ {codes : List ℕ} {x : Session} (r : Run codes x) {code : ℕ} {said : ℕ → Said} {old new : List ℕ} {t : Turn} {n : ℕ} (m : Makes x code said old (got t n) new) where
  -- no number sent is 4,294,967,295
  pub sent_most : t.number ≤ last_number
  sent_most = omega (arith, state_most r, no_more (made_row m))

  -- 0 is sent exactly where no session is open or the command opens one
  pub zero_sent : (t.number ≡ 0) ↔ ((Open codes → ⊥) ⊎ Opens code)
  zero_sent = (of (made_row m), back (λ s. some_open r s) (made_row m))
    where
      of : {number next : ℕ} → Row x.number code number next → number ≡ 0 → (Open codes → ⊥) ⊎ Opens code
      of (opens o) e = inr o
      of (stays_closed o z) e = inl (λ p. let h = open_some r p in omega arith)
      of (closes o s c) e = let f : ⊥ = omega arith in absurd f
      of (counts o s c l) e = let f : ⊥ = omega arith in absurd f
      of (begins_again o s c l) e = let f : ⊥ = omega arith in absurd f

      back : {number next : ℕ} → (0 < x.number → Open codes) → Row x.number code number next → (Open codes → ⊥) ⊎ Opens code → number ≡ 0
      back was r (inr p) = (opens_row p r).0
      back was (opens o) (inl shut) = refl
      back was (stays_closed o z) (inl shut) = z
      back was (closes o s c) (inl shut) = absurd (shut (was s))
      back was (counts o s c l) (inl shut) = absurd (shut (was s))
      back was (begins_again o s c l) (inl shut) = absurd (shut (was s))

-- after a CloseSession 0 is sent until the next OpenSession, and by that too
unfoldable pub None-opens : List ℕ → Type 0
None-opens [] = Unit {0}
None-opens (code ∷ codes) = (Opens code → ⊥) × None-opens codes

not_open : (later codes : List ℕ) → None-opens later → Open (later ++ close_session.code ∷ codes) → ⊥
unfolding None-opens
not_open [] codes n (opened o) = eqb-false close_session.code open_session.code refl o
not_open [] codes n (still c p) = c refl
not_open (code ∷ later) codes n (opened o) = n.0 o
not_open (code ∷ later) codes n (still c p) = not_open later codes n.1 p

pub closed_sends : (later codes : List ℕ) {x : Session} → Run (later ++ close_session.code ∷ codes) x → None-opens later →
    {code : ℕ} {said : ℕ → Said} {old new : List ℕ} {t : Turn} {n : ℕ} → Makes x code said old (got t n) new → t.number ≡ 0
closed_sends later codes r none m = (zero_sent r m).1 (inl (not_open later codes none))

-- ── one command right after another ──

module _ {x : Session} {code : ℕ} {said : ℕ → Said} {old new : List ℕ} {t : Turn} {n : ℕ} (m : Makes x code said old (got t n) new)
    {code' : ℕ} {said' : ℕ → Said} {old' new' : List ℕ} {u : Turn} {n' : ℕ} (m' : Makes t.next code' said' old' (got u n') new') where
  sends_next : (Opens code' → ⊥) → u.number ≡ t.next.number
  sends_next o' = of (made_row m')
    where
      of : {number next : ℕ} → Row t.next.number code' number next → number ≡ t.next.number
      of (opens o) = absurd (o' o)
      of (stays_closed o z) = refl
      of (closes o s c) = refl
      of (counts o s c l) = refl
      of (begins_again o s c l) = refl

  -- after an OpenSession comes 1, or 0 for another OpenSession
  pub opened_sends : Opens code → ((Opens code' → ⊥) → u.number ≡ 1) × (Opens code' → u.number ≡ 0)
  opened_sends o = (λ o'. sends_next o' ∙ (opens_row o (made_row m)).1, λ o'. (opens_row o' (made_row m')).0)

  -- in an open session they send n and n + 1, or 4,294,967,294 and 1, where neither opens or closes one; the second may close it too
  pub one_more : {codes : List ℕ} → Run codes x → Open codes → (Opens code → ⊥) → (Closes code → ⊥) → (Opens code' → ⊥) → (u.number ≡ t.number + 1) ⊎ ((t.number ≡ last_number) × (u.number ≡ 1))
  one_more r p o c o' = of (state_most r) (open_some r p) (made_row m) (sends_next o')
    where
      of : {number next : ℕ} → x.number ≤ last_number → 0 < x.number → Row x.number code number next → u.number ≡ next → (u.number ≡ number + 1) ⊎ ((number ≡ last_number) × (u.number ≡ 1))
      of h s (opens q) e = absurd (o q)
      of h s (stays_closed _ z) e = let f : ⊥ = omega arith in absurd f
      of h s (closes _ _ q) e = absurd (c q)
      of h s (counts _ _ _ l) e = inl e
      of h s (begins_again _ _ _ l) e = inr (omega arith, e)
