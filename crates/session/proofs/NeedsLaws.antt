-- How many bytes an answer needs: the containers that stand whole stay when bytes follow, so the first that is not whole decides. Up to its six bytes, then up to its end, the answer is open whatever
-- follows; there some bytes settle it: a wrong kind, a number that is another's, or the Response itself.
-- Assumes nothing.
use Rattle.std.proofs.Common.{◌≡◌, ℕ, zero, suc, ◌+◌, ◌-◌, ◌<◌, ◌≤◌, Bool, true, false, eqb, leb, ◌⊎◌, List, [], ◌∷◌, ◌++◌, length, get_or, take, drop, replicate, sym, refl, ap, ◌∙◌, subst, inl, inr, append_assoc, append-nil, arith, length-append, length-drop, get_or-drop, get_or-append-add, eqb-true, le-leb, leb-false, leb-true}
use borrow.Author.Tests.{eqb-false}
use lib.ListN.{length-replicate, get_or-replicate}
use lib.Seq.{drop-append-le}
use Rattle.layout.specs.Answer.{Told, Answer, got, refused, pick, end_at, bare}
use Rattle.layout.specs.Bytes.{Bytes, number}
use Rattle.layout.specs.Refusals.{END, KIND, LENGTH, SIZE, TID, NOPHASE}
use Rattle.layout.proofs.laws.Final.{Bytes-append}
use Rattle.layout.proofs.laws.Numbers.{zero_one, Bytes-drop}
use Rattle.wire.specs.Tests.{holds, fails}
use Rattle.wire.specs.Refused.{announced, kind_in, number_in, container_in, ContainerSays}
use Rattle.wire.specs.declared.container.Container.{Container}
use Rattle.session.specs.Search.{Reply, answer_in}
use Rattle.session.specs.Answered.{Stands, Front, Stop, no_phase, unread, another's}
use Rattle.session.specs.Needs.{Waits, cut, unfinished, no_response, Needs, whole_in, Cut, Lacks, head, rest, rest_and_head}
use Rattle.session.proofs.Answered.{front_more, answer_fails, answer_found}
use Rattle.session.proofs.WholeLasts.{announced_same, kind_same, number_same, whole_same, WholeAt, known_kind, at_whole, front_lasts}

-- ── refusals that bytes which follow may change ──

-- by their numbers
abbrev pub is_open : Told → Bool
is_open t = pick (eqb t.no END) true (pick (eqb t.no SIZE) true (eqb t.no NOPHASE))

waits_open : {y : Answer Reply} → Waits y → {t : Told} → y ≡ refused t → is_open t ≡ true
unfolding end_at bare
waits_open (cut p) {t} e = let is : end_at p ≡ t = cc in subst (λ u. is_open u ≡ true) is refl
waits_open unfinished {t} e = let is : bare SIZE ≡ t = cc in subst (λ u. is_open u ≡ true) is refl
waits_open no_response {t} e = let is : bare NOPHASE ≡ t = cc in subst (λ u. is_open u ≡ true) is refl

pub settled : {y : Answer Reply} {t : Told} → y ≡ refused t → is_open t ≡ false → Waits y → ⊥
settled e f w = let g = waits_open w e in let z = sym g ∙ f in zero_one (cc)

pub answered_settled : {y : Answer Reply} {x : Reply} {n : ℕ} → y ≡ got x n → Waits y → ⊥
answered_settled e (cut p) = zero_one (cc)
answered_settled e unfinished = zero_one (cc)
answered_settled e no_response = zero_one (cc)

kind_settles : is_open (bare KIND) ≡ false
unfolding bare
kind_settles = refl

length_settles : is_open (bare LENGTH) ≡ false
unfolding bare
length_settles = refl

another_settles : is_open (bare TID) ≡ false
unfolding bare
another_settles = refl

-- ── what is open at a place ──

-- a stop whose refusal waits
record Open (number : ℕ) (s : List ℕ) (at : ℕ) : Type 0 where
  pub why : Told
  pub stop : Stop number s at why
  pub waits : Waits (refused why)

module _ (number : ℕ) (s : List ℕ) (at : ℕ) where
  some_left : 0 < length (drop at s) → length s ≤ at → ⊥
  some_left h l = omega (arith, length-drop at s)

  open_head : length (drop at s) < 6 → Open number s at
  open_head h = go (leb (length s) at) refl (leb 4 (length (drop at s))) refl
    where
      go : (a : Bool) → leb (length s) at ≡ a → (b : Bool) → leb 4 (length (drop at s)) ≡ b → Open number s at
      go true e b f = record { why = bare NOPHASE; stop = no_phase (leb-true (length s) at e); waits = no_response }
      go false e true f =
          let four = leb-true 4 (length (drop at s)) f in
          record { why = end_at (at + 4); stop = unread (some_left (omega arith)) (record { says = fails (λ l. omega arith) (holds h) }); waits = cut (at + 4) }
      go false e false f =
          let more = leb-false (length s) at e in
          record { why = end_at at; stop = unread (λ l. omega arith) (record { says = holds (leb-false 4 (length (drop at s)) f) }); waits = cut at }

-- the length of a container that is cut behind its header is not below twelve
whole_announced : (d : List ℕ) → 12 < whole_in d → whole_in d ≡ announced d
whole_announced d h = go (leb 12 (announced d)) h
  where
    go : (b : Bool) → 12 < pick b (announced d) 12 → pick b (announced d) 12 ≡ announced d
    go true h = refl
    go false h = absurd (omega arith)

pub whole_most : (d : List ℕ) → 12 ≤ whole_in d
whole_most d = go (leb 12 (announced d)) refl
  where
    go : (b : Bool) → leb 12 (announced d) ≡ b → 12 ≤ pick b (announced d) 12
    go true e = leb-true 12 (announced d) e
    go false e = omega arith

open_cut : (number : ℕ) (s : List ℕ) (at : ℕ) (d : List ℕ) → drop at s ≡ d → Cut d → Open number s at
open_cut number s at d is c = go (leb 8 (length d)) refl (leb 12 (length d)) refl
  where
    begun : length s ≤ at → ⊥
    begun l = omega (arith, c.six, length-drop at s, ap length is)

    because : {t : Told} → ContainerSays at d (refused t) → Stop number s at t
    because {t} h = unread begun (record { says = subst (λ l. ContainerSays at l (refused t)) (sym is) h })

    go : (a : Bool) → leb 8 (length d) ≡ a → (b : Bool) → leb 12 (length d) ≡ b → Open number s at
    go false i b j =
        let short = leb-false 8 (length d) i in
        record { why = end_at (at + 6); stop = because (fails (λ l. omega (arith, c.six)) (fails (λ l. omega (arith, c.six)) (fails (known_kind d c.low c.high) (holds short)))); waits = cut (at + 6) }
    go true i false j =
        let long = leb-true 8 (length d) i in
        let short = leb-false 12 (length d) j in
        record { why = end_at (at + 8); stop = because (fails (λ l. omega arith) (fails (λ l. omega arith) (fails (known_kind d c.low c.high) (fails (λ l. omega arith) (holds short))))); waits = cut (at + 8) }
    go true i true j =
        let long = leb-true 12 (length d) j in
        let whole = whole_announced d (omega (arith, c.short)) in
        record {
          why = bare SIZE;
          stop = because
              (fails (λ l. omega arith) (fails (λ l. omega arith) (fails (known_kind d c.low c.high) (fails (λ l. omega arith) (fails (λ l. omega arith) (fails (λ l. omega (arith, c.short, whole)) (holds (omega (arith, c.short, whole)))))))));
          waits = unfinished;
        }

-- ── bytes that settle ──

all_bytes : (n b : ℕ) → b < 256 → Bytes (replicate n b)
all_bytes zero b h = tt
all_bytes (suc n) b h = (h, all_bytes n b h)

-- what stands in d with n times b behind it
fill_at : (d : List ℕ) (n b i : ℕ) → length d ≤ i → i < length d + n → get_or (d ++ replicate n b) i 0 ≡ b
fill_at d n b i h l =
    let is : length d + (i - length d) ≡ i = omega arith in
    ap (λ j. get_or (d ++ replicate n b) j 0) (sym is) ∙ get_or-append-add d (replicate n b) (i - length d) 0 ∙ get_or-replicate n (i - length d) b 0 (omega arith)

-- a number by its high byte
high_two : (l : List ℕ) → get_or l 1 0 ≡ 255 → 4 < number (take 2 l)
unfolding number
high_two [] e = omega (arith, e)
high_two (a ∷ []) e = omega (arith, e)
high_two (a ∷ b ∷ l) e = omega (arith, e)

high_four : (l : List ℕ) → get_or l 3 0 ≡ 255 → 4278190080 ≤ number (take 4 l)
unfolding number
high_four [] e = omega (arith, e)
high_four (a ∷ []) e = omega (arith, e)
high_four (a ∷ b ∷ []) e = omega (arith, e)
high_four (a ∷ b ∷ c ∷ []) e = omega (arith, e)
high_four (a ∷ b ∷ c ∷ d ∷ l) e = omega (arith, e)

low_four : (l : List ℕ) → Bytes l → get_or l 3 0 ≡ 0 → number (take 4 l) < 16777216
unfolding number
low_four [] h e = omega arith
low_four (a ∷ []) h e = omega (arith, h)
low_four (a ∷ b ∷ []) h e = omega (arith, h)
low_four (a ∷ b ∷ c ∷ []) h e = omega (arith, h)
low_four (a ∷ b ∷ c ∷ d ∷ l) h e = omega (arith, h.0, h.1.0, h.1.1.0, e)

-- a byte that makes the number another's, where the last of its bytes is still to come
module _ (number' : ℕ) (d : List ℕ) (h : Bytes d) (short : length d < 12) (n : ℕ) (long : 12 ≤ length d + n) where
  other_byte : (b : ℕ) × (b < 256) × (number_in (d ++ replicate n b) ≡ number' → ⊥)
  other_byte = go (leb 16777216 number') refl
    where
      top : (b : ℕ) → get_or (drop 8 (d ++ replicate n b)) 3 0 ≡ b
      top b = get_or-drop 8 (d ++ replicate n b) 3 0 ∙ fill_at d n b 11 (omega arith) (omega arith)

      go : (c : Bool) → leb 16777216 number' ≡ c → (b : ℕ) × (b < 256) × (number_in (d ++ replicate n b) ≡ number' → ⊥)
      go true e =
          let large = leb-true 16777216 number' e in
          let all = Bytes-drop 8 (d ++ replicate n 0) (Bytes-append d (replicate n 0) h (all_bytes n 0 (omega arith))) in
          (0, omega arith, λ i. omega (arith, i, low_four (drop 8 (d ++ replicate n 0)) all (top 0)))
      go false e =
          let small = leb-false 16777216 number' e in
          (255, omega arith, λ i. omega (arith, i, high_four (drop 8 (d ++ replicate n 255)) (top 255)))

-- ── by the first container that is not whole ──

module _ (number' : ℕ) (s : List ℕ) {cs : List Container} {at : ℕ} (front : Front number' s 0 cs at) (within : at ≤ length s) where
  -- the bytes there, with more behind them
  module _ (more : List ℕ) where
    follow : drop at (s ++ more) ≡ drop at s ++ more
    follow = drop-append-le at s more within

    size : length (drop at (s ++ more)) ≡ length (drop at s) + length more
    size = ap length follow ∙ length-append (drop at s) more

    stands_on : Front number' (s ++ more) 0 cs at
    stands_on = front_lasts number' s more front

    opens : Open number' (s ++ more) at → Waits (answer_in number' (s ++ more))
    opens o = rw (answer_fails number' (s ++ more) stands_on o.stop) o.waits

    settles : {t : Told} → ContainerSays at (drop at s ++ more) (refused t) → 0 < length (drop at s) + length more → is_open t ≡ false → Waits (answer_in number' (s ++ more)) → ⊥
    settles {t} h some f =
        let here = unread (some_left number' (s ++ more) at (omega (arith, size))) (record { says = subst (λ l. ContainerSays at l (refused t)) (sym follow) h }) in
        settled (answer_fails number' (s ++ more) stands_on here) f

  head_needs : length (drop at s) < 6 → Needs number' s (6 - length (drop at s))
  head_needs h = record {
    fewer = λ more l. opens more (open_head number' (s ++ more) at (omega (arith, size more)));
    enough =
        let n = 6 - length (drop at s) in
        let more : List ℕ = replicate n 255 in
        let long : length (drop at s ++ more) ≡ 6 = omega (arith, length-append (drop at s) more, length-replicate {A = ℕ} n 255) in
        let high : 4 < kind_in (drop at s ++ more) = high_two (drop 4 (drop at s ++ more)) (get_or-drop 4 (drop at s ++ more) 1 0 ∙ fill_at (drop at s) n 255 5 (omega arith) (omega arith)) in (
          more,
          all_bytes n 255 (omega arith),
          length-replicate {A = ℕ} n 255,
          settles more (fails (λ l. omega arith) (fails (λ l. omega arith) (holds (inr high)))) (omega (arith, length-replicate {A = ℕ} n 255)) kind_settles,
        );
  }

  -- ── cut behind its kind ──

  module _ (c : Cut (drop at s)) where
    module _ (more : List ℕ) where
      whole_is : whole_in (drop at s ++ more) ≡ whole_in (drop at s)
      whole_is = whole_same (drop at s) more (omega (arith, c.six))

      kind_is : kind_in (drop at s ++ more) ≡ kind_in (drop at s)
      kind_is = kind_same (drop at s) more c.six

      announced_is : announced (drop at s ++ more) ≡ announced (drop at s)
      announced_is = announced_same (drop at s) more (omega (arith, c.six))

      still_cut : length more < whole_in (drop at s) - length (drop at s) → Waits (answer_in number' (s ++ more))
      still_cut l =
          opens more
          (open_cut number' (s ++ more) at (drop at s ++ more) (follow more)
          (record { six = omega (arith, c.six, length-append (drop at s) more); low = omega (arith, kind_is, c.low); high = omega (arith, kind_is, c.high); short = omega (arith, whole_is, length-append (drop at s) more) }))

      -- all of it is there
      module _ (all : whole_in (drop at s) ≤ length (drop at s) + length more) where
        too_low : announced (drop at s) < 12 → Waits (answer_in number' (s ++ more)) → ⊥
        too_low low =
            settles more
            (fails (λ l. omega (arith, c.six, length-append (drop at s) more)) (fails (λ l. omega (arith, c.six, length-append (drop at s) more)) (fails (known_kind (drop at s ++ more) (omega (arith, kind_is, c.low)) (omega (arith, kind_is, c.high)))
            (fails (λ l. omega (arith, all, whole_most (drop at s), length-append (drop at s) more)) (fails (λ l. omega (arith, all, whole_most (drop at s), length-append (drop at s) more)) (holds (omega (arith, announced_is, low))))))))
            (omega (arith, c.six)) length_settles

        module _ (enough : 12 ≤ announced (drop at s)) where
          whole_long : whole_in (drop at s) ≡ announced (drop at s)
          whole_long = rw (le-leb 12 (announced (drop at s)) enough)

          stands : Stands (s ++ more) at (container_in at (drop at s ++ more)) (at + announced (drop at s))
          stands =
              let size = length-append (drop at s) more in
              let w : WholeAt at (drop at s ++ more) (container_in at (drop at s ++ more)) (at + announced (drop at s)) = record {
                long = omega (arith, all, whole_most (drop at s), size);
                low = omega (arith, kind_is, c.low);
                high = omega (arith, kind_is, c.high);
                least_length = omega (arith, announced_is, enough);
                there = omega (arith, announced_is, all, whole_long, size);
                is = refl;
                till = omega (arith, announced_is);
              } in
              record { says = subst (λ l. ContainerSays at l (got (container_in at (drop at s ++ more)) (at + announced (drop at s)))) (sym (follow more)) (at_whole {d = drop at s ++ more} w) }

          -- another's, or a Response: it is settled
          whole_settles : (number_in (drop at s ++ more) ≡ number' → ⊥) ⊎ (kind_in (drop at s) ≡ 3) → Waits (answer_in number' (s ++ more)) → ⊥
          whole_settles h = go (eqb (number_in (drop at s ++ more)) number') refl h
            where
              other : (number_in (drop at s ++ more) ≡ number' → ⊥) → Waits (answer_in number' (s ++ more)) → ⊥
              other d = settled (answer_fails number' (s ++ more) (stands_on more) (another's stands d)) another_settles

              go : (b : Bool) → eqb (number_in (drop at s ++ more)) number' ≡ b → (number_in (drop at s ++ more) ≡ number' → ⊥) ⊎ (kind_in (drop at s) ≡ 3) → Waits (answer_in number' (s ++ more)) → ⊥
              go b e (inl d) = other d
              go false e (inr k) = other (eqb-false (number_in (drop at s ++ more)) number' e)
              go true e (inr k) =
                  answered_settled (answer_found number' (s ++ more) (record { behind = at; front = stands_on more; stands = stands; ours = eqb-true (number_in (drop at s ++ more)) number' e; last = kind_is ∙ k }))

          -- one that is passed over is of the front
          passes : number_in (drop at s ++ more) ≡ number' → (kind_in (drop at s) ≡ 3 → ⊥) → Front number' (s ++ more) 0 (cs ++ (container_in at (drop at s ++ more) ∷ [])) (at + announced (drop at s))
          passes ours k = front_more number' (s ++ more) (stands_on more) stands ours (λ e. k (sym kind_is ∙ e))

    -- so many times a byte make it whole
    module _ (b : ℕ) where
      filled : List ℕ
      filled = replicate (whole_in (drop at s) - length (drop at s)) b

      filled_size : length filled ≡ whole_in (drop at s) - length (drop at s)
      unfolding filled
      filled_size = length-replicate (whole_in (drop at s) - length (drop at s)) b

      filled_whole : whole_in (drop at s) ≤ length (drop at s) + length filled
      filled_whole = omega (arith, filled_size)

    rest_needs : Bytes s → (length (drop at s) < 12) ⊎ ((number_in (drop at s) ≡ number' → ⊥) ⊎ (kind_in (drop at s) ≡ 3)) → Needs number' s (whole_in (drop at s) - length (drop at s))
    unfolding filled
    rest_needs h why = record { fewer = λ more l. still_cut more l; enough = go why }
      where
        ends : (b : ℕ) → b < 256 → (12 ≤ announced (drop at s) → (number_in (drop at s ++ filled b) ≡ number' → ⊥) ⊎ (kind_in (drop at s) ≡ 3))
            → (more : List ℕ) × Bytes more × (length more ≡ whole_in (drop at s) - length (drop at s)) × (Waits (answer_in number' (s ++ more)) → ⊥)
        ends b small k = (filled b, all_bytes (whole_in (drop at s) - length (drop at s)) b small, filled_size b, by (leb 12 (announced (drop at s))) refl)
          where
            by : (a : Bool) → leb 12 (announced (drop at s)) ≡ a → Waits (answer_in number' (s ++ filled b)) → ⊥
            by true e = let l = leb-true 12 (announced (drop at s)) e in whole_settles (filled b) (filled_whole b) l (k l)
            by false e = too_low (filled b) (filled_whole b) (leb-false 12 (announced (drop at s)) e)

        another : length (drop at s) < 12 → (more : List ℕ) × Bytes more × (length more ≡ whole_in (drop at s) - length (drop at s)) × (Waits (answer_in number' (s ++ more)) → ⊥)
        another few =
            let o = other_byte number' (drop at s) (Bytes-drop at s h) few (whole_in (drop at s) - length (drop at s)) (omega (arith, whole_most (drop at s))) in
            ends o.0 o.1 (λ l. inl o.2)

        go : (length (drop at s) < 12) ⊎ ((number_in (drop at s) ≡ number' → ⊥) ⊎ (kind_in (drop at s) ≡ 3))
            → (more : List ℕ) × Bytes more × (length more ≡ whole_in (drop at s) - length (drop at s)) × (Waits (answer_in number' (s ++ more)) → ⊥)
        go (inl few) = another few
        go (inr (inl d)) = by (leb 12 (length (drop at s))) refl
          where
            by : (a : Bool) → leb 12 (length (drop at s)) ≡ a → (more : List ℕ) × Bytes more × (length more ≡ whole_in (drop at s) - length (drop at s)) × (Waits (answer_in number' (s ++ more)) → ⊥)
            by true e = ends 0 (omega arith) (λ l. inl (λ i. d (sym (number_same (drop at s) (filled 0) (leb-true 12 (length (drop at s)) e)) ∙ i)))
            by false e = another (leb-false 12 (length (drop at s)) e)
        go (inr (inr k)) = ends 0 (omega arith) (λ l. inr k)

    -- one that is passed over: the next one's six bytes too
    module _ (long : 12 ≤ length (drop at s)) (ours : number_in (drop at s) ≡ number') (other : kind_in (drop at s) ≡ 3 → ⊥) where
      enough_length : 12 ≤ announced (drop at s)
      enough_length = let w = whole_announced (drop at s) (omega (arith, c.short)) in omega (arith, w, c.short)

      over : (more : List ℕ) → whole_in (drop at s) ≤ length (drop at s) + length more → (bs : List Container) × Front number' (s ++ more) 0 bs (at + announced (drop at s)) × (at + announced (drop at s) ≤ length (s ++ more))
      over more all = (
        _,
        passes more all enough_length (number_same (drop at s) more long ∙ ours) other,
        omega (arith, all, whole_long more all enough_length, length-append s more, length-drop at s),
      )

-- ── what is lacking is what is needed ──

pub lacks_needs : (number' : ℕ) (s : List ℕ) → Bytes s → {cs : List Container} {at : ℕ} → Front number' s 0 cs at → at ≤ length s → {n : ℕ} → Lacks number' (drop at s) n → Needs number' s n
unfolding filled
lacks_needs number' s h f w (head l) = head_needs number' s f w l
lacks_needs number' s h f w (rest c why) = rest_needs number' s f w c h why
lacks_needs number' s h {at = at} f w (rest_and_head c long ours other) = record { fewer = λ more l. fewer more l (leb (whole_in (drop at s)) (length (drop at s) + length more)) refl; enough = enough }
  where
    fewer : (more : List ℕ) → length more < whole_in (drop at s) - length (drop at s) + 6 → (b : Bool) → leb (whole_in (drop at s)) (length (drop at s) + length more) ≡ b → Waits (answer_in number' (s ++ more))
    fewer more l false e = let few = leb-false (whole_in (drop at s)) (length (drop at s) + length more) e in still_cut number' s f w c more (omega (arith, c.short))
    fewer more l true e =
        let all = leb-true (whole_in (drop at s)) (length (drop at s) + length more) e in
        let o = over number' s f w c long ours other more all in
        let k = enough_length number' s f w c long ours other in
        let next = at + announced (drop at s) in
        let few : length (drop next (s ++ more)) < 6 = omega (arith, length-drop next (s ++ more), length-append s more, length-drop at s, whole_long number' s f w c more all k) in
        let open-there = open_head number' (s ++ more) next few in
        rw (answer_fails number' (s ++ more) o.1 open-there.stop) open-there.waits

    enough : (more : List ℕ) × Bytes more × (length more ≡ whole_in (drop at s) - length (drop at s) + 6) × (Waits (answer_in number' (s ++ more)) → ⊥)
    enough =
        let z = filled number' s f w c 0 in
        let all = filled_whole number' s f w c 0 in
        let size = filled_size number' s f w c 0 in
        let o = over number' s f w c long ours other z all in
        let k = enough_length number' s f w c long ours other in
        let next = at + announced (drop at s) in
        let none_left : length (drop next (s ++ z)) ≡ 0 = omega (arith, length-drop next (s ++ z), length-append s z, length-drop at s, whole_long number' s f w c z all k, size) in
        let n = head_needs number' (s ++ z) o.1 o.2 (omega (arith, none_left)) in
        let more = n.enough.0 in (
          z ++ more,
          Bytes-append z more (all_bytes (whole_in (drop at s) - length (drop at s)) 0 (omega arith)) n.enough.1,
          omega (arith, length-append z more, n.enough.2, none_left, size),
          λ v. n.enough.3 (subst (λ l. Waits (answer_in number' l)) (sym (append_assoc s z more)) v),
        )

pub settled_needs : (number' : ℕ) (s : List ℕ) → (Waits (answer_in number' s) → ⊥) → Needs number' s 0
settled_needs number' s h = record { fewer = λ more l. absurd (omega arith); enough = ([], tt, refl, λ w. h (subst (λ l. Waits (answer_in number' l)) (append-nil s) w)) }
