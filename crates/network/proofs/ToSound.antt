-- Containers that are translated are those of a transaction, and they are translated to its tidy packets.
-- Assumes nothing.
use mathlib.Core.Path.{◌≡◌, refl, sym, ap, ◌∙◌}
use mathlib.Core.Bool.{Bool, true, false}
use mathlib.Core.Logic.{◌↔◌}
use mathlib.Core.List.{List, [], ◌∷◌, ◌++◌, append-nil}
use mathlib.Core.Option.{some, none}
use Prim.Native.Nat.{ℕ, zero, suc, ◌-◌, ◌%◌, ◌≤◌, ◌<◌}
use native.Mathlib.Numerals.{sub-one}
use native.Mathlib.Omega.{arith}
use borrow.Author.Tests.{eq-eqb, eqb-true, ltb-true, ltb-false}
use lib.Dec.{ltb, eqb}
use lib.ListN.{length}
use lib.Seq.{take_all}
use Rattle.layout.specs.Answer.{Answer, got, refused, Reader, pick, after, means, bare}
use Rattle.layout.specs.Bytes.{Bytes}
use Rattle.layout.specs.Format.{Stands}
use Rattle.layout.specs.Refusals.{TID}
use Rattle.layout.specs.Written.{says, no}
use Rattle.layout.proofs.laws.Accepted.{accepted}
use Rattle.layout.proofs.laws.Numbers.{zero_one}
use Rattle.layout.proofs.laws.Reading.{unmeant}
use Rattle.layout.proofs.laws.Words.{join}
use Rattle.wire.specs.Container.{container_at, container_word}
use Rattle.wire.specs.Returned.{part_of}
use Rattle.wire.proofs.laws.Contained.{container_length}
use Rattle.wire.specs.declared.container.Container.{Container}
use Rattle.network.specs.Refusals.{TRANSACTION}
use Rattle.network.specs.Transaction.{Transaction, Params, Containers, data_container, containers_word, tidy_word}
use Rattle.network.specs.TransactionSays.{OneNumber, FiveWhole, SuchContainers, command_response, command_data_response}
use Rattle.network.specs.Translated.{both, five_whole, items_from, items_in, folded, none_seen, next_container, look_container, seen_in, to_judged, to_said, said_or, is_answered}
use Rattle.network.specs.declared.see.Seen.{Seen}
use Rattle.network.specs.declared.see.Stage.TheVariants as stage
use Rattle.network.specs.declared.translate.Direction.{Direction}
use Rattle.network.proofs.PacketLaws.{held}
use Rattle.network.proofs.ReadWords.{Boxed, container-word}
use Rattle.network.proofs.SeenStages as stages
use Rattle.network.proofs.SeenNumbers.{one_number_exactly}
use Rattle.network.proofs.TranslatedLaws.{five-whole, whole_five}

-- ── items, from the front ──

module _ {A : Type 0} (read : Reader A) (s : List ℕ) where
  pub items_cons : (n at : ℕ) {x : A} {xs : List A} {m : ℕ} → items_from read n s at ≡ got (x ∷ xs) m → (next : ℕ) × (at < length s) × (got x next ≡ read s at) × (items_from read (n - 1) s next ≡ got xs m)
  unfolding items_from after
  items_cons zero at e = zero_one (cc)
  items_cons (suc n) at {x} {xs} {m} e = rw sub-one (go (ltb at (length s)) refl e)
    where
      of : at < length s → (y : Answer A) → y ≡ read s at → after y (λ x next. means (λ ys. x ∷ ys) (items_from read n s next)) ≡ got (x ∷ xs) m →
          (next : ℕ) × (at < length s) × (got x next ≡ read s at) × (items_from read n s next ≡ got xs m)
      of h (got y k) f e =
          let (ys, row, is) = unmeant (λ zs. y ∷ zs) (items_from read n s k) e in
          let head : y ≡ x = cc in
          let tail : ys ≡ xs = cc in
          (k, h, ap (λ z. got z k) (sym head) ∙ f, row ∙ ap (λ zs. got zs m) tail)
      of h (refused t) f e = zero_one (cc)

      go : (b : Bool) → ltb at (length s) ≡ b → pick b (after (read s at) λ x next. means (λ ys. x ∷ ys) (items_from read n s next)) (got [] at) ≡ got (x ∷ xs) m →
          (next : ℕ) × (at < length s) × (got x next ≡ read s at) × (items_from read n s next ≡ got xs m)
      go true h e = of (ltb-true at (length s) h) (read s at) refl e
      go false h e = zero_one (cc)

  pub items_nil : (n at : ℕ) {m : ℕ} → length s - at ≤ n → items_from read n s at ≡ got [] m → length s ≤ at
  unfolding items_from after
  items_nil zero at h e = omega arith
  items_nil (suc n) at {m} h e = go (ltb at (length s)) refl e
    where
      of : (y : Answer A) → after y (λ x next. means (λ ys. x ∷ ys) (items_from read n s next)) ≡ got [] m → length s ≤ at
      of (got y k) e = let (ys, row, is) = unmeant (λ zs. y ∷ zs) (items_from read n s k) e in zero_one (cc)
      of (refused t) e = zero_one (cc)

      go : (b : Bool) → ltb at (length s) ≡ b → pick b (after (read s at) λ x next. means (λ ys. x ∷ ys) (items_from read n s next)) (got [] at) ≡ got [] m → length s ≤ at
      go true h e = of (read s at) e
      go false h e = ltb-false at (length s) h

-- a word that stands from the first byte to the end
pub filled : {s w : List ℕ} {n : ℕ} → Stands s 0 n w → length s ≤ n → s ≡ w
filled {s} {w} {n} st h = sym (take_all (length w) s (omega (arith, st.till))) ∙ st.is

-- ── what such containers are ──

abbrev Over : Seen → List Container → Type 0
Over t xs = is_answered (folded look_container t xs).stage ≡ true

stays : (t : Seen) (x : Container) → t.stage ≡ stage.Not → (look_container t x).stage ≡ stage.Not
unfolding look_container next_container
stays t x e = rw e

stops : (t : Seen) (x : Container) → t.stage ≡ stage.Answered → (look_container t x).stage ≡ stage.Not
unfolding look_container next_container
stops t x e = rw e

-- a Response and no more
data Last : List Container → Type 0 where
  last : (r : Container) → r.kind ≡ 3 → FiveWhole r.payload.count → Last (r ∷ [])

-- where a Response may stand, this one does
last_here : (x : Container) (xs : List Container) (t : Seen) → both (eqb x.kind 3) (five_whole x.payload.count) ≡ true → (look_container t x).stage ≡ stage.Answered → Over t (x ∷ xs) → Last (x ∷ xs)
unfolding folded
last_here x xs t f e h =
    let (k, few) = held (eqb x.kind 3) (five_whole x.payload.count) f in
    rw (stages.ended look_container stays stops xs (look_container t x) e h) (last x (eqb-true x.kind 3 k) (five-whole x.payload.count few))

last_of : (xs : List Container) (t : Seen) → t.stage ≡ stage.Whole → Over t xs → Last xs
unfolding folded look_container next_container
last_of [] t e h = stages.not_over look_container stays stops t stage.Whole e refl h
last_of (x ∷ xs) t e h = go (both (eqb x.kind 3) (five_whole x.payload.count)) refl
  where
    go : (b : Bool) → both (eqb x.kind 3) (five_whole x.payload.count) ≡ b → Last (x ∷ xs)
    go true f = last_here x xs t f (rw (e, f)) h
    go false f = stages.lost look_container stays stops xs (look_container t x) (rw (e, f)) h

-- behind the Command
module _ (c : Container) (kind : c.kind ≡ 1) (few : FiveWhole c.payload.count) where
  with_response : {xs : List Container} → Last xs → SuchContainers (c ∷ xs)
  with_response (last r k f) = command_response kind few k f

  with-data : (x : Container) → x.kind ≡ 2 → x.code ≡ c.code → {xs : List Container} → Last xs → SuchContainers (c ∷ x ∷ xs)
  with-data x k code (last r l f) = command_data_response kind few k code l f

  such_behind : (xs : List Container) (t : Seen) → t.code ≡ c.code → t.stage ≡ stage.Asked → Over t xs → SuchContainers (c ∷ xs)
  unfolding folded look_container next_container
  such_behind [] t code e h = stages.not_over look_container stays stops t stage.Asked e refl h
  such_behind (x ∷ xs) t code e h = go (both (eqb x.kind 2) (eqb x.code t.code)) refl (both (eqb x.kind 3) (five_whole x.payload.count)) refl
    where
      go : (b : Bool) → both (eqb x.kind 2) (eqb x.code t.code) ≡ b → (a : Bool) → both (eqb x.kind 3) (five_whole x.payload.count) ≡ a → SuchContainers (c ∷ x ∷ xs)
      go true f a g =
          let (k, same) = held (eqb x.kind 2) (eqb x.code t.code) f in
          with-data x (eqb-true x.kind 2 k) (eqb-true x.code t.code same ∙ code) (last_of xs (look_container t x) (rw (e, f)) h)
      go false f true g = with_response (last_here x xs t g (rw (e, f, g)) h)
      go false f false g = stages.lost look_container stays stops xs (look_container t x) (rw (e, f, g)) h

pub such_seen : (xs : List Container) → Over none_seen xs → SuchContainers xs
unfolding folded look_container next_container
such_seen [] h = stages.not_over look_container stays stops none_seen stage.First refl refl h
such_seen (x ∷ xs) h = go (both (eqb x.kind 1) (five_whole x.payload.count)) refl
  where
    go : (b : Bool) → both (eqb x.kind 1) (five_whole x.payload.count) ≡ b → SuchContainers (x ∷ xs)
    go true f =
        let (k, few) = held (eqb x.kind 1) (five_whole x.payload.count) f in
        let one = eqb-true x.kind 1 k in
        such_behind x one (five-whole x.payload.count few) xs (look_container none_seen x) (rw one) (rw f) h
    go false f = stages.lost look_container stays stops xs (look_container none_seen x) (rw f) h

pub seen_such : (xs : List Container) → SuchContainers xs → Over none_seen xs
unfolding folded look_container next_container
seen_such xs (command_response {c} {r} kc fc kr fr) = rw (kc, whole_five c.payload.count fc, kr, whole_five r.payload.count fr)
seen_such xs (command_data_response {c} {x} {r} kc fc kx cx kr fr) = rw (kc, whole_five c.payload.count fc, kx, cx, eq-eqb c.code c.code refl, kr, whole_five r.payload.count fr)

-- ── all have one number exactly where `same` says so ──

abbrev number : Container → ℕ
number x = x.number

pub numbers_exactly : {xs : List Container} → SuchContainers xs → ((folded look_container none_seen xs).same ≡ true) ↔ OneNumber number xs
unfolding look_container
numbers_exactly (command_response {c} {r} kc fc kr fr) = one_number_exactly number (λ x. eqb x.kind 1) look_container (λ t x. refl) (λ t x. refl) c (r ∷ []) (rw kc) (rw kr, tt)
numbers_exactly (command_data_response {c} {x} {r} kc fc kx cx kr fr) = one_number_exactly number (λ x. eqb x.kind 1) look_container (λ t x. refl) (λ t x. refl) c (x ∷ r ∷ []) (rw kc) (rw kx, (rw kr, tt))

-- ── what was said, taken apart ──

to_parts : (d : Direction) (s : List ℕ) (t : Seen) (p : List ℕ) → to_judged d s t ≡ says p → (is_answered t.stage ≡ true) × (t.same ≡ true) × (p ≡ tidy_word d (seen_in s t (part_of s t.payload)))
unfolding to_judged
to_parts d s t p e = go (is_answered t.stage) refl t.same refl e
  where
    go : (a : Bool) → is_answered t.stage ≡ a → (b : Bool) → t.same ≡ b → pick a (pick b (says (tidy_word d (seen_in s t (part_of s t.payload)))) (no (bare TID))) (no (bare TRANSACTION)) ≡ says p →
        (is_answered t.stage ≡ true) × (t.same ≡ true) × (p ≡ tidy_word d (seen_in s t (part_of s t.payload)))
    go true x true y e = (x, y, cc)
    go true x false y e = zero_one (cc)
    go false x b y e = zero_one (cc)

to_items : (d : Direction) (s p : List ℕ) → to_said d s ≡ says p → (xs : List Container) × (m : ℕ) × (items_in container_at s ≡ got xs m) × (to_judged d s (folded look_container none_seen xs) ≡ says p)
unfolding to_said means
to_items d s p e = go (items_in container_at s) refl e
  where
    go : (y : Answer (List Container)) → items_in container_at s ≡ y → said_or (means (λ xs. to_judged d s (folded look_container none_seen xs)) y) ≡ says p →
        (xs : List Container) × (m : ℕ) × (items_in container_at s ≡ got xs m) × (to_judged d s (folded look_container none_seen xs) ≡ says p)
    go (got xs m) f e = (xs, m, f, e)
    go (refused t) f e = zero_one (cc)

-- ── sound ──

params_of : {s : List ℕ} {at n : ℕ} (x : Container) → FiveWhole x.payload.count → Boxed s at x n → Params (part_of s x.payload)
params_of x (few, whole) b = record { bytes = b.bytes; few = omega (arith, b.long, few); whole = ap (λ n. n % 4) b.long ∙ whole }

module _ (d : Direction) (s : List ℕ) (h : Bytes s) (p : List ℕ) where
  abbrev Sound : Type 0
  Sound = (t : Transaction) × Containers s t × (p ≡ tidy_word d t)

  sound_bare : (c r : Container) (m : ℕ) → c.kind ≡ 1 → FiveWhole c.payload.count → r.kind ≡ 3 → FiveWhole r.payload.count → items_from container_at (length s) s 0 ≡ got (c ∷ r ∷ []) m →
      OneNumber number (c ∷ r ∷ []) → p ≡ tidy_word d (seen_in s (folded look_container none_seen (c ∷ r ∷ [])) (part_of s (folded look_container none_seen (c ∷ r ∷ [])).payload)) → Sound
  unfolding folded look_container containers_word data_container
  sound_bare c r m kc fc kr fr e same is =
      let (n1, h1, r1, e1) = items_cons container_at s (length s) 0 e in
      let (n2, h2, r2, e2) = items_cons container_at s (length s - 1) n1 e1 in
      let b1 = accepted (Boxed s 0) (container-word s h 0) r1 in
      let b2 = accepted (Boxed s n1) (container-word s h n1) r2 in
      let l1 = container_length c.kind c.code c.number (part_of s c.payload) in
      let l2 = container_length r.kind r.code r.number (part_of s r.payload) in
      let over = items_nil container_at s (length s - 1 - 1) n2 (omega (arith, b1.stands.till, b2.stands.till, l1, l2)) e2 in
      let word = filled (join b1.stands b2.stands) over in
      let num = same.0 in
      let t : Transaction = record { code = c.code; number = c.number; params = part_of s c.payload; payload = none; response = r.code; results = part_of s r.payload } in
      let seen : seen_in s (folded look_container none_seen (c ∷ r ∷ [])) (part_of s (folded look_container none_seen (c ∷ r ∷ [])).payload) ≡ t = rw (kc, kr) in
      let c1 = container_word 1 c.code c.number (part_of s c.payload) in
      let c3 = container_word 3 r.code c.number (part_of s r.payload) in
      let words : s ≡ c1 ++ c3 = word ∙ cc (kc, kr, num) in (
        t,
        record {
          fits = record { code = b1.code; number = b1.number; params = params_of c fc b1; payload = tt; response = b2.code; results = params_of r fr b2 };
          word = words ∙ ap (λ w. w ++ c3) (sym (append-nil c1));
        },
        is ∙ ap (tidy_word d) seen,
      )

  sound_loaded : (c x r : Container) (m : ℕ) → c.kind ≡ 1 → FiveWhole c.payload.count → x.kind ≡ 2 → x.code ≡ c.code → r.kind ≡ 3 → FiveWhole r.payload.count → items_from container_at (length s) s 0 ≡ got (c ∷ x ∷ r ∷ []) m →
      OneNumber number (c ∷ x ∷ r ∷ []) → p ≡ tidy_word d (seen_in s (folded look_container none_seen (c ∷ x ∷ r ∷ [])) (part_of s (folded look_container none_seen (c ∷ x ∷ r ∷ [])).payload)) → Sound
  unfolding folded look_container containers_word data_container
  sound_loaded c x r m kc fc kx cx kr fr e same is =
      let (n1, h1, r1, e1) = items_cons container_at s (length s) 0 e in
      let (n2, h2, r2, e2) = items_cons container_at s (length s - 1) n1 e1 in
      let (n3, h3, r3, e3) = items_cons container_at s (length s - 1 - 1) n2 e2 in
      let b1 = accepted (Boxed s 0) (container-word s h 0) r1 in
      let b2 = accepted (Boxed s n1) (container-word s h n1) r2 in
      let b3 = accepted (Boxed s n2) (container-word s h n2) r3 in
      let l1 = container_length c.kind c.code c.number (part_of s c.payload) in
      let l2 = container_length x.kind x.code x.number (part_of s x.payload) in
      let l3 = container_length r.kind r.code r.number (part_of s r.payload) in
      let over = items_nil container_at s (length s - 1 - 1 - 1) n3 (omega (arith, b1.stands.till, b2.stands.till, b3.stands.till, l1, l2, l3)) e3 in
      let word = filled (join (join b1.stands b2.stands) b3.stands) over in
      let num2 = same.0 in
      let num = same.1.0 in
      let t : Transaction = record { code = c.code; number = c.number; params = part_of s c.payload; payload = some (part_of s x.payload); response = r.code; results = part_of s r.payload } in
      let seen : seen_in s (folded look_container none_seen (c ∷ x ∷ r ∷ [])) (part_of s (folded look_container none_seen (c ∷ x ∷ r ∷ [])).payload) ≡ t = rw (kc, kx, kr) in
      let c1 = container_word 1 c.code c.number (part_of s c.payload) in
      let c2 = container_word 2 c.code c.number (part_of s x.payload) in
      let c3 = container_word 3 r.code c.number (part_of s r.payload) in
      let words : s ≡ c1 ++ c2 ++ c3 = word ∙ cc (kc, kx, kr, num, num2, cx) in (
        t,
        record {
          fits = record { code = b1.code; number = b1.number; params = params_of c fc b1; payload = (b2.bytes, omega (arith, b2.long, b2.small)); response = b3.code; results = params_of r fr b3 };
          word = words;
        },
        is ∙ ap (tidy_word d) seen,
      )

  pub to_sound : to_said d s ≡ says p → Sound
  unfolding items_in
  to_sound e =
      let (xs, m, row, of) = to_items d s p e in
      let parts = to_parts d s (folded look_container none_seen xs) p of in
      let such = such_seen xs parts.0 in
      go xs m row such ((numbers_exactly such).0 parts.1) parts.2
    where
      go : (xs : List Container) (m : ℕ) → items_from container_at (length s) s 0 ≡ got xs m → SuchContainers xs → OneNumber number xs →
          p ≡ tidy_word d (seen_in s (folded look_container none_seen xs) (part_of s (folded look_container none_seen xs).payload)) → Sound
      go xs m row (command_response {c} {r} kc fc kr fr) same is = sound_bare c r m kc fc kr fr row same is
      go xs m row (command_data_response {c} {x} {r} kc fc kx cx kr fr) same is = sound_loaded c x r m kc fc kx cx kr fr row same is
