-- A list by meaning. Two words of one type have the same core exactly where their values are equal: what is no string has one word, and a string's core is the
-- word of its units. So a list that is gone through step by step, core by core, has the chosen value exactly where it is a member.
-- Assumes nothing.
use Rattle.std.proofs.Common.{◌≡◌, ℕ, zero, suc, ◌+◌, ◌-◌, ◌*◌, ◌<◌, ◌≤◌, Bool, true, false, eqb, ltb, List, [], ◌∷◌, ◌++◌, length, take, drop, sym, refl, ap, ◌∙◌, subst, arith, length-append, take_at, drop_at, Bor, le-ltb, lt-ltb, ne_eqb, eqb-true}
use borrow.Author.Tests.{eqb-false}
use Rattle.layout.specs.Answer.{Answer, got, refused, pick}
use Rattle.layout.specs.Bytes.{cells}
use Rattle.layout.specs.Codec.{celled}
use Rattle.layout.specs.Grammar.{loose, Number, empty, lead, such, as', both, Repeat, Spare}
use Rattle.layout.proofs.laws.Make.{num_size, cells_size, cells_format, repeat_length}
use Rattle.layout.proofs.laws.Single.{single_number, single_repeat}
use Rattle.layout.proofs.laws.Numbers.{zero_one}
use Rattle.layout.proofs.laws.Words.{self}
use Rattle.wire.specs.Codecs.{value}
use Rattle.wire.specs.Layout.{Text, string, Shaped, Val, str, Value}
use Rattle.wire.specs.List.{next, end, stepped, step_at, says_step}
use Rattle.wire.specs.Places.{Located, value_at}
use Rattle.wire.specs.Worded.{Worded, Yields, ended, yields}
use Rattle.std.specs.declared.option.Option.{Option}
use Rattle.wire.specs.declared.list.Step.{Step}
use Rattle.wire.proofs.laws.Formats.{value_format, own_word}
use Rattle.panel.specs.Test.{val_discrete, decided, is_member}
use Rattle.panel.specs.Words.{core_of, rest}

-- ── two words of one type ──

-- one word has one value
one_value : (t : ℕ) (w : List ℕ) (v v' : Val) → Value t loose w v → Value t loose w v' → v ≡ v'
one_value t w v v' g h =
    let a = (value_format t).complete (self w) g in
    let b = (value_format t).complete (self w) h in
    cc

-- a string's core: so many units
abbrev text_core : List ℕ → List ℕ
text_core w = pick (ltb (length w) 3) [] (take (length w - 3) (drop 1 w))

spare_size : (w : List ℕ) (x : Unit {0}) → Spare 2 loose w x → length w ≡ 2
spare_size w x (lead {u} {a} g e empty) = omega (arith, length-append u [], (num_size 2 u a g).0)

text-core : (w us : List ℕ) → Text loose w us → (m : ℕ) × Repeat m (Number 2) loose (text_core w) us
text-core w us (lead {u} {v} {a = zero} g e empty) =
    let short : ltb (length (u ++ [])) 3 ≡ true = lt-ltb (length (u ++ [])) 3 (omega (arith, length-append u [], (num_size 1 u 0 g).0)) in
    (0, rw short empty)
text-core w us (lead {u} {v} {a = suc m} g e (such p (as' (both {u = x} {v = y} {a} {b} q k)))) =
    let one : length u ≡ 1 = (num_size 1 u (suc m) g).0 in
    let many : length x ≡ m * 2 = (cells_size 2 m x a q).0 in
    let size : length (u ++ (x ++ y)) ≡ m * 2 + 3 = omega (arith, length-append u (x ++ y), length-append x y, spare_size y b k) in
    let long : ltb (length (u ++ (x ++ y))) 3 ≡ false = le-ltb (length (u ++ (x ++ y))) 3 (omega arith) in
    let less : m * 2 + 3 - 3 ≡ m * 2 = omega arith in
    (m, rw (long, size, less, drop_at u (x ++ y) 1 one, take_at x y (m * 2) many) q)

units_same : (c us : List ℕ) (m : ℕ) → Repeat m (Number 2) loose c us → (c' us' : List ℕ) (m' : ℕ) → Repeat m' (Number 2) loose c' us' → (c ≡ c' → us ≡ us') × (us ≡ us' → c ≡ c')
units_same c us m g c' us' m' h =
    let size = cells_size 2 m c us g in
    let size' = cells_size 2 m' c' us' h in
    let word : c ≡ (celled 2 m).write us = (cells_format 2 m).one (single_repeat (Number 2) m (single_number 2) c us g) in
    let word' : c' ≡ (celled 2 m').write us' = (cells_format 2 m').one (single_repeat (Number 2) m' (single_number 2) c' us' h) in (
      λ e. let same : m ≡ m' = omega (arith, ap length e, size.0, size'.0) in sym size.1 ∙ ap (λ n. cells 2 n c) same ∙ ap (cells 2 m') e ∙ size'.1,
      λ e.
          let same : m ≡ m' = omega (arith, ap length e, repeat_length (Number 2) loose m c us g, repeat_length (Number 2) loose m' c' us' h) in
          word ∙ ap (λ n. (celled 2 n).write us) same ∙ ap (celled 2 m').write e ∙ sym word',
    )

text_same : (w w' : List ℕ) (v v' : Val) → Shaped string loose w v → Shaped string loose w' v' → (text_core w ≡ text_core w' → v ≡ v') × (v ≡ v' → text_core w ≡ text_core w')
text_same w w' v v' (as' {a = us} g) (as' {a = us'} h) =
    let a = text-core w us g in
    let b = text-core w' us' h in
    let s = units_same (text_core w) us a.0 a.1 (text_core w') us' b.0 b.1 in
    (λ e. ap str (s.0 e), λ e. s.1 (cc))

pub same_core : (t : ℕ) (w w' : List ℕ) (v v' : Val) → Value t loose w v → Value t loose w' v' → (core_of t w ≡ core_of t w' → v ≡ v') × (v ≡ v' → core_of t w ≡ core_of t w')
unfolding core_of
same_core t w w' v v' g h = go (eqb t 0xFFFF) refl
  where
    at_string : (u : List ℕ) (x : Val) → t ≡ 0xFFFF → Value t loose u x → Shaped string loose u x
    at_string u x e k = subst (λ n. Value n loose u x) e k

    go : (b : Bool) → eqb t 0xFFFF ≡ b → (pick b (text_core w) w ≡ pick b (text_core w') w' → v ≡ v') × (v ≡ v' → pick b (text_core w) w ≡ pick b (text_core w') w')
    go true e = let is = eqb-true t 0xFFFF e in text_same w w' v v' (at_string w v is g) (at_string w' v' is h)
    go false e =
        let other = eqb-false t 0xFFFF e in
        (λ f. one_value t w v v' g (subst (λ u. Value t loose u v') (sym f) h), λ f. own_word t other w v g ∙ ap (value t).write f ∙ sym (own_word t other w' v' h))

-- ── a step of a list ──

module _ (t : ℕ) (s : List ℕ) where
  -- the list gives these values from here on
  abbrev pub Here : ℕ → ℕ → List Val → Type 0
  Here at left vs = (r : Bor (List ℕ)) × (r.now ≡ s) × Yields t s (rest r t at left) vs

  pub record Turn (at : ℕ) (vs : List Val) (n left : ℕ) : Type 0 where
    pub first : Val
    pub others : List Val
    pub is : vs ≡ first ∷ others
    pub ahead : at ≤ n
    pub word : Worded (Value t) s (record { start = at; len = n - at }) first
    pub here : Here n left others

  pub turn : (at left : ℕ) (vs : List Val) → Here at left vs → (q : Option Step) → says_step q ≡ step_at s t at left 0 → (x : Located) (n l : ℕ) → says_step q ≡ next x n l → Turn at vs n l
  turn at left vs h q p x n l f = go h.0 h.1 vs h.2
    where
      go : (r : Bor (List ℕ)) → r.now ≡ s → (vs : List Val) → Yields t s (rest r t at left) vs → Turn at vs n l
      go r e vs (ended over) = let z : says_step q ≡ end = over q (rw e p) in zero_one (cc)
      go r e vs (yields {len} {rest = less} {v} {vs = others} word step moved) =
          let k = step q (rw e p) in
          let same : next x n l ≡ next k.0 (at + len) less = sym f ∙ k.1 in
          let till : n ≡ at + len = cc in
          let left : l ≡ less = cc in
          let size : n - at ≡ len = omega arith in
          record {
            first = v;
            others = others;
            is = refl;
            ahead = omega arith;
            word = rw size word;
            here = (r, e, rw (till, left) (moved (rest r t (at + len) less) (refl, refl, refl, refl, refl)));
          }

  pub over : (at left : ℕ) (vs : List Val) → Here at left vs → (q : Option Step) → says_step q ≡ step_at s t at left 0 → says_step q ≡ end → vs ≡ []
  over at left vs h q p f = go h.0 h.1 vs h.2
    where
      go : (r : Bor (List ℕ)) → r.now ≡ s → (vs : List Val) → Yields t s (rest r t at left) vs → vs ≡ []
      go r e vs (ended over) = refl
      go r e vs (yields {len} {rest = less} word step moved) = let k = step q (rw e p) in let same : end ≡ next k.0 (at + len) less = sym f ∙ k.1 in zero_one (cc)

  pub fewer : (at left : ℕ) (x : Located) (n l : ℕ) → next x n l ≡ step_at s t at left 0 → l < left
  unfolding step_at
  fewer at zero x n l e = zero_one (cc)
  fewer at (suc m) x n l e = go (value_at t s at) (rw (ne_eqb (suc m) 0 (λ z. omega arith)) at e)
    where
      go : (y : Answer Located) → next x n l ≡ stepped (suc m) y → l < suc m
      go (got v k) e = let is : l ≡ suc m - 1 = cc in omega arith
      go (refused u) e = zero_one (cc)

-- ── members one by one ──

pub decided_yes : {A : Type 0} (d : Dec A) → A → decided d ≡ true
decided_yes (yes p) a = refl
decided_yes (no f) a = absurd (f a)

decided_no : {A : Type 0} (d : Dec A) → (A → ⊥) → decided d ≡ false
decided_no (yes p) f = absurd (f p)
decided_no (no f) g = refl

pub member_here : (v w : Val) (ws : List Val) → v ≡ w → is_member v (w ∷ ws) ≡ true
unfolding is_member
member_here v w ws e = rw (decided_yes (val_discrete v w) e)

pub member_later : (v w : Val) (ws : List Val) → (v ≡ w → ⊥) → is_member v (w ∷ ws) ≡ is_member v ws
unfolding is_member
member_later v w ws f = rw (decided_no (val_discrete v w) f)

-- ── a list gone through, from its first value on ──

module _ (t : ℕ) (s chosen : List ℕ) (first count : ℕ) where
  -- some values are left, and the chosen one is a member of the whole list exactly where it is one of them
  abbrev pub Seeks : ℕ → ℕ → Type 0
  Seeks at left =
      ((vs : List Val) × Here t s at left vs)
      × ((vs : List Val) (v : Val) → Here t s first count vs → Value t loose chosen v → (ws : List Val) × Here t s at left ws × (is_member v vs ≡ is_member v ws))

  -- what is answered of the whole
  abbrev pub Answers : Bool → Type 0
  Answers r = (vs : List Val) (v : Val) → Here t s first count vs → Value t loose chosen v → r ≡ is_member v vs

  module _ (at left : ℕ) (seeks : Seeks at left) (q : Option Step) (p : says_step q ≡ step_at s t at left 0) where
    pub none_left : says_step q ≡ end → Answers false
    unfolding is_member
    none_left f vs v h g =
        let i = seeks.1 vs v h g in
        sym (i.2 ∙ ap (is_member v) (over t s at left i.0 i.1 q p f))

    module _ (x : Located) (n l : ℕ) (f : says_step q ≡ next x n l) where
      pub within : (at ≤ n) × (n ≤ length s)
      within =
          let k = turn t s at left seeks.0.0 seeks.0.1 q p x n l f in
          (k.ahead, omega (arith, k.ahead, k.word.within))

      pub hit : core_of t (take (n - at) (drop at s)) ≡ core_of t chosen → Answers true
      hit e vs v h g =
          let i = seeks.1 vs v h g in
          let k = turn t s at left i.0 i.1 q p x n l f in
          let same : v ≡ k.first = sym ((same_core t _ chosen k.first v k.word.reads g).0 e) in
          sym (i.2 ∙ ap (is_member v) k.is ∙ member_here v k.first k.others same)

      pub miss : (core_of t (take (n - at) (drop at s)) ≡ core_of t chosen → ⊥) → Seeks n l
      miss e = (
        (let k = turn t s at left seeks.0.0 seeks.0.1 q p x n l f in (k.others, k.here)),
        λ vs v h g.
            let i = seeks.1 vs v h g in
            let k = turn t s at left i.0 i.1 q p x n l f in
            (k.others, k.here, i.2 ∙ ap (is_member v) k.is ∙ member_later v k.first k.others (λ same. e ((same_core t _ chosen k.first v k.word.reads g).1 (sym same)))),
      )
