-- Paths: each by its parent's, as the code makes them; how long they can be; and many end to end, one at a time.
-- Assumes nothing.
use mathlib.Core.Path.{◌≡◌, refl, sym, ap, ◌∙◌}
use mathlib.Core.Bool.{true, false}
use mathlib.Core.List.{List, [], ◌∷◌, ◌++◌}
use Prim.Native.Nat.{ℕ, zero, suc, ◌+◌, ◌-◌, ◌*◌, ◌≤◌, ◌<◌}
use native.Mathlib.Nat.{not-suc-le-zero}
use native.Mathlib.Numerals.{sub-one}
use native.Mathlib.Omega.{arith}
use borrow.Author.Tests.{eq-eqb, ne_eqb}
use lib.Dec.{eqb}
use lib.ListN.{length, get_or, take, drop, length-append}
use Rattle.layout.specs.Answer.{Told, got, refused, bare, pick, means}
use Rattle.layout.specs.Bytes.{Bytes}
use Rattle.layout.specs.Written.{says, no, Put, spelling, roomed}
use Rattle.layout.proofs.laws.Numbers.{Bytes-take, Bytes-drop}
use Rattle.layout.proofs.laws.Tidied.{measured, unmeasured}
use Rattle.layout.proofs.laws.Writing.{then_roomy}
use Rattle.layout.specs.Refusals.{PLACE}
use Rattle.wire.specs.Utf8.{utf8_at}
use Rattle.wire.proofs.laws.Points.{utf8_short}
use Rattle.tree.specs.Facts.{Ruled}
use Rattle.tree.specs.Table.{Table, rows, stops, flags, live, table_at, parent, start_of, end_of, name_bytes}
use Rattle.tree.specs.Path.{name_of, slash_after, path_of, path_said}
use Rattle.tree.proofs.laws.Counts.{equal}
use Rattle.tree.proofs.laws.Ways.{at_root, by_parent}

-- ── names ──

pub start_behind : (es : List ℕ) (k : ℕ) → (k ≡ 0 → ⊥) → get_or es (k - 1) 0 ≡ start_of es k
start_behind es zero e = absurd (e refl)
start_behind es (suc k) e = rw sub-one

-- where `from` is the start, the part up to the end is the name
module _ (es ns : List ℕ) (k from : ℕ) (start : from ≡ start_of es k) where
  pub name_is : spelling (utf8_at (take (end_of es k - from) (drop from ns)) 0) ≡ name_of es ns k
  unfolding name_of
  name_is = rw start

  pub name_size : (t n : ℕ) → got t n ≡ means length (utf8_at (take (end_of es k - from) (drop from ns)) 0) → t ≡ length (name_of es ns k)
  name_size t n e = (measured _ t n e).1 ∙ ap length name_is

  pub name_none : (t : Told) → refused t ≡ means length (utf8_at (take (end_of es k - from) (drop from ns)) 0) → 0 ≡ length (name_of es ns k)
  name_none t e = ap (λ a. length (spelling a)) (sym (unmeasured _ t e)) ∙ ap length name_is

name_few : (es ns : List ℕ) → Bytes ns → (k : ℕ) → length (name_of es ns k) ≤ 1016
unfolding name_of
name_few es ns h k = utf8_short (name_bytes es ns k) (Bytes-take (end_of es k - start_of es k) (drop (start_of es k) ns) (Bytes-drop (start_of es k) ns h)) 0

-- ── slashes ──

slash_none : (path : List ℕ) → length path ≡ 0 → slash_after path ≡ []
slash_none [] e = refl
slash_none (b ∷ path) e = absurd (omega arith)

slash_some : (path : List ℕ) → (length path ≡ 0 → ⊥) → slash_after path ≡ 0x2F ∷ []
slash_some [] e = absurd (e refl)
slash_some (b ∷ path) e = refl

slash_few : (path : List ℕ) → length (slash_after path) ≤ 1
slash_few [] = omega arith
slash_few (b ∷ path) = omega arith

-- it goes by the place after the path
slash_is : (path : List ℕ) (o a : ℕ) → a ≡ o + length path → pick (eqb a o) [] (0x2F ∷ []) ≡ slash_after path
slash_is path o a e =
    equal a o
    (λ q. rw (eq-eqb a o q) (sym (slash_none path (omega arith))))
    (λ q. rw (ne_eqb a o q) (sym (slash_some path (λ z. q (omega arith)))))

pub then_slash : {old mid new path : List ℕ} {o a b : ℕ} → Put old o path mid a → Put mid a (roomed mid a (pick (eqb a o) [] (0x2F ∷ []))) new b
    → length path + length (slash_after path) ≤ length old - o → Put old o (path ++ slash_after path) new b
then_slash {old} {mid} {new} {path} {o} {a} {b} p q h = then_roomy (slash_after path) p (rw (slash_is path o a p.place) at q) h

-- ── a path by its parent's ──

module _ (ps es ns : List ℕ) where
  pub path_root : (k : ℕ) → k ≡ 0 → path_of ps es ns k ≡ name_of es ns 0
  unfolding path_of
  path_root k e = at_root _ _ ps k e

  module _ (rule : Ruled ps) where
    pub path_step : (k : ℕ) → (k ≡ 0 → ⊥) → k < length ps
        → path_of ps es ns k ≡ path_of ps es ns (parent ps k) ++ slash_after (path_of ps es ns (parent ps k)) ++ name_of es ns k
    unfolding path_of
    path_step k e l = by_parent _ _ ps rule k (omega arith) l

    module _ (k : ℕ) (e : k ≡ 0 → ⊥) (l : k < length ps) where
      pub size_step : length (path_of ps es ns k) ≡ length (path_of ps es ns (parent ps k)) + length (slash_after (path_of ps es ns (parent ps k))) + length (name_of es ns k)
      size_step = rw (path_step k e l) (simp length-append)

      pub size_alone : length (path_of ps es ns (parent ps k)) ≡ 0 → length (name_of es ns k) ≡ length (path_of ps es ns k)
      size_alone z = omega (arith, size_step, ap length (slash_none (path_of ps es ns (parent ps k)) z))

      pub size_joined : (length (path_of ps es ns (parent ps k)) ≡ 0 → ⊥) → length (path_of ps es ns (parent ps k)) + 1 + length (name_of es ns k) ≡ length (path_of ps es ns k)
      size_joined z = omega (arith, size_step, ap length (slash_some (path_of ps es ns (parent ps k)) z))

    -- a name and a slash for each place down to it
    path_few : Bytes ns → (f k : ℕ) → k < f → k < length ps → length (path_of ps es ns k) ≤ (k + 1) * 1017
    path_few h zero k j l = absurd (not-suc-le-zero j)
    path_few h (suc f) k j l =
        equal k 0
        (λ e. omega (arith, ap length (path_root k e), name_few es ns h 0))
        (λ e. let less = rule.smaller k (omega arith) l in
        omega (arith, size_step k e l, slash_few (path_of ps es ns (parent ps k)), name_few es ns h k, path_few h f (parent ps k) (omega arith) (omega arith)))

    -- at most 1,024 of them
    pub path_short : Bytes ns → (k : ℕ) → k < length ps → length (path_of ps es ns k) ≤ 1041408
    path_short h k l = let few = rule.few in omega (arith, path_few h (suc k) k (omega arith) l)

-- ── what is said of a path ──

module _ (t : Table) (k : ℕ) where
  pub said_table : {why : Told} → refused why ≡ table_at t → path_said t k ≡ no why
  unfolding path_said
  said_table e = rw (← e)

  pub said_absent : {n : ℕ} → got tt n ≡ table_at t → live (flags t) k ≡ false → path_said t k ≡ no (bare PLACE)
  unfolding path_said
  said_absent e h = rw (← e, h)

  pub said_path : {n : ℕ} → got tt n ≡ table_at t → live (flags t) k ≡ true → path_said t k ≡ says (path_of (rows t) (stops t) t.names k)
  unfolding path_said
  said_path e h = rw (← e, h)
