-- A table is accepted exactly when it keeps the rule and each name is read: by induction over the names.
-- Assumes nothing.
use mathlib.Core.Path.{◌≡◌, sym, ap, subst, ◌∙◌}
use mathlib.Core.List.{List}
use Prim.Native.Nat.{ℕ, zero, suc, ◌+◌, ◌≤◌, ◌<◌}
use native.Mathlib.Nat.{le_refl}
use native.Mathlib.Omega.{arith}
use lib.ListN.{length}
use Rattle.layout.specs.Answer.{got, bare, after}
use Rattle.layout.specs.Refusals.{TABLE}
use Rattle.layout.proofs.laws.Reading.{parted, picked, one_got}
use Rattle.tree.specs.Table.{Table, stops, table_ok, name_bytes, name_at, names_from, table_at}
use Rattle.tree.specs.Rule.{Rule}
use Rattle.tree.proofs.laws.Counts.{equal}
use Rattle.tree.proofs.laws.Ruled.{name_cut, rule_ok, ok_rule}
use Rattle.tree.proofs.laws.Sound.{sound, stops_long}

-- a name that is read
abbrev pub Read : List ℕ → Type 0
Read s = (n : ℕ) × (name_at s ≡ got tt n)

module _ (es ns : List ℕ) where
  pub names_got : (m k n : ℕ) → names_from k m es ns ≡ got tt n → (n ≡ k + m) × ((j : ℕ) → k ≤ j → j < k + m → Read (name_bytes es ns j))
  unfolding names_from
  names_got zero k n e = (omega (arith, (one_got e).1), λ j a b. absurd (omega arith))
  names_got (suc m) k n e =
      let x = parted (name_at (name_bytes es ns k)) _ e in
      let y = names_got m (suc k) n x.3 in (
        omega (arith, y.0),
        λ j a b. equal j k (λ z. subst (λ i. Read (name_bytes es ns i)) (sym z) (x.1, x.2)) (λ z. y.1 j (omega arith) (omega arith)),
      )

  pub names_all : (m k : ℕ) → ((j : ℕ) → k ≤ j → j < k + m → Read (name_bytes es ns j)) → names_from k m es ns ≡ got tt (k + m)
  unfolding names_from after
  names_all zero k f = ap (got tt) (omega arith)
  names_all (suc m) k f =
      let x = f k (le_refl k) (omega arith) in
      rw x.1 (names_all m (suc k) (λ j a b. f j (omega arith) (omega arith)) ∙ ap (got tt) (omega arith))

module _ (t : Table) where
  pub whole_name : (k : ℕ) → k < t.count → name_bytes (stops t) t.names k ≡ name_bytes t.ends t.names k
  whole_name k l = name_cut t.count t.ends t.names k l

  pub table_got : {n : ℕ} → table_at t ≡ got tt n → (n ≡ t.count) × Rule t × ((k : ℕ) → k < t.count → Read (name_bytes t.ends t.names k))
  unfolding table_at
  table_got {n} e =
      let x = picked (table_ok t) _ (bare TABLE) e in
      let y = names_got (stops t) t.names (length (stops t)) 0 n x.1 in
      let l = stops_long (sound t x.0) in
      (omega (arith, y.0), ok_rule t x.0, λ k b. subst Read (whole_name k b) (y.1 k (omega arith) (omega arith)))

  pub table_all : Rule t → ((k : ℕ) → k < t.count → Read (name_bytes t.ends t.names k)) → table_at t ≡ got tt t.count
  unfolding table_at
  table_all r f =
      let l = stops_long (sound t (rule_ok t r)) in
      let y = names_all (stops t) t.names (length (stops t)) 0 (λ j a b. subst Read (sym (whole_name j (omega arith))) (f j (omega arith))) in
      rw (rule_ok t r) (y ∙ ap (got tt) (omega arith))
