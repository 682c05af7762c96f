-- A table is accepted exactly when it keeps the rule and each name is, wholly, a string of the grammar; and which refusal where it is not.
-- Assumes nothing.
use mathlib.Core.Path.{◌≡◌, refl, sym, ap, subst, ◌∙◌}
use mathlib.Core.Bool.{Bool, true, false}
use mathlib.Core.List.{List}
use mathlib.Core.Logic.{◌↔◌, ◌⊎◌, inl, inr}
use Prim.Native.Nat.{ℕ, zero, suc, ◌+◌, ◌-◌, ◌≤◌, ◌<◌}
use native.Mathlib.Nat.{zero-add, le_refl}
use native.Mathlib.Omega.{arith}
use borrow.Author.Tests.{eq-eqb, ne_eqb, eqb-true, eqb-false}
use lib.Dec.{eqb}
use lib.ListN.{length, drop}
use lib.Seq.{take_all}
use Rattle.layout.specs.Answer.{Told, Answer, got, refused, bare, end_at, bad_text, pick, after}
use Rattle.layout.specs.Bytes.{Bytes}
use Rattle.layout.specs.Faithful.{Exact}
use Rattle.layout.specs.Fault.{Ends, BadText, Refuses}
use Rattle.layout.specs.Refusals.{TRAIL, TABLE}
use Rattle.layout.specs.Spot.{Here, Points}
use Rattle.layout.proofs.laws.Decided.{refuses_exactly}
use Rattle.layout.proofs.laws.Meets.{reads_exactly, filled}
use Rattle.layout.proofs.laws.Numbers.{zero_one, Bytes-take, Bytes-drop}
use Rattle.layout.proofs.laws.Reading.{parted, picked, one_got}
use Rattle.layout.proofs.laws.Spotted.{points_exactly}
use Rattle.wire.specs.Faults.{TextFault}
use Rattle.wire.specs.Layout.{Text}
use Rattle.wire.specs.Places.{text_at, items_in}
use Rattle.wire.specs.declared.Part.{Part}
use Rattle.wire.proofs.laws.Formats.{text_format}
use Rattle.wire.proofs.laws.Grounds.{text_faults, text_spotted}
use Rattle.wire.proofs.laws.Located.{texts}
use Rattle.tree.specs.Table.{Table, stops, start_of, end_of, table_ok, name_bytes, name_at, names_from, table_at}
use Rattle.tree.specs.Rule.{Rule, Name, Named, NameRefused, cut, unpaired, trailed, TableRefused, broken, unnamed}
use Rattle.tree.proofs.laws.Accepted.{whole_name, table_got, table_all}
use Rattle.tree.proofs.laws.Counts.{equal}
use Rattle.tree.proofs.laws.Ruled.{rule_ok, ok_rule}
use Rattle.tree.proofs.laws.Sound.{sound, stops_long}

-- ── one name ──

module _ (s : List ℕ) (h : Bytes s) where
  reads : Exact Text (items_in 2 s) s (text_at s 0)
  reads = reads_exactly text_format texts s h (text_at s 0) refl

  blames : Refuses Text TextFault s (text_at s 0)
  blames = refuses_exactly text_format text_faults texts s h 0 (text_at s 0) refl

  spots : Points TextFault (Here Text) s 0 (text_at s 0)
  spots = points_exactly text_format text_faults text_spotted texts s h 0 (text_at s 0) refl

  -- the name's answer by the string's
  read_all : (p : Part) (n : ℕ) → text_at s 0 ≡ got p n → length s ≡ n → name_at s ≡ got tt n
  unfolding name_at after
  read_all p n e l = rw (e, eq-eqb n (length s) (sym l))

  read_part : (p : Part) (n : ℕ) → text_at s 0 ≡ got p n → (n ≡ length s → ⊥) → name_at s ≡ refused (bare TRAIL)
  unfolding name_at after
  read_part p n e l = rw (e, ne_eqb n (length s) l)

  read_none : (why : Told) → text_at s 0 ≡ refused why → name_at s ≡ refused why
  unfolding name_at after
  read_none why e = rw e

  name_exact : (n : ℕ) → name_at s ≡ got tt n → (n ≡ length s) × Name s
  unfolding name_at
  name_exact n e =
      let x = parted (text_at s 0) _ e in
      let y = picked (eqb x.1 (length s)) (got tt x.1) (bare TRAIL) x.3 in
      let l : x.1 ≡ length s = eqb-true x.1 (length s) y.0 in
      let m : x.1 ≡ n = (one_got y.1).1 in
      (sym m ∙ l, (items_in 2 s x.0, filled (reads.accepts x.0 x.1 x.2) (omega arith)))

  name_read : Name s → name_at s ≡ got tt (length s)
  name_read (us, g) =
      let x = reads.reaches us (length s) (record { within = le_refl (length s); reads = rw (take_all (length s) s (le_refl (length s))) g }) in
      read_all x.0 (length s) x.1 refl

  name_refused : (why : Told) → name_at s ≡ refused why → NameRefused s why
  name_refused why e = go (text_at s 0) refl
    where
      -- which of the two, and where
      blamed : (w : Told) (q : ℕ) → Here Text s q → text_at s 0 ≡ refused w → Ends (text_at s 0) ⊎ BadText (text_at s 0) → NameRefused s w
      blamed w q there f (inl e) =
          let whole = (blames.ends.0 e).1 in
          let at = spots.end_there q there whole in
          let same : end_at (0 + q) ≡ w = cc in
          subst (NameRefused s) (ap end_at (sym (zero-add q)) ∙ same) (cut there whole)
      blamed w q there f (inr e) =
          let bad = blames.text.0 e in
          let at = spots.text_there q there bad in
          let same : bad_text (0 + q) ≡ w = cc in
          subst (NameRefused s) (ap bad_text (sym (zero-add q)) ∙ same) (unpaired there bad)

      go : (x : Answer Part) → text_at s 0 ≡ x → NameRefused s why
      go (got p n) f = part (eqb n (length s)) refl
        where
          part : (b : Bool) → eqb n (length s) ≡ b → NameRefused s why
          part true g = let all = read_all p n f (sym (eqb-true n (length s) g)) in zero_one (cc)
          part false g =
              let short = eqb-false n (length s) g in
              let trail = read_part p n f short in
              let same : bare TRAIL ≡ why = cc in
              let x = reads.accepts p n f in
              subst (NameRefused s) same (trailed x (omega (arith, short, x.within)))
      go (refused w) f = let no = read_none w f in let same : w ≡ why = cc in let (q, there) = spots.some w f in subst (NameRefused s) same (blamed w q there f (blames.either w f))

  refused_name : {why : Told} → NameRefused s why → name_at s ≡ refused why
  refused_name (cut {q} there not) = read_none (end_at q) (spots.end_there q there not ∙ ap (λ (p : ℕ). refused (end_at p)) (zero-add q))
  refused_name (unpaired {q} there bad) = read_none (bad_text q) (spots.text_there q there bad ∙ ap (λ (p : ℕ). refused (bad_text p)) (zero-add q))
  refused_name (trailed {us} {n} p l) = let x = reads.reaches us n p in read_part x.0 n x.1 (λ e. omega arith)

-- ── the names in their order ──

module _ (es ns : List ℕ) (h : Bytes ns) where
  part_bytes : (k : ℕ) → Bytes (name_bytes es ns k)
  part_bytes k = Bytes-take (end_of es k - start_of es k) (drop (start_of es k) ns) (Bytes-drop (start_of es k) ns h)

  -- each of the names from k up to n
  abbrev Each : ℕ → ℕ → Type 0
  Each k n = (j : ℕ) → k ≤ j → j < n → Name (name_bytes es ns j)

  names_refused : (m k : ℕ) (why : Told) → names_from k m es ns ≡ refused why → (j : ℕ) × (k ≤ j) × (j < k + m) × Each k j × NameRefused (name_bytes es ns j) why
  unfolding names_from after
  names_refused zero k why e = zero_one (cc)
  names_refused (suc m) k why e = go (name_at (name_bytes es ns k)) refl e (names_refused m (suc k) why)
    where
      go : (x : Answer (Unit {0})) → name_at (name_bytes es ns k) ≡ x → after x (λ _ _. names_from (suc k) m es ns) ≡ refused why
          → (names_from (suc k) m es ns ≡ refused why → (j : ℕ) × (suc k ≤ j) × (j < suc k + m) × Each (suc k) j × NameRefused (name_bytes es ns j) why)
          → (j : ℕ) × (k ≤ j) × (j < k + suc m) × Each k j × NameRefused (name_bytes es ns j) why
      go (got u n) f e rest =
          let y = rest e in (
            y.0,
            omega (arith, y.1),
            omega (arith, y.2),
            λ i a b. equal i k
                (λ z. subst (λ i. Name (name_bytes es ns i)) (sym z) (name_exact (name_bytes es ns k) (part_bytes k) n f).1)
                (λ z. y.3 i (omega arith) b),
            y.4,
          )
      go (refused w) f e rest = (k, le_refl k, omega arith, (λ i a b. absurd (omega arith)), name_refused (name_bytes es ns k) (part_bytes k) why (f ∙ e))

  names_stopped : (m k j : ℕ) {why : Told} → k ≤ j → j < k + m → Each k j → NameRefused (name_bytes es ns j) why → names_from k m es ns ≡ refused why
  unfolding names_from after
  names_stopped zero k j a b f g = absurd (omega arith)
  names_stopped (suc m) k j {why} a b f g =
      equal j k
      (λ z. let x = refused_name (name_bytes es ns k) (part_bytes k) (subst (λ i. NameRefused (name_bytes es ns i) why) z g) in rw x)
      (λ z. let x = name_read (name_bytes es ns k) (part_bytes k) (f k (le_refl k) (omega arith)) in
      rw x (names_stopped m (suc k) j (omega arith) (omega arith) (λ i c d. f i (omega arith) d) g))

-- ── the table ──

module _ (t : Table) (h : Bytes t.names) where
  pub table_exact : (n : ℕ) → table_at t ≡ got tt n ↔ ((n ≡ t.count) × Rule t × Named t t.count)
  table_exact n = (
    λ e. let x = table_got t e in (x.0, x.1, λ k b. let y = x.2 k b in (name_exact (name_bytes t.ends t.names k) (part_bytes t.ends t.names h k) y.0 y.1).1),
    λ x. table_all t x.1 (λ k b. (_, name_read (name_bytes t.ends t.names k) (part_bytes t.ends t.names h k) (x.2 k b))) ∙ ap (got tt) (sym x.0),
  )

  pub table_refused : (why : Told) → table_at t ≡ refused why ↔ TableRefused t why
  unfolding table_at
  table_refused why = (λ e. go (table_ok t) refl e, back)
    where
      go : (b : Bool) → table_ok t ≡ b → pick b (names_from 0 (length (stops t)) (stops t) t.names) (refused (bare TABLE)) ≡ refused why → TableRefused t why
      go false g e = let same : bare TABLE ≡ why = cc in subst (TableRefused t) same (broken (λ r. let ok = rule_ok t r in zero_one (cc)))
      go true g e =
          let y = names_refused (stops t) t.names h (length (stops t)) 0 why e in
          let l = stops_long (sound t g) in
          let k = y.0 in
          let b : k < t.count = omega (arith, y.2) in
          unnamed (ok_rule t g) b (λ i c. subst Name (whole_name t i (omega arith)) (y.3 i (omega arith) c)) (subst (λ s. NameRefused s why) (whole_name t k b) y.4)

      back : {why : Told} → TableRefused t why → pick (table_ok t) (names_from 0 (length (stops t)) (stops t) t.names) (refused (bare TABLE)) ≡ refused why
      back (broken f) = no (table_ok t) refl
        where
          no : (b : Bool) → table_ok t ≡ b → pick b (names_from 0 (length (stops t)) (stops t) t.names) (refused (bare TABLE)) ≡ refused (bare TABLE)
          no true g = absurd (f (ok_rule t g))
          no false g = refl
      back (unnamed {k} {why} r b f g) =
          let l = stops_long (sound t (rule_ok t r)) in
          let y = names_stopped (stops t) t.names h (length (stops t)) 0 k (omega arith) (omega arith)
          (λ i a c. subst Name (sym (whole_name t i (omega arith))) (f i c))
          (subst (λ s. NameRefused s why) (sym (whole_name t k b)) g) in
          rw (rule_ok t r) y
