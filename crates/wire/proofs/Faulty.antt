-- What the faults come to, in plain terms: of a string by its count byte, of a record by the field that is at fault; and a string that is END though no bytes that follow could mend it.
-- Assumes nothing.
use mathlib.Core.Path.{◌≡◌, refl, ap, sym, ◌∙◌, subst}
use mathlib.Core.Bool.{Bool, true, false}
use mathlib.Core.Logic.{◌↔◌}
use mathlib.Core.List.{List, [], ◌∷◌, ◌++◌, append_assoc}
use Prim.Native.Nat.{ℕ, zero, suc, ◌+◌, ◌*◌, ◌-◌, ◌≤◌, ◌<◌}
use native.Mathlib.Omega.{arith}
use lib.Dec.{T, eqb, lit≤}
use borrow.Author.Tests.{ne_eqb}
use lib.ListN.{length, drop, get_or}
use Rattle.layout.specs.Answer.{Answer, got, refused, pick, after, end_at, bad_text, span_at, field_at}
use Rattle.layout.specs.Bytes.{Bytes, number, cells}
use Rattle.layout.specs.Fault.{first, second, Begins, Spoilt, Ends, BadText, Refuses}
use Rattle.layout.specs.Grammar.{loose, empty, both, as'}
use Rattle.layout.proofs.laws.Decided.{refuses_exactly}
use Rattle.layout.proofs.laws.Final.{end_not_text, Bytes-append}
use Rattle.layout.proofs.laws.Meets.{reads_exactly}
use Rattle.layout.proofs.laws.Make.{Spanned, there, short, spanned, span_there}
use Rattle.layout.proofs.laws.Numbers.{zero_one}
use Rattle.wire.specs.declared.Part.{Part}
use Rattle.wire.specs.Layout.{pairs, paired, Text, Shape, one, many, string, undef, shape, Val, Row}
use Rattle.wire.specs.Codecs.{text}
use Rattle.wire.specs.Faults.{TextFault, ShapedFault, ValueFault, RowFault}
use Rattle.wire.specs.Places.{items_in, text_at, units_at}
use Rattle.wire.proofs.laws.Formats.{text_format}
use Rattle.wire.proofs.laws.Located.{texts}
use Rattle.wire.proofs.Refusals.{text_faults, texts as decided}

true_false : true ≡ false → ⊥
true_false e = subst T e tt

-- ── a string, by its count byte ──

-- the count byte and the units that it counts are all there
abbrev pub Whole : List ℕ → Type 0
Whole s = 1 + get_or s 0 0 * 2 ≤ length s

-- the units before the last
abbrev pub told : List ℕ → List ℕ
told s = cells 2 (get_or s 0 0 - 1) (drop 1 s)

data TextCase (s : List ℕ) : Answer Part → Type 0 where
  is_cut : (p : ℕ) → length s < 1 + get_or s 0 0 * 2 → TextCase s (refused (end_at p))
  is_bad : (p : ℕ) → Whole s → paired (told s) ≡ false → TextCase s (refused (bad_text p))
  is_read : {p : Part} {n : ℕ} → Whole s → paired (told s) ≡ true → TextCase s (got p n)

units_case : (b : ℕ) (s : List ℕ) → TextCase (b ∷ s) (pick (eqb b 0) (got (record { start = 1; count = 0 }) 1) (units_at 0 b (b ∷ s) 1))
unfolding units_at after pairs cells
units_case zero s = is_read (omega arith) refl
units_case (suc m) s = rw (ne_eqb (suc m) 0 (λ z. omega arith)) (go (span_at 0 (suc m * 2) (suc m ∷ s) 1) (spanned 0 (suc m * 2) (suc m ∷ s) 1))
  where
    test : Whole (suc m ∷ s) → (n : ℕ) (b : Bool) → paired (told (suc m ∷ s)) ≡ b → TextCase (suc m ∷ s) (pick b (got (record { start = 1; count = suc m - 1 }) n) (refused (bad_text 0)))
    test h n true e = is_read h e
    test h n false e = is_bad 0 h e

    go : (x : Answer (Unit {0})) → Spanned 0 (suc m * 2) (suc m ∷ s) 1 x
        → TextCase (suc m ∷ s) (after x λ _ next. pick (paired (cells 2 (suc m - 1) (drop 1 (suc m ∷ s)))) (got (record { start = 1; count = suc m - 1 }) next) (refused (bad_text 0)))
    go (got t n) (there h) = test (omega arith) n (paired (told (suc m ∷ s))) refl
    go (refused t) (short h) = is_cut 0 (omega arith)

text_case : (s : List ℕ) → TextCase s (text_at s 0)
unfolding text_at field_at after number span_at
text_case [] = is_cut 0 (omega arith)
text_case (b ∷ s) =
    let one : span_at 0 1 (b ∷ s) 0 ≡ got tt 1 = span_there 0 1 (b ∷ s) 0 (omega arith) in
    let value : b + 0 ≡ b = omega arith in
    rw (one, value) (units_case b s)

ends_plain : {s : List ℕ} {x : Answer Part} → TextCase s x → Ends x ↔ length s < 1 + get_or s 0 0 * 2
ends_plain (is_cut p h) = (λ e. h, λ k. (p, refl))
ends_plain (is_bad p h f) = (λ e. absurd (end_not_text e.0 p (cc)), λ k. let z : ⊥ = omega arith in absurd z)
ends_plain (is_read h f) = (λ e. zero_one (cc), λ k. let z : ⊥ = omega arith in absurd z)

text_plain : {s : List ℕ} {x : Answer Part} → TextCase s x → BadText x ↔ (Whole s × (paired (told s) ≡ false))
text_plain (is_cut p h) = (λ e. absurd (end_not_text p e.0 (cc)), λ k. let w = k.0 in let z : ⊥ = omega arith in absurd z)
text_plain (is_bad p h f) = (λ e. (h, f), λ k. (p, refl))
text_plain (is_read h f) = (λ e. zero_one (cc), λ k. absurd (true_false (sym f ∙ k.1)))

module _ (s : List ℕ) (h : Bytes s) where
  refuses_text : Refuses Text TextFault s (text_at s 0)
  refuses_text = refuses_exactly text_format text_faults texts s h 0 (text_at s 0) refl

  -- END: fewer bytes than the count byte says, or not even that
  pub text_cut : ((Begins Text s → ⊥) × (Spoilt TextFault s → ⊥)) ↔ length s < 1 + get_or s 0 0 * 2
  text_cut = let p = ends_plain (text_case s) in (λ k. p.0 (refuses_text.ends.1 k), λ k. refuses_text.ends.0 (p.1 k))

  -- TEXT: all of them, and the units before the last are not paired
  pub text_spoilt : Spoilt TextFault s ↔ (Whole s × (paired (told s) ≡ false))
  text_spoilt = let p = text_plain (text_case s) in (λ k. p.0 (refuses_text.text.1 k), λ k. refuses_text.text.0 (p.1 k))

  -- read: all of them, and they are
  pub text_read : Begins Text s ↔ (Whole s × (paired (told s) ≡ true))
  text_read = (λ g. go (text_at s 0) refl (text_case s) g, λ k. back (text_at s 0) refl (text_case s) k)
    where
      go : (x : Answer Part) → text_at s 0 ≡ x → TextCase s x → Begins Text s → Whole s × (paired (told s) ≡ true)
      go x e (is_cut p k) g = absurd ((refuses_text.ends.0 (p, e)).0 g)
      go x e (is_bad p k f) g = absurd (decided.apart s g (refuses_text.text.0 (p, e)))
      go x e (is_read k f) g = (k, f)

      back : (x : Answer Part) → text_at s 0 ≡ x → TextCase s x → Whole s × (paired (told s) ≡ true) → Begins Text s
      back x e (is_cut p k) (w, f) = let z : ⊥ = omega arith in absurd z
      back x e (is_bad p k f) (w, t) = absurd (true_false (sym t ∙ f))
      back x e (is_read {p} {n} k f) w = (items_in 2 s p, (n, (reads_exactly text_format texts s h (text_at s 0) refl).accepts p n e))

-- ── a record, by the field that is at fault ──

string_only : (x : Shape) (w : List ℕ) → ShapedFault x w → (x ≡ string) × TextFault w
string_only (one k) w b = elim b [ ]
string_only (many k) w b = elim b [ ]
string_only string w b = (refl, b)
string_only undef w b = elim b [ ]

pub record FieldFault (ts w : List ℕ) : Type 0 where
  pub before : List ℕ
  pub type : ℕ
  pub after : List ℕ
  pub front : List ℕ
  pub field : List ℕ
  pub vals : List Val
  pub types : ts ≡ before ++ type ∷ after
  pub parts : w ≡ front ++ field
  -- the fields before it are read
  pub good : Row before loose front vals
  -- and it is a string at fault
  pub is_string : shape type ≡ string
  pub bad : TextFault field

row_fault_of : (before : List ℕ) (t : ℕ) (after u v : List ℕ) (xs : List Val) → Row before loose u xs → ValueFault t v → RowFault (before ++ t ∷ after) (u ++ v)
row_fault_of [] t after u v xs empty b = first b
row_fault_of (q ∷ qs) t after u v xs (as' (both {u = x} {v = y} {b = ys} g h)) b =
    subst (RowFault (q ∷ qs ++ t ∷ after)) (sym (append_assoc x y v)) (second g (row_fault_of qs t after y v ys h b))

field_fault_of : (ts w : List ℕ) → RowFault ts w → FieldFault ts w
field_fault_of [] w b = elim b [ ]
field_fault_of (t ∷ ts) w (first b) =
    let o = string_only (shape t) w b in
    record { before = []; type = t; after = ts; front = []; field = w; vals = []; types = refl; parts = refl; good = empty; is_string = o.0; bad = o.1 }
field_fault_of (t ∷ ts) w (second {u} {v} {a} g c) =
    let o = field_fault_of ts v c in
    record {
      before = t ∷ o.before;
      type = o.type;
      after = o.after;
      front = u ++ o.front;
      field = o.field;
      vals = a ∷ o.vals;
      types = ap (λ l. t ∷ l) o.types;
      parts = ap (λ l. u ++ l) o.parts ∙ sym (append_assoc u o.front o.field);
      good = as' (both g o.good);
      is_string = o.is_string;
      bad = o.bad;
    }

pub row_fault : (ts w : List ℕ) → RowFault ts w ↔ FieldFault ts w
row_fault ts w = (
  field_fault_of ts w,
  λ o.
      let b : ShapedFault (shape o.type) o.field = rw o.is_string o.bad in
      rw (o.types, o.parts) (row_fault_of o.before o.type o.after o.front o.field o.vals o.good b),
)

-- ── a string of two units and the last, cut after the first, which is a lone low surrogate: END, though no bytes that follow make it a word ──

abbrev pub cut_low : List ℕ
cut_low = 3 ∷ 0 ∷ 0xDC ∷ []

cut_low_bytes : Bytes cut_low
cut_low_bytes = (lit≤ tt, (lit≤ tt, (lit≤ tt, tt)))

-- 3 bytes, and the count byte asks for 7
pub cut_low_ends : Ends (text.read cut_low 0)
cut_low_ends = (decided.refuses cut_low cut_low_bytes).ends.1 ((text_cut cut_low cut_low_bytes).1 (lit≤ tt))

pub cut_low_dead : (t : List ℕ) → Bytes t → Begins Text (cut_low ++ t) → ⊥
unfolding pairs cells number
cut_low_dead t h g = go (text_at (cut_low ++ t) 0) (text_case (cut_low ++ t))
  where
    all : Bytes (cut_low ++ t)
    all = Bytes-append cut_low t cut_low_bytes h

    go : (x : Answer Part) → TextCase (cut_low ++ t) x → ⊥
    go x (is_cut p k) = ((text_cut (cut_low ++ t) all).1 k).0 g
    go x (is_bad p k f) = decided.apart (cut_low ++ t) g ((text_spoilt (cut_low ++ t) all).1 (k, f))
    go x (is_read k f) = true_false (sym f)
