-- An entry by its words. What is accepted is, field by field, a word of the field's layout where it stands: four numbers, the serial, the value; and where these words stand an entry is
-- accepted. The fields are read in bytes that end with the entry, and what stands there stands in the row.
-- Assumes nothing.
use mathlib.Core.Path.{◌≡◌, refl, ap, sym, ◌∙◌, subst}
use mathlib.Core.Bool.{Bool, true, false}
use mathlib.Core.List.{List, []}
use Prim.Native.Nat.{ℕ, ◌+◌, ◌-◌, ◌*◌, ◌^◌, ◌≤◌, ◌<◌}
use native.Mathlib.Omega.{arith}
use borrow.Author.Tests.{eqb-true, eq-eqb, leb-true, le-leb}
use lib.Dec.{eqb, leb}
use lib.ListN.{length, take, drop}
use lib.Seq.{take-take}
use Rattle.layout.specs.Answer.{got, refused, pick, after, bad_text, span_at}
use Rattle.layout.specs.Bytes.{Bytes, bytes, cells}
use Rattle.layout.specs.Format.{Stands, Sound, word}
use Rattle.layout.specs.Grammar.{loose, empty, Number, num}
use Rattle.layout.proofs.laws.Make.{number_format, span_there}
use Rattle.layout.proofs.laws.Meets.{sound_at, complete_at, lies_got}
use Rattle.layout.proofs.laws.Numbers.{length_bytes, Bytes-take}
use Rattle.layout.proofs.laws.Reading.{drop_take, cells_take, span_within, parted, picked, one_got}
use Rattle.layout.proofs.laws.Words.{fits, stands_none}
use Rattle.wire.specs.Layout.{paired, shape, Val, Value}
use Rattle.wire.specs.Places.{num_at, units_at, text_at, items_in, value_at, shape_in}
use Rattle.wire.specs.Property.{between}
use Rattle.wire.specs.declared.Part.{Part}
use Rattle.wire.proofs.laws.Formats.{text_format, value_format}
use Rattle.wire.proofs.laws.Located.{texts, values}
use Rattle.settings.specs.Layout.{OWN, knows, Serial}
use Rattle.settings.specs.Entry.{serial_at, typed_at, fields_at, rest_at, whole_at, Within}
use Rattle.settings.specs.Refused.{count_byte}
use Rattle.settings.specs.declared.entry.Edition.{Edition}
use Rattle.settings.specs.declared.entry.Entry.{Entry}

-- ── a number by its word ──

pub number_sound : (k : ℕ) (s : List ℕ) → Bytes s → (at v n : ℕ) → num_at k s at ≡ got v n → Stands s at n (bytes k v) × (v < 256 ^ k)
number_sound k s h at v n e = of (subst (Sound (Number k) s at) e ((number_format k).sound s h at))
  where
    of : Sound (Number k) s at (got v n) → Stands s at n (bytes k v) × (v < 256 ^ k)
    of (word st (num lt)) = (st, lt)

pub number_complete : (k : ℕ) {s : List ℕ} {at v n : ℕ} → Stands s at n (bytes k v) → v < 256 ^ k → num_at k s at ≡ got v n
number_complete k st lt = (number_format k).complete st (num lt)

-- a number of k bytes ends k bytes on
pub ends : {s : List ℕ} {at n : ℕ} (k v : ℕ) → Stands s at n (bytes k v) → n ≡ at + k
ends k v st = omega (arith, st.till, length_bytes k v)

-- ── bytes that end with the entry ──

part_front : (i k n : ℕ) (s : List ℕ) → i + k ≤ n → take k (drop i (take n s)) ≡ take k (drop i s)
part_front i k n s h =
    let m : n ≡ i + (n - i) = omega arith in
    ap (λ j. take k (drop i (take j s))) m ∙ ap (take k) (drop_take i (n - i) s) ∙ take-take k (n - i) (drop i s) (omega arith)

pub stands_in : {s w : List ℕ} {i j : ℕ} (n : ℕ) → j ≤ n → Stands s i j w → Stands (take n s) i j w
stands_in {s} {w} {i} n h st = record { is = part_front i (length w) n s (omega (arith, st.till)) ∙ st.is; till = st.till }

pub stands_out : {s w : List ℕ} {i j : ℕ} (n : ℕ) → j ≤ n → Stands (take n s) i j w → Stands s i j w
stands_out {s} {w} {i} n h st = record { is = sym (part_front i (length w) n s (omega (arith, st.till))) ∙ st.is; till = st.till }

pub items_front : (s : List ℕ) (n : ℕ) (p : Part) → p.start + p.count * 2 ≤ n → items_in 2 (take n s) p ≡ items_in 2 s p
items_front s n p h =
    sym (cells_take 2 p.count (drop p.start (take n s))) ∙ ap (cells 2 p.count) (part_front p.start (p.count * 2) n s h) ∙ cells_take 2 p.count (drop p.start s)

-- ── the serial ──

-- the serial of an entry of that kind: the word where it stands, and its part
pub record SerialRead (b : Bool) (s : List ℕ) (at : ℕ) (p : Part) (n : ℕ) : Type 0 where
  pub word : List ℕ
  pub there : Stands s at n word
  pub reads : Serial b loose word (items_in 2 s p)
  pub inside : p.start + p.count * 2 ≤ n
  pub from : p.start ≡ at + count_byte b

-- a string's units stand behind its count byte
text_start : (s : List ℕ) → Bytes s → (at : ℕ) (p : Part) (n : ℕ) → text_at s at ≡ got p n → p.start ≡ at + 1
unfolding text_at units_at
text_start s h at p n e =
    let a = parted (num_at 1 s at) _ e in
    let next = ends 1 a.0 (number_sound 1 s h at a.0 a.1 a.2).0 in
    go a.0 a.1 next (eqb a.0 0) a.3
  where
    units : (k m : ℕ) → after (span_at at (k * 2) s m) (λ _ next. pick (paired (cells 2 (k - 1) (drop m s))) (got (record { start = m; count = k - 1 }) next) (refused (bad_text at))) ≡ got p n → p.start ≡ m
    units k m e =
        let b = parted (span_at at (k * 2) s m) _ e in
        let c = picked (paired (cells 2 (k - 1) (drop m s))) (got (record { start = m; count = k - 1 }) b.1) _ b.3 in
        sym (ap (λ q. q.start) (one_got c.1).0)

    go : (k m : ℕ) → m ≡ at + 1 → (b : Bool) → pick b (got (record { start = m; count = 0 }) m) (after (span_at at (k * 2) s m) λ _ next. pick (paired (cells 2 (k - 1) (drop m s))) (got (record { start = m; count = k - 1 }) next) (refused (bad_text at))) ≡ got p n → p.start ≡ at + 1
    go k m i true e = sym (ap (λ q. q.start) (one_got e).0) ∙ i
    go k m i false e = units k m e ∙ i

serial_sound : (b : Bool) (s : List ℕ) → Bytes s → (at : ℕ) (p : Part) (n : ℕ) → pick b (text_at s at) (got (record { start = at; count = 0 }) at) ≡ got p n → SerialRead b s at p n
unfolding cells
serial_sound true s h at p n e =
    let a = sound_at text_format (items_in 2 s) (texts.agrees s at) h e in
    record { word = a.0; there = a.1; reads = a.2; inside = (lies_got (texts.inside s at) e).1.2; from = text_start s h at p n e }
serial_sound false s h at p n e =
    let is : p ≡ record { start = at; count = 0 } = cc in
    let till : n ≡ at = cc in
    rw (is, till) (record { word = []; there = stands_none; reads = empty; inside = omega arith; from = omega arith })

serial_complete : (b : Bool) (s : List ℕ) (at n : ℕ) (w us : List ℕ) → Stands s at n w → Serial b loose w us
    → (p : Part) × (pick b (text_at s at) (got (record { start = at; count = 0 }) at) ≡ got p n) × (items_in 2 s p ≡ us) × (p.start + p.count * 2 ≤ n)
unfolding cells
serial_complete true s at n w us st g =
    let a = complete_at text_format (items_in 2 s) (texts.agrees s at) st g in
    (a.0, a.1, a.2, (lies_got (texts.inside s at) a.1).1.2)
serial_complete false s at n w us st empty =
    let till : at ≡ n = omega (arith, st.till) in
    (record { start = at; count = 0 }, ap (got (record { start = at; count = 0 })) till, refl, omega (arith, till))

-- ── the fields after the kind ──

pub record Parts (u : List ℕ) (at : ℕ) (x : Entry) (n : ℕ) : Type 0 where
  pub mid : ℕ
  pub vendor : Stands u at (at + 4) (bytes 4 x.vendor)
  pub vendor_small : x.vendor < 256 ^ 4
  pub property : Stands u (at + 4) (at + 6) (bytes 2 x.property)
  pub property_small : x.property < 256 ^ 2
  pub serial : SerialRead (eqb x.kind OWN) u (at + 6) x.serial mid
  pub type : Stands u mid x.value.start (bytes 2 x.code)
  pub type_small : x.code < 256 ^ 2
  pub value : List ℕ
  pub reading : Val
  pub there : Stands u x.value.start n value
  pub reads : Value x.code loose value reading
  pub size : x.value.len ≡ n - x.value.start

module _ (u : List ℕ) (h : Bytes u) (start kind at : ℕ) where
  pub fields_sound : (x : Entry) (n : ℕ) → fields_at start kind u at ≡ got x n → (x.start ≡ start) × (x.kind ≡ kind) × Parts u at x n
  unfolding fields_at typed_at serial_at
  fields_sound x n e =
      let a = parted (num_at 4 u at) _ e in
      let b = parted (num_at 2 u a.1) _ a.3 in
      let c = parted (pick (eqb kind OWN) (text_at u b.1) (got (record { start = b.1; count = 0 }) b.1)) _ b.3 in
      let d = parted (num_at 2 u c.1) _ c.3 in
      let f = parted (value_at d.0 u d.1) _ d.3 in
      let vendor = number_sound 4 u h at a.0 a.1 a.2 in
      let property = number_sound 2 u h a.1 b.0 b.1 b.2 in
      let serial = serial_sound (eqb kind OWN) u h b.1 c.0 c.1 c.2 in
      let type = number_sound 2 u h c.1 d.0 d.1 d.2 in
      let value = sound_at (value_format d.0) (shape_in (shape d.0) u) ((values d.0).agrees u d.1) h f.2 in
      let p : a.1 ≡ at + 4 = ends 4 a.0 vendor.0 in
      let q : b.1 ≡ at + 6 = omega (arith, p, ends 2 b.0 property.0) in
      let y : Entry = record { start = start; kind = kind; vendor = a.0; property = b.0; serial = c.0; code = d.0; value = between d.1 f.1 } in
      let g = one_got f.3 in
      let is : x ≡ y = sym g.0 in
      let parts : Parts u at y f.1 = record {
        mid = c.1;
        vendor = subst (λ i. Stands u at i (bytes 4 a.0)) p vendor.0;
        vendor_small = vendor.1;
        property = subst (λ i. Stands u i (at + 6) (bytes 2 b.0)) p (subst (λ i. Stands u a.1 i (bytes 2 b.0)) q property.0);
        property_small = property.1;
        serial = subst (λ i. SerialRead (eqb kind OWN) u i c.0 c.1) q serial;
        type = type.0;
        type_small = type.1;
        value = value.0;
        reading = shape_in (shape d.0) u f.0;
        there = value.1;
        reads = value.2;
        size = refl;
      } in
      (ap (λ z. z.start) is, ap (λ z. z.kind) is, subst (λ i. Parts u at x i) g.1 (subst (λ z. Parts u at z f.1) g.0 parts))

module _ (u : List ℕ) (start kind at : ℕ) where
  pub fields_complete : (vendor property type p q mid r n : ℕ) (sw us vw : List ℕ) (v : Val) → Stands u at p (bytes 4 vendor) → vendor < 256 ^ 4 → Stands u p q (bytes 2 property) → property < 256 ^ 2
      → Stands u q mid sw → Serial (eqb kind OWN) loose sw us → Stands u mid r (bytes 2 type) → type < 256 ^ 2 → Stands u r n vw → Value type loose vw v
      → (part : Part) × (items_in 2 u part ≡ us) × (part.start + part.count * 2 ≤ mid)
      × (fields_at start kind u at ≡ got (record { start = start; kind = kind; vendor = vendor; property = property; serial = part; code = type; value = between r n }) n)
  unfolding fields_at typed_at serial_at after
  fields_complete vendor property type p q mid r n sw us vw v sv lv sp lp ss gs st lt sx gx =
      let serial = serial_complete (eqb kind OWN) u q mid sw us ss gs in
      let value = complete_at (value_format type) (shape_in (shape type) u) ((values type).agrees u r) sx gx in
      (serial.0, serial.2, serial.3, rw (number_complete 4 sv lv, number_complete 2 sp lp, serial.1, number_complete 2 st lt, value.1))

-- ── the whole entry ──

pub record Read (e : Edition) (s : List ℕ) (at : ℕ) (x : Entry) (n : ℕ) : Type 0 where
  pub start : x.start ≡ at
  pub len : ℕ
  pub length_there : Stands s at (at + 4) (bytes 4 len)
  pub length_small : len < 256 ^ 4
  pub kind : Stands s (at + 4) (at + 6) (bytes 2 x.kind)
  pub kind_small : x.kind < 256 ^ 2
  pub known : knows e x.kind ≡ true
  pub till : n ≡ at + len
  pub within : n ≤ length s
  pub parts : Parts (take n s) (at + 6) x n

module _ (e : Edition) (s : List ℕ) (at : ℕ) where
  pub whole_read : Bytes s → (x : Entry) (n : ℕ) → whole_at e s at ≡ got x n → Read e s at x n
  unfolding whole_at rest_at
  whole_read h x n f =
      let a = parted (num_at 4 s at) _ f in
      let b = parted (num_at 2 s a.1) _ a.3 in
      let known = picked (knows e b.0) _ _ b.3 in
      let least = picked (leb 6 a.0) _ _ known.1 in
      let c = parted (span_at b.1 (a.0 - 6) s b.1) _ least.1 in
      let d = parted (fields_at at b.0 (take c.1 s) b.1) _ c.3 in
      let fills = picked (eqb d.1 c.1) (got d.0 d.1) _ d.3 in
      let len = number_sound 4 s h at a.0 a.1 a.2 in
      let kind = number_sound 2 s h a.1 b.0 b.1 b.2 in
      let p : a.1 ≡ at + 4 = ends 4 a.0 len.0 in
      let q : b.1 ≡ at + 6 = omega (arith, p, ends 2 b.0 kind.0) in
      let far = span_within b.1 (a.0 - 6) s b.1 c.1 (sym c.2) in
      let g = one_got fills.1 in
      let same : c.1 ≡ n = sym (eqb-true d.1 c.1 fills.0) ∙ g.1 in
      let six : 6 ≤ a.0 = leb-true 6 a.0 least.0 in
      let k = fields_sound (take c.1 s) (Bytes-take c.1 s h) at b.0 b.1 x n (d.2 ∙ fills.1) in
      record {
        start = k.0;
        len = a.0;
        length_there = subst (λ i. Stands s at i (bytes 4 a.0)) p len.0;
        length_small = len.1;
        kind = rw k.1 (subst (λ i. Stands s i (at + 6) (bytes 2 b.0)) p (subst (λ i. Stands s a.1 i (bytes 2 b.0)) q kind.0));
        kind_small = rw k.1 kind.1;
        known = rw k.1 known.0;
        till = omega (arith, same, far.1, q);
        within = omega (arith, same, far.0, far.1, fits kind.0);
        parts = subst (λ i. Parts (take n s) i x n) q (subst (λ i. Parts (take i s) b.1 x n) same k.2);
      }

  pub read_whole : (len kind n : ℕ) (x : Entry) → Stands s at (at + 4) (bytes 4 len) → len < 256 ^ 4 → Stands s (at + 4) (at + 6) (bytes 2 kind) → kind < 256 ^ 2 → knows e kind ≡ true → 6 ≤ len → n ≡ at + len
      → n ≤ length s → fields_at at kind (take n s) (at + 6) ≡ got x n → whole_at e s at ≡ got x n
  unfolding whole_at rest_at after
  read_whole len kind n x sl ll sk lk known six till within f =
      let end : at + 6 + (len - 6) ≡ n = omega (arith, till) in
      rw (number_complete 4 sl ll, number_complete 2 sk lk, known, le-leb 6 len six, span_there (at + 6) (len - 6) s (at + 6) (omega arith), end, f, eq-eqb n n refl)

-- so its parts stand in the bytes
pub read_within : {e : Edition} {s : List ℕ} {at n : ℕ} {x : Entry} → Read e s at x n → Within s x
read_within {x} r =
    let p = r.parts in
    let mid = ends 2 x.code p.type in
    record { serial = omega (arith, r.start, mid, p.serial.there.till); value = omega (arith, p.size, p.there.till, r.within) }
