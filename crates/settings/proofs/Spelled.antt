-- Entries have one spelling: bytes are accepted as an entry exactly where they are one by the grammar, which is of tidy words; so two entries with the same reading are the same bytes, and
-- where entries stand one behind the other they are cut in one way.
-- Assumes nothing.
use mathlib.Core.Path.{◌≡◌, refl, ap, sym, ◌∙◌, subst}
use mathlib.Core.Logic.{◌↔◌}
use mathlib.Core.Bool.{Bool, true, false}
use mathlib.Core.List.{List, [], ◌++◌}
use Prim.Native.Nat.{ℕ, zero, suc, ◌+◌, ◌-◌, ◌^◌, ◌≤◌, ◌<◌}
use native.Mathlib.Omega.{arith}
use borrow.Author.Tests.{eq-eqb}
use lib.Dec.{eqb}
use lib.ListN.{length, take, drop}
use lib.Seq.{drop-drop}
use Rattle.layout.specs.Answer.{got, pick, after}
use Rattle.layout.specs.Bytes.{Bytes, bytes, number, cells}
use Rattle.layout.specs.Codec.{Codec, nothing, numbered, ◌and◌, through}
use Rattle.layout.specs.Format.{Format, Stands}
use Rattle.layout.specs.Grammar as grammar
use Rattle.layout.specs.Grammar.{loose, tidy, empty, both, as'}
use Rattle.layout.proofs.laws.Make.{nothing_format, number_format, then_format, as_format}
use Rattle.layout.proofs.laws.Numbers.{length_bytes, number_bytes, zero_one}
use Rattle.layout.proofs.laws.Reading.{parted, picked, one_got}
use Rattle.layout.proofs.laws.Words.{join, split, fits, self}
use Rattle.wire.specs.Codecs.{text, value}
use Rattle.wire.specs.Layout.{STR, Val, Value}
use Rattle.wire.specs.Places.{items_in}
use Rattle.wire.specs.Property.{between, bytes_of, slot_in}
use Rattle.wire.specs.Refused.{announced}
use Rattle.wire.proofs.laws.Formats.{text_format, value_format}
use Rattle.settings.specs.Layout.{OWN, knows, Key, Setting, Serial, key_from, Keyed, setting_from, Content, IsEntry, is_entry}
use Rattle.settings.specs.Entry.{fields_at, whole_at, tidy_text, serial_slot, serial_tidy, value_tidy, is_tidy, tidy_at, entry_at, key_in, setting_in}
use Rattle.settings.specs.Refused.{EntryInOrder}
use Rattle.settings.specs.Store.{serial_word, key_word, content_word, entry_word}
use Rattle.settings.specs.declared.entry.Edition.{Edition}
use Rattle.settings.specs.declared.entry.Entry.{Entry}
use Rattle.settings.proofs.Tidy.{text_tidy, tidy-text, value-tidy, tidy_value}
use Rattle.settings.proofs.Entries.{stands_in, stands_out, items_front, ends, fields_complete, Read, whole_read, read_whole}

-- ── the layouts of a key and of an entry's content have their readers and tidy writers ──

abbrev pub serial_codec : Bool → Codec (List ℕ)
serial_codec true = text
serial_codec false = nothing []

pub serial_format : (b : Bool) → Format (Serial b) (serial_codec b)
serial_format true = text_format
serial_format false = nothing_format []

serial_writes : (b : Bool) (us : List ℕ) → serial_word b us ≡ (serial_codec b).write us
serial_writes true us = refl
serial_writes false us = refl

abbrev pub key_codec : Codec Key
key_codec = through key_from (numbered 2 and λ kind. numbered 4 and λ vendor. numbered 2 and λ property. serial_codec (eqb kind OWN)) key_word

pub key_format : Format Keyed key_codec
key_format =
    as_format key_from (then_format (number_format 2) λ kind. then_format (number_format 4) λ vendor. then_format (number_format 2) λ property. serial_format (eqb kind OWN)) key_word λ w a g.
    ap (λ us. bytes 2 a.0 ++ (bytes 4 a.1.0 ++ (bytes 2 a.1.1.0 ++ us))) (serial_writes (eqb a.0 OWN) a.1.1.1)

abbrev pub content_codec : Codec Setting
content_codec = through setting_from (key_codec and λ key. numbered 2 and λ type. value type) content_word

pub content_format : Format Content content_codec
content_format = as_format setting_from (then_format key_format λ key. then_format (number_format 2) λ type. value_format type) content_word λ w a g. refl

-- ── what an entry's places mean ──

slot_reads : (t : ℕ) (s w : List ℕ) (r n : ℕ) (v : Val) → Stands s r n w → Value t loose w v → slot_in t s (between r n) ≡ v
slot_reads t s w r n v st g =
    let size : n - r ≡ length w = omega (arith, st.till) in
    rw (size, st.is, (value_format t).complete (self w) g, eq-eqb (length w) (length w) refl)

slot_bytes : {s w : List ℕ} {i j a b : ℕ} → Stands s i j w → a ≡ i → b ≡ j → bytes_of s (between a b) ≡ w
slot_bytes {s} {w} {i} {j} st e f = let size : j - i ≡ length w = omega (arith, st.till) in rw (e, f, size) st.is

serial-tidy : (b : Bool) (w us : List ℕ) → Serial b loose w us → pick b (tidy_text w) true ≡ true → Serial b tidy w us
serial-tidy true w us g e = text_tidy w us g e
serial-tidy false w us empty e = empty

tidy_serial : (b : Bool) (w us : List ℕ) → Serial b tidy w us → pick b (tidy_text w) true ≡ true
tidy_serial true w us g = tidy-text w us g
tidy_serial false w us g = refl

both_true : (a b : Bool) → pick a b false ≡ true → (a ≡ true) × (b ≡ true)
both_true true b e = (refl, e)
both_true false b e = zero_one (cc)

-- ── accepted, it is an entry ──

pub record Spelt (e : Edition) (s : List ℕ) (at : ℕ) (x : Entry) (n : ℕ) : Type 0 where
  pub read : Read e s at x n
  pub key : List ℕ
  pub key_there : Stands s (at + 4) (x.value.start - 2) key
  pub key_is : Keyed tidy key (key_in s x)
  pub word : List ℕ
  pub there : Stands s at n word
  pub is : IsEntry e word (setting_in s x)
  pub order : EntryInOrder at (drop at s) (setting_in s x) x

-- the same bytes, counted from a place on
from_place : {s w : List ℕ} (at : ℕ) {i j k l : ℕ} → i ≡ at + k → j ≡ at + l → Stands s i j w → Stands (drop at s) k l w
from_place {s} {w} at {i} {j} {k} {l} e f st = record { is = ap (take (length w)) (drop-drop k at s ∙ ap (λ m. drop m s) (sym e)) ∙ st.is; till = omega (arith, st.till) }

-- an entry by its places
placed : (x : Entry) {at from many begin size : ℕ} → x.start ≡ at → x.serial.start ≡ from → x.serial.count ≡ many → x.value.start ≡ begin → x.value.len ≡ size
    → x ≡ record { start = at; kind = x.kind; vendor = x.vendor; property = x.property; serial = record { start = from; count = many }; code = x.code; value = record { start = begin; len = size } }
placed x a b c d f = rw (← a, ← b, ← c, ← d, ← f)

cells_count : (k n : ℕ) (s : List ℕ) → length (cells k n s) ≡ n
unfolding cells
cells_count k zero s = refl
cells_count k (suc n) s = ap suc (cells_count k n (drop k s))

module _ (e : Edition) (s : List ℕ) (at : ℕ) (x : Entry) (n : ℕ) where
  read_spelt : Read e s at x n → is_tidy s x ≡ true → Spelt e s at x n
  unfolding is_tidy serial_tidy value_tidy
  read_spelt r tested =
      let p = r.parts in
      let test = both_true (pick (eqb x.kind OWN) (tidy_text (bytes_of s (serial_slot x))) true) _ tested in
      let mid : p.mid ≡ x.value.start - 2 = omega (arith, ends 2 x.code p.type) in
      let far : p.mid + 2 ≤ n = omega (arith, ends 2 x.code p.type, p.there.till) in
      let sw = p.serial.word in
      let serial : Stands s (at + 6 + 6) p.mid sw = stands_out n (omega arith) p.serial.there in
      let serial-at : bytes_of s (serial_slot x) ≡ sw = slot_bytes serial (omega (arith, r.start)) (sym mid) in
      let units = items_front s n x.serial (omega (arith, p.serial.inside)) in
      let serial_is : Serial (eqb x.kind OWN) tidy sw (items_in 2 s x.serial) = serial-tidy (eqb x.kind OWN) sw (items_in 2 s x.serial) (rw units at p.serial.reads) (rw serial-at at test.0) in
      let value_there : Stands s x.value.start n p.value = stands_out n (omega arith) p.there in
      let value-at : bytes_of s x.value ≡ p.value = let size : x.value.len ≡ length p.value = omega (arith, p.size, value_there.till) in rw size value_there.is in
      let value_is : Value x.code tidy p.value p.reading = value-tidy x.code p.value p.reading p.reads (rw value-at at test.1) in
      let slot : slot_in x.code s x.value ≡ p.reading =
      ap (λ l. slot_in x.code s (record { start = x.value.start; len = l })) p.size ∙ slot_reads x.code s p.value x.value.start n p.reading value_there p.reads in
      let kw = bytes 2 x.kind ++ (bytes 4 x.vendor ++ (bytes 2 x.property ++ sw)) in
      let key_there : Stands s (at + 4) p.mid kw = join r.kind (join (stands_out n (omega arith) p.vendor) (join (stands_out n (omega arith) p.property) serial)) in
      let key_is : Keyed tidy kw (key_in s x) = as' (both (grammar.num r.kind_small) (both (grammar.num p.vendor_small) (both (grammar.num p.property_small) serial_is))) in
      let cw = kw ++ (bytes 2 x.code ++ p.value) in
      let content_there : Stands s (at + 4) n cw = join key_there (join (stands_out n (omega arith) p.type) value_there) in
      let content-is : Content tidy cw (record { key = key_in s x; type = x.code; value = p.reading }) = as' (both key_is (both (grammar.num p.type_small) value_is)) in
      let len : r.len ≡ 4 + length cw = omega (arith, r.till, content_there.till) in
      let small : 4 + length cw < 256 ^ 4 = rw len at r.length_small in
      let serial_end : ℕ = 12 + length sw in
      let mid-is : p.mid ≡ at + serial_end = omega (arith, serial.till) in
      let value_size : x.value.len ≡ length p.value = omega (arith, p.size, value_there.till) in
      let value-start : x.value.start ≡ at + (serial_end + 2) = omega (arith, mid-is, ends 2 x.code p.type) in
      let number_is : announced (drop at s) ≡ r.len = ap (λ k. number (take k (drop at s))) (sym (length_bytes 4 r.len)) ∙ ap number r.length_there.is ∙ number_bytes 4 r.len r.length_small in
      let order : EntryInOrder at (drop at s) (record { key = key_in s x; type = x.code; value = p.reading }) x = record {
        serial_end = serial_end;
        serial = sw;
        value = p.value;
        serial_there = from_place at (omega arith) mid-is serial;
        serial_is = serial_is;
        type_there = from_place at mid-is value-start (stands_out n (omega arith) p.type);
        value_there = from_place at value-start (omega (arith, r.till, number_is)) value_there;
        value_is = value_is;
        places = placed x r.start (omega (arith, p.serial.from)) (sym (cells_count 2 x.serial.count (drop x.serial.start s))) value-start value_size;
      } in
      let all : Stands s at n (bytes 4 (4 + length cw) ++ cw) = join (rw len at r.length_there) content_there in
      record {
        read = r;
        key = kw;
        key_there = subst (λ j. Stands s (at + 4) j kw) mid key_there;
        key_is = key_is;
        word = bytes 4 (4 + length cw) ++ cw;
        there = all;
        is = subst (λ v. IsEntry e (bytes 4 (4 + length cw) ++ cw) (record { key = key_in s x; type = x.code; value = v })) (sym slot) (is_entry r.known small content-is);
        order = subst (λ v. EntryInOrder at (drop at s) (record { key = key_in s x; type = x.code; value = v }) x) (sym slot) order;
      }

  pub entry_sound : Bytes s → entry_at e s at ≡ got x n → Spelt e s at x n
  unfolding entry_at tidy_at
  entry_sound h f =
      let a = parted (whole_at e s at) _ f in
      let t = picked (is_tidy s a.0) (got a.0 a.1) _ a.3 in
      let g = one_got t.1 in
      read_spelt (whole_read e s at h x n (a.2 ∙ t.1)) (subst (λ y. is_tidy s y ≡ true) g.0 t.0)

-- ── an entry is accepted, whatever stands before and after it ──

pub split_number : {s : List ℕ} {at n : ℕ} (k v : ℕ) (w : List ℕ) → Stands s at n (bytes k v ++ w) → Stands s at (at + k) (bytes k v) × Stands s (at + k) n w
split_number {s} {at} {n} k v w st =
    let p = split (bytes k v) w st in
    let l : at + length (bytes k v) ≡ at + k = ap (λ i. at + i) (length_bytes k v) in
    (subst (λ i. Stands s at i (bytes k v)) l p.0, subst (λ i. Stands s i n w) l p.1)

module _ (e : Edition) (s : List ℕ) (at : ℕ) where
  -- of an entry's parts, each where it stands
  parts_entry : (len kind vendor property type n : ℕ) (sw us vw : List ℕ) (v : Val) → n ≤ length s → knows e kind ≡ true
      → len < 256 ^ 4 → kind < 256 ^ 2 → vendor < 256 ^ 4 → property < 256 ^ 2 → type < 256 ^ 2
      → Serial (eqb kind OWN) tidy sw us → Value type tidy vw v → n ≡ at + len
      → Stands s at (at + 4) (bytes 4 len) → Stands s (at + 4) (at + 4 + 2) (bytes 2 kind) → Stands s (at + 4 + 2) (at + 4 + 2 + 4) (bytes 4 vendor) → Stands s (at + 4 + 2 + 4) (at + 4 + 2 + 4 + 2) (bytes 2 property)
      → (mid : ℕ) → Stands s (at + 4 + 2 + 4 + 2) mid sw → Stands s mid (mid + 2) (bytes 2 type) → Stands s (mid + 2) n vw
      → (x : Entry) × (entry_at e s at ≡ got x n) × (setting_in s x ≡ record { key = record { kind = kind; vendor = vendor; property = property; serial = us }; type = type; value = v })
  unfolding entry_at tidy_at is_tidy serial_tidy value_tidy after
  parts_entry len kind vendor property type n sw us vw v within known ll lk lv lp lt gs gv till sl sk sv sp mid ss st sx =
      let six : at + 4 + 2 ≡ at + 6 = omega arith in
      let end : mid + 2 ≤ n = omega (arith, sx.till) in
      let before : at + 4 + 2 + 4 + 2 ≤ mid = omega (arith, ss.till) in
      let f = fields_complete (take n s) at kind (at + 4 + 2) vendor property type (at + 4 + 2 + 4) (at + 4 + 2 + 4 + 2) mid (mid + 2) n sw us vw v
      (stands_in n (omega arith) sv) lv (stands_in n (omega arith) sp) lp (stands_in n (omega arith) ss) ((serial_format (eqb kind OWN)).inside gs)
      (stands_in n (omega arith) st) lt (stands_in n (omega arith) sx) ((value_format type).inside gv) in
      let x : Entry = record { start = at; kind = kind; vendor = vendor; property = property; serial = f.0; code = type; value = between (mid + 2) n } in
      let whole : whole_at e s at ≡ got x n = read_whole e s at len kind n x sl ll (subst (λ i. Stands s (at + 4) i (bytes 2 kind)) six sk) lk known (omega (arith, till)) till within (ap (fields_at at kind (take n s)) (sym six) ∙ f.3) in
      let from : at + 12 ≡ at + 4 + 2 + 4 + 2 = omega arith in
      let upto : mid + 2 - 2 ≡ mid = omega arith in
      let serial-at : bytes_of s (serial_slot x) ≡ sw = slot_bytes ss from upto in
      let value-at : bytes_of s (between (mid + 2) n) ≡ vw = slot_bytes sx refl refl in
      let serial-ok : pick (eqb kind OWN) (tidy_text (bytes_of s (serial_slot x))) true ≡ true = rw serial-at (tidy_serial (eqb kind OWN) sw us gs) in
      let value-ok : pick (eqb type STR) (tidy_text (bytes_of s (between (mid + 2) n))) true ≡ true = rw value-at (tidy_value type vw v gv) in
      let units : items_in 2 s f.0 ≡ us = sym (items_front s n f.0 (omega (arith, f.2))) ∙ f.1 in
      let slot = slot_reads type s vw (mid + 2) n v sx ((value_format type).inside gv) in
      (x, rw (whole, serial-ok, value-ok), rw (units, slot))

  pub entry_complete : (w : List ℕ) (n : ℕ) (r : Setting) → n ≤ length s → Stands s at n w → IsEntry e w r → (x : Entry) × (entry_at e s at ≡ got x n) × (setting_in s x ≡ r)
  entry_complete w n r within all
      (is_entry {w = c} known small
      (as' (both {u = kw} {v = rest} (as' (both (grammar.num {n = kind} lk) (both (grammar.num {n = vendor} lv) (both {v = sw} {b = us} (grammar.num {n = property} lp) gs)))) (both {v = vw} {b = v} (grammar.num {n = type} lt) gv)))) =
      let a = split_number 4 (4 + length c) c all in
      let k = split kw rest a.1 in
      let b = split_number 2 kind _ k.0 in
      let d = split_number 4 vendor _ b.1 in
      let p = split_number 2 property sw d.1 in
      let t = split_number 2 type vw k.1 in
      let till : n ≡ at + (4 + length c) = omega (arith, a.1.till) in
      parts_entry (4 + length c) kind vendor property type n sw us vw v within known small lk lv lp lt gs gv till a.0 b.0 d.0 p.0 (at + 4 + length kw) p.1 t.0 t.1

-- ── one spelling ──

-- accepted exactly where an entry stands, with its reading
pub entry_exact : (e : Edition) (s : List ℕ) → Bytes s → (at n : ℕ) → at ≤ length s → (r : Setting)
    → ((x : Entry) × (entry_at e s at ≡ got x n) × (setting_in s x ≡ r)) ↔ ((w : List ℕ) × Stands s at n w × IsEntry e w r)
entry_exact e s h at n k r = (
  λ a. let sp = entry_sound e s at a.0 n h a.1 in (sp.word, sp.there, subst (IsEntry e sp.word) a.2 sp.is),
  λ a. entry_complete e s at a.0 n r (omega (arith, a.1.till, fits a.1)) a.1 a.2,
)

-- the bytes of an entry are those of its reading
pub entry-word : {e : Edition} {w : List ℕ} {r : Setting} → IsEntry e w r → w ≡ entry_word r
unfolding entry_word
entry-word (is_entry {w} known small g) = ap (λ c. bytes 4 (4 + length c) ++ c) (content_format.one g)

-- so two entries with the same reading are the same bytes
pub one_spelling : {e e' : Edition} {w w' : List ℕ} {r : Setting} → IsEntry e w r → IsEntry e' w' r → w ≡ w'
one_spelling g h = entry-word g ∙ sym (entry-word h)
