-- One spelling: what `write_entry` writes is the entry that has its fields, which `entry_at` reads with just these; and every entry that is read is what `write_entry` writes of its fields.
-- Assumes nothing.
use mathlib.Core.Path.{◌≡◌, refl, ap, sym, ◌∙◌, subst}
use mathlib.Core.Bool.{Bool, true, false}
use mathlib.Core.List.{List, [], ◌++◌, append_assoc}
use Prim.Native.Nat.{ℕ, ◌+◌, ◌-◌, ◌^◌, ◌≤◌, ◌<◌}
use native.Mathlib.Omega.{arith}
use borrow.Author.Tests.{eqb-true, eqb-false, eq-eqb, leb-true, leb-false, lt-leb}
use lib.Dec.{eqb, leb}
use lib.ListN.{length, take, drop, get_or, length-append}
use lib.Seq.{take-length, drop-drop}
use Rattle.layout.specs.Answer.{Answer, got, refused, pick, bare}
use Rattle.layout.specs.Bytes.{Bytes, bytes}
use Rattle.layout.specs.Grammar as grammar
use Rattle.layout.specs.Grammar.{tidy, empty, both, as'}
use Rattle.layout.specs.Refusals.{TEXT, COUNT, RECORD}
use Rattle.layout.specs.Written.{says, no, Wrote}
use Rattle.layout.proofs.laws.Meets.{sound_at, complete_at}
use Rattle.layout.proofs.laws.Numbers.{length_bytes, zero_one}
use Rattle.layout.proofs.laws.Words.{self}
use Rattle.wire.specs.Codecs.{text}
use Rattle.wire.specs.Given.{text_said}
use Rattle.wire.specs.Layout.{paired, shape, Val, Value}
use Rattle.wire.specs.Newer.{ends_at}
use Rattle.wire.specs.Places.{Located, value_at, shape_in, items_in}
use Rattle.wire.specs.Property.{bytes_of}
use Rattle.wire.proofs.laws.Formats.{text_format, value_format}
use Rattle.wire.proofs.laws.Located.{values}
use Rattle.settings.specs.Layout.{ANY, OWN, knows, Key, Keyed, Setting, Serial, IsEntry, is_entry}
use Rattle.settings.specs.Entry.{entry_at, word_tidy, setting_in}
use Rattle.settings.specs.Row.{asked_key}
use Rattle.settings.specs.Spell.{kind_of, serial_said, is_value, entry_bytes, spelled_said, entry_said}
use Rattle.settings.specs.SpellSays.{HasFields, SerialFits, WriteSays, unpaired, too_many, none_has, no_room, goes_in}
use Rattle.settings.specs.declared.entry.Edition.{Edition}
use Rattle.settings.specs.declared.entry.Edition.TheVariants as edition
use Rattle.settings.specs.declared.entry.Entry.{Entry}
use Rattle.settings.proofs.Keys.{text_of, said_text, text-said}
use Rattle.settings.proofs.Tidy.{value-tidy, tidy_value}
use Rattle.settings.proofs.Spelled.{entry_sound, entry_complete}
use Rattle.settings.proofs.SpellLaws.{all_due}
use Rattle.settings.proofs.WroteCases.{refuses, short_of, fits_in}

-- ── one tidy value ──

pub is_one_value : (t : ℕ) (w : List ℕ) → Bytes w → is_value t w ≡ true → (v : Val) × Value t tidy w v
unfolding is_value
is_one_value t w h e = go (value_at t w 0) refl e
  where
    tested : (b c : Bool) → pick b c false ≡ true → (b ≡ true) × (c ≡ true)
    tested true c e = (refl, e)
    tested false c e = zero_one (cc)

    go : (y : Answer Located) → value_at t w 0 ≡ y → pick (ends_at (length w) y) (word_tidy t w) false ≡ true → (v : Val) × Value t tidy w v
    go (refused f) i e = zero_one (cc)
    go (got l n) i e =
        let k = tested (eqb n (length w)) (word_tidy t w) e in
        let all : n ≡ length w = eqb-true n (length w) k.0 in
        let s = sound_at (value_format t) (shape_in (shape t) w) ((values t).agrees w 0) h i in
        let long : length s.0 ≡ length w = omega (arith, s.1.till, all) in
        let is : s.0 ≡ w = sym s.1.is ∙ ap (λ m. take m w) long ∙ take-length w in
        let g : Value t tidy s.0 (shape_in (shape t) w l) = value-tidy t s.0 (shape_in (shape t) w l) s.2 (rw is k.1) in
        (shape_in (shape t) w l, subst (λ x. Value t tidy x (shape_in (shape t) w l)) is g)

pub one_value_is : (t : ℕ) (w : List ℕ) (v : Val) → Value t tidy w v → is_value t w ≡ true
unfolding is_value
one_value_is t w v g =
    let c = complete_at (value_format t) (shape_in (shape t) w) ((values t).agrees w 0) (self w) ((value_format t).inside g) in
    rw (c.1, eq-eqb (length w) (length w) refl) (tidy_value t w v g)

-- ── the words of an entry ──

abbrev key_bytes : ℕ → ℕ → ℕ → List ℕ → List ℕ
key_bytes kind vendor property sw = bytes 2 kind ++ (bytes 4 vendor ++ (bytes 2 property ++ sw))

module _ (kind vendor property type : ℕ) (sw w : List ℕ) where
  abbrev content_bytes : List ℕ
  content_bytes = key_bytes kind vendor property sw ++ (bytes 2 type ++ w)

  content_size : 4 + length content_bytes ≡ 14 + length sw + length w
  content_size = simp (length-append, length_bytes) (omega arith)

  entry_is : entry_bytes kind vendor property sw type w ≡ bytes 4 (4 + length content_bytes) ++ content_bytes
  unfolding entry_bytes
  entry_is = rw content_size (simp append_assoc)

-- the serial's word
said_serial : (own : Bool) (us sw : List ℕ) → ((i : ℕ) → get_or us i 0 < 256 ^ 2) → serial_said own us ≡ says sw → Serial own tidy sw (pick own us [])
unfolding serial_said
said_serial true us sw small e = let s = said_text us sw e in rw s.2 (text_of us small s.0 s.1)
said_serial false us sw small e = let is : [] ≡ sw = cc in subst (λ l. Serial false tidy l []) is empty

serial-said : (own : Bool) (us sw : List ℕ) → Serial own tidy sw us → serial_said own us ≡ says sw
unfolding serial_said
serial-said true us sw g = text-said sw us g ∙ ap says (sym (text_format.one g))
serial-said false us sw empty = refl

kind_own : (own : Bool) → eqb (kind_of own) OWN ≡ own
kind_own true = refl
kind_own false = refl

kind_small : (own : Bool) → kind_of own < 256 ^ 2
kind_small true = omega arith
kind_small false = omega arith

asked_is : (own : Bool) (vendor property : ℕ) (us : List ℕ) → ◌≡◌ {A = Key} (record { kind = kind_of own; vendor = vendor; property = property; serial = pick own us [] }) (asked_key own vendor property us)
asked_is true vendor property us = refl
asked_is false vendor property us = refl

known_two : (own : Bool) → knows edition.Two (kind_of own) ≡ true
known_two true = refl
known_two false = refl

-- ── written from its fields, it is an entry ──

module _ (vendor property type : ℕ) (w : List ℕ) (own : Bool) (us : List ℕ) (lv : vendor < 256 ^ 4) (lp : property < 256 ^ 2) (lt : type < 256 ^ 2) (units : (i : ℕ) → get_or us i 0 < 256 ^ 2) (h : Bytes w) where
  spelled_fields : (sw : List ℕ) → serial_said own us ≡ says sw → is_value type w ≡ true → 14 + length sw + length w ≤ 4294967295 → HasFields vendor property type w own us (entry_bytes (kind_of own) vendor property sw type w)
  spelled_fields sw e one small =
      let v = is_one_value type w h one in
      let serial : Serial (eqb (kind_of own) OWN) tidy sw (pick own us []) = subst (λ b. Serial b tidy sw (pick own us [])) (sym (kind_own own)) (said_serial own us sw units e) in
      let key : Keyed tidy (key_bytes (kind_of own) vendor property sw) (record { kind = kind_of own; vendor = vendor; property = property; serial = pick own us [] }) =
      as' (both (grammar.num (kind_small own)) (both (grammar.num lv) (both (grammar.num lp) serial))) in
      let fits : 4 + length (content_bytes (kind_of own) vendor property type sw w) < 256 ^ 4 = omega (arith, content_size (kind_of own) vendor property type sw w) in
      let all : IsEntry edition.Two (entry_bytes (kind_of own) vendor property sw type w) (record { key = record { kind = kind_of own; vendor = vendor; property = property; serial = pick own us [] }; type = type; value = v.0 }) =
      rw (entry_is (kind_of own) vendor property type sw w) (is_entry (known_two own) fits (as' (both key (both (grammar.num lt) v.1)))) in
      record {
        value = v.0;
        value_is = v.1;
        is = subst (λ k. IsEntry edition.Two (entry_bytes (kind_of own) vendor property sw type w) (record { key = k; type = type; value = v.0 })) (asked_is own vendor property us) all;
      }

-- ── and every entry is what is written of its fields ──

known_kind : (e : Edition) (kind : ℕ) → knows e kind ≡ true → kind ≡ kind_of (eqb kind OWN)
known_kind e kind k = go (eqb kind OWN) refl
  where
    any : (d : Edition) → knows d kind ≡ true → (kind ≡ OWN → ⊥) → kind ≡ ANY
    any edition.One k n = eqb-true kind ANY k
    any edition.Two k n = two (eqb kind ANY) refl k
      where
        two : (b : Bool) → eqb kind ANY ≡ b → pick b true (eqb kind OWN) ≡ true → kind ≡ ANY
        two true i k = eqb-true kind ANY i
        two false i k = absurd (n (eqb-true kind OWN k))

    go : (b : Bool) → eqb kind OWN ≡ b → kind ≡ kind_of b
    go true i = eqb-true kind OWN i
    go false i = any e k (eqb-false kind OWN i)

pub record Respelled (x : List ℕ) (r : Setting) : Type 0 where
  pub value-word : List ℕ
  pub value_is : Value r.type tidy value-word r.value
  pub said : entry_said r.key.vendor r.key.property r.type value-word (eqb r.key.kind OWN) r.key.serial ≡ says x

pub respelled : {e : Edition} {x : List ℕ} {r : Setting} → IsEntry e x r → Respelled x r
respelled {e}
    (is_entry {w = c} known small
    (as' (both {u = kw} {v = rest} (as' (both (grammar.num {n = kind} lk) (both (grammar.num {n = vendor} lv) (both {v = sw} {b = us} (grammar.num {n = property} lp) gs)))) (both {v = vw} {b = v} (grammar.num {n = type} lt) gv)))) =
    record {
      value-word = vw;
      value_is = gv;
      said =
          rw (serial-said (eqb kind OWN) us sw gs)
          (all_due (eqb kind OWN) vendor property type sw vw (one_value_is type vw v gv) (omega (arith, small, content_size kind vendor property type sw vw))
          ∙ ap (λ k. says (entry_bytes k vendor property sw type vw)) (sym (known_kind e kind known)) ∙ ap says (entry_is kind vendor property type sw vw));
    }

-- a value has one word
one_word : (t : ℕ) (u w : List ℕ) (v : Val) → Value t tidy u v → Value t tidy w v → u ≡ w
one_word t u w v a b = (value_format t).one a ∙ sym ((value_format t).one b)

pub fields_said : (vendor property type : ℕ) (w : List ℕ) (own : Bool) (us : List ℕ) {e : List ℕ} → HasFields vendor property type w own us e → entry_said vendor property type w own us ≡ says e
unfolding serial_said
fields_said vendor property type w true us h =
    let r = respelled h.is in
    ap (λ l. entry_said vendor property type l true us) (one_word type w r.value-word h.value h.value_is r.value_is) ∙ r.said
fields_said vendor property type w false us h =
    let r = respelled h.is in
    ap (λ l. entry_said vendor property type l false us) (one_word type w r.value-word h.value h.value_is r.value_is) ∙ r.said

-- ── read again, and written again ──

-- what is written is read by the second edition with just these fields, and to its end
pub written_reads : (vendor property type : ℕ) (w : List ℕ) (own : Bool) (us e : List ℕ) (h : HasFields vendor property type w own us e)
    → (x : Entry) × (entry_at edition.Two e 0 ≡ got x (length e)) × (setting_in e x ≡ record { key = asked_key own vendor property us; type = type; value = h.value })
written_reads vendor property type w own us e h = entry_complete edition.Two e 0 e (length e) _ (omega arith) (self e) h.is

-- an entry that is read is what is written of its fields
pub read_writes : (e : Edition) (s : List ℕ) → Bytes s → (at : ℕ) (x : Entry) (n : ℕ) → entry_at e s at ≡ got x n
    → entry_said x.vendor x.property x.code (bytes_of s x.value) (eqb x.kind OWN) (items_in 2 s x.serial) ≡ says (take (n - at) (drop at s))
read_writes e s h at x n f =
    let sp = entry_sound e s at x n h f in
    let r = respelled sp.is in
    let o = sp.order in
    let value-at : bytes_of s x.value ≡ o.value =
    ap (λ z. bytes_of s z.value) o.places ∙ ap (take (length o.value)) (sym (drop-drop (o.serial_end + 2) at s)) ∙ o.value_there.is in
    let same : bytes_of s x.value ≡ r.value-word = value-at ∙ one_word x.code o.value r.value-word _ o.value_is r.value_is in
    let size : n - at ≡ length sp.word = omega (arith, sp.there.till) in
    ap (λ l. entry_said x.vendor x.property x.code l (eqb x.kind OWN) (items_in 2 s x.serial)) same ∙ r.said ∙ ap says (sym (ap (λ k. take k (drop at s)) size ∙ sp.there.is))

-- ── of the function's own answer ──

module _ (vendor property type : ℕ) (w : List ℕ) (own : Bool) (us : List ℕ) (lv : vendor < 256 ^ 4) (lp : property < 256 ^ 2) (lt : type < 256 ^ 2) (units : (i : ℕ) → get_or us i 0 < 256 ^ 2) (h : Bytes w)
    (old new : List ℕ) (answer : Answer (Unit {0})) (promised : Wrote (entry_said vendor property type w own us) old answer new) where
  abbrev Says : Answer (Unit {0}) → List ℕ → Type 0
  Says = WriteSays vendor property type w own us old

  -- where the serial is a string
  by_value : (sw : List ℕ) → serial_said own us ≡ says sw → SerialFits own us → Says answer new
  unfolding spelled_said
  by_value sw e fits = go (is_value type w) refl (leb (14 + length sw + length w) 4294967295) refl
    where
      none : entry_said vendor property type w own us ≡ no (bare RECORD) → Says answer new
      none i =
          let a = refuses promised i in
          rw (a.0, a.1) (none_has fits (λ x k. let z = sym i ∙ fields_said vendor property type w own us k in zero_one (cc)))

      go : (a : Bool) → is_value type w ≡ a → (b : Bool) → leb (14 + length sw + length w) 4294967295 ≡ b → Says answer new
      go false i b j = none (rw (e, i))
      go true i false j = none (rw (e, i, j))
      go true i true j = room (leb (length (entry_bytes (kind_of own) vendor property sw type w)) (length old)) refl
        where
          k : HasFields vendor property type w own us (entry_bytes (kind_of own) vendor property sw type w)
          k = spelled_fields vendor property type w own us lv lp lt units h sw e i (leb-true (14 + length sw + length w) 4294967295 j)

          due : entry_said vendor property type w own us ≡ says (entry_bytes (kind_of own) vendor property sw type w)
          due = fields_said vendor property type w own us k

          room : (c : Bool) → leb (length (entry_bytes (kind_of own) vendor property sw type w)) (length old) ≡ c → Says answer new
          room true f = let l = leb-true _ (length old) f in let a = fits_in promised due l in rw (a.0, a.1) (goes_in k l)
          room false f = let l = leb-false _ (length old) f in let a = short_of promised due l in rw (a.0, a.1) (no_room k l)

  pub write_says : Says answer new
  unfolding spelled_said serial_said text_said
  write_says = go own refl (paired us) refl (leb (length us) 254) refl
    where
      go : (o : Bool) → own ≡ o → (b : Bool) → paired us ≡ b → (c : Bool) → leb (length us) 254 ≡ c → Says answer new
      go false i b j c k = by_value [] (rw i) (λ t. let z = sym i ∙ t in zero_one (cc))
      go true i false j c k = let a = refuses promised {t = bare TEXT} (rw (i, j)) in rw (a.0, a.1) (unpaired i j)
      go true i true j false k = let a = refuses promised {t = bare COUNT} (rw (i, j, k)) in rw (a.0, a.1) (too_many i j (leb-false (length us) 254 k))
      go true i true j true k = by_value (text.write us) (rw (i, j, k)) (λ t. (j, leb-true (length us) 254 k))

  -- and no other answer, and no other output, is said of the same inputs
  pub write_one : {y : Answer (Unit {0})} {m : List ℕ} → Says y m → (answer ≡ y) × (new ≡ m)
  unfolding spelled_said serial_said text_said
  write_one (unpaired i j) = refuses promised (rw (i, j))
  write_one (too_many i j k) = refuses promised (rw (i, j, lt-leb (length us) 254 k))
  write_one (no_room k l) = short_of promised (fields_said vendor property type w own us k) l
  write_one (goes_in k l) = fits_in promised (fields_said vendor property type w own us k) l
  write_one (none_has f n) = of write_says
    where
      of : {y : Answer (Unit {0})} {m : List ℕ} → Says y m → (y ≡ refused (bare RECORD)) × (m ≡ old)
      of (unpaired i j) = let z = sym (f i).0 ∙ j in zero_one (cc)
      of (too_many i j k) = let l = (f i).1 in absurd (omega arith)
      of (none_has g o) = (refl, refl)
      of (no_room k l) = absurd (n _ k)
      of (goes_in k l) = absurd (n _ k)
