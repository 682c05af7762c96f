-- Which refusal an entry is given: its front test by test; then, of its content, by the layout alone. Where the fields are read, the words they are stand there one behind the other, up to a place;
-- where they are not read, no word begins there, and the codec of the content stops at the same field. What is said so determines the answer.
-- Assumes nothing.
use Rattle.wire.specs.Read.{Read, says_read}
use mathlib.Core.Path.{◌≡◌, refl, ap, sym, ◌∙◌, subst}
use mathlib.Core.Bool.{Bool, true, false}
use mathlib.Core.List.{List, ◌++◌}
use mathlib.Core.Logic.{◌⊎◌, inl, inr}
use Prim.Native.Nat.{ℕ, ◌+◌, ◌-◌, ◌^◌, ◌≤◌, ◌<◌}
use native.Mathlib.Nat.{add-zero}
use native.Mathlib.Omega.{arith}
use borrow.Author.Tests.{eqb-true, eqb-false, ltb-true, ltb-false}
use lib.Dec.{eqb, ltb, lit≤}
use lib.ListN.{length, take, drop, length-drop}
use lib.Seq.{take-take, take_all, drop-drop, length-take-le}
use Rattle.layout.specs.Answer.{Told, Answer, got, refused, pick, after, end_at, bare, span_at}
use Rattle.layout.specs.Bytes.{Bytes, bytes, number}
use Rattle.layout.specs.Faithful.{Prefix}
use Rattle.layout.specs.Fault.{Begins, Ends, BadText}
use Rattle.layout.specs.Format.{Stands}
use Rattle.layout.specs.Grammar as grammar
use Rattle.layout.specs.Grammar.{loose, tidy, both, as'}
use Rattle.layout.specs.Refusals.{TRAIL, RECORD}
use Rattle.layout.specs.Spot.{Points}
use Rattle.layout.proofs.laws.Decided.{refuses}
use Rattle.layout.proofs.laws.Make.{Spanned, there, short, spanned}
use Rattle.layout.proofs.laws.Meets as meets
use Rattle.layout.proofs.laws.Meets.{faithful}
use Rattle.layout.proofs.laws.Numbers.{Bytes-take, Bytes-drop, zero_one}
use Rattle.layout.proofs.laws.Reading.{field_there, drop_take}
use Rattle.layout.proofs.laws.Words.{join, fits}
use Rattle.wire.specs.Places.{num_at, items_in, filled_at}
use Rattle.wire.specs.Tests.{◌gives◌else◌, holds, fails}
use Rattle.wire.specs.Refused.{announced, kind_in}
use Rattle.wire.proofs.laws.Formats.{value_format}
use Rattle.wire.proofs.laws.Judged.{one_test, goes_on, enough, least_row, field_row}
use Rattle.settings.specs.Layout.{OWN, knows, Setting, Content, IsEntry, is_entry}
use Rattle.settings.specs.Entry.{fields_at, rest_at, whole_at, is_tidy, tidy_at, entry_at, alone_in, setting_in}
use Rattle.settings.specs.Fields.{ContentFault, ContentSpot}
use Rattle.settings.specs.Refused.{entry_from, EntryInOrder, content_in, FrontTests, ContentSays, in_a_field, bytes_left, untidy, accepted, EntrySays, AloneSays}
use Rattle.settings.proofs.Entries.{stands_in, stands_out, ends, fields_sound, read_whole, number_sound, number_complete}
use Rattle.settings.proofs.Fields.{content_faults, content_unread, content_points}
use Rattle.settings.proofs.Spelled.{serial_format, content_codec, content_format, split_number, entry_sound, entry_complete}
use Rattle.settings.specs.declared.entry.Edition.{Edition}
use Rattle.settings.specs.declared.entry.Entry.{Entry}

-- a word is a prefix of itself
word_prefix : {c : List ℕ} {r : Setting} → Content loose c r → Prefix Content c r (length c)
word_prefix {c} {r} g = record { within = omega arith; reads = rw (take_all (length c) c (omega arith)) g }

-- a test that holds or not
known_row : {A : Type 0} {Q : A → Type 0} (b : Bool) (x : A) {y : A} → (b ≡ true → Q x) → (b ≡ false gives y else Q) (pick b x y)
known_row true x f = fails (λ e. zero_one (cc)) (f refl)
known_row false x f = holds refl

-- ── the front ──

module _ (e : Edition) (s : List ℕ) (at : ℕ) where
  -- what is answered behind it, of an entry of that kind that ends there
  abbrev pub fields_of : ℕ → ℕ → Answer Entry
  fields_of kind end = after (fields_at at kind (take end s) (at + 6)) λ x n. pick (eqb n end) (got x n) (refused (bare TRAIL))

  pub record Behind (d : List ℕ) (x : Answer Entry) : Type 0 where
    pub known : knows e (kind_in d) ≡ true
    pub six : 6 ≤ announced d
    pub whole : announced d ≤ length d
    pub is : x ≡ fields_of (kind_in d) (at + announced d)

  span_row : (d : List ℕ) → d ≡ drop at s → knows e (kind_in d) ≡ true → 6 ≤ announced d → 6 ≤ length d → (b : ℕ) → b ≡ at + 6
      → (length d < announced d gives refused (end_at (at + 6)) else Behind d)
      (after (span_at b (announced d - 6) s b) λ _ end. after (fields_at at (kind_in d) (take end s) b) λ x n. pick (eqb n end) (got x n) (refused (bare TRAIL)))
  unfolding after
  span_row d same known six long b i = rw i (go (span_at (at + 6) (announced d - 6) s (at + 6)) (spanned (at + 6) (announced d - 6) s (at + 6)))
    where
      size : length d ≡ length s - at
      size = ap length same ∙ length-drop at s

      go : (y : Answer (Unit {0})) → Spanned (at + 6) (announced d - 6) s (at + 6) y → (length d < announced d gives refused (end_at (at + 6)) else Behind d)
          (after y λ _ end. after (fields_at at (kind_in d) (take end s) (at + 6)) λ x n. pick (eqb n end) (got x n) (refused (bare TRAIL)))
      go (got t n) (there h) =
          let end : at + 6 + (announced d - 6) ≡ at + announced d = omega arith in
          let within : announced d ≤ length d = omega (arith, size) in
          fails (enough within) (record { known = known; six = six; whole = within; is = ap (fields_of (kind_in d)) end })
      go (refused t) (short h) = holds (omega (arith, size))

  pub whole_judged : FrontTests e at (drop at s) (Behind (drop at s)) (whole_at e s at)
  unfolding whole_at rest_at
  whole_judged =
      field_row 4 0 s at at _ (lit≤ tt) refl (sym (add-zero at)) λ a ea _.
      field_row 2 4 s at (at + 4) _ (lit≤ tt) ea refl λ b eb hb.
      known_row (knows e (kind_in (drop at s))) _ λ known.
      least_row 6 (announced (drop at s)) _ λ six.
      span_row (drop at s) refl known six hb b eb

-- ── the content ──

-- of an entry of that length and kind at a place, whose bytes are all there
module _ (e : Edition) (s : List ℕ) (h : Bytes s) (at len kind : ℕ) (known : knows e kind ≡ true) (six : 6 ≤ len) (within : at + len ≤ length s)
    (len-there : Stands s at (at + 4) (bytes 4 len)) (len-small : len < 256 ^ 4) (kind-there : Stands s (at + 4) (at + 6) (bytes 2 kind)) (kind_small : kind < 256 ^ 2) where
  abbrev content : List ℕ
  content = take (len - 4) (drop (at + 4) s)

  content_size : length content ≡ len - 4
  content_size = length-take-le (len - 4) (drop (at + 4) s) (omega (arith, length-drop (at + 4) s))

  -- what stands from the kind on is a front of the content
  front_of : {w : List ℕ} {n : ℕ} → Stands s (at + 4) n w → n ≤ at + len → take (n - (at + 4)) content ≡ w
  front_of {w} {n} st k =
      let size : n - (at + 4) ≡ length w = omega (arith, st.till) in
      ap (λ m. take m content) size ∙ take-take (length w) (len - 4) (drop (at + 4) s) (omega (arith, st.till)) ∙ st.is

  -- the fields that are read are a word
  read_word : (x : Entry) (n : ℕ) → fields_at at kind (take (at + len) s) (at + 6) ≡ got x n → (n ≤ at + len) × (at + 4 ≤ n) × (r : Setting) × (r.key.kind ≡ kind) × Content loose (take (n - (at + 4)) content) r
  read_word x n f =
      let u = take (at + len) s in
      let k = fields_sound u (Bytes-take (at + len) s h) at kind (at + 6) x n f in
      let p = k.2 in
      let long : length u ≡ at + len = length-take-le (at + len) s within in
      let far : n ≤ at + len = omega (arith, long, fits p.type, fits p.there, ends 2 x.code p.type, p.there.till) in
      let key-word = subst (λ i. Stands s (at + 4) (at + 6) (bytes 2 i)) (sym k.1) kind-there in
      let small = subst (λ i. i < 256 ^ 2) (sym k.1) kind_small in
      let mid = ends 2 x.code p.type in
      let long-serial : p.mid ≤ at + len = omega (arith, mid, p.there.till) in
      let least : at + 6 + 6 ≤ at + len = omega (arith, p.serial.there.till) in
      let key_there = join key-word (join (stands_out (at + len) (omega arith) p.vendor) (join (stands_out (at + len) (omega arith) p.property) (stands_out (at + len) long-serial p.serial.there))) in
      let st = join key_there (join (stands_out (at + len) (omega (arith, p.there.till)) p.type) (stands_out (at + len) far p.there)) in
      let r : Setting = record { key = record { kind = x.kind; vendor = x.vendor; property = x.property; serial = items_in 2 u x.serial }; type = x.code; value = p.reading } in
      let w = (bytes 2 x.kind ++ (bytes 4 x.vendor ++ (bytes 2 x.property ++ p.serial.word))) ++ (bytes 2 x.code ++ p.value) in
      let g : Content loose w r = as' (both (as' (both (grammar.num small) (both (grammar.num p.vendor_small) (both (grammar.num p.property_small) p.serial.reads)))) (both (grammar.num p.type_small) p.reads)) in
      (far, omega (arith, st.till), r, k.1, subst (λ v. Content loose v r) (sym (front_of st far)) g)

  -- the fields that are not read are told of the content's spot, and no word begins it
  unread : {t : Told} → fields_at at kind (take (at + len) s) (at + 6) ≡ refused t → (Begins Content content → ⊥) × Points {L = Entry} ContentFault ContentSpot content (at + 4) (refused t)
  unread {t} f =
      let u = take (at + len) s in
      let hu = Bytes-take (at + len) s h in
      let six-on : at + 4 + 2 ≡ at + 6 = omega arith in
      let kind-read : num_at 2 u (at + 4) ≡ got kind (at + 4 + 2) = number_complete 2 (subst (λ n. Stands u (at + 4) n (bytes 2 kind)) (sym six-on) (stands_in (at + len) (omega arith) kind-there)) kind_small in
      let stops : fields_at at kind u (at + 4 + 2) ≡ refused t = ap (fields_at at kind u) six-on ∙ f in
      let end : at + len ≡ at + 4 + (len - 4) = omega arith in
      let here : drop (at + 4) u ≡ content = ap (λ n. drop (at + 4) (take n s)) end ∙ drop_take (at + 4) (len - 4) s in (
        subst (λ c. Begins Content c → ⊥) here (content_unread u hu at kind (at + 4) kind-read stops),
        subst (λ c. Points {L = Entry} ContentFault ContentSpot c (at + 4) (refused t)) here (content_points u hu at kind (at + 4) kind-read stops),
      )

  -- an entry's content is tidy; and where the content is tidy, the entry is accepted
  tidy_of : (r : Setting) (w : List ℕ) → Stands s at (at + len) w → IsEntry e w r → Content tidy content r
  tidy_of r w st (is_entry {w = c} k small g) =
      let a = split_number 4 (4 + length c) c st in
      let size : length c ≡ len - 4 = omega (arith, a.1.till) in
      let is : c ≡ content = sym a.1.is ∙ ap (λ m. take m (drop (at + 4) s)) size in
      subst (λ v. Content tidy v r) is g

  of_tidy : (r : Setting) → r.key.kind ≡ kind → Content tidy content r → (x : Entry) × (entry_at e s at ≡ got x (at + len))
  of_tidy r k g =
      let size : 4 + length content ≡ len = omega (arith, content_size) in
      let whole : Stands s at (at + len) (bytes 4 (4 + length content) ++ content) = join (subst (λ m. Stands s at (at + 4) (bytes 4 m)) (sym size) len-there) (record { is = ap (λ m. take m (drop (at + 4) s)) content_size; till = omega (arith, content_size) }) in
      let a = entry_complete e s at _ (at + len) r within whole (is_entry (subst (λ i. knows e i ≡ true) (sym k) known) (omega (arith, size)) g) in
      (a.0, a.1)

  -- ── what is answered of it ──

  -- the fields, then 3 where bytes are left in the entry, then the rest
  abbrev tested : (Entry → ℕ → Answer Entry) → Answer Entry
  tested rest = after (after (fields_at at kind (take (at + len) s) (at + 6)) λ x n. pick (eqb n (at + len)) (got x n) (refused (bare TRAIL))) rest

  module _ (ending : Type 0) (d : List ℕ) (from : d ≡ drop at s) (same : content_in d ≡ content) (size : announced d ≡ len) where
    -- the word that fields which fill the entry are
    whole_word : (x : Entry) (n : ℕ) → fields_at at kind (take (at + len) s) (at + 6) ≡ got x n → n ≡ at + len → (r : Setting) × (r.key.kind ≡ kind) × Content loose (content_in d) r
    whole_word x n f i =
        let w = read_word x n f in
        let all : take (n - (at + 4)) content ≡ content = take_all (n - (at + 4)) content (omega (arith, i, content_size)) in
        (w.2, w.3, subst (λ c. Content loose c w.2) (all ∙ sym same) w.4)

    tidy_judged : ending → (x : Entry) (n : ℕ) → fields_at at kind (take (at + len) s) (at + 6) ≡ got x n → n ≡ at + len → ContentSays ending at d (tidy_at s x n)
    unfolding entry_at after tidy_at
    tidy_judged asked x n f i = go (is_tidy s x) refl
      where
        whole_is : whole_at e s at ≡ got x n
        whole_is = read_whole e s at len kind n x len-there len-small kind-there kind_small known six i (omega (arith, i)) (ap (λ m. fields_at at kind (take m s) (at + 6)) i ∙ f)

        go : (b : Bool) → is_tidy s x ≡ b → ContentSays ending at d (pick b (got x n) (refused (bare RECORD)))
        go true j =
            let is : entry_at e s at ≡ got x n = rw (whole_is, j) in
            let sp = entry_sound e s at x n h is in
            let g = tidy_of (setting_in s x) sp.word (subst (λ m. Stands s at m sp.word) i sp.there) sp.is in
            subst (λ m. ContentSays ending at d (got x m)) (ap (λ m. at + m) size ∙ sym i)
            (accepted x (setting_in s x) asked (subst (λ c. Content tidy c (setting_in s x)) (sym same) g) (subst (λ v. EntryInOrder at v (setting_in s x) x) (sym from) sp.order))
        go false j =
            let is : entry_at e s at ≡ refused (bare RECORD) = rw (whole_is, j) in
            let w = whole_word x n f i in
            untidy w.0 asked w.2 λ g. let a = of_tidy w.0 w.1 (subst (λ c. Content tidy c w.0) same g) in let z = sym is ∙ a.1 in zero_one (cc)

    content_judged : (rest : Entry → ℕ → Answer Entry) → ((x : Entry) (n : ℕ) → fields_at at kind (take (at + len) s) (at + 6) ≡ got x n → n ≡ at + len → ContentSays ending at d (rest x n)) → ContentSays ending at d (tested rest)
    unfolding after
    content_judged rest on = go (fields_at at kind (take (at + len) s) (at + 6)) refl
      where
        ends_at : (x : Entry) (n : ℕ) → fields_at at kind (take (at + len) s) (at + 6) ≡ got x n → (b : Bool) → eqb n (at + len) ≡ b → ContentSays ending at d (after (pick b (got x n) (refused (bare TRAIL))) rest)
        ends_at x n f true i = on x n f (eqb-true n (at + len) i)
        ends_at x n f false i =
            let w = read_word x n f in
            let less : n - (at + 4) < length content = omega (arith, w.0, w.1, eqb-false n (at + len) i, content_size) in
            bytes_left w.2 (n - (at + 4)) (rw same (record { within = omega arith; reads = w.4 })) (inl (rw same less))

        go : (y : Answer Entry) → fields_at at kind (take (at + len) s) (at + 6) ≡ y → ContentSays ending at d (after (after y λ x n. pick (eqb n (at + len)) (got x n) (refused (bare TRAIL))) rest)
        go (got x n) f = ends_at x n f (eqb n (at + len)) refl
        go (refused t) f =
            let k = unread f in
            in_a_field (subst (λ c. Begins Content c → ⊥) (sym same) k.0) (subst (λ c. Points {L = Entry} ContentFault ContentSpot c (at + 4) (refused t)) (sym same) k.1)

-- ── an entry at a place ──

module _ (e : Edition) (s : List ℕ) (h : Bytes s) (at : ℕ) where
  abbrev d : List ℕ
  d = drop at s

  -- what stands behind the front's tests, for any rest and what it asks of the end
  behind_judged : (ending : Type 0) (rest : Entry → ℕ → Answer Entry)
      → (announced d ≤ length d → (x : Entry) (n : ℕ) → n ≡ at + announced d → (ending → ContentSays ending at d (tidy_at s x n)) → ((r : Setting) × Content loose (content_in d) r) → ContentSays ending at d (rest x n))
      → (x : Answer Entry) → Behind e s at d x → ContentSays ending at d (after x rest)
  behind_judged ending rest on x b =
      let on-from = drop-drop 4 at s in
      let len = number_sound 4 s h at (announced d) (at + 4) (field_there 4 number s at (omega (arith, b.whole, b.six, length-drop at s))) in
      let kind_is : number (take 2 (drop (at + 4) s)) ≡ kind_in d = ap (λ w. number (take 2 w)) (sym on-from) in
      let kind-read : num_at 2 s (at + 4) ≡ got (kind_in d) (at + 6) = field_there 2 number s (at + 4) (omega (arith, b.whole, b.six, length-drop at s)) ∙ ap (λ k. got k (at + 4 + 2)) kind_is ∙ ap (got (kind_in d)) (omega arith) in
      let kind = number_sound 2 s h (at + 4) (kind_in d) (at + 6) kind-read in
      let within : at + announced d ≤ length s = omega (arith, b.whole, b.six, length-drop at s) in
      let same = ap (take (announced d - 4)) on-from in
      subst (λ y. ContentSays ending at d (after y rest)) (sym b.is)
      (content_judged e s h at (announced d) (kind_in d) b.known b.six within len.0 len.1 kind.0 kind.1 ending d refl same refl rest λ x n f i.
      on b.whole x n i (λ asked. tidy_judged e s h at (announced d) (kind_in d) b.known b.six within len.0 len.1 kind.0 kind.1 ending d refl same refl asked x n f i)
      (let w = whole_word e s h at (announced d) (kind_in d) b.known b.six within len.0 len.1 kind.0 kind.1 ending d refl same refl x n f i in (w.0, w.2)))

  front_judged : (ending : Type 0) (rest : Entry → ℕ → Answer Entry) → ((x : Answer Entry) → Behind e s at d x → ContentSays ending at d (after x rest)) → FrontTests e at d (ContentSays ending at d) (after (whole_at e s at) rest)
  front_judged ending rest on =
      goes_on rest (λ x _. goes_on rest (λ x _. goes_on rest (λ x _. goes_on rest (λ x _. goes_on rest (λ x _ b. on x b) x) x) x) x) (whole_at e s at) (whole_judged e s at)

  pub entry_judged : EntrySays e at d (entry_at e s at)
  unfolding entry_at
  entry_judged = front_judged (Unit {0}) (λ x n. tidy_at s x n) (behind_judged (Unit {0}) (λ x n. tidy_at s x n) λ _ x n i tidied _. tidied tt)

  -- of the function's own answer
  pub entry_says : (r : (Read Entry)) → says_read r ≡ entry_at e s at → EntrySays e at d (says_read r)
  entry_says r promised = rw promised entry_judged

-- ── an entry alone in its bytes ──

pub alone_judged : (e : Edition) (w : List ℕ) → Bytes w → AloneSays e w (alone_in e w)
unfolding alone_in filled_at after
alone_judged e w h = front_judged e w h 0 ending rest (behind_judged e w h 0 ending rest on)
  where
    ending : Type 0
    ending = length w ≡ announced w

    rest : Entry → ℕ → Answer Entry
    rest x n = after (pick (ltb n (length w)) (refused (bare TRAIL)) (got (tt {0}) n)) λ _ _. tidy_at w x n

    on : announced w ≤ length w → (x : Entry) (n : ℕ) → n ≡ 0 + announced w → (ending → ContentSays ending 0 w (tidy_at w x n)) → ((r : Setting) × Content loose (content_in w) r) → ContentSays ending 0 w (rest x n)
    on whole x n i tidied r = go (ltb n (length w)) refl
      where
        go : (b : Bool) → ltb n (length w) ≡ b → ContentSays ending 0 w (after (pick b (refused (bare TRAIL)) (got (tt {0}) n)) λ _ _. tidy_at w x n)
        go true j = bytes_left r.0 (length (content_in w)) (word_prefix r.1) (inr λ e. omega (arith, ltb-true n (length w) j))
        go false j = tidied (omega (arith, ltb-false n (length w) j))

-- ── and no other answer is said of the same bytes ──

module _ (ending : Type 0) (at : ℕ) (d : List ℕ) (h : Bytes d) where
  abbrev c : List ℕ
  c = content_in d

  hc : Bytes c
  hc = Bytes-take (announced d - 4) (drop 4 d) (Bytes-drop 4 d h)

  begun : {r : Setting} → Content loose c r → Begins Content c
  begun {r} g = (r, (length c, word_prefix g))

  begun_tidy : {r : Setting} → Content tidy c r → Begins Content c
  begun_tidy g = begun (content_format.inside g)

  one_reading : {r q : Setting} → Content loose c r → Content loose c q → r ≡ q
  one_reading {r} {q} g k = ((faithful content_format).unique c r q (length c) (length c) (word_prefix g) (word_prefix k)).1

  -- a word that fills the content, and ending as asked, is not followed
  not_left : {r q : Setting} {n : ℕ} → Prefix Content c r n → (n < length c) ⊎ (ending → ⊥) → ending → Content loose c q → ⊥
  not_left {r} {q} {n} p (inl l) asked g = omega (arith, ((faithful content_format).unique c r q n (length c) p (word_prefix g)).0)
  not_left p (inr l) asked g = l asked

  one_order : {r : Setting} {x y : Entry} → EntryInOrder at d r x → EntryInOrder at d r y → x ≡ y
  one_order {r} o q =
      let serial : o.serial ≡ q.serial = (serial_format (eqb r.key.kind OWN)).one o.serial_is ∙ sym ((serial_format (eqb r.key.kind OWN)).one q.serial_is) in
      let value : o.value ≡ q.value = (value_format r.type).one o.value_is ∙ sym ((value_format r.type).one q.value_is) in
      let end : o.serial_end ≡ q.serial_end = omega (arith, o.serial_there.till, q.serial_there.till, ap length serial) in
      o.places ∙ ap (λ m. entry_from at r (m + 2) (length o.value)) end ∙ ap (λ w. entry_from at r (q.serial_end + 2) (length w)) value ∙ sym q.places

  -- one place and one number: the codec of the content, of the same bytes, gives one of the two
  one_spot : {t u : Told} → (Begins Content c → ⊥) → Points {L = Entry} ContentFault ContentSpot c (at + 4) (refused t) → Points {L = Entry} ContentFault ContentSpot c (at + 4) (refused u) → ◌≡◌ {A = Answer Entry} (refused t) (refused u)
  one_spot {t} {u} none p q = go (content_codec.read c 0) refl
    where
      by : (k : ℕ) → ContentSpot c k → Ends (content_codec.read c 0) ⊎ BadText (content_codec.read c 0) → ◌≡◌ {A = Answer Entry} (refused t) (refused u)
      by k i (inl f) = let clean = ((refuses content_format content_faults c hc 0).ends.0 f).1 in p.end_there k i clean ∙ sym (q.end_there k i clean)
      by k i (inr f) = let spoilt = (refuses content_format content_faults c hc 0).text.0 f in p.text_there k i spoilt ∙ sym (q.text_there k i spoilt)

      go : (y : Answer Setting) → content_codec.read c 0 ≡ y → ◌≡◌ {A = Answer Entry} (refused t) (refused u)
      go (got r n) f = absurd (none (r, (n, meets.accepted content_format c hc r n f)))
      go (refused v) f = let o = p.some t refl in by o.0 o.1 ((refuses content_format content_faults c hc 0).either v f)

  pub content_one : (x y : Answer Entry) → ContentSays ending at d x → ContentSays ending at d y → x ≡ y
  content_one x y (in_a_field n p) (in_a_field m q) = one_spot n p q
  content_one x y (in_a_field n p) (bytes_left r k f l) = absurd (n (r, (k, f)))
  content_one x y (in_a_field n p) (untidy r a g f) = absurd (n (begun g))
  content_one x y (in_a_field n p) (accepted z r a g o) = absurd (n (begun_tidy g))
  content_one x y (bytes_left r k f l) (in_a_field n p) = absurd (n (r, (k, f)))
  content_one x y (bytes_left r k f l) (bytes_left q m g j) = refl
  content_one x y (bytes_left r k f l) (untidy q a g j) = absurd (not_left f l a g)
  content_one x y (bytes_left r k f l) (accepted z q a g o) = absurd (not_left f l a (content_format.inside g))
  content_one x y (untidy r a g f) (in_a_field n p) = absurd (n (begun g))
  content_one x y (untidy r a g f) (bytes_left q k j l) = absurd (not_left j l a g)
  content_one x y (untidy r a g f) (untidy q b k j) = refl
  content_one x y (untidy r a g f) (accepted z q b k o) = absurd (f (subst (λ v. Content tidy c v) (sym (one_reading g (content_format.inside k))) k))
  content_one x y (accepted z r a g o) (in_a_field n p) = absurd (n (begun_tidy g))
  content_one x y (accepted z r a g o) (bytes_left q k j l) = absurd (not_left j l a (content_format.inside g))
  content_one x y (accepted z r a g o) (untidy q b k j) = absurd (j (subst (λ v. Content tidy c v) (one_reading (content_format.inside g) k) g))
  content_one x y (accepted z r a g o) (accepted v q b k i) =
      let same = one_reading (content_format.inside g) (content_format.inside k) in
      ap (λ w. got w (at + announced d)) (one_order (subst (λ u. EntryInOrder at d u z) same o) i)

one_front : {A : Type 0} (e : Edition) (at : ℕ) (d : List ℕ) {P : Answer A → Type 0} → ((x y : Answer A) → P x → P y → x ≡ y) → (x y : Answer A) → FrontTests e at d P x → FrontTests e at d P y → x ≡ y
one_front e at d f = one_test (one_test (one_test (one_test (one_test f))))

pub entry_one : (e : Edition) (at : ℕ) (d : List ℕ) → Bytes d → (x y : Answer Entry) → EntrySays e at d x → EntrySays e at d y → x ≡ y
entry_one e at d h = one_front e at d (content_one (Unit {0}) at d h)

pub alone_one : (e : Edition) (d : List ℕ) → Bytes d → (x y : Answer Entry) → AloneSays e d x → AloneSays e d y → x ≡ y
alone_one e d h = one_front e 0 d (content_one (length d ≡ announced d) 0 d h)
