-- `set_value` answers as specs/Said has it, from the description's own refusal to the bytes that go out; and what is said there determines the answer.
-- Assumes nothing.
use Rattle.std.proofs.Common.{◌≡◌, ℕ, zero, suc, ◌+◌, ◌-◌, ◌<◌, ◌≤◌, Bool, true, false, eqb, ltb, ◌⊎◌, List, ◌++◌, length, get_or, drop, sym, refl, ap, ◌∙◌, subst, inl, inr, zero-add, arith, take_all, ltb-false, ltb-true, le-ltb, lt-ltb, eqb-true, le-leb}
use mathlib.Core.Option.{Option, none}
use borrow.Author.Tests.{eqb-false, lt-leb}
use Rattle.layout.specs.Answer.{Told, Answer, got, refused, pick, after, means, end_at, bad_text, bare}
use Rattle.layout.specs.Bytes.{Bytes}
use Rattle.layout.specs.Faithful.{Prefix, Exact}
use Rattle.layout.specs.Fault.{Fault, Begins, Ends, BadText, Refuses}
use Rattle.layout.specs.Grammar.{loose, Grammar}
use Rattle.layout.specs.Refusals.{TRAIL, COUNT, ROOM}
use Rattle.layout.specs.Spot.{Spot, Points}
use Rattle.layout.proofs.laws.Did.{kept}
use Rattle.layout.proofs.laws.Meets.{filled}
use Rattle.layout.proofs.laws.Numbers.{zero_one}
use Rattle.layout.proofs.laws.Reading.{refused_meant}
use Rattle.session.specs.Payloads.{filling}
use Rattle.session.specs.Transaction.{Turn, turn, Makes}
use Rattle.session.specs.declared.transaction.Session.{Session}
use Rattle.wire.specs.Codecs.{value}
use Rattle.wire.specs.Description.{PropInfo}
use Rattle.wire.specs.Layout.{Kind, one, many, string, undef, shape_or, kinds, shape, STR, Val, Value, Form, range, list, no_form, Reading, Property}
use Rattle.wire.specs.Places.{Located, value_at, shape_in, filled_at}
use Rattle.wire.specs.Property.{property_at, property_in}
use Rattle.wire.proofs.laws.Formats.{value_format}
use Rattle.wire.proofs.laws.Kinds.{KindAt, a_kind, no_kind, kind_at}
use Rattle.wire.proofs.laws.Grounds.{value_exact, value_spot, value_blame, property_exact, property_spot, property_blame}
use Rattle.panel.specs.Allowed.{Allowed}
use Rattle.panel.specs.Panel.{reading_of, value_of, is_undef, is_range, integral, suits, chosen_in, panel_said}
use Rattle.panel.specs.Refusals.{TYPE, VALUE}
use Rattle.panel.specs.Said.{TellsOf, by_end, by_text, Unread, Named, a_number, an_array, a_string, Whole, int8, uint8, int16, uint16, int32, uint32, int64, uint64, Unfit, another, undefined, no_range, two_containers, Described, Chooses, PanelSays, of_description, other_type, of_value, bytes_left, not_allowed, too_long, no_room, goes_out}
use Rattle.panel.specs.Test.{allows}
use Rattle.panel.proofs.Choices.{Answers, written, over, short, chosen_answers, unchosen_answers, so}
use Rattle.panel.proofs.Tested.{allows_exactly}

-- ── what a reader refuses, by the grammar ──

module _ {R L : Type 0} {G : Grammar R} {B : Fault} {P : Spot} {mean : L → R} {s : List ℕ} {x : Answer L} (exact : Exact G mean s x) (spot : Points B P s 0 x) (blame : Refuses G B s x) where
  unread : (u : Told) → x ≡ refused u → Unread G B P s u
  unread u e = go (blame.either u e)
    where
      nothing : Begins G s → ⊥
      nothing b = let a = exact.reaches b.0 b.1.0 b.1.1 in let z = sym e ∙ a.1 in zero_one (cc)

      q : ℕ
      q = (spot.some u e).0

      at : P s q
      at = (spot.some u e).1

      go : Ends x ⊎ BadText x → Unread G B P s u
      go (inl f) =
          let clean = (blame.ends.0 f).1 in
          let is : u ≡ end_at q = let z = sym e ∙ spot.end_there q at clean in let y : u ≡ end_at (0 + q) = cc in y ∙ ap end_at (zero-add q) in
          record { none = nothing; place = q; spot = at; tells = subst (TellsOf B s q) (sym is) (by_end clean) }
      go (inr f) =
          let spoilt = blame.text.0 f in
          let is : u ≡ bad_text q = let z = sym e ∙ spot.text_there q at spoilt in let y : u ≡ bad_text (0 + q) = cc in y ∙ ap bad_text (zero-add q) in
          record { none = nothing; place = q; spot = at; tells = subst (TellsOf B s q) (sym is) (by_text spoilt) }

-- and back: what is told so is refused so
read_back : {R L : Type 0} {G : Grammar R} {B : Fault} {P : Spot} {s : List ℕ} {x : Answer L} {u : Told} → Points B P s 0 x → Unread G B P s u → x ≡ refused u
read_back {B = B} {s = s} {x = x} sp r = go r.tells
  where
    go : {u : Told} → TellsOf B s r.place u → x ≡ refused u
    go (by_end clean) = sp.end_there r.place r.spot clean ∙ ap (λ n. refused (end_at n)) (zero-add r.place)
    go (by_text spoilt) = sp.text_there r.place r.spot spoilt ∙ ap (λ n. refused (bad_text n)) (zero-add r.place)

-- ── 15 ──

data Names (t : ℕ) : Bool → Type 0 where
  has_none : (Named t → ⊥) → Names t true
  has_one : Named t → Names t false

names : (t : ℕ) → Names t (is_undef (shape t))
names t = go (get_or kinds t none) (kind_at t) (get_or kinds (t - 0x4000) none) (kind_at (t - 0x4000)) (eqb t STR) refl
  where
    outside : (t < 1) ⊎ (10 < t) → (t - 0x4000 < 1) ⊎ (10 < t - 0x4000) → (t ≡ STR → ⊥) → Named t → ⊥
    outside (inl a) b c (a_number h k) = omega arith
    outside (inr a) b c (a_number h k) = omega arith
    outside a (inl b) c (an_array h k) = omega arith
    outside a (inr b) c (an_array h k) = omega arith
    outside a b c (a_string e) = c e

    go : (a : Option Kind) → KindAt t a → (b : Option Kind) → KindAt (t - 0x4000) b → (c : Bool) → eqb t STR ≡ c → Names t (is_undef (shape_or one a (shape_or many b (pick c string undef))))
    go a (a_kind k l h) b j c e = has_one (a_number l h)
    go a (no_kind f) b (a_kind k l h) c e = has_one (an_array {t = t} (omega arith) (omega arith))
    go a (no_kind f) b (no_kind g) true e = has_one (a_string (eqb-true t STR e))
    go a (no_kind f) b (no_kind g) false e = has_none (outside f g (eqb-false t STR e))

data Wholes (t : ℕ) : Bool → Type 0 where
  is_whole : Whole t → Wholes t true
  is_none : (Whole t → ⊥) → Wholes t false

above_8 : (t : ℕ) → 8 < t → Whole t → ⊥
above_8 t h int8 = omega arith
above_8 t h uint8 = omega arith
above_8 t h int16 = omega arith
above_8 t h uint16 = omega arith
above_8 t h int32 = omega arith
above_8 t h uint32 = omega arith
above_8 t h int64 = omega arith
above_8 t h uint64 = omega arith

not_zero : (t : ℕ) → t ≡ 0 → Whole t → ⊥
not_zero t h int8 = omega arith
not_zero t h uint8 = omega arith
not_zero t h int16 = omega arith
not_zero t h uint16 = omega arith
not_zero t h int32 = omega arith
not_zero t h uint32 = omega arith
not_zero t h int64 = omega arith
not_zero t h uint64 = omega arith

wholes : (t : ℕ) → Wholes t (integral t)
wholes zero = is_none (not_zero 0 refl)
wholes (suc zero) = is_whole int8
wholes (suc (suc zero)) = is_whole uint8
wholes (suc (suc (suc zero))) = is_whole int16
wholes (suc (suc (suc (suc zero)))) = is_whole uint16
wholes (suc (suc (suc (suc (suc zero))))) = is_whole int32
wholes (suc (suc (suc (suc (suc (suc zero)))))) = is_whole uint32
wholes (suc (suc (suc (suc (suc (suc (suc zero))))))) = is_whole int64
wholes (suc (suc (suc (suc (suc (suc (suc (suc zero)))))))) = is_whole uint64
wholes (suc (suc (suc (suc (suc (suc (suc (suc (suc n))))))))) =
    let t = suc (suc (suc (suc (suc (suc (suc (suc (suc n)))))))) in
    rw (le-leb 1 t (omega arith), lt-leb t 8 (omega arith)) (is_none (above_8 t (omega arith)))

data Suits (r : Reading) (t : ℕ) : Bool → Type 0 where
  it_does : (Unfit r t → ⊥) → Suits r t true
  it_does_not : Unfit r t → Suits r t false

suited : (r : Reading) (t : ℕ) → Suits r t (suits r t)
unfolding suits
suited r t = go (eqb t r.type) refl (is_undef (shape t)) (names t) r.form refl (integral t) (wholes t)
  where
    fits : t ≡ r.type → Named t → ((a b c : Val) → r.form ≡ range a b c → Whole t) → Unfit r t → ⊥
    fits e n w (another f) = f e
    fits e n w (undefined f) = f n
    fits e n w (no_range a b c i f) = f (w a b c i)

    go : (x : Bool) → eqb t r.type ≡ x → (y : Bool) → Names t y → (f : Form) → r.form ≡ f → (z : Bool) → Wholes t z → Suits r t (pick x (pick y false (pick (is_range f) z true)) false)
    go false e y n f i z w = it_does_not (another (eqb-false t r.type e))
    go true e y (has_none n) f i z w = it_does_not (undefined n)
    go true e y (has_one n) (range a b c) i z (is_whole w) = it_does (fits (eqb-true t r.type e) n λ _ _ _ _. w)
    go true e y (has_one n) (range a b c) i z (is_none w) = it_does_not (no_range a b c i w)
    go true e y (has_one n) (list vs) i z w = it_does (fits (eqb-true t r.type e) n λ _ _ _ j. let k = sym i ∙ j in zero_one (cc))
    go true e y (has_one n) no_form i z w = it_does (fits (eqb-true t r.type e) n λ _ _ _ j. let k = sym i ∙ j in zero_one (cc))

-- ── the chain of tests ──

module _ (there : Bool) (d : List ℕ) (t : ℕ) (chosen : List ℕ) where
  unread_is : {u : Told} → property_at there d 0 ≡ refused u → chosen_in there d t chosen ≡ refused u
  unfolding chosen_in reading_of means after
  unread_is e = rw e

  module _ {p : PropInfo} {n : ℕ} (e : property_at there d 0 ≡ got p n) where
    abbrev r : Reading
    r = property_in d p

    type_is : suits r t ≡ false → chosen_in there d t chosen ≡ refused (bare TYPE)
    unfolding chosen_in reading_of means after
    type_is f = rw (e, f)

    value_is : suits r t ≡ true → {y : Answer Val} → value_of t chosen ≡ y → chosen_in there d t chosen ≡ after y (λ v end. pick (allows r.form v) (got (so r v) end) (refused (bare VALUE)))
    unfolding chosen_in reading_of means after
    value_is f g = rw (e, f, g)

  -- the chosen bytes as one value
  value_refused : {u : Told} → value_at t chosen 0 ≡ refused u → value_of t chosen ≡ refused u
  unfolding value_of filling means after
  value_refused e = rw e

  value_got : {l : Located} {m : ℕ} → value_at t chosen 0 ≡ got l m → value_of t chosen ≡ pick (ltb m (length chosen)) (refused (bare TRAIL)) (got (shape_in (shape t) chosen l) m)
  unfolding value_of filling filled_at means after
  value_got {l} {m} e = rw e (go (ltb m (length chosen)))
    where
      go : (b : Bool) → means (shape_in (shape t) chosen) (after (pick b (refused (bare TRAIL)) (got (tt {0}) m)) (λ _ end. got l end)) ≡ pick b (refused (bare TRAIL)) (got (shape_in (shape t) chosen l) m)
      go true = refl
      go false = refl

-- ── of the function's own answer ──

module _ (x : Session) (there : Bool) (d : List ℕ) (t : ℕ) (chosen old : List ℕ) (answer : Answer Turn) (new : List ℕ) (promised : Makes x 0x1016 (panel_said there d t chosen) old answer new)
    (hd : Bytes d) (hc : Bytes chosen) where
  abbrev Says : Answer Turn → List ℕ → Type 0
  Says = PanelSays x there d t chosen old

  -- a refusal leaves the output as it was
  leaves_old : {u : Told} → answer ≡ refused u → new ≡ old
  leaves_old {u} e =
      let w = refused_meant (λ _. turn x 0x1016) promised.written (sym promised.answers ∙ e) in
      (kept (rw w at promised.wrote)).0

  refusing : {u : Told} → answer ≡ refused u → Says (refused u) old → Says answer new
  refusing e h = rw (e, leaves_old e) h

  not_chosen : {u : Told} → chosen_in there d t chosen ≡ refused u → Says (refused u) old → Says answer new
  not_chosen {u} e h = refusing (unchosen_answers x there d t chosen old answer new promised u e) h

  module _ {p : PropInfo} {n : ℕ} (e : property_at there d 0 ≡ got p n) where
    abbrev reads : Reading
    reads = property_in d p

    front : Prefix (Property there) d reads n
    front = (property_exact d hd there).accepts p n e

    module _ (good : suits reads t ≡ true) (fits : Unfit reads t → ⊥) where
      described : Described there d t reads
      described = record { size = n; front = front; fits = fits }

      module _ {l : Located} {m : ℕ} (f : value_at t chosen 0 ≡ got l m) where
        abbrev v : Val
        v = shape_in (shape t) chosen l

        value_front : Prefix (Value t) chosen v m
        value_front = (value_exact chosen hc t).accepts l m f

        module _ (all : length chosen ≤ m) where
          abbrev w : List ℕ
          w = (value t).write v

          loose_word : Value t loose chosen v
          loose_word = filled value_front all

          chosen_is : chosen_in there d t chosen ≡ pick (allows reads.form v) (got (so reads v) m) (refused (bare VALUE))
          unfolding after
          chosen_is = value_is there d t chosen e good {y = got v m} (value_got there d t chosen f ∙ rw (le-ltb m (length chosen) all))

          allowed_says : Allowed reads.form v → chosen_in there d t chosen ≡ got (so reads v) m → Says answer new
          allowed_says a is = of (chosen_answers x there d t chosen old answer new promised (so reads v) m is)
            where
              chooses : Chooses there d t chosen reads v w
              chooses = record { described = described; is-value = loose_word; allowed = a; spelt = (value_format t).has loose_word }

              of : Answers x there d t chosen old answer new promised (so reads v) → Says answer new
              of (written small room g h) = rw (g, h) (goes_out chooses small room)
              of (over long g) = refusing g (too_long chooses long)
              of (short small few g) = refusing g (no_room chooses small few)

          says_all : Says answer new
          says_all = go (allows reads.form v) refl
            where
              go : (b : Bool) → allows reads.form v ≡ b → Says answer new
              go true g = allowed_says ((allows_exactly reads.form v).0 g) (chosen_is ∙ rw g)
              go false g = not_chosen (chosen_is ∙ rw g) (not_allowed described loose_word λ a. let h = (allows_exactly reads.form v).1 a in let z = sym g ∙ h in zero_one (cc))

        says-value : Says answer new
        unfolding after
        says-value = go (ltb m (length chosen)) refl
          where
            go : (b : Bool) → ltb m (length chosen) ≡ b → Says answer new
            go true g = not_chosen (value_is there d t chosen e good {y = refused (bare TRAIL)} (value_got there d t chosen f ∙ rw g)) (bytes_left described value_front (ltb-true m (length chosen) g))
            go false g = says_all (ltb-false m (length chosen) g)

      says_fit : Says answer new
      unfolding after
      says_fit = go (value_at t chosen 0) refl
        where
          go : (y : Answer Located) → value_at t chosen 0 ≡ y → Says answer new
          go (got l m) f = says-value f
          go (refused u) f = not_chosen (value_is there d t chosen e good {y = refused u} (value_refused there d t chosen f)) (of_value described (unread (value_exact chosen hc t) (value_spot chosen hc 0 t) (value_blame chosen hc 0 t) u f))

    says_read : Says answer new
    says_read = go (suits reads t) refl (suited reads t)
      where
        go : (b : Bool) → suits reads t ≡ b → Suits reads t b → Says answer new
        go true g (it_does f) = says_fit g f
        go false g (it_does_not f) = not_chosen (type_is there d t chosen e g) (other_type front f)

  pub panel_says : PanelSays x there d t chosen old answer new
  panel_says = go (property_at there d 0) refl
    where
      go : (y : Answer PropInfo) → property_at there d 0 ≡ y → Says answer new
      go (got p n) e = says_read e
      go (refused u) e = not_chosen (unread_is there d t chosen e) (of_description (unread (property_exact d hd there) (property_spot d hd 0 there) (property_blame d hd 0 there) u e))

  -- ── and no other answer, and no other output, is said of the same inputs ──

  abbrev Same : Answer Turn → List ℕ → Type 0
  Same y m = (answer ≡ y) × (new ≡ m)

  refused_same : {u : Told} → chosen_in there d t chosen ≡ refused u → Same (refused u) old
  refused_same {u} e = let a = unchosen_answers x there d t chosen old answer new promised u e in (a, leaves_old a)

  record Meant (r : Reading) : Type 0 where
    info : PropInfo
    end : ℕ
    read : property_at there d 0 ≡ got info end
    is : property_in d info ≡ r

  meant_by : {r : Reading} {n : ℕ} → Prefix (Property there) d r n → Meant r
  meant_by {r} {n} f = let a = (property_exact d hd there).reaches r n f in record { info = a.0; end = n; read = a.1; is = a.2 }

  tested_no : (r : Reading) → Unfit r t → suits r t ≡ false
  tested_no r f = go (suits r t) (suited r t)
    where
      go : (b : Bool) → Suits r t b → b ≡ false
      go b (it_does n) = absurd (n f)
      go b (it_does_not u) = refl

  tested_yes : (r : Reading) → (Unfit r t → ⊥) → suits r t ≡ true
  tested_yes r f = go (suits r t) (suited r t)
    where
      go : (b : Bool) → Suits r t b → b ≡ true
      go b (it_does n) = refl
      go b (it_does_not u) = absurd (f u)

  -- behind a description that fits: what is answered of the chosen bytes
  after_description : {r : Reading} → Described there d t r → {y : Answer Val} → value_of t chosen ≡ y → chosen_in there d t chosen ≡ after y (λ v end. pick (allows r.form v) (got (so r v) end) (refused (bare VALUE)))
  after_description {r} f {y} e =
      let m = meant_by f.front in
      subst (λ z. chosen_in there d t chosen ≡ after y (λ v end. pick (allows z.form v) (got (so z v) end) (refused (bare VALUE)))) m.is
      (value_is there d t chosen m.read (tested_yes (property_in d m.info) (subst (λ z. Unfit z t → ⊥) (sym m.is) f.fits)) {y = y} e)

  -- the whole of the chosen bytes
  value_whole : {v : Val} → Value t loose chosen v → value_of t chosen ≡ got v (length chosen)
  value_whole {v} g =
      let a = (value_exact chosen hc t).reaches v (length chosen) (record { within = omega arith; reads = rw (take_all (length chosen) chosen (omega arith)) g }) in
      value_got there d t chosen a.1 ∙ rw (le-ltb (length chosen) (length chosen) (omega arith)) (ap (λ z. got z (length chosen)) a.2)

  chosen_so : {r : Reading} {v : Val} {w : List ℕ} → Chooses there d t chosen r v w → chosen_in there d t chosen ≡ got (so r v) (length chosen)
  unfolding after
  chosen_so {r} {v} c = after_description c.described {y = got v (length chosen)} (value_whole c.is-value) ∙ rw ((allows_exactly r.form v).1 c.allowed)

  out_of : {r : Reading} {v : Val} {w : List ℕ} → (c : Chooses there d t chosen r v w) → Answers x there d t chosen old answer new promised (so r v)
  out_of {r} {v} c = chosen_answers x there d t chosen old answer new promised (so r v) (length chosen) (chosen_so c)

  word_is : {r : Reading} {v : Val} {w : List ℕ} → Chooses there d t chosen r v w → (value t).write v ≡ w
  word_is c = sym ((value_format t).one c.spelt)

  pub panel_one : {y : Answer Turn} {m : List ℕ} → PanelSays x there d t chosen old y m → (answer ≡ y) × (new ≡ m)
  unfolding after
  panel_one (of_description f) = refused_same (unread_is there d t chosen (read_back (property_spot d hd 0 there) f))
  panel_one (other_type {r} f u) = let m = meant_by f in refused_same (type_is there d t chosen m.read (tested_no (property_in d m.info) (subst (λ z. Unfit z t) (sym m.is) u)))
  panel_one (of_value {u = u} f g) = refused_same (after_description f {y = refused u} (value_refused there d t chosen (read_back (value_spot chosen hc 0 t) g)))
  panel_one (bytes_left {v} {n} f g h) =
      let a = (value_exact chosen hc t).reaches v n g in
      refused_same (after_description f {y = refused (bare TRAIL)} (value_got there d t chosen a.1 ∙ rw (lt-ltb n (length chosen) h)))
  panel_one (not_allowed {r} {v} f g n) = refused_same (after_description f {y = got v (length chosen)} (value_whole g) ∙ rw (no_form_allows (allows r.form v) refl))
    where
      no_form_allows : (b : Bool) → allows r.form v ≡ b → allows r.form v ≡ false
      no_form_allows true e = absurd (n ((allows_exactly r.form v).0 e))
      no_form_allows false e = e
  panel_one (too_long {r} {v} {w} c h) = go (out_of c)
    where
      size : length ((value t).write v) ≡ length w
      size = ap length (word_is c)

      go : Answers x there d t chosen old answer new promised (so r v) → Same (refused (bare COUNT)) old
      go (written small room e f) = absurd (omega (arith, size))
      go (over long e) = (e, leaves_old e)
      go (short small few e) = absurd (omega (arith, size))
  panel_one (no_room {r} {v} {w} c s h) = go (out_of c)
    where
      size : length ((value t).write v) ≡ length w
      size = ap length (word_is c)

      go : Answers x there d t chosen old answer new promised (so r v) → Same (refused (bare ROOM)) old
      go (written small room e f) = absurd (omega (arith, size))
      go (over long e) = absurd (omega (arith, size))
      go (short small few e) = (e, leaves_old e)
  panel_one (goes_out {r} {v} {w} c s h) = go (out_of c)
    where
      size : length ((value t).write v) ≡ length w
      size = ap length (word_is c)

      go : Answers x there d t chosen old answer new promised (so r v) → Same (got (turn x 0x1016) (28 + length w)) (two_containers r.code (turn x 0x1016).number w ++ drop (28 + length w) old)
      go (written small room e f) = (rw (word_is c) at e, rw (word_is c) at f)
      go (over long e) = absurd (omega (arith, size))
      go (short small few e) = absurd (omega (arith, size))
