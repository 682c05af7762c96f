-- The words of keys that a question asks for: written to a buffer they are words of the grammar; and units that no serial can be have none.
-- Assumes nothing.
use Rattle.layout.specs.Answer.{says_count}
use Rattle.std.specs.Prelude.{Ok, Err}
use Rattle.std.specs.declared.result.Result.{Result}
use Rattle.layout.specs.declared.Refusal.{Refusal}
use mathlib.Core.Path.{◌≡◌, refl, ap, sym, ◌∙◌, subst}
use mathlib.Core.Bool.{Bool, true, false}
use mathlib.Core.List.{List, [], ◌∷◌, ◌++◌, append_assoc}
use Prim.Native.Nat.{ℕ, zero, suc, ◌+◌, ◌*◌, ◌^◌, ◌≤◌, ◌<◌}
use native.Mathlib.Omega.{arith}
use borrow.Author.Tests.{eq-eqb, leb-true, le-leb, lt-ltb, le-ltb}
use lib.Dec.{T, leb}
use lib.ListN.{length, take, drop, get_or, length-append, drop_of_length-le}
use lib.Seq.{take_at, drop_at}
use Rattle.layout.specs.Answer.{Told, pick, bare}
use Rattle.layout.specs.Bytes.{Bytes, bytes}
use Rattle.layout.specs.Grammar as grammar
use Rattle.layout.specs.Grammar.{tidy, Number, empty, both, lead, such, as', Repeat}
use Rattle.layout.specs.Refusals.{TEXT, COUNT}
use Rattle.layout.specs.Written.{says, no, Wrote, Put}
use Rattle.layout.proofs.laws.Did.{whole, Kept, not_due, too_short, kept}
use Rattle.layout.proofs.laws.Make.{repeat_length, tested}
use Rattle.layout.proofs.laws.Numbers.{length_bytes, zero_one}
use Rattle.layout.proofs.laws.Writing.{put_front}
use Rattle.wire.specs.Codecs.{text}
use Rattle.wire.specs.Given.{text_said}
use Rattle.wire.specs.Layout.{pairs, paired, Text}
use Rattle.wire.specs.Tidy.{spelled}
use Rattle.wire.proofs.laws.Formats.{text_format}
use Rattle.wire.proofs.laws.Numbered.{given_size}
use Rattle.settings.specs.Layout.{OWN, Serial, Key, Keyed, same_key, holds}
use Rattle.settings.specs.Entry.{key_in}
use Rattle.settings.specs.Row.{settings_in, any_key, own_key}
use Rattle.settings.specs.Search.{Chain, stop, link, Places, Spells, word_of, no_word, Best, best_of}
use Rattle.settings.specs.declared.entry.Edition.{Edition}
use Rattle.settings.specs.declared.entry.Edition.TheVariants as edition
use Rattle.settings.specs.declared.entry.Entry.{Entry}
use Rattle.settings.proofs.Spelled.{entry_sound}
use Rattle.settings.proofs.Rows.{same_true, new-place}

-- ── strings from their units ──

units-word : (us : List ℕ) → ((i : ℕ) → get_or us i 0 < 256 ^ 2) → (w : List ℕ) × Repeat (length us) (Number 2) tidy w us
units-word [] h = ([], empty)
units-word (u ∷ us) h = let r = units-word us (λ i. h (suc i)) in (bytes 2 u ++ r.0, as' (both (grammar.num (h 0)) r.1))

some_text : (us : List ℕ) → ((i : ℕ) → get_or us i 0 < 256 ^ 2) → T (paired us) → length us ≤ 254 → (w : List ℕ) × Text tidy w us
some_text [] h p l = (bytes 1 0 ++ [], lead {a = zero} (grammar.num {n = 0} (omega arith)) refl empty)
some_text (u ∷ us) h p l =
    let r = units-word (u ∷ us) h in
    let n = suc (length (u ∷ us)) in
    (bytes 1 n ++ (r.0 ++ (bytes 2 0 ++ [])), lead {a = n} (grammar.num {n = n} (omega (arith, l))) refl (such p (as' (both r.1 (lead {a = 0} (grammar.num {n = 0} (omega arith)) refl empty)))))

pub text_of : (us : List ℕ) → ((i : ℕ) → get_or us i 0 < 256 ^ 2) → paired us ≡ true → length us ≤ 254 → Text tidy (text.write us) us
text_of us h p l = let a = some_text us h (subst T (sym p) tt) l in subst (λ w. Text tidy w us) (text_format.one a.1) a.1

-- what is said of units: the string, where they pair and are not too many
pub said_text : (us bs : List ℕ) → text_said us ≡ says bs → (paired us ≡ true) × (length us ≤ 254) × (bs ≡ text.write us)
unfolding text_said
said_text us bs e = go (paired us) refl (leb (length us) 254) refl e
  where
    go : (b : Bool) → paired us ≡ b → (c : Bool) → leb (length us) 254 ≡ c → pick b (pick c (says (text.write us)) (no (bare COUNT))) (no (bare TEXT)) ≡ says bs → (paired us ≡ true) × (length us ≤ 254) × (bs ≡ text.write us)
    go true p true l e = (p, leb-true (length us) 254 l, cc)
    go true p false l e = zero_one (cc)
    go false p c l e = zero_one (cc)

pub text-said : (w us : List ℕ) → Text tidy w us → text_said us ≡ says (text.write us)
unfolding text_said pairs
text-said w us (lead {a = zero} g e empty) = refl
text-said w us (lead {a = suc m} (grammar.num f) e (such p (as' (both {u = x} {a} q k)))) =
    rw (tested (paired a) p, le-leb (length a) 254 (omega (arith, repeat_length (Number 2) tidy m x a q, f)))

-- ── the words of keys ──

front_size : (kind vendor property : ℕ) → length (bytes 2 kind ++ bytes 4 vendor ++ bytes 2 property) ≡ 8
front_size kind vendor property = simp (length-append, length_bytes) (omega arith)

front_word : (kind vendor property : ℕ) (w : List ℕ) → (bytes 2 kind ++ bytes 4 vendor ++ bytes 2 property) ++ w ≡ bytes 2 kind ++ (bytes 4 vendor ++ (bytes 2 property ++ w))
front_word kind vendor property w = append_assoc (bytes 2 kind ++ bytes 4 vendor) (bytes 2 property) w ∙ append_assoc (bytes 2 kind) (bytes 4 vendor) (bytes 2 property ++ w)

module _ (vendor property : ℕ) (lv : vendor < 256 ^ 4) (lp : property < 256 ^ 2) where
  pub any_spells : {old new : List ℕ} {n : ℕ} → length old ≡ 8 → Put old 0 (bytes 2 16 ++ bytes 4 vendor ++ bytes 2 property) new n → Keyed tidy new (any_key vendor property)
  any_spells {old} {new} k p =
      let f = bytes 2 16 ++ bytes 4 vendor ++ bytes 2 property in
      let size : length f ≡ 8 = front_size 16 vendor property in
      let all : new ≡ f ++ [] = p.bytes ∙ put_front old f (omega (arith, size, k)) ∙ ap (λ l. f ++ l) (drop_of_length-le old {i = length f} (omega (arith, size, k))) in
      subst (λ w. Keyed tidy w (any_key vendor property)) (sym (all ∙ front_word 16 vendor property [])) (as' (both (grammar.num {n = 16} (omega arith)) (both (grammar.num lv) (both (grammar.num lp) empty))))

  module _ (us : List ℕ) where
    pub own_spells : ((i : ℕ) → get_or us i 0 < 256 ^ 2) → (head rest : List ℕ) {told tnew new : List ℕ} {a n : ℕ} {r : (Result ℕ Refusal)} → length head ≡ 8 → r ≡ Ok n → Wrote (text_said us) told (says_count r) tnew
        → Put (head ++ (tnew ++ rest)) 0 (bytes 2 17 ++ bytes 4 vendor ++ bytes 2 property) new a → Spells (own_key vendor property us) new (Ok (a + n))
    own_spells small head rest {told} {tnew} {new} {a} {n} k is w p =
        let f = bytes 2 17 ++ bytes 4 vendor ++ bytes 2 property in
        let size : length f ≡ 8 = front_size 17 vendor property in
        let d = whole (subst (λ x. Wrote (text_said us) told (says_count x) tnew) is w) in
        let s = said_text us d.bs d.due in
        let room : length f ≤ length (head ++ (tnew ++ rest)) = omega (arith, size, k, length-append head (tnew ++ rest)) in
        let rest_of : drop (length f) (head ++ (tnew ++ rest)) ≡ tnew ++ rest = drop_at head (tnew ++ rest) (length f) (k ∙ sym size) in
        let more = drop (length d.bs) told ++ rest in
        let all : new ≡ (f ++ d.bs) ++ more =
        p.bytes ∙ put_front (head ++ (tnew ++ rest)) f room ∙ ap (λ l. f ++ l) (rest_of ∙ ap (λ l. l ++ rest) d.left ∙ append_assoc d.bs (drop (length d.bs) told) rest) ∙ sym (append_assoc f d.bs more) in
        let till : length (f ++ d.bs) ≡ a + n = omega (arith, length-append f d.bs, p.place, d.count) in
        let word : take (a + n) new ≡ f ++ d.bs = ap (take (a + n)) all ∙ take_at (f ++ d.bs) more (a + n) till in
        word_of {n = a + n} (omega (arith, ap length all, length-append (f ++ d.bs) more, till))
        (subst (λ l. Keyed tidy l (own_key vendor property us)) (sym (word ∙ ap (λ l. f ++ l) s.2 ∙ front_word 17 vendor property (text.write us)))
        (as' (both (grammar.num {n = 17} (omega arith)) (both (grammar.num lv) (both (grammar.num lp) (text_of us small s.0 s.1))))))

pub text_short : (us : List ℕ) → length us ≤ 254 → length (text.write us) ≤ 511
unfolding spelled
text_short us l = go (length us) refl
  where
    go : (n : ℕ) → length us ≡ n → length (text.write us) ≤ 511
    go zero e = omega (arith, given_size us 1 (λ i. refl, λ i. absurd (i e)))
    go (suc n) e = omega (arith, given_size us (length us * 2 + 3) (λ i. let z : ⊥ = omega (arith, i, e) in absurd z, λ i. refl))

own_text : (w : List ℕ) (k : Key) → Keyed tidy w k → k.kind ≡ OWN → (sw : List ℕ) × Text tidy sw k.serial
own_text w k (as' (both {a = kind} g (both h (both {v = sw} {b = us} i j)))) e = (sw, subst (λ b. Serial b tidy sw us) (eq-eqb kind OWN e) j)

-- units that are refused are no key's
pub own_none : (vendor property : ℕ) (us : List ℕ) {told tnew : List ℕ} {t : Told} {r : (Result ℕ Refusal)} → r ≡ Err t → Wrote (text_said us) told (says_count r) tnew → 511 ≤ length told
    → (w : List ℕ) → Keyed tidy w (own_key vendor property us) → ⊥
own_none vendor property us {told} {tnew} {t} is wrote room w g = of (kept (subst (λ x. Wrote (text_said us) told (says_count x) tnew) is wrote)).1
  where
    of : Kept (text_said us) told t → ⊥
    of (not_due e) = let s = own_text w (own_key vendor property us) g refl in let f = text-said s.0 us s.1 in zero_one (cc)
    of (too_short bs e l r) = let s = said_text us bs e in omega (arith, ap length s.2, text_short us s.1)

-- what is no key's, no entry has
none_holds : {e : Edition} {s : List ℕ} {at upto : ℕ} {xs : List Entry} → Bytes s → (k : Key) → ((w : List ℕ) → Keyed tidy w k → ⊥) → Chain e s at xs upto → holds k (settings_in s xs) ≡ false
unfolding holds
none_holds h k n stop = refl
none_holds {e} {s} {at} h k n (link {m} {x} {xs} f c) = go (same_key k (key_in s x)) refl (none_holds h k n c)
  where
    go : (b : Bool) → same_key k (key_in s x) ≡ b → holds k (settings_in s xs) ≡ false → pick b true (holds k (settings_in s xs)) ≡ false
    go true i r = let sp = entry_sound e s at x m h f in absurd (n sp.key (subst (Keyed tidy sp.key) (sym (same_true k (key_in s x) i)) sp.key_is))
    go false i r = r

pub none_places : (s : List ℕ) → Bytes s → (k : Key) → ((w : List ℕ) → Keyed tidy w k → ⊥) → Places s (length s) k (length s)
none_places s h k n = record { places = λ e xs c. sym (new-place s h c k (none_holds h k n c)) }

-- what was answered
pub spells_done : {k : Key} {out : List ℕ} {r : (Result ℕ Refusal)} {n : ℕ} → r ≡ Ok n → Spells k out r → (n ≤ length out) × Keyed tidy (take n out) k
spells_done {k} {out} {n = n} e s = of (subst (Spells k out) e s)
  where
    of : Spells k out (Ok n) → (n ≤ length out) × Keyed tidy (take n out) k
    of (word_of l g) = (l, g)

pub spells_none : {k : Key} {out : List ℕ} {r : (Result ℕ Refusal)} {t : Told} → r ≡ Err t → Spells k out r → (w : List ℕ) → Keyed tidy w k → ⊥
spells_none {k} {out} {t = t} e s = of (subst (Spells k out) e s)
  where
    of : Spells k out (Err t) → (w : List ℕ) → Keyed tidy w k → ⊥
    of (no_word f) = f

-- ── the place that is found ──

module _ (vendor property : ℕ) (serial s : List ℕ) where
  pub best_one : {e : Edition} → e ≡ edition.One → {r : ℕ} → Places s (length s) (any_key vendor property) r → Best e vendor property serial s r
  unfolding best_of
  best_one {e} i {r} p = subst (λ d. Best d vendor property serial s r) (sym i) (record { best = λ xs c. p.places edition.One xs c })

  pub best_own : {e : Edition} → e ≡ edition.Two → {r : ℕ} → Places s (length s) (own_key vendor property serial) r → r < length s → Best e vendor property serial s r
  unfolding best_of
  best_own {e} i {r} p l = subst (λ d. Best d vendor property serial s r) (sym i) (record { best = λ xs c. let q = p.places edition.Two xs c in rw (lt-ltb _ (length s) (rw q at l)) q })

  pub best_any : {e : Edition} → e ≡ edition.Two → {r q : ℕ} → Places s (length s) (own_key vendor property serial) r → length s ≤ r → Places s (length s) (any_key vendor property) q → Best e vendor property serial s q
  unfolding best_of
  best_any {e} i {r} {q} p l o = subst (λ d. Best d vendor property serial s q) (sym i) (record { best = λ xs c. let f = p.places edition.Two xs c in rw (le-ltb _ (length s) (rw f at l)) (o.places edition.Two xs c) })
