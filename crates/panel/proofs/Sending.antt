-- What is lent on as the payload is the chosen value's tidy word: of a string what the tidy writer made, and of any other value the chosen bytes themselves.
-- Assumes nothing.
use Rattle.std.proofs.Common.{◌≡◌, ℕ, zero, suc, ◌≤◌, Bool, List, ◌++◌, length, take, drop, sym, refl, ap, ◌∙◌, subst, arith, length-append}
use lib.Seq.{take-append_seam}
use Rattle.layout.specs.Answer.{Answer, Told, got, refused, means}
use Rattle.layout.specs.Bytes.{Bytes}
use Rattle.layout.specs.Grammar.{loose, Number, num, empty, lead, such, as', both}
use Rattle.layout.specs.Written.{says, no, Wrote, said_of, tidied}
use Rattle.layout.proofs.laws.Did.{whole, Kept, not_due, too_short, kept}
use Rattle.layout.proofs.laws.Make.{repeat_length}
use Rattle.layout.proofs.laws.Numbers.{length_bytes, zero_one}
use Rattle.layout.proofs.laws.Reading.{unmeant, refused_meant}
use Rattle.layout.proofs.laws.Words.{self}
use Rattle.layout.proofs.laws.Writing.{refusal}
use Rattle.session.specs.Transaction.{with_data, Makes, says_made}
use Rattle.session.specs.declared.transaction.Made.{Made}
use Rattle.std.specs.declared.result.Result.{Result}
use Rattle.layout.specs.declared.Refusal.{Refusal}
use Rattle.session.specs.declared.transaction.Session.{Session}
use Rattle.wire.specs.Codecs.{text, value}
use Rattle.wire.specs.Layout.{Text, string, Val, Shaped, Value}
use Rattle.wire.specs.Tidy.{spelled}
use Rattle.wire.specs.declared.container.Command.{Command}
use Rattle.wire.proofs.laws.Formats.{value_format, own_word}
use Rattle.wire.proofs.laws.Numbered.{given_none, some_size}
use Rattle.panel.specs.Panel.{set_device_prop_value, Chosen, chosen_in, sent, panel_said, Sends, IsValue}
use Rattle.panel.proofs.Weighing.{chosen_word}

-- ── a string's tidy word ──

few_units : (w us : List ℕ) → Text loose w us → length us ≤ 254
few_units w us (lead {a = zero} g e empty) = omega arith
few_units w us (lead {a = suc m} (num h) e (such p (as' (both {u = x} {a} q k)))) = omega (arith, repeat_length (Number 2) loose m x a q)

text_short : (w : List ℕ) (v : Val) → Shaped string loose w v → length ((value 0xFFFF).write v) ≤ 511
unfolding spelled
text_short w v (as' {a = us} g) = go (length us) refl (few_units w us g)
  where
    go : (n : ℕ) → length us ≡ n → n ≤ 254 → length (text.write us) ≤ 511
    go zero e h = omega (arith, ap length (given_none us e), length_bytes 1 0)
    go (suc n) e h = omega (arith, some_size us (λ z. omega arith))

module _ (t : ℕ) (s : List ℕ) (v : Val) (g : Value t loose s v) where
  tidied_says : tidied (value t) s ≡ says ((value t).write v)
  unfolding said_of means
  tidied_says = rw ((value_format t).complete (self s) g)

  module _ {old new : List ℕ} where
    pub tidy_done : {n : ℕ} → Wrote (tidied (value t) s) old (got tt n) new → (n ≤ length new) × (take n new ≡ (value t).write v)
    tidy_done {n} w =
        let a = whole w in
        let same : says a.bs ≡ says ((value t).write v) = sym a.due ∙ tidied_says in
        let is : a.bs ≡ (value t).write v = cc in
        (omega (arith, a.count, ap length a.left, length-append a.bs (drop (length a.bs) old)), ap (take n) a.left ∙ ap (λ m. take m (a.bs ++ drop (length a.bs) old)) a.count ∙ take-append_seam a.bs (drop (length a.bs) old) ∙ is)

    pub tidy_never : {X : Type 0} {u : Told} → t ≡ 0xFFFF → length old ≡ 511 → Wrote (tidied (value t) s) old (refused u) new → X
    tidy_never {X} {u} e size w = of (kept w).1
      where
        short : length ((value t).write v) ≤ 511
        short = subst (λ n. Value n loose s v → length ((value n).write v) ≤ 511) (sym e) (λ k. text_short s v k) g

        of : Kept (tidied (value t) s) old u → X
        of (not_due f) = let z : says ((value t).write v) ≡ no u = sym tidied_says ∙ f in zero_one (cc)
        of (too_short bs f h k) =
            let z : says ((value t).write v) ≡ says bs = sym tidied_says ∙ f in
            let is : (value t).write v ≡ bs = cc in
            absurd (omega (arith, short, ap length is))

-- ── the command ──

pub sent_as : {x : Session} {c : Command} {property : ℕ} {p w old new : List ℕ} {a : Answer _} → c ≡ set_device_prop_value property → p ≡ w → Makes x c.code (with_data c p) old a new →
    Makes x 0x1016 (with_data (set_device_prop_value property) w) old a new
sent_as {x} {property} {w} {old} {new} {a} e f m = subst (λ q. Makes x q.code (with_data q w) old a new) e (rw f at m)

-- Any other value is its own tidy word.
pub sends_own : {x : Session} {c : Command} {property t : ℕ} {s old new : List ℕ} {r : Result Made Refusal} → c ≡ set_device_prop_value property → (t ≡ 0xFFFF → ⊥) → Makes x c.code (with_data c s) old (says_made r) new → Sends x property t s old r new
sends_own {t} {s} e other m = record { sends = λ v g. sent_as e (own_word t other s v g) m }

-- ── the answer of the whole ──

module _ (there : Bool) (d chosen : List ℕ) (t : ℕ) where
  pub makes_chosen : {x : Session} {old : List ℕ} → Bytes chosen → (property n : ℕ) → got property n ≡ means (λ (c : Chosen). c.property) (chosen_in there d t chosen) → {r : Result Made Refusal} {new : List ℕ} → Sends x property t chosen old r new → Makes x 0x1016 (panel_said there d t chosen) old (says_made r) new
  unfolding sent
  makes_chosen {x} {old} h property n e {r} {new} s =
      let c = unmeant (λ (c : Chosen). c.property) (chosen_in there d t chosen) (sym e) in
      let m = s.sends c.0.value (chosen_word there d chosen h t c.0 n c.1) in
      subst (λ y. Makes x 0x1016 (sent t y) old (says_made r) new) (sym c.1) (subst (λ p. Makes x 0x1016 (with_data (set_device_prop_value p) ((value t).write c.0.value)) old (says_made r) new) (sym c.2) m)

  pub makes_refused : {x : Session} {old : List ℕ} (u : Told) → refused u ≡ means (λ (c : Chosen). c.property) (chosen_in there d t chosen) → Makes x 0x1016 (panel_said there d t chosen) old (refused u) old
  unfolding sent means
  makes_refused {x} {old} u e =
      subst (λ y. Makes x 0x1016 (sent t y) old (refused u) old) (sym (refused_meant (λ (c : Chosen). c.property) (chosen_in there d t chosen) (sym e))) (record { written = refused u; wrote = refusal refl; answers = refl })

  pub chosen_is : Bytes chosen → (property n : ℕ) → got property n ≡ means (λ (c : Chosen). c.property) (chosen_in there d t chosen) → IsValue t chosen
  chosen_is h property n e =
      let c = unmeant (λ (c : Chosen). c.property) (chosen_in there d t chosen) (sym e) in
      (c.0.value, chosen_word there d chosen h t c.0 n c.1)
