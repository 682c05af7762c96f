-- Which field of an entry a refusal is told of, and as which: the reader of places goes through the same fields as the codec of the content, and stops where it does.
-- Assumes nothing.
use mathlib.Core.Path.{◌≡◌, sym, ◌∙◌, ap, subst}
use mathlib.Core.Bool.{Bool, true, false}
use mathlib.Core.List.{List, []}
use Prim.Native.Nat.{ℕ, ◌+◌}
use native.Mathlib.Omega.{arith}
use lib.Dec.{eqb}
use lib.ListN.{drop, length-drop}
use Rattle.layout.specs.Answer.{Told, Answer, got, refused, pick, after, means}
use Rattle.layout.specs.Bytes.{Bytes}
use Rattle.layout.specs.Fault.{Faulted, Begins}
use Rattle.layout.specs.Spot.{Points, Spotted}
use Rattle.layout.proofs.laws.Final.{nothing_faults, number_faults, then_faults, as_faults}
use Rattle.layout.proofs.laws.Make.{number_format}
use Rattle.layout.proofs.laws.Numbers.{zero_one}
use Rattle.layout.proofs.laws.Reading.{means_means}
use Rattle.layout.proofs.laws.Spotted.{nothing_spotted, number_spotted, then_spotted, as_spotted, points}
use Rattle.layout.proofs.laws.Words.{part_there}
use Rattle.wire.specs.Codecs.{text, value}
use Rattle.wire.specs.Places.{num_at, text_at, items_in, value_at}
use Rattle.wire.proofs.laws.Grounds.{text_faults, text_spotted, value_faults, value_spotted}
use Rattle.wire.proofs.laws.Located.{texts, values}
use Rattle.settings.specs.Entry.{serial_at, typed_at, fields_at}
use Rattle.settings.specs.Fields.{SerialFault, KeyFault, ContentFault, SerialSpot, KeySpot, ContentSpot}
use Rattle.settings.specs.Layout.{OWN, key_from, setting_from, Content}
use Rattle.settings.specs.declared.entry.Entry.{Entry}
use Rattle.settings.proofs.Spelled.{serial_codec, key_codec, key_format, content_codec, content_format}

-- ── the content's faults and spots are its codec's ──

serial_faults : (own : Bool) → Faulted (SerialFault own) (serial_codec own)
serial_faults true = text_faults
serial_faults false = nothing_faults []

serial_spotted : (own : Bool) → Spotted (SerialSpot own) (serial_codec own)
serial_spotted true = text_spotted
serial_spotted false = nothing_spotted []

key_faults : Faulted KeyFault key_codec
key_faults = as_faults _ _ (then_faults (number_format 2) (number_faults 2) λ kind. then_faults (number_format 4) (number_faults 4) λ _. then_faults (number_format 2) (number_faults 2) λ _. serial_faults (eqb kind OWN))

key_spotted : Spotted KeySpot key_codec
key_spotted = as_spotted _ _ (then_spotted (number_format 2) (number_spotted 2) λ kind. then_spotted (number_format 4) (number_spotted 4) λ _. then_spotted (number_format 2) (number_spotted 2) λ _. serial_spotted (eqb kind OWN))

pub content_faults : Faulted ContentFault content_codec
content_faults = as_faults _ _ (then_faults key_format key_faults λ _. then_faults (number_format 2) (number_faults 2) λ type. value_faults type)

pub content_spotted : Spotted ContentSpot content_codec
content_spotted = as_spotted _ _ (then_spotted key_format key_spotted λ _. then_spotted (number_format 2) (number_spotted 2) λ type. value_spotted type)

-- ── two readers that stop at the same place ──

data Both {A B : Type 0} : Answer A → Answer B → Type 0 where
  both_got : {a : A} {b : B} {n : ℕ} → Both (got a n) (got b n)
  both_refused : {t : Told} → Both (refused t) (refused t)

refused_both : {A B : Type 0} {x : Answer A} {y : Answer B} {t : Told} → Both x y → x ≡ refused t → y ≡ refused t
refused_both both_got e = zero_one (cc)
refused_both both_refused e = cc

meant_both : {A B C : Type 0} (f : B → C) {x : Answer A} {y : Answer B} → Both x y → Both x (means f y)
unfolding means
meant_both f both_got = both_got
meant_both f both_refused = both_refused

self_meant : {A B : Type 0} (f : A → B) (x : Answer A) → Both x (means f x)
unfolding means
self_meant f (got a n) = both_got
self_meant f (refused t) = both_refused

same_both : {A B C : Type 0} (x : Answer A) {k : A → ℕ → Answer B} {l : A → ℕ → Answer C} → ((a : A) (n : ℕ) → Both (k a n) (l a n)) → Both (after x k) (after x l)
unfolding after
same_both (got a n) f = f a n
same_both (refused t) f = both_refused

after_both : {A B C D : Type 0} {x : Answer A} {y : Answer B} {k : A → ℕ → Answer C} {l : B → ℕ → Answer D} → Both x y → ((a : A) (b : B) (n : ℕ) → Both (k a n) (l b n)) → Both (after x k) (after y l)
unfolding after
after_both (both_got {a} {b} {n}) f = f a b n
after_both both_refused f = both_refused

ends_both : {A B C : Type 0} {x : Answer A} {y : Answer B} (f : A → ℕ → C) → Both x y → Both (after x λ a n. got (f a n) n) y
unfolding after
ends_both f both_got = both_got
ends_both f both_refused = both_refused

-- the key's fields and those behind it are one row of fields
in_the_key : {A B C D E : Type 0} {x : Answer A} (f : C → D) (y : Answer B) (k : B → ℕ → Answer C) (l : D → ℕ → Answer E) → Both x (after y λ b n. after (means f (k b n)) l) → Both x (after (means f (after y k)) l)
unfolding means after
in_the_key f (got b n) k l h = h
in_the_key f (refused t) k l h = h

of_meant : {A B C D : Type 0} {x : Answer A} (f : B → C) (y : Answer B) (l : C → ℕ → Answer D) → Both x (after y λ b n. l (f b) n) → Both x (after (means f y) l)
unfolding means after
of_meant f (got b n) l h = h
of_meant f (refused t) l h = h

meant_twice : {A B C D E : Type 0} {x : Answer A} (f : C → D) (g : B → C) (y : Answer B) (l : D → ℕ → Answer E) → Both x (after (means (λ b. f (g b)) y) l) → Both x (after (means f (means g y)) l)
meant_twice {x} f g y l h = subst (λ z. Both x (after z l)) (sym (means_means f g y)) h

text_both : (s : List ℕ) (at : ℕ) → Both (text_at s at) (text.read s at)
text_both s at = subst (Both (text_at s at)) (texts.agrees s at) (self_meant (items_in 2 s) (text_at s at))

value_both : (t : ℕ) (s : List ℕ) (at : ℕ) → Both (value_at t s at) ((value t).read s at)
value_both t s at = subst (Both (value_at t s at)) ((values t).agrees s at) (self_meant _ (value_at t s at))

serial_both : (kind : ℕ) (s : List ℕ) (at : ℕ) → Both (serial_at kind s at) ((serial_codec (eqb kind OWN)).read s at)
unfolding serial_at
serial_both kind s at = go (eqb kind OWN)
  where
    go : (b : Bool) → Both (pick b (text_at s at) (got (record { start = at; count = 0 }) at)) ((serial_codec b).read s at)
    go true = text_both s at
    go false = both_got

known_first : {A B C : Type 0} {x : Answer A} {y : Answer B} {b : B} {n : ℕ} (k : B → ℕ → Answer C) → y ≡ got b n → Both x (k b n) → Both x (after y k)
unfolding after
known_first k e h = rw e h

-- the fields behind the kind, which was read
content_both : (start kind : ℕ) (s : List ℕ) (at next : ℕ) → num_at 2 s at ≡ got kind next → Both (fields_at start kind s next) (content_codec.read s at)
unfolding fields_at typed_at
content_both start kind s at next e =
    meant_both setting_from
    (in_the_key key_from (num_at 2 s at) _ _
    (known_first _ e
    (meant_twice key_from (λ b. (kind, b)) _ _
    (in_the_key (λ b. key_from (kind, b)) (num_at 4 s next) _ _
    (same_both (num_at 4 s next) λ vendor a.
    meant_twice (λ b. key_from (kind, b)) (λ b. (vendor, b)) _ _
    (in_the_key (λ b. key_from (kind, (vendor, b))) (num_at 2 s a) _ _
    (same_both (num_at 2 s a) λ property b.
    meant_twice (λ b. key_from (kind, (vendor, b))) (λ b. (property, b)) _ _
    (of_meant (λ b. key_from (kind, (vendor, (property, b)))) _ _
    (after_both (serial_both kind s b) λ _ _ c. meant_both _
    (same_both (num_at 2 s c) λ type d. meant_both _
    (ends_both _ (value_both type s d))))))))))))

-- ── so a refusal of the fields points at the content's spot, and no word begins there ──

module _ (u : List ℕ) (h : Bytes u) (start kind at : ℕ) (kind-read : num_at 2 u at ≡ got kind (at + 2)) {t : Told} (f : fields_at start kind u (at + 2) ≡ refused t) where
  stops : content_codec.read u at ≡ refused t
  stops = refused_both (content_both start kind u at (at + 2) kind-read) f

  pub content_unread : Begins Content (drop at u) → ⊥
  content_unread b =
      let p = b.1.1 in
      let g = content_format.complete (part_there u at b.1.0 (omega (arith, p.within, length-drop at u))) p.reads in
      let z = sym stops ∙ g in
      zero_one (cc)

  pub content_points : Points {L = Entry} ContentFault ContentSpot (drop at u) at (refused t)
  content_points =
      let o = points content_format content_faults content_spotted u h at in
      record {
        some = λ v e. o.some t stops;
        end_there = λ q i clean. let z = sym stops ∙ o.end_there q i clean in ap refused (cc);
        text_there = λ q i spoilt. let z = sym stops ∙ o.text_there q i spoilt in ap refused (cc);
      }
