-- The units of a string, of the function's own answer: `r` is any answer, and `new` any memory, that the promise of `Cursor::units` allows.
-- Assumes nothing.
use Rattle.layout.specs.Answer.{says_count}
use Rattle.std.specs.declared.result.Result.{Result}
use Rattle.layout.specs.declared.Refusal.{Refusal}
use mathlib.Core.Path.{◌≡◌, refl, sym, ap, ◌∙◌}
use mathlib.Core.Bool.{Bool, true, false}
use mathlib.Core.List.{List, ◌++◌}
use Prim.Native.Nat.{ℕ, ◌≤◌, ◌<◌}
use borrow.Author.Tests.{lt-leb}
use lib.Dec.{leb}
use lib.ListN.{length, drop}
use Rattle.layout.specs.Answer.{Told, Answer, got, refused, bare, pick, means}
use Rattle.layout.specs.Bytes.{Bytes}
use Rattle.layout.specs.Format.{Stands}
use Rattle.layout.specs.Grammar.{loose}
use Rattle.layout.specs.Refusals.{ROOM}
use Rattle.layout.specs.Written.{said_of, Wrote, answer_of, left_of}
use Rattle.layout.proofs.laws.Meets.{read_word}
use Rattle.layout.proofs.laws.Numbers.{zero_one}
use Rattle.layout.proofs.laws.Writing.{wrote_so}
use Rattle.wire.specs.Codecs.{text}
use Rattle.wire.specs.Layout.{Text}
use Rattle.wire.specs.Places.{text_at, items_in}
use Rattle.wire.proofs.Agrees.{text_agrees}
use Rattle.wire.proofs.laws.Formats.{text_format}

module _ (s : List ℕ) (at : ℕ) {old new : List ℕ} (r : (Result ℕ Refusal)) (promised : Wrote (said_of (text.read s at)) old (says_count r) new) where
  -- where a string with the units us stands
  module _ {w us : List ℕ} {q : ℕ} (st : Stands s at q w) (g : Text loose w us) where
    read_there : text.read s at ≡ got us q
    read_there = text_format.complete st g

    -- they are given, and nothing past them changes
    pub units_given : length us ≤ length old → (says_count r ≡ got tt (length us)) × (new ≡ us ++ drop (length us) old)
    unfolding said_of
    units_given room = wrote_so (ap said_of read_there) room promised

    -- 9 where they have no room
    pub units_9 : length old < length us → (says_count r ≡ refused (bare ROOM)) × (new ≡ old)
    unfolding said_of answer_of left_of
    units_9 short = (promised.answers ∙ rw (read_there, lt-leb _ _ short), promised.leaves ∙ rw (read_there, lt-leb _ _ short))

  -- where none does, the string's own refusal, and nothing changes
  pub units_unread : (u : Told) → text_at s at ≡ refused u → (says_count r ≡ refused u) × (new ≡ old)
  unfolding said_of means answer_of left_of
  units_unread u e =
      let no : text.read s at ≡ refused u = sym (text_agrees s at) ∙ ap (means (items_in 2 s)) e in
      (promised.answers ∙ ap (λ y. answer_of (said_of y) old) no, promised.leaves ∙ ap (λ y. left_of (said_of y) old) no)

  -- what is given stands there
  pub units_stand : Bytes s → (n : ℕ) → says_count r ≡ got tt n → (w : List ℕ) × (us : List ℕ) × (q : ℕ) × Stands s at q w × Text loose w us × (n ≡ length us)
  unfolding said_of answer_of
  units_stand h n f = go (text.read s at) refl
    where
      room : (us : List ℕ) (b : Bool) → got (tt {0}) n ≡ pick b (got (tt {0}) (length us)) (refused (bare ROOM)) → n ≡ length us
      room us true e = cc
      room us false e = zero_one (cc)

      go : (x : Answer (List ℕ)) → text.read s at ≡ x → (w : List ℕ) × (us : List ℕ) × (q : ℕ) × Stands s at q w × Text loose w us × (n ≡ length us)
      go (got us q) e =
          let (w, st, g) = read_word text_format h e in
          (w, us, q, st, g, room us (leb (length us) (length old)) (sym f ∙ promised.answers ∙ ap (λ y. answer_of (said_of y) old) e))
      go (refused u) e = zero_one (cc (promised.answers, f, ap (λ y. answer_of (said_of y) old) e))
