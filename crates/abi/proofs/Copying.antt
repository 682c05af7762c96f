-- What the copy's word stands for, case by case: too little room for the two numbers, a copy that was written, a refusal.
-- Assumes nothing.
use Rattle.std.proofs.Common.{◌≡◌, ℕ, ◌<◌, ◌≤◌, Bool, true, false, leb, List, ◌∷◌, ◌++◌, length, drop, sym, refl, ◌∙◌, le-leb}
use borrow.Author.Tests.{lt-leb}
use Rattle.layout.specs.Answer.{Told, Answer, got, refused, bare, pick, after, means}
use Rattle.layout.specs.Refusals.{ROOM}
use Rattle.layout.specs.Written.{said_of, answer_of, left_of}
use Rattle.layout.proofs.laws.Numbers.{zero_one}
use Rattle.recording.specs.Content.{Record}
use Rattle.recording.specs.Row.{row_of}
use Rattle.recording.specs.Copied.{kept_of, kept, copy_said, none, left_by, left_out, copy_of, Copies}
use Rattle.recording.specs.declared.copy.Left.{Left}
use Rattle.abi.specs.Answered.{word, Tells}
use Rattle.abi.specs.Copied.{unroomed, copied_into, CopiesInto}

abbrev pub or_room : {A B : Type 0} → Answer A → Answer B
or_room (got a n) = refused (bare ROOM)
or_room (refused t) = refused t

-- whatever the copy's own room was
pub without_room : {A : Type 0} (s out : List ℕ) → or_room (copy_of s out) ≡ unroomed {A = A} s
unfolding copy_of copy_said kept left_out unroomed said_of answer_of means after
without_room {A} s out = go (row_of s)
  where
    room : (l : Left) (n : ℕ) (b : Bool) → or_room {B = A} (means (λ _. l) (pick b (got (tt {0}) n) (refused (bare ROOM)))) ≡ refused (bare ROOM)
    room l n true = refl
    room l n false = refl

    go : (y : Answer (List Record)) → or_room {B = A} (after (means (left_by none) y) λ l _. means (λ _. l) (answer_of (said_of (means (kept_of s) y)) out)) ≡ after (means (left_by none) y) λ _ _. refused (bare ROOM)
    go (got xs n) = room (left_by none xs) (length (kept_of s xs)) (leb (length (kept_of s xs)) (length out))
    go (refused t) = refl

-- a refused copy changes nothing
copy_kept : (s out : List ℕ) {t : Told} → refused t ≡ copy_of s out → left_of (copy_said s) out ≡ out
unfolding copy_of copy_said kept left_out said_of answer_of left_of means after
copy_kept s out {t} e = go (row_of s) e
  where
    room : (w : List ℕ) (l : Left) (b : Bool) → refused t ≡ means (λ _. l) (pick b (got (tt {0}) (length w)) (refused (bare ROOM))) → pick b (w ++ drop (length w) out) out ≡ out
    room w l true f = zero_one (cc)
    room w l false f = refl

    go : (y : Answer (List Record)) → refused t ≡ after (means (left_by none) y) (λ l _. means (λ _. l) (answer_of (said_of (means (kept_of s) y)) out)) → left_of (said_of (means (kept_of s) y)) out ≡ out
    go (got xs n) f = room (kept_of s xs) (left_by none xs) (leb (length (kept_of s xs)) (length out)) f
    go (refused u) f = refl

module _ (s out left : List ℕ) where
  pub says_unroomed : {r : ℕ} → length left < 2 → r ≡ word (unroomed {A = Unit {0}} s) → Tells (CopiesInto s out left out left) r
  unfolding copied_into unroomed word after
  says_unroomed {r} h e = go (left_out s) refl
    where
      go : (y : Answer Left) → left_out s ≡ y → Tells (CopiesInto s out left out left) r
      go (got l n) f = record { answer = refused (bare ROOM); allows = record { answers = rw (lt-leb 2 (length left) h, f); leaves = refl; counts = refl }; told = rw f at e }
      go (refused t) f = record { answer = refused t; allows = record { answers = rw (lt-leb 2 (length left) h, f); leaves = refl; counts = refl }; told = rw f at e }

  into : 2 ≤ length left → copied_into s out left ≡ copy_of s out
  unfolding copied_into
  into room = rw (le-leb 2 (length left) room)

  pub says-copied : {out' left' : List ℕ} {l : Left} {n r : ℕ} → 2 ≤ length left → Copies s out (got l n) out' → left' ≡ l.records ∷ l.bytes ∷ drop 2 left → r ≡ word {A = Unit {0}} (got tt n) →
      Tells (CopiesInto s out left out' left') r
  unfolding word
  says-copied {l = l} {n = n} room c f e = record { answer = got l n; allows = record { answers = c.answers ∙ sym (into room); leaves = c.leaves; counts = f }; told = e }

  pub says_refused : {out' : List ℕ} {t : Told} {r : ℕ} → 2 ≤ length left → Copies s out (refused t) out' → r ≡ word {A = Unit {0}} (refused t) → Tells (CopiesInto s out left out' left) r
  unfolding word
  says_refused {t = t} room c e = record { answer = refused t; allows = record { answers = c.answers ∙ sym (into room); leaves = c.leaves ∙ copy_kept s out c.answers; counts = refl }; told = e }
