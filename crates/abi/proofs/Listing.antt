-- What the word of a window's listing stands for: too little room for the four numbers, or the lines that were listed.
-- Assumes nothing.
use Rattle.std.proofs.Common.{◌≡◌, ℕ, ◌<◌, ◌≤◌, List, [], ◌∷◌, ◌++◌, length, drop, refl, ap, ◌∙◌, le-leb}
use borrow.Author.Tests.{lt-leb}
use Rattle.layout.specs.Answer.{Told, got, refused, bare}
use Rattle.layout.specs.Refusals.{ROOM}
use Rattle.listing.specs.Window.{Windowed, Lists}
use Rattle.listing.specs.declared.Listed.{Listed}
use Rattle.abi.specs.Answered.{word, Tells}
use Rattle.abi.specs.Listed.{ListsInto}
use Rattle.abi.specs.Rows.{side}

-- the numbers of what was listed
abbrev pub counts_row : Listed → List ℕ
counts_row x = x.used ∷ x.tally.place ∷ x.tally.records ∷ side x.stopped ∷ []

module _ (w : Windowed) (out row : List ℕ) {r : ℕ} where
  pub says_unlisted : {t : Told} → length row < 4 → t ≡ bare ROOM → r ≡ word {A = Unit {0}} (refused t) → Tells (ListsInto w out row out row) r
  says_unlisted h e f = record { answer = refused (bare ROOM); allows = record { answers = rw (lt-leb 4 (length row) h); leaves = refl; counts = refl }; told = rw e at f }

  pub says_listed : {x : Listed} {out' row' : List ℕ} → 4 ≤ length row → Lists w out x out' → row' ≡ counts_row x ++ drop 4 row → r ≡ word {A = Unit {0}} (got tt x.written) → Tells (ListsInto w out row out' row') r
  says_listed h l e f = record {
    answer = got tt (length w.text);
    allows = record { answers = rw (le-leb 4 (length row) h); leaves = l.leaves; counts = e ∙ ap (λ y. counts_row y ++ drop 4 row) l.answers };
    told = f ∙ ap (λ y. word {A = Unit {0}} (got tt y.written)) l.answers;
  }
