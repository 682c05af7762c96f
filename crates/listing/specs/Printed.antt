-- What is printed when windows of the recording are listed one after the other.
-- Assumes nothing.
use Rattle.std.specs.Prelude.{◌≡◌, ℕ, Bool, true, false, List, [], ◌++◌, drop}
use Rattle.listing.specs.Lines.{ending}
use Rattle.listing.specs.Window.{window_of}

-- of the bytes s from a place on, after so many records
pub data Printed : ℕ → ℕ → List ℕ → List ℕ → Type 0 where
  -- no byte is left: the last line
  ends : {place records : ℕ} → Printed place records [] (ending records place)
  -- a window at their front, of any size and with any room, is listed; then what it has not used, with what follows it. Only the last may be said to be the last
  goes : {place records : ℕ} {text : List ℕ} (s more : List ℕ) (last : Bool) (room : ℕ) → (last ≡ true → more ≡ []) → (window_of last room s place records).stopped ≡ false →
      Printed (window_of last room s place records).place (window_of last room s place records).records (drop (window_of last room s place records).used (s ++ more)) text →
      Printed place records (s ++ more) ((window_of last room s place records).text ++ text)
  -- a refusal ended it: the last line
  stops : {place records : ℕ} (s more : List ℕ) (last : Bool) (room : ℕ) → (last ≡ true → more ≡ []) → (window_of last room s place records).stopped ≡ true →
      Printed place records (s ++ more) ((window_of last room s place records).text ++ ending (window_of last room s place records).records (window_of last room s place records).place)
