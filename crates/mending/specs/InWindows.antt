-- What comes out and what is told when windows of the recording are mended one after the other.
-- Assumes nothing.
use Rattle.std.specs.Prelude.{◌≡◌, ℕ, Bool, true, List, [], ◌++◌, drop}
use Rattle.wire.specs.declared.Part.{Part}
use Rattle.mending.specs.declared.window.Tally.{Tally}
use Rattle.mending.specs.Window.{window_of}

-- of the bytes s, from a tally on: what comes out, what is told, and the tally at the end
pub data InWindows : Tally → List ℕ → List ℕ → List Part → Tally → Type 0 where
  -- no byte is left, and no stretch is open
  ends : {t : Tally} → t.untold ≡ 0 → InWindows t [] [] [] t
  -- a window at their front, of any size and with any room, is mended; then what it has not used, with what follows it. Only the last may be said to be the last
  goes : {t end : Tally} {text : List ℕ} {told : List Part} (s more : List ℕ) (last : Bool) (room slots : ℕ) → (last ≡ true → more ≡ []) →
      InWindows (window_of last room slots s t).tally (drop (window_of last room slots s t).used (s ++ more)) text told end →
      InWindows t (s ++ more) ((window_of last room slots s t).text ++ text) ((window_of last room slots s t).told ++ told) end
