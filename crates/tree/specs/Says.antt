-- What each answer says, and what a question leaves.
-- Assumes nothing.
use Rattle.std.specs.Prelude.{◌≡◌, Bool, List, ◌++◌, ℕ, length, drop, replicate}
use Rattle.layout.specs.Answer.{Told, got, refused, bare}
use Rattle.tree.specs.Table.{Table, rows, flags, live, table_at}
use Rattle.tree.specs.Way.{Walk}
use Rattle.tree.specs.declared.Order.{Order}

-- the walk stands at the front of `new`, all behind it as it was in `old`, and r says how long it is
pub record Walks (ps : List ℕ) (has : ℕ → Bool) (old : List ℕ) (r : ℕ) (new : List ℕ) : Type 0 where
  pub list : List ℕ
  pub walk : Walk ps has list
  pub places : new ≡ list ++ drop (length list) old
  pub count : r ≡ length list

-- a queue of 1,024 places with nothing in it
abbrev pub empty : List ℕ
empty = replicate 1024 0

-- a table that is accepted has its walk, with no refusal, whose number is 0, and the places behind it are 0; any other has its refusal and no place
pub data OrderSays (t : Table) (r : Order) : Type 0 where
  order : {n : ℕ} → table_at t ≡ got tt n → r.refusal ≡ bare 0 → Walks (rows t) (live (flags t)) empty r.count r.places → OrderSays t r
  no_order : {why : Told} → table_at t ≡ refused why → r.refusal ≡ why → r.count ≡ 0 → r.places ≡ empty → OrderSays t r
