-- What stands at a name's place in the name bytes is the name: the names before it take just the bytes up to its start.
-- Assumes nothing.
use mathlib.Core.Path.{◌≡◌, refl, ap}
use mathlib.Core.Bool.{Bool, true, false}
use mathlib.Core.List.{List, [], ◌∷◌, ◌++◌, append_assoc, append-nil}
use mathlib.Core.Option.{Option, none, some}
use Prim.Native.Nat.{ℕ, zero, suc, ◌-◌, ◌≤◌, ◌<◌}
use Prim.Native.String.{String}
use native.Mathlib.Nat.{not-suc-le-zero, le_of_suc-le-suc}
use borrow.Author.Tests.{ltb-true, le-ltb, lt-ltb, le-leb, lt-leb}
use lib.Dec.{leb, ltb}
use lib.ListN.{length, take, drop, get_or, length-append}
use lib.Seq.{take-append_seam, drop-append-add}
use Rattle.layout.specs.Answer.{pick}
use Rattle.names.specs.Names.{responses, commands, spelled, joined, name_bytes, given, entry_of, name_at, place_at, response_name, command_name, response_place, command_place}
use Rattle.names.specs.Says.{bytes_at, Inside}
use Rattle.names.proofs.Tables.{Ruled, response_ruled, command_ruled}

-- ── the entry of a code ──

pub before_table : (base n code : ℕ) → code < base → entry_of base n code ≡ none
unfolding entry_of
before_table base n code h = rw (lt-leb base code h)

pub past_table : (base n code : ℕ) → base ≤ code → n ≤ code - base → entry_of base n code ≡ none
unfolding entry_of
past_table base n code h k = rw (le-leb base code h, le-ltb (code - base) n k)

-- the table's numbers are the place of the name
pub in_table : (base first : ℕ) (names : List String) {starts lengths : List ℕ} {code : ℕ} → base ≤ code → code - base < length names → Ruled first names starts lengths (code - base) →
    ◌≡◌ {A = Option (ℕ × ℕ)} (some (get_or starts (code - base) 0, get_or lengths (code - base) 0)) (given (place_at first names) (entry_of base (length names) code))
unfolding entry_of
in_table base first names {code = code} h k r = rw (le-leb base code h, lt-ltb (code - base) (length names) k, r.start, r.len)

-- an entry is one of the table's
entered : (base n code : ℕ) → (P : Option ℕ → Type 0) → P none → ((k : ℕ) → k < n → P (some k)) → P (entry_of base n code)
unfolding entry_of
entered base n code P o f = outer (leb base code)
  where
    inner : (b : Bool) → ltb (code - base) n ≡ b → P (pick b (some (code - base)) none)
    inner true e = f (code - base) (ltb-true (code - base) n e)
    inner false e = o

    outer : (b : Bool) → P (pick b (pick (ltb (code - base) n) (some (code - base)) none) none)
    outer true = inner (ltb (code - base) n) refl
    outer false = o

-- ── the name at its place ──

front : (names : List String) (k : ℕ) (rest : List ℕ) → k < length names → take (length (name_at names k)) (drop (length (joined (take k names))) (joined names ++ rest)) ≡ name_at names k
front [] k rest h = absurd (not-suc-le-zero h)
front (n ∷ ns) zero rest h = rw append_assoc (take-append_seam (spelled n) (joined ns ++ rest))
front (n ∷ ns) (suc k) rest h =
    rw (length-append (spelled n) (joined (take k ns)), append_assoc (spelled n) (joined ns) rest, drop-append-add (spelled n) (joined ns ++ rest) (length (joined (take k ns))))
    (front ns k rest (le_of_suc-le-suc h))

-- with other bytes before the table's
stands : (pre : List ℕ) (names : List String) (k : ℕ) (rest : List ℕ) → k < length names →
    take (place_at (length pre) names k).1 (drop (place_at (length pre) names k).0 (pre ++ (joined names ++ rest))) ≡ name_at names k
stands pre names k rest h = rw (drop-append-add pre (joined names ++ rest) (length (joined (take k names)))) (front names k rest h)

pub response_spells : (code : ℕ) → given bytes_at (response_place code) ≡ response_name code
unfolding response_place response_name name_bytes
response_spells code =
    entered 0x2000 (length responses) code (λ e. given bytes_at (given (place_at 0 responses) e) ≡ given (name_at responses) e) refl
    λ k h. ap some (stands [] responses k (joined commands) h)

pub command_spells : (code : ℕ) → given bytes_at (command_place code) ≡ command_name code
unfolding command_place command_name name_bytes
command_spells code =
    entered 0x1000 (length commands) code (λ e. given bytes_at (given (place_at (length (joined responses)) commands) e) ≡ given (name_at commands) e) refl
    λ k h. ap some (rw append-nil at (stands (joined responses) commands k [] h))

-- a name has at most 37 bytes
abbrev pub Short : Option (List ℕ) → Type 0
Short none = Unit {0}
Short (some bs) = length bs ≤ 37

pub response_short : (code : ℕ) → Short (response_name code)
unfolding response_name responses
response_short code = entered 0x2000 (length responses) code (λ e. Short (given (name_at responses) e)) tt λ k h. let r = response_ruled k h in rw r.len at r.short

pub command_short : (code : ℕ) → Short (command_name code)
unfolding command_name commands
command_short code = entered 0x1000 (length commands) code (λ e. Short (given (name_at commands) e)) tt λ k h. let r = command_ruled k h in rw r.len at r.short

-- its place lies within the name bytes
pub response_inside : (code : ℕ) → Inside (response_place code)
unfolding response_place responses commands name_bytes
response_inside code = entered 0x2000 (length responses) code (λ e. Inside (given (place_at 0 responses) e)) tt λ k h. let r = response_ruled k h in rw (r.start, r.len) at r.inside

pub command_inside : (code : ℕ) → Inside (command_place code)
unfolding command_place responses commands name_bytes
command_inside code = entered 0x1000 (length commands) code (λ e. Inside (given (place_at (length (joined responses)) commands) e)) tt λ k h. let r = command_ruled k h in rw (r.start, r.len) at r.inside
