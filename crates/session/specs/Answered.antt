-- A transaction's containers and what is answered of them, by the paper's words: no reader and no search stands here. What is answered of one container is wire's row of tests
-- (`ContainerSays`), in which no reader stands either.
-- Assumes nothing.
use Rattle.std.specs.Prelude.{◌≡◌, ℕ, ◌≤◌, List, [], ◌∷◌, ◌++◌, length, drop, ◌≢◌, Ok, Err}
use Rattle.std.specs.declared.result.Result.{Result}
use Rattle.layout.specs.Answer.{Told, Answer, got, refused, bare}
use Rattle.layout.specs.Refusals.{TID, NOPHASE}
use Rattle.wire.specs.Refused.{ContainerSays}
use Rattle.wire.specs.declared.Part.{Part}
use Rattle.wire.specs.declared.container.Container.{Container}
use Rattle.wire.specs.declared.Cursor.{Cursor}
use Rattle.session.specs.Search.{Reply, payload, response}
use Rattle.session.specs.declared.search.Response.{Response}

-- ── containers end to end ──

-- what is answered of a container at a place
pub record Judged (s : List ℕ) (at : ℕ) (y : Answer Container) : Type 0 where
  pub says : ContainerSays at (drop at s) y

-- the container x stands there and is accepted; behind it is the place n
abbrev pub Stands : List ℕ → ℕ → Container → ℕ → Type 0
Stands s at x n = Judged s at (got x n)

-- from a place up to another: each of that number, none a Response. Command and Event are passed over, and of Data the last is asked for below
pub data Front (number : ℕ) (s : List ℕ) : ℕ → List Container → ℕ → Type 0 where
  none : {at : ℕ} → Front number s at [] at
  one : {at m n : ℕ} {x : Container} {xs : List Container} → Stands s at x m → x.number ≡ number → (x.kind ≢ 3) → Front number s m xs n → Front number s at (x ∷ xs) n

-- a front, then a Response of that number; n is the place after it
pub record From (number : ℕ) (s : List ℕ) (at : ℕ) (cs : List Container) (r : Container) (n : ℕ) : Type 0 where
  pub behind : ℕ
  pub front : Front number s at cs behind
  pub stands : Stands s behind r n
  pub ours : r.number ≡ number
  pub last : r.kind ≡ 3

abbrev pub Transaction : ℕ → List ℕ → List Container → Container → ℕ → Type 0
Transaction number s = From number s 0

-- ── the answer: Data's payload replaces any earlier one, and only Ok (0x2001) tells of it ──

abbrev pub NoData : List Container → Type 0
NoData [] = Unit {0}
NoData (x ∷ xs) = (x.kind ≢ 2) × NoData xs

pub data LastPayload : List Container → Part → Type 0 where
  without : {cs : List Container} → NoData cs → LastPayload cs (record { start = 0; count = 0 })
  of_last : (earlier : List Container) (x : Container) (later : List Container) → x.kind ≡ 2 → NoData later → LastPayload (earlier ++ (x ∷ later)) x.payload

pub data Replied (cs : List Container) (r : Container) : Reply → Type 0 where
  ok : {p : Part} → r.code ≡ 0x2001 → LastPayload cs p → Replied cs r (payload p)
  other : (r.code ≢ 0x2001) → Replied cs r (response r.code)

pub record Answered (number : ℕ) (s : List ℕ) (y : Reply) (n : ℕ) : Type 0 where
  pub before : List Container
  pub response : Container
  pub all : Transaction number s before response n
  pub replied : Replied before response y

-- what is told of the Response itself: its own payload, whatever its code, and the last Data's
pub record Responded (number : ℕ) (s : List ℕ) (y : Response) (n : ℕ) : Type 0 where
  pub before : List Container
  pub response : Container
  pub all : Transaction number s before response n
  pub code : y.code ≡ response.code
  pub payload : y.payload ≡ response.payload
  pub last : LastPayload before y.last

-- ── the refusal: behind a front, at the first place where neither a Response nor one more of the front stands ──

pub data Stop (number : ℕ) (s : List ℕ) (at : ℕ) : Told → Type 0 where
  -- no byte is left at a container's start
  no_phase : length s ≤ at → Stop number s at (bare NOPHASE)
  -- the next container's own
  unread : {t : Told} → (length s ≤ at → ⊥) → Judged s at (refused t) → Stop number s at t
  -- of another transaction
  another's : {x : Container} {n : ℕ} → Stands s at x n → (x.number ≢ number) → Stop number s at (bare TID)

pub record FailsFrom (number : ℕ) (s : List ℕ) (at : ℕ) (t : Told) : Type 0 where
  pub before : List Container
  pub place : ℕ
  pub front : Front number s at before place
  pub stop : Stop number s place t

abbrev pub Fails : ℕ → List ℕ → Told → Type 0
Fails number s = FailsFrom number s 0

-- ── where the search ends, which both answers are made of ──

-- a Response, the last Data payload and the place after the Response; or a refusal of what starts at a place
abbrev pub Ending : Type 0
Ending = Result (Container × Part × Cursor) (Told × ℕ)

pub data Ends (number : ℕ) (s : List ℕ) : Ending → Type 0 where
  responded : {cs : List Container} {r : Container} {last : Part} {c : Cursor} → Transaction number s cs r c.at → LastPayload cs last → Ends number s (Ok (r, last, c))
  stopped : {cs : List Container} {t : Told} {at : ℕ} → Front number s 0 cs at → at ≤ length s → Stop number s at t → Ends number s (Err (t, at))
