-- One transaction, and its words on either side: containers, and packets. A grammar: no reader stands here.
-- Assumes nothing.
use Rattle.std.specs.Prelude.{◌≡◌, List, [], ◌∷◌, ◌++◌, ℕ, ◌%◌, ◌^◌, ◌≤◌, ◌<◌, length}
use Rattle.std.proofs.Math.Option.{Option, some, none}
use Rattle.layout.specs.Bytes.{Bytes}
use Rattle.wire.specs.Container.{container_word}
use Rattle.network.specs.Packet.{packet_word}
use Rattle.network.specs.declared.translate.Direction.{Direction}
use Rattle.network.specs.declared.translate.Direction.TheVariants as direction

-- a Command with its parameters' bytes, data or none, and a Response with its parameters' bytes
pub record Transaction : Type 0 where
  pub code : ℕ
  pub number : ℕ
  pub params : List ℕ
  pub payload : Option (List ℕ)
  pub response : ℕ
  pub results : List ℕ

-- at most five whole u32s
pub record Params (ps : List ℕ) : Type 0 where
  pub bytes : Bytes ps
  pub few : length ps ≤ 20
  pub whole : length ps % 4 ≡ 0

abbrev pub DataFits : Option (List ℕ) → Type 0
DataFits none = Unit {0}
DataFits (some d) = Bytes d × (length d ≤ 4294967283)

pub record Fits (t : Transaction) : Type 0 where
  pub code : t.code < 256 ^ 2
  pub number : t.number < 256 ^ 4
  pub params : Params t.params
  pub payload : DataFits t.payload
  pub response : t.response < 256 ^ 2
  pub results : Params t.results

-- ── containers: a Command (1), at most one Data of its code (2), a Response (3), all of one number ──

unfoldable pub data_container : ℕ → ℕ → Option (List ℕ) → List ℕ
data_container code number none = []
data_container code number (some d) = container_word 2 code number d

-- all before the Response, of which no field stands in it
abbrev pub front_containers : Transaction → List ℕ
front_containers t = container_word 1 t.code t.number t.params ++ data_container t.code t.number t.payload

unfoldable pub containers_word : Transaction → List ℕ
containers_word t = front_containers t ++ container_word 3 t.response t.number t.results

pub record Containers (s : List ℕ) (t : Transaction) : Type 0 where
  pub fits : Fits t
  pub word : s ≡ containers_word t

-- ── packets ──

abbrev pub request_word : ℕ → Transaction → List ℕ
request_word phase t = packet_word 6 phase t.code t.number 0 t.params

abbrev pub response_word : Transaction → List ℕ
response_word t = packet_word 7 0 t.response t.number 0 t.results

abbrev pub start_word : ℕ → ℕ → List ℕ
start_word number total = packet_word 9 0 0 number total []

abbrev pub end_word : ℕ → List ℕ → List ℕ
end_word number d = packet_word 12 0 0 number 0 d

-- data packets, one for each piece, and what they hold
unfoldable pub data_words : ℕ → List (List ℕ) → List ℕ
data_words number [] = []
data_words number (d ∷ ds) = packet_word 10 0 0 number 0 d ++ data_words number ds

unfoldable pub joined : List (List ℕ) → List ℕ
joined [] = []
joined (d ∷ ds) = d ++ joined ds

-- between request and response: nothing; or start data with the exact total, data packets of any lengths, and end data
pub data Between (number : ℕ) : Option (List ℕ) → List ℕ → Type 0 where
  nothing : Between number none []
  cut : (ds : List (List ℕ)) (last : List ℕ) → Between number (some (joined ds ++ last)) (start_word number (length (joined ds ++ last)) ++ data_words number ds ++ end_word number last)

-- any data phase, and any cut of the data
pub record Packets (p : List ℕ) (t : Transaction) : Type 0 where
  pub fits : Fits t
  pub phase : ℕ
  pub phase_fits : phase < 256 ^ 4
  pub middle : List ℕ
  pub between : Between t.number t.payload middle
  pub word : p ≡ request_word phase t ++ middle ++ response_word t

-- the tidy word: phase 1 without data or from the camera, 2 to it; and all data in end data
abbrev pub phase_of : Direction → Option (List ℕ) → ℕ
phase_of d none = 1
phase_of direction.In (some x) = 1
phase_of direction.Out (some x) = 2

unfoldable pub data_packets : ℕ → Option (List ℕ) → List ℕ
data_packets number none = []
data_packets number (some d) = start_word number (length d) ++ end_word number d

-- all before the response, of which no field stands in it
abbrev pub front_packets : Direction → Transaction → List ℕ
front_packets d t = request_word (phase_of d t.payload) t ++ data_packets t.number t.payload

unfoldable pub tidy_word : Direction → Transaction → List ℕ
tidy_word d t = front_packets d t ++ response_word t
