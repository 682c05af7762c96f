-- The packets of a transaction, however its data are cut, are translated to its containers.
-- Assumes nothing.
use mathlib.Core.Path.{◌≡◌, refl, sym, ap, subst, ◌∙◌}
use mathlib.Core.Bool.{Bool, true, false}
use mathlib.Core.List.{List, [], ◌∷◌, ◌++◌, append_assoc, append-nil}
use mathlib.Core.Option.{Option, some, none}
use Prim.Native.Nat.{ℕ, ◌+◌, ◌-◌, ◌%◌, ◌^◌, ◌≤◌, ◌<◌}
use native.Mathlib.Omega.{arith}
use borrow.Author.Tests.{le-leb, eq-eqb}
use lib.Dec.{eqb, lit≤}
use lib.ListN.{length, drop, length-append, length-drop}
use Rattle.layout.specs.Answer.{got, Reader, pick, means}
use Rattle.layout.specs.Written.{says}
use Rattle.wire.specs.declared.Part.{Part}
use Rattle.wire.specs.Returned.{part_of}
use Rattle.network.specs.Packet.{is_packet, phase_size, code_size, total_size, head_size, whole_fields, packet_at, packet_word}
use Rattle.network.specs.Transaction.{Transaction, Params, Fits, DataFits, containers_word, data_words, joined, Between, nothing, cut, Packets, request_word, response_word, start_word, end_word}
use Rattle.network.specs.Translated.{items_from, items_in, folded, none_seen, next_packet, look_packet, data_in, seen_in, from_judged, from_said}
use Rattle.network.specs.declared.packet.Packet.{Packet}
use Rattle.network.specs.declared.see.Seen.{Seen}
use Rattle.network.specs.declared.see.Stage.{Stage}
use Rattle.network.specs.declared.see.Stage.TheVariants as stage
use Rattle.network.proofs.ItemsLaws.{items_none, items_passed}
use Rattle.network.proofs.TranslatedLaws.{from_bytes}
use Rattle.network.proofs.PacketReadBack.{placed, Fitting, packet_fits, packet_behind, packet_there}

-- ── items that stand from a place to the end ──

abbrev pub Row : {A : Type 0} → Reader A → List ℕ → ℕ → List A → Type 0
Row read s at xs = (n : ℕ) → length s - at ≤ n → items_from read n s at ≡ got xs (length s)

pub row_end : {A : Type 0} (read : Reader A) (s : List ℕ) (at : ℕ) → at ≡ length s → Row read s at []
row_end read s at e n enough = items_none read s n at (omega arith) ∙ ap (got []) e

pub row_more : {A : Type 0} (read : Reader A) (s : List ℕ) (at : ℕ) {x : A} {next : ℕ} {xs : List A} → read s at ≡ got x next → at < next → next ≤ length s → Row read s next xs → Row read s at (x ∷ xs)
unfolding means
row_more read s at {x} {next} {xs} e h k r n enough = items_passed read s n at (omega arith) enough (sym e) ∙ ap (means (λ ys. x ∷ ys)) (r (n - 1) (omega arith))

-- ── the five words fit ──

minus : (k n : ℕ) → k + n - k ≡ n
minus k n = omega arith

module _ (code number : ℕ) (ps : List ℕ) (h : Params ps) (c : code < 256 ^ 2) (n : number < 256 ^ 4) where
  request_fits : (phase : ℕ) → phase < 256 ^ 4 → Fitting 6 phase code number 0 ps
  unfolding is_packet whole_fields phase_size code_size total_size
  request_fits phase p = record {
    known = refl;
    whole = rw (le-leb 18 (18 + length ps) (omega arith), minus 18 (length ps)) (eq-eqb (length ps % 4) 0 h.whole);
    small = omega (arith, h.few);
    kind_fits = lit≤ tt;
    phase_fits = p;
    code_fits = c;
    number_fits = n;
    total_fits = lit≤ tt;
  }

  response_fits : Fitting 7 0 code number 0 ps
  unfolding is_packet whole_fields phase_size code_size total_size
  response_fits = record {
    known = refl;
    whole = rw (le-leb 14 (14 + length ps) (omega arith), minus 14 (length ps)) (eq-eqb (length ps % 4) 0 h.whole);
    small = omega (arith, h.few);
    kind_fits = lit≤ tt;
    phase_fits = lit≤ tt;
    code_fits = c;
    number_fits = n;
    total_fits = lit≤ tt;
  }

module _ (number : ℕ) (n : number < 256 ^ 4) where
  start_fits : (total : ℕ) → total ≤ 4294967283 → Fitting 9 0 0 number total []
  unfolding is_packet whole_fields phase_size code_size total_size
  start_fits total t = record { known = refl; whole = refl; small = lit≤ tt; kind_fits = lit≤ tt; phase_fits = lit≤ tt; code_fits = lit≤ tt; number_fits = n; total_fits = omega arith }

  data_fits : (d : List ℕ) → length d ≤ 4294967283 → Fitting 10 0 0 number 0 d
  unfolding is_packet whole_fields phase_size code_size total_size
  data_fits d h = record {
    known = refl;
    whole = rw (le-leb 12 (12 + length d) (omega arith));
    small = omega arith;
    kind_fits = lit≤ tt;
    phase_fits = lit≤ tt;
    code_fits = lit≤ tt;
    number_fits = n;
    total_fits = lit≤ tt;
  }

  end_fits : (d : List ℕ) → length d ≤ 4294967283 → Fitting 12 0 0 number 0 d
  unfolding is_packet whole_fields phase_size code_size total_size
  end_fits d h = record {
    known = refl;
    whole = rw (le-leb 12 (12 + length d) (omega arith));
    small = omega arith;
    kind_fits = lit≤ tt;
    phase_fits = lit≤ tt;
    code_fits = lit≤ tt;
    number_fits = n;
    total_fits = lit≤ tt;
  }

-- ── what is seen of them ──

abbrev no_part : Part
no_part = record { start = 0; count = 0 }

module _ (t : Transaction) (f : Fits t) where
  -- before the response
  abbrev state : Stage → Bool → Part → ℕ → ℕ → Seen
  state k has payload total sum = record {
    stage = k;
    same = true;
    has = has;
    code = t.code;
    number = t.number;
    params = record { start = 18; count = length t.params };
    payload = payload;
    response = 0;
    results = no_part;
    total = total;
    sum = sum;
  }

  same : eqb t.number t.number ≡ true
  same = eq-eqb t.number t.number refl

  look_request : (phase : ℕ) → look_packet none_seen (placed 0 6 phase t.code t.number 0 (length t.params)) ≡ state stage.Asked false no_part 0 0
  unfolding look_packet next_packet phase_size code_size total_size
  look_request phase = rw (same, le-leb (length t.params) 20 f.params.few)

  look_start : (at total : ℕ) → look_packet (state stage.Asked false no_part 0 0) (placed at 9 0 0 t.number total 0) ≡ state stage.Started true (record { start = at + head_size 9; count = 0 }) total 0
  unfolding look_packet next_packet
  look_start at total = rw same

  look_data : (at n total sum : ℕ) (payload : Part) → look_packet (state stage.Started true payload total sum) (placed at 10 0 0 t.number 0 n) ≡ state stage.Started true payload total (sum + n)
  unfolding look_packet next_packet
  look_data at n total sum payload = rw same

  look_end : (at n total sum : ℕ) (payload : Part) → look_packet (state stage.Started true payload total sum) (placed at 12 0 0 t.number 0 n) ≡ state stage.Whole true payload total (sum + n)
  unfolding look_packet next_packet
  look_end at n total sum payload = rw same

  -- with the response
  abbrev over : ℕ → Bool → Part → ℕ → ℕ → Seen
  over at has payload total sum = record {
    stage = stage.Answered;
    same = true;
    has = has;
    code = t.code;
    number = t.number;
    params = record { start = 18; count = length t.params };
    payload = payload;
    response = t.response;
    results = record { start = at + head_size 7; count = length t.results };
    total = total;
    sum = sum + 0;
  }

  look_asked : (at : ℕ) → look_packet (state stage.Asked false no_part 0 0) (placed at 7 0 t.response t.number 0 (length t.results)) ≡ over at false no_part 0 0
  unfolding look_packet next_packet
  look_asked at = rw (same, le-leb (length t.results) 20 f.results.few)

  look_whole : (at total sum : ℕ) (payload : Part) → look_packet (state stage.Whole true payload total sum) (placed at 7 0 t.response t.number 0 (length t.results)) ≡ over at true payload total sum
  unfolding look_packet next_packet
  look_whole at total sum payload = rw (same, le-leb (length t.results) 20 f.results.few)

  -- ── data packets, and what is behind them ──

  unfoldable pieces : ℕ → List (List ℕ) → List Packet → List Packet
  pieces at [] xs = xs
  pieces at (d ∷ ds) xs = placed at 10 0 0 t.number 0 (length d) ∷ pieces (at + (head_size 10 + length d)) ds xs

  behind : ℕ → List (List ℕ) → ℕ
  behind at [] = at
  behind at (d ∷ ds) = behind (at + (head_size 10 + length d)) ds

  pieces_folded : (at : ℕ) (ds : List (List ℕ)) (xs : List Packet) (payload : Part) (total sum : ℕ) →
      (sum' : ℕ) × (folded look_packet (state stage.Started true payload total sum) (pieces at ds xs) ≡ folded look_packet (state stage.Started true payload total sum') xs)
  unfolding folded pieces
  pieces_folded at [] xs payload total sum = (sum, refl)
  pieces_folded at (d ∷ ds) xs payload total sum =
      let (sum', e) = pieces_folded (at + (head_size 10 + length d)) ds xs payload total (sum + length d) in
      (sum', ap (λ u. folded look_packet u (pieces (at + (head_size 10 + length d)) ds xs)) (look_data at (length d) total sum payload) ∙ e)

  pieces_stand : (s : List ℕ) (at : ℕ) (ds : List (List ℕ)) (rest : List ℕ) → drop at s ≡ data_words t.number ds ++ rest → length (joined ds) ≤ 4294967283 →
      (drop (behind at ds) s ≡ rest) × ((xs : List Packet) → Row packet_at s (behind at ds) xs → Row packet_at s at (pieces at ds xs)) × ((xs : List Packet) → data_in s (pieces at ds xs) ≡ joined ds ++ data_in s xs)
  unfolding data_words joined data_in pieces behind
  pieces_stand s at [] rest e h = (e, λ xs r. r, λ xs. refl)
  pieces_stand s at (d ∷ ds) rest e h =
      let w = packet_word 10 0 0 t.number 0 d in
      let stands : drop at s ≡ w ++ (data_words t.number ds ++ rest) = e ∙ append_assoc w (data_words t.number ds) rest in
      let fits = data_fits t.number f.number d (omega (arith, length-append d (joined ds))) in
      let more = data_words t.number ds ++ rest in
      let next = pieces_stand s (at + (head_size 10 + length d)) ds rest (packet_behind 10 0 0 t.number 0 d fits s more at stands) (omega (arith, length-append d (joined ds))) in
      let here = packet_there 10 0 0 t.number 0 d fits s more at stands in
      let within = packet_fits 10 0 0 t.number 0 d fits s more at stands in (
        next.0,
        λ xs r. row_more packet_at s at here.0 (omega arith) within (next.1 xs r),
        λ xs. cc (here.1, next.2 xs, append_assoc d (joined ds) (data_in s xs)),
      )

  -- ── the response, at the end ──

  response_row : (s : List ℕ) (at : ℕ) → drop at s ≡ response_word t → Row packet_at s at (placed at 7 0 t.response t.number 0 (length t.results) ∷ []) × (part_of s (record { start = at + head_size 7; count = length t.results }) ≡ t.results)
  response_row s at e =
      let stands : drop at s ≡ response_word t ++ [] = e ∙ sym (append-nil (response_word t)) in
      let fits = response_fits t.response t.number t.results f.results f.response f.number in
      let here = packet_there 7 0 t.response t.number 0 t.results fits s [] at stands in
      let within = packet_fits 7 0 t.response t.number 0 t.results fits s [] at stands in
      let after = packet_behind 7 0 t.response t.number 0 t.results fits s [] at stands in
      (row_more packet_at s at here.0 (omega arith) within (row_end packet_at s _ (omega (arith, ap length after, length-drop (at + (head_size 7 + length t.results)) s))), here.1)

  -- ── all of them ──

  said : (s : List ℕ) (xs : List Packet) → Row packet_at s 0 xs → from_said s ≡ from_judged s (folded look_packet none_seen xs) (data_in s xs)
  unfolding from_said items_in means
  said s xs r = rw (r (length s) (omega arith))

  seen_is : (s : List ℕ) (at total sum : ℕ) (payload : Part) (has : Bool) (d : List ℕ) → part_of s (record { start = 18; count = length t.params }) ≡ t.params →
      part_of s (record { start = at + head_size 7; count = length t.results }) ≡ t.results → pick has (some d) none ≡ t.payload → seen_in s (over at has payload total sum) d ≡ t
  seen_is s at total sum payload has d p r l = rw (p, r, l)

  module _ (s : List ℕ) (phase : ℕ) (phase_fits : phase < 256 ^ 4) where
    request_row : (rest : List ℕ) (xs : List Packet) → s ≡ request_word phase t ++ rest → Row packet_at s (18 + length t.params) xs →
        Row packet_at s 0 (placed 0 6 phase t.code t.number 0 (length t.params) ∷ xs)
    unfolding phase_size code_size total_size
    request_row rest xs e r =
        let fits = request_fits t.code t.number t.params f.params f.code f.number phase phase_fits in
        let here = packet_there 6 phase t.code t.number 0 t.params fits s rest 0 e in
        let within = packet_fits 6 phase t.code t.number 0 t.params fits s rest 0 e in
        row_more packet_at s 0 here.0 (omega arith) within (subst (λ a. Row packet_at s a xs) (omega arith) r)

    request_behind : (rest : List ℕ) → s ≡ request_word phase t ++ rest → (drop (18 + length t.params) s ≡ rest) × (part_of s (record { start = 18; count = length t.params }) ≡ t.params)
    unfolding phase_size code_size total_size
    request_behind rest e =
        let fits = request_fits t.code t.number t.params f.params f.code f.number phase phase_fits in
        let here = packet_there 6 phase t.code t.number 0 t.params fits s rest 0 e in
        let after = packet_behind 6 phase t.code t.number 0 t.params fits s rest 0 e in
        let place : 0 + (18 + length t.params) ≡ 18 + length t.params = omega arith in
        (rw place at after, here.1)

    -- without data
    came_bare : t.payload ≡ none → s ≡ request_word phase t ++ response_word t → from_said s ≡ says (containers_word t)
    unfolding folded data_in
    came_bare l e =
        let b = request_behind (response_word t) e in
        let r = response_row s (18 + length t.params) b.0 in
        let all = request_row (response_word t) _ e r.0 in
        let u = over (18 + length t.params) false no_part 0 0 in
        let seen : folded look_packet none_seen (placed 0 6 phase t.code t.number 0 (length t.params) ∷ placed (18 + length t.params) 7 0 t.response t.number 0 (length t.results) ∷ []) ≡ u =
        rw (look_request phase, look_asked (18 + length t.params)) in
        said s _ all ∙ ap (λ v. from_judged s v []) seen ∙ from_bytes s u [] refl refl refl (lit≤ tt) ∙ ap (λ v. says (containers_word v)) (seen_is s (18 + length t.params) 0 0 no_part false [] b.1 r.1 (sym l))

    -- with data, cut in any way
    came_cut : (ds : List (List ℕ)) (last : List ℕ) → t.payload ≡ some (joined ds ++ last) → length (joined ds ++ last) ≤ 4294967283 →
        s ≡ request_word phase t ++ (start_word t.number (length (joined ds ++ last)) ++ (data_words t.number ds ++ (end_word t.number last ++ response_word t))) → from_said s ≡ says (containers_word t)
    unfolding folded data_in
    came_cut ds last l small e =
        let n = t.number in
        let d = joined ds ++ last in
        let a1 = 18 + length t.params in
        let b = request_behind (start_word n (length d) ++ (data_words n ds ++ (end_word n last ++ response_word t))) e in
        let start = start_fits n f.number (length d) small in
        let rest1 = data_words n ds ++ (end_word n last ++ response_word t) in
        let here1 = packet_there 9 0 0 n (length d) [] start s rest1 a1 b.0 in
        let within1 = packet_fits 9 0 0 n (length d) [] start s rest1 a1 b.0 in
        let behind1 = packet_behind 9 0 0 n (length d) [] start s rest1 a1 b.0 in
        let a2 = a1 + (head_size 9 + 0) in
        let cuts = pieces_stand s a2 ds (end_word n last ++ response_word t) behind1 (omega (arith, length-append (joined ds) last)) in
        let a3 = behind a2 ds in
        let fits = end_fits n f.number last (omega (arith, length-append (joined ds) last)) in
        let here3 = packet_there 12 0 0 n 0 last fits s (response_word t) a3 cuts.0 in
        let within3 = packet_fits 12 0 0 n 0 last fits s (response_word t) a3 cuts.0 in
        let behind3 = packet_behind 12 0 0 n 0 last fits s (response_word t) a3 cuts.0 in
        let a4 = a3 + (head_size 12 + length last) in
        let r = response_row s a4 behind3 in
        let x4 = placed a4 7 0 t.response n 0 (length t.results) in
        let x3 = placed a3 12 0 0 n 0 (length last) in
        let tail = x3 ∷ x4 ∷ [] in
        let row3 = row_more packet_at s a3 here3.0 (omega arith) within3 r.0 in
        let row1 = row_more packet_at s a1 here1.0 (omega arith) within1 (cuts.1 tail row3) in
        let x1 = placed a1 9 0 0 n (length d) 0 in
        let x0 = placed 0 6 phase t.code n 0 (length t.params) in
        let row0 = request_row (start_word n (length d) ++ rest1) (x1 ∷ pieces a2 ds tail) e row1 in
        let payload : Part = record { start = a1 + head_size 9; count = 0 } in
        let (sum, folds) = pieces_folded a2 ds tail payload (length d) 0 in
        let u = over a4 true payload (length d) (sum + length last) in
        let seen : folded look_packet none_seen (x0 ∷ x1 ∷ pieces a2 ds tail) ≡ u =
        ap (λ v. folded look_packet (look_packet v x1) (pieces a2 ds tail)) (look_request phase)
        ∙ ap (λ v. folded look_packet v (pieces a2 ds tail)) (look_start a1 (length d))
        ∙ folds
        ∙ ap (λ v. look_packet v x4) (look_end a3 (length last) (length d) sum payload)
        ∙ look_whole a4 (length d) (sum + length last) payload in
        let whole : data_in s (x0 ∷ x1 ∷ pieces a2 ds tail) ≡ d = cuts.2 tail ∙ ap (λ w. joined ds ++ w) (rw here3.1 (append-nil last)) in
        said s (x0 ∷ x1 ∷ pieces a2 ds tail) row0
        ∙ ap (λ v. from_judged s v (data_in s (x0 ∷ x1 ∷ pieces a2 ds tail))) seen
        ∙ ap (λ w. from_judged s u w) whole
        ∙ from_bytes s u d refl refl refl small
        ∙ ap (λ v. says (containers_word v)) (seen_is s a4 (length d) (sum + length last) payload true d b.1 r.1 (sym l))

-- a transaction's packets are translated to its containers
pub from_complete : (p : List ℕ) (t : Transaction) → Packets p t → from_said p ≡ says (containers_word t)
from_complete p t x = go t.payload refl x.middle x.between x.word
  where
    go : (o : Option (List ℕ)) → t.payload ≡ o → (m : List ℕ) → Between t.number o m → p ≡ request_word x.phase t ++ m ++ response_word t → from_said p ≡ says (containers_word t)
    go o l m nothing e = came_bare t x.fits p x.phase x.phase_fits l (e ∙ ap (λ w. w ++ response_word t) (append-nil (request_word x.phase t)))
    go o l m (cut ds last) e =
        let fits = subst DataFits l x.fits.payload in
        came_cut t x.fits p x.phase x.phase_fits ds last l fits.1 (e ∙ simp append_assoc)
