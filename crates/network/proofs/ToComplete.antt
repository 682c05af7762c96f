-- The containers of a transaction are translated to its tidy packets.
-- Assumes nothing.
use mathlib.Core.Path.{◌≡◌, refl, sym, ap, subst, ◌∙◌}
use mathlib.Core.Bool.{true, false}
use mathlib.Core.List.{List, [], ◌∷◌, ◌++◌, append_assoc, append-nil}
use mathlib.Core.Option.{Option, some, none}
use Prim.Native.Nat.{ℕ, ◌+◌, ◌^◌, ◌≤◌, ◌<◌}
use native.Mathlib.Omega.{arith}
use borrow.Author.Tests.{eq-eqb}
use lib.Dec.{eqb}
use lib.ListN.{length, drop, length-append, length-drop}
use lib.Seq.{drop-drop, drop-append_seam}
use Rattle.layout.specs.Answer.{got, means}
use Rattle.layout.specs.Written.{says}
use Rattle.wire.specs.Container.{is_kind, container_at, container_word}
use Rattle.wire.specs.Returned.{part_of}
use Rattle.wire.specs.declared.container.Container.{Container}
use Rattle.wire.proofs.laws.Contained.{container_length}
use Rattle.wire.proofs.laws.ReadBack.{container_there, payload_there}
use Rattle.network.specs.Transaction.{Transaction, Params, Fits, DataFits, Containers, data_container, containers_word, tidy_word}
use Rattle.network.specs.Inner.{readings}
use Rattle.network.specs.Translated.{five_whole, items_in, folded, none_seen, next_container, look_container, seen_in, to_judged, to_said}
use Rattle.network.specs.declared.see.Seen.{Seen}
use Rattle.network.specs.declared.see.Stage.TheVariants as stage
use Rattle.network.specs.declared.translate.Direction.{Direction}
use Rattle.network.specs.declared.translate.Direction.TheVariants as direction
use Rattle.network.proofs.FromComplete.{Row, row_end, row_more}
use Rattle.network.proofs.TranslatedLaws.{whole_five, to_bytes}

abbrev boxed : ℕ → ℕ → ℕ → ℕ → ℕ → Container
boxed at kind code number count = record { kind = kind; code = code; number = number; payload = record { start = at + 12; count = count } }

-- a container that stands at a place
record There (s : List ℕ) (at kind code number : ℕ) (payload behind : List ℕ) : Type 0 where
  pub read : container_at s at ≡ got (boxed at kind code number (length payload)) (at + (12 + length payload))
  pub holds : part_of s (record { start = at + 12; count = length payload }) ≡ payload
  pub fits : at + (12 + length payload) ≤ length s
  pub rest : drop (at + (12 + length payload)) s ≡ behind

there : (s : List ℕ) (at kind code number : ℕ) (payload behind : List ℕ) → is_kind kind ≡ true → code < 256 ^ 2 → number < 256 ^ 4 → length payload ≤ 4294967283 →
    drop at s ≡ container_word kind code number payload ++ behind → There s at kind code number payload behind
there s at kind code number payload behind k c n small e =
    let w = container_word kind code number payload in
    let l = container_length kind code number payload in
    let place : at + (12 + length payload) ≡ at + length w = ap (λ m. at + m) (sym l) in
    record {
      read = container_there kind code number payload behind k c n small s at e;
      holds = payload_there kind code number payload behind k c n small s at e;
      fits = omega (arith, l, length-append w behind, ap length e, length-drop at s);
      rest = rw place (sym (drop-drop (length w) at s) ∙ ap (drop (length w)) e ∙ drop-append_seam w behind);
    }

few_is : (ps : List ℕ) → Params ps → five_whole (length ps) ≡ true
few_is ps h = whole_five (length ps) (h.few, h.whole)

said : (d : Direction) (s : List ℕ) (xs : List Container) → Row container_at s 0 xs → to_said d s ≡ to_judged d s (folded look_container none_seen xs)
unfolding to_said items_in means
said d s xs r = rw (r (length s) (omega arith))

-- the transaction that containers are of, if any
abbrev transaction_in : List ℕ → Transaction
transaction_in s =
    seen_in s (folded look_container none_seen (readings (items_in container_at s))) (part_of s (folded look_container none_seen (readings (items_in container_at s))).payload)

seen-in : (s : List ℕ) (xs : List Container) → Row container_at s 0 xs → (u : Seen) → folded look_container none_seen xs ≡ u → transaction_in s ≡ seen_in s u (part_of s u.payload)
unfolding items_in
seen-in s xs r u e = rw (r (length s) (omega arith), e)

module _ (d : Direction) (t : Transaction) (f : Fits t) (s : List ℕ) where
  same : eqb t.number t.number ≡ true
  same = eq-eqb t.number t.number refl

  -- behind the last there is nothing
  last_row : (at : ℕ) → There s at 3 t.response t.number t.results [] → Row container_at s at (boxed at 3 t.response t.number (length t.results) ∷ [])
  last_row at x = row_more container_at s at x.read (omega arith) x.fits (row_end container_at s _ (omega (arith, x.fits, ap length x.rest, length-drop (at + (12 + length t.results)) s)))

  goes_bare : t.payload ≡ none → s ≡ container_word 1 t.code t.number t.params ++ container_word 3 t.response t.number t.results → (to_said d s ≡ says (tidy_word d t)) × (transaction_in s ≡ t)
  unfolding folded look_container next_container is_kind
  goes_bare l e =
      let w3 = container_word 3 t.response t.number t.results in
      let c = there s 0 1 t.code t.number t.params w3 refl f.code f.number (omega (arith, f.params.few)) e in
      let a1 = 0 + (12 + length t.params) in
      let r = there s a1 3 t.response t.number t.results [] refl f.response f.number (omega (arith, f.results.few)) (c.rest ∙ sym (append-nil w3)) in
      let x = boxed 0 1 t.code t.number (length t.params) in
      let y = boxed a1 3 t.response t.number (length t.results) in
      let row = row_more container_at s 0 c.read (omega arith) c.fits (last_row a1 r) in
      let u : Seen = record {
        stage = stage.Answered;
        same = true;
        has = false;
        code = t.code;
        number = t.number;
        params = x.payload;
        payload = record { start = 0; count = 0 };
        response = t.response;
        results = y.payload;
        total = 0;
        sum = 0;
      } in
      let seen : folded look_container none_seen (x ∷ y ∷ []) ≡ u = rw (same, few_is t.params f.params, few_is t.results f.results) in
      let is : seen_in s u (part_of s u.payload) ≡ t = rw (c.holds, r.holds, ← l) in
      (said d s (x ∷ y ∷ []) row ∙ ap (to_judged d s) seen ∙ to_bytes d s u refl refl ∙ ap (λ v. says (tidy_word d v)) is, seen-in s (x ∷ y ∷ []) row u seen ∙ is)

  goes_loaded : (b : List ℕ) → t.payload ≡ some b → length b ≤ 4294967283 →
      s ≡ container_word 1 t.code t.number t.params ++ (container_word 2 t.code t.number b ++ container_word 3 t.response t.number t.results) → (to_said d s ≡ says (tidy_word d t)) × (transaction_in s ≡ t)
  unfolding folded look_container next_container is_kind
  goes_loaded b l small e =
      let w2 = container_word 2 t.code t.number b in
      let w3 = container_word 3 t.response t.number t.results in
      let c = there s 0 1 t.code t.number t.params (w2 ++ w3) refl f.code f.number (omega (arith, f.params.few)) e in
      let a1 = 0 + (12 + length t.params) in
      let m = there s a1 2 t.code t.number b w3 refl f.code f.number small c.rest in
      let a2 = a1 + (12 + length b) in
      let r = there s a2 3 t.response t.number t.results [] refl f.response f.number (omega (arith, f.results.few)) (m.rest ∙ sym (append-nil w3)) in
      let x = boxed 0 1 t.code t.number (length t.params) in
      let z = boxed a1 2 t.code t.number (length b) in
      let y = boxed a2 3 t.response t.number (length t.results) in
      let row = row_more container_at s 0 c.read (omega arith) c.fits (row_more container_at s a1 m.read (omega arith) m.fits (last_row a2 r)) in
      let u : Seen = record {
        stage = stage.Answered;
        same = true;
        has = true;
        code = t.code;
        number = t.number;
        params = x.payload;
        payload = z.payload;
        response = t.response;
        results = y.payload;
        total = 0;
        sum = 0;
      } in
      let seen : folded look_container none_seen (x ∷ z ∷ y ∷ []) ≡ u = rw (same, few_is t.params f.params, eq-eqb t.code t.code refl, few_is t.results f.results) in
      let is : seen_in s u (part_of s u.payload) ≡ t = rw (c.holds, r.holds, m.holds, ← l) in
      (said d s (x ∷ z ∷ y ∷ []) row ∙ ap (to_judged d s) seen ∙ to_bytes d s u refl refl ∙ ap (λ v. says (tidy_word d v)) is, seen-in s (x ∷ z ∷ y ∷ []) row u seen ∙ is)

goes : (d : Direction) (s : List ℕ) (t : Transaction) → Containers s t → (to_said d s ≡ says (tidy_word d t)) × (transaction_in s ≡ t)
unfolding containers_word data_container
goes d s t x = go t.payload refl x.word
  where
    c1 : List ℕ
    c1 = container_word 1 t.code t.number t.params

    c3 : List ℕ
    c3 = container_word 3 t.response t.number t.results

    go : (o : Option (List ℕ)) → t.payload ≡ o → s ≡ c1 ++ data_container t.code t.number o ++ c3 → (to_said d s ≡ says (tidy_word d t)) × (transaction_in s ≡ t)
    go none l e = goes_bare d t x.fits s l (e ∙ ap (λ w. w ++ c3) (append-nil c1))
    go (some b) l e = goes_loaded d t x.fits s b l (subst DataFits l x.fits.payload).1 (e ∙ append_assoc c1 (container_word 2 t.code t.number b) c3)

pub to_complete : (d : Direction) (s : List ℕ) (t : Transaction) → Containers s t → to_said d s ≡ says (tidy_word d t)
to_complete d s t x = (goes d s t x).0

-- containers are of one transaction
pub containers_one : (s : List ℕ) (t u : Transaction) → Containers s t → Containers s u → t ≡ u
containers_one s t u x y = sym (goes direction.In s t x).1 ∙ (goes direction.In s u y).1
