-- What went to the network comes back the same.
-- Assumes nothing.
use Rattle.layout.specs.Answer.{says_count}
use Rattle.std.specs.declared.result.Result.{Result}
use Rattle.layout.specs.declared.Refusal.{Refusal}
use mathlib.Core.Path.{◌≡◌, refl, sym, ap, subst, ◌∙◌}
use mathlib.Core.List.{List, [], ◌++◌, append-nil}
use mathlib.Core.Option.{Option, some, none}
use Prim.Native.Nat.{ℕ, ◌^◌, ◌≤◌, ◌<◌}
use lib.Dec.{lit≤}
use lib.ListN.{length, take, drop}
use lib.Seq.{take_at}
use Rattle.layout.specs.Answer.{got}
use Rattle.layout.specs.Bytes.{Bytes}
use Rattle.layout.specs.Written.{says, Wrote}
use Rattle.layout.proofs.laws.Did.{whole}
use Rattle.layout.proofs.laws.Writing.{wrote_so}
use Rattle.network.specs.Packet.{packet_word}
use Rattle.network.specs.Transaction.{Transaction, Fits, data_words, joined, Between, nothing, cut, Packets, phase_of, data_packets, tidy_word}
use Rattle.network.specs.Translated.{to_said, from_said}
use Rattle.network.specs.declared.translate.Direction.{Direction}
use Rattle.network.specs.declared.translate.Direction.TheVariants as direction
use Rattle.network.proofs.FromComplete.{from_complete}
use Rattle.network.proofs.ToSound.{to_sound}

phase_small : (d : Direction) (o : Option (List ℕ)) → phase_of d o < 256 ^ 4
phase_small d none = lit≤ tt
phase_small direction.In (some x) = lit≤ tt
phase_small direction.Out (some x) = lit≤ tt

between_tidy : (number : ℕ) (o : Option (List ℕ)) → Between number o (data_packets number o)
unfolding data_packets joined data_words
between_tidy number none = nothing
between_tidy number (some b) =
    let start = packet_word 9 0 0 number (length b) [] in
    subst (λ w. Between number (some b) (w ++ packet_word 12 0 0 number 0 b)) (append-nil start) (cut [] b)

-- the tidy word is a word
tidy_is : (d : Direction) (t : Transaction) → Fits t → Packets (tidy_word d t) t
unfolding tidy_word
tidy_is d t f = record { fits = f; phase = phase_of d t.payload; phase_fits = phase_small d t.payload; middle = data_packets t.number t.payload; between = between_tidy t.number t.payload; word = refl }

pub round_trip : (d : Direction) (s p : List ℕ) → Bytes s → to_said d s ≡ says p → from_said p ≡ says s
round_trip d s p h e =
    let (t, c, is) = to_sound d s h p e in
    ap from_said is ∙ from_complete (tidy_word d t) t (tidy_is d t c.fits) ∙ ap says (sym c.word)

-- of the functions' own answers, byte for byte: what was written, given back with room enough, is what was given
module _ (d : Direction) (s old new : List ℕ) (n : ℕ) (h : Bytes s) (there : Wrote (to_said d s) old (got tt n) new) (old' new' : List ℕ) (r : Result ℕ Refusal) (back : Wrote (from_said (take n new)) old' (says_count r) new') (room : length s ≤ length old') where
  pub round_trip_written : (says_count r ≡ got tt (length s)) × (new' ≡ s ++ drop (length s) old')
  round_trip_written =
      let w = whole there in
      let front : take n new ≡ w.bs = ap (take n) w.left ∙ take_at w.bs (drop (length w.bs) old) n (sym w.count) in
      wrote_so (ap from_said front ∙ round_trip d s w.bs h w.due) room back
