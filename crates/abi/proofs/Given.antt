-- What the panel's questions give as numbers, by the grammar: places of bytes that are, as a whole, words with the reading's own values.
-- Of any word and output that the promises of `ptp_list_value` and `ptp_newer_value` allow, where the description s is accepted as x by the layout that was named.
-- Assumes nothing.
use Rattle.std.proofs.Common.{◌≡◌, ℕ, ◌<◌, ◌≤◌, Bool, List, [], ◌∷◌, ◌++◌, length, get_or, drop, refl, ap, ◌∙◌}
use Rattle.layout.specs.Answer.{got, refused, bare}
use Rattle.layout.specs.Bytes.{Bytes}
use Rattle.layout.specs.Refusals.{PLACE}
use Rattle.layout.specs.Written.{says, answer_of, left_of}
use Rattle.layout.proofs.laws.Writing.{wrote_so}
use Rattle.wire.specs.Layout.{nil, Value}
use Rattle.wire.specs.List.{nth_at}
use Rattle.wire.specs.Newer.{newer_of, newer_part}
use Rattle.wire.specs.Property.{property_at, property_in}
use Rattle.wire.specs.Worded.{Worded, ends, values_of, Picks}
use Rattle.wire.specs.declared.later.Chosen.{Chosen}
use Rattle.wire.specs.Description.{PropInfo}
use Rattle.wire.specs.declared.property.Slot.{Slot}
use Rattle.wire.proofs.laws.Nths.{nths}
use Rattle.wire.proofs.laws.Picked.{picks}
use Rattle.abi.specs.Answered.{word, Gives, given}
use Rattle.abi.specs.Rows.{slot_row, newer_row}

module _ (there : Bool) (s : List ℕ) (h : Bytes s) (x : PropInfo) (n : ℕ) (read : property_at there s 0 ≡ got x n) (old new : List ℕ) (r : ℕ) where
  -- the k-th of the list's values: the place after it, its start and its length
  pub value_given : (k : ℕ) → Gives (given slot_row (nth_at there k s)) old r new → k < length (values_of (property_in s x).form) → 3 ≤ length old
      → (p : Slot) × (r ≡ 3) × (new ≡ ends p ∷ p.start ∷ p.len ∷ drop 3 old) × Worded (Value x.data_type) s p (get_or (values_of (property_in s x).form) k nil)
  unfolding word
  value_given k g less room =
      let f = (nths there s h x n read k).found less in
      let w = wrote_so {bs = f.3 ∷ f.2.start ∷ f.2.len ∷ []} (ap (given slot_row) f.5) room g.allows in
      (f.2, g.told ∙ ap word w.0, w.1 ∙ ap (λ e. e ∷ f.2.start ∷ f.2.len ∷ drop 3 old) f.6.after, f.6.bytes)

  -- 12 past the last
  pub value_past : (k : ℕ) → Gives (given slot_row (nth_at there k s)) old r new → length (values_of (property_in s x).form) ≤ k → (r ≡ word {A = Unit {0}} (refused (bare PLACE))) × (new ≡ old)
  unfolding answer_of left_of
  value_past k g past =
      let e = ap (given slot_row) ((nths there s h x n read k).past past) in
      (g.told ∙ ap word (g.allows.answers ∙ ap (λ said. answer_of said old) e), g.allows.leaves ∙ ap (λ said. left_of said old) e)

  -- the newer value: whether it is of the payload, its start and its length
  pub newer_given : (payload : List ℕ) → Bytes payload → Gives (says (newer_row (newer_of there s payload))) old r new → 3 ≤ length old
      → (c : Chosen) × (r ≡ 3) × (new ≡ newer_row c ++ drop 3 old) × Picks x.data_type payload (property_in s x).current (newer_part c s payload)
  unfolding word
  newer_given payload k g room =
      let w = wrote_so {bs = newer_row (newer_of there s payload)} refl room g.allows in
      (newer_of there s payload, g.told ∙ ap word w.0, w.1, picks there s h x n read payload k)
