-- Which refusals of the session's readers have a place: 1 and 2 and no other, and the place lies in the bytes that were lent.
-- A search goes from container to container, a payload's reader from field to field.
-- Assumes nothing.
use Rattle.wire.specs.Read.{Read, says_read}
use Rattle.wire.specs.declared.storage.StorageInfo.{StorageInfo}
use Rattle.wire.specs.declared.Part.{Part}
use Rattle.session.specs.declared.search.Response.{Response}
use Rattle.std.proofs.Common.{◌≡◌, ℕ, zero, suc, eqb, leb, List, length, arith}
use Rattle.layout.specs.Answer.{Reader}
use Rattle.layout.specs.Bytes.{number}
use Rattle.layout.specs.Refusals.{TID, NOPHASE}
use Rattle.layout.specs.Told.{PlacedExactly, Inside}
use Rattle.layout.proofs.laws.Told.{Telling, read, plainly, Closed, telling_pick, telling_after, telling_means, telling_field, told_from_0}
use Rattle.wire.specs.Layout.{storage}
use Rattle.wire.specs.Storage.{says_storage}
use Rattle.wire.proofs.laws.Told.{array_telling, row_telling, filled_telling, container_telling}
use Rattle.session.specs.Search.{phase_at, phases_from, answer_in, says_found, response_in}
use Rattle.session.specs.Payloads.{filling, handles_payload, storage_payload, count_payload}
use Rattle.session.specs.declared.search.Found.{Found}

module _ {P : ℕ → Type 0} (s : List ℕ) (closed : Closed P s) where
  phases_telling : (fuel tid at : ℕ) → P at → Telling P (phases_from fuel tid s at)
  unfolding phases_from phase_at
  phases_telling zero tid at h = plainly NOPHASE (omega arith)
  phases_telling (suc n) tid at h =
      telling_pick (leb (length s) at) (λ _. plainly NOPHASE (omega arith)) λ _.
      telling_after
      (telling_after (container_telling s closed at h) λ x next i. telling_pick (eqb x.number tid) (λ _. read i) λ _. plainly TID (omega arith))
      λ x next i.
      telling_pick (eqb x.kind 3) (λ _. read i) λ _. telling_means _ (phases_telling n tid next i)

  answer_telling : (tid : ℕ) → P 0 → Telling P (answer_in tid s)
  unfolding answer_in
  answer_telling tid h = telling_means _ (phases_telling (length s) tid 0 h)

  response_telling : (tid : ℕ) → P 0 → Telling P (response_in tid s)
  unfolding response_in
  response_telling tid h = telling_means _ (phases_telling (length s) tid 0 h)

  filling_telling : {A : Type 0} (reader : Reader A) → ((at : ℕ) → P at → Telling P (reader s at)) → P 0 → Telling P (filling reader s)
  unfolding filling
  filling_telling reader f h = telling_after (f 0 h) λ x next i. telling_after (filled_telling s closed next i) λ _ end j. read j

  handles_telling : P 0 → Telling P (handles_payload s)
  handles_telling h = filling_telling _ (array_telling s closed 4) h

  storage_telling : P 0 → Telling P (storage_payload s)
  storage_telling h = filling_telling _ (row_telling s closed storage) h

  count_telling : P 0 → Telling P (count_payload s)
  count_telling h = filling_telling _ (telling_field s closed 4 number) h

-- ── of the functions' own answers ──

module _ (s : List ℕ) where
  pub found_told : (tid : ℕ) (r : Read Found) → says_found r ≡ answer_in tid s → PlacedExactly (says_found r) × Inside (length s) (says_found r)
  found_told tid r promised = told_from_0 s promised λ P c h. answer_telling s c tid h

  pub response_told : (tid : ℕ) (r : Read Response) → says_read r ≡ response_in tid s → PlacedExactly (says_read r) × Inside (length s) (says_read r)
  response_told tid r promised = told_from_0 s promised λ P c h. response_telling s c tid h

  -- object handles and storage IDs
  pub handles_told : (r : Read Part) → says_read r ≡ handles_payload s → PlacedExactly (says_read r) × Inside (length s) (says_read r)
  handles_told r promised = told_from_0 s promised λ P c h. handles_telling s c h

  pub storage_told : (r : Read StorageInfo) → says_storage r ≡ storage_payload s → PlacedExactly (says_storage r) × Inside (length s) (says_storage r)
  storage_told r promised = told_from_0 s promised λ P c h. storage_telling s c h

  pub count_told : (r : Read ℕ) → says_read r ≡ count_payload s → PlacedExactly (says_read r) × Inside (length s) (says_read r)
  count_told r promised = told_from_0 s promised λ P c h. count_telling s c h
