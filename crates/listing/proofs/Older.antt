-- Listings of an older tool, whose limit was 8,192 bytes: where it listed a recording to its end, or stopped with another refusal than LONG, the listing is the same, byte for byte.
-- A listing is made of the row of records alone, and such a row is the same by either limit.
-- Assumes nothing.
use Rattle.std.proofs.Common.{◌≡◌, ℕ, suc, ◌+◌, List, [], ◌∷◌, ◌++◌, sym, refl, ap, ◌∙◌, arith}
use Rattle.layout.specs.Answer.{Told, Answer, got, refused, bare}
use Rattle.layout.specs.Refusals.{LONG}
use Rattle.recording.specs.Record.{limit}
use Rattle.recording.specs.Row.{records_in}
use Rattle.recording.specs.Older.{older_limit, records_up_to, AllRead, EndsWith}
use Rattle.recording.proofs.laws.Older.{records_now, row_stays, read_not_long, other_not_long}
use Rattle.names.specs.Names.{spelled}
use Rattle.recording.specs.Content.{Content, Record}
use Rattle.recording.specs.Content as content
use Rattle.listing.specs.Lines.{note_line, heading, record_line}
use Rattle.listing.specs.Page.{line_by, lines_by, page_by, note_word, old_note_word, NoNote}
use Rattle.listing.specs.Listing.{lines_of, remaining, listing}

-- today's lines are those of the page with ` old-note `
lines-by : (place records : ℕ) (row : List (Answer Record)) → lines_of place records row ≡ lines_by (spelled " old-note ") place records row
unfolding record_line note_line
lines-by place records [] = refl
lines-by place records (got x n ∷ row) = ap (λ l. l ++ lines_of (place + n) (suc records) row) (line x.content refl) ∙ ap (λ l. line_by (spelled " old-note ") place x.kind x.body.count x.content ++ l) (lines-by (place + n) (suc records) row)
  where
    line : (c : Content) → x.content ≡ c → record_line place x ≡ line_by (spelled " old-note ") place x.kind x.body.count x.content
    line content.note e = rw e
    line (content.holds y) e = rw e
lines-by place records (refused t ∷ row) = refl

-- without notes the word does not matter
any_word : (v w : List ℕ) (place records : ℕ) (row : List (Answer Record)) → NoNote row → lines_by v place records row ≡ lines_by w place records row
any_word v w place records [] h = refl
any_word v w place records (got x n ∷ row) h = ap (λ l. l ++ lines_by v (place + n) (suc records) row) (line x.content refl) ∙ ap (λ l. line_by w place x.kind x.body.count x.content ++ l) (any_word v w (place + n) (suc records) row h.1)
  where
    line : (c : Content) → x.content ≡ c → line_by v place x.kind x.body.count x.content ≡ line_by w place x.kind x.body.count x.content
    line content.note e = absurd (h.0 e)
    line (content.holds y) e = rw e
any_word v w place records (refused t ∷ row) h = refl

-- the listing is the page with ` old-note `
pub listing_page : (s : List ℕ) → listing s ≡ page_by old_note_word (records_in s)
unfolding listing remaining page_by old_note_word
listing_page s = ap (λ l. heading ++ l) (lines-by 0 0 (records_in s))

-- what the older tool prints: with ` note `
unfoldable pub older_listing : List ℕ → List ℕ
older_listing s = page_by note_word (records_up_to older_limit s)

module _ (s : List ℕ) where
  same_row : (EndsWith (bare LONG) (records_up_to older_limit s) → ⊥) → records_in s ≡ records_up_to older_limit s
  same_row f = sym (records_now s) ∙ row_stays older_limit limit (omega arith) s f

  same_text : records_in s ≡ records_up_to older_limit s → listing s ≡ page_by old_note_word (records_up_to older_limit s)
  same_text e = listing_page s ∙ ap (page_by old_note_word) e

  word_only : NoNote (records_up_to older_limit s) → page_by old_note_word (records_up_to older_limit s) ≡ older_listing s
  unfolding page_by older_listing
  word_only none = ap (λ l. heading ++ l) (any_word old_note_word note_word 0 0 (records_up_to older_limit s) none)

  -- listed to its end: the older tool's row, with the one change of a note's word; so the same bytes where no note stands
  pub same_listing : AllRead (records_up_to older_limit s) → (listing s ≡ page_by old_note_word (records_up_to older_limit s)) × (NoNote (records_up_to older_limit s) → listing s ≡ older_listing s)
  same_listing all = let e = same_text (same_row (read_not_long all)) in (e, λ none. e ∙ word_only none)

  -- stopped with another refusal: at the same place, with the same line
  pub stops_alike : (t : Told) → EndsWith t (records_up_to older_limit s) → (t ≡ bare LONG → ⊥) →
      (records_in s ≡ records_up_to older_limit s) × (listing s ≡ page_by old_note_word (records_up_to older_limit s)) × (NoNote (records_up_to older_limit s) → listing s ≡ older_listing s)
  stops_alike t ends other = let row = same_row (other_not_long ends other) in let e = same_text row in (row, e, λ none. e ∙ word_only none)
