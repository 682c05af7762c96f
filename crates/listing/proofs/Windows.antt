-- Laws of a window: its listing a record at a time, with fuel enough; and what the loop still has to list of it.
-- Assumes nothing.
use Rattle.std.proofs.Common.{◌≡◌, ℕ, zero, suc, ◌+◌, ◌-◌, ◌%◌, ◌^◌, ◌<◌, ◌≤◌, Bool, true, false, ltb, leb, List, length, drop, sym, refl, ap, ◌∙◌, append-nil, zero-add, arith, length-drop, drop-drop, ltb-true, le-leb}
use borrow.Author.Tests.{lt-leb}
use Rattle.layout.specs.Answer.{Answer, Told, got, refused, pick}
use Rattle.layout.specs.Written.{Put}
use Rattle.layout.proofs.laws.Accepted.{Accepts, accepts_all}
use Rattle.layout.proofs.laws.Reading.{pick_alike}
use Rattle.layout.proofs.laws.Numbers.{zero_one}
use Rattle.layout.proofs.laws.Writing.{Owes, start, part, end, long, put_front}
use Rattle.recording.specs.Content.{Record}
use Rattle.recording.specs.Record.{record_of}
use Rattle.recording.specs.Row.{is_cut, waits}
use Rattle.recording.proofs.laws.Rowed.{Stands, record_stands}
use Rattle.text.specs.Lines.{refusal_line}
use Rattle.listing.specs.Lines.{record_line}
use Rattle.listing.specs.Window.{answered, line_room, Windowed, rests, after_line, lined, pauses, window_from, window_of, Lists}
use Rattle.listing.proofs.Cut.{pauses_none}

-- ── a record at a time ──

lined_same : (place records : ℕ) (x : Answer Record) (f g : List ℕ → ℕ → Windowed) → Accepts (λ r n. f (record_line place r) n ≡ g (record_line place r) n) x → lined place records x f ≡ lined place records x g
lined_same place records (got x n) f g e = ap (after_line (record_line place x) n) e
lined_same place records (refused t) f g e = refl

-- what does not wait has bytes
pub has_bytes : (last : Bool) (s : List ℕ) → pauses last s ≡ false → 0 < length s
unfolding pauses waits
has_bytes last s e = go (ltb 0 (length s)) refl e
  where
    go : (b : Bool) → ltb 0 (length s) ≡ b → pick b (pick last false (is_cut s)) true ≡ false → 0 < length s
    go true h e = ltb-true 0 (length s) h
    go false h e = zero_one (cc)

module _ (last : Bool) where
  none_from : (f room : ℕ) (s : List ℕ) (p c : ℕ) → length s ≤ 0 → window_from f last room s p c ≡ rests p c
  unfolding window_from
  none_from zero room s p c h = refl
  none_from (suc f) room s p c h = rw (pauses_none last s h) (pick_alike (leb line_room room) (rests p c))

  turn_same :
      (f g room : ℕ) (s : List ℕ) (p c : ℕ) →
      Accepts (λ r n. window_from f last (room - length (record_line p r)) (drop n s) ((p + n) % 2 ^ 64) ((c + 1) % 2 ^ 64)
      ≡ window_from g last (room - length (record_line p r)) (drop n s) ((p + n) % 2 ^ 64) ((c + 1) % 2 ^ 64)) (record_of s) → window_from (suc f) last room s p c ≡ window_from (suc g) last room s p c
  unfolding window_from
  turn_same f g room s p c e =
      ap (λ w. pick (leb line_room room) (pick (pauses last s) (rests p c) w) (rests p c))
      (lined_same p c (record_of s) (λ line n. window_from f last (room - length line) (drop n s) ((p + n) % 2 ^ 64) ((c + 1) % 2 ^ 64)) (λ line n. window_from g last (room - length line) (drop n s) ((p + n) % 2 ^ 64) ((c + 1) % 2 ^ 64)) e)

  enough : (f g room : ℕ) (s : List ℕ) (p c : ℕ) → length s ≤ f → length s ≤ g → window_from f last room s p c ≡ window_from g last room s p c
  enough zero g room s p c h k = none_from zero room s p c h ∙ sym (none_from g room s p c h)
  enough (suc f) zero room s p c h k = none_from (suc f) room s p c k ∙ sym (none_from zero room s p c k)
  enough (suc f) (suc g) room s p c h k =
      turn_same f g room s p c
      (accepts_all (Stands s) _ (record_of s) (record_stands s) λ x n q.
      enough f g (room - length (record_line p x)) (drop n s) ((p + n) % 2 ^ 64) ((c + 1) % 2 ^ 64) (omega (arith, length-drop n s, q.till)) (omega (arith, length-drop n s, q.till)))

  used_from : (f room : ℕ) (s : List ℕ) (p c : ℕ) → (window_from f last room s p c).used ≤ length s
  unfolding window_from
  used_from zero room s p c = omega arith
  used_from (suc f) room s p c =
      go (leb line_room room) (pauses last s) (record_of s) (record_stands s) (λ line n. used_from f (room - length line) (drop n s) ((p + n) % 2 ^ 64) ((c + 1) % 2 ^ 64))
    where
      go :
          (a b : Bool) (x : Answer Record) → Accepts (Stands s) x →
          ((line : List ℕ) (n : ℕ) → (window_from f last (room - length line) (drop n s) ((p + n) % 2 ^ 64) ((c + 1) % 2 ^ 64)).used ≤ length (drop n s)) →
          (pick a (pick b (rests p c) (lined p c x λ line n. window_from f last (room - length line) (drop n s) ((p + n) % 2 ^ 64) ((c + 1) % 2 ^ 64))) (rests p c)).used ≤ length s
      go true true x q r = omega arith
      go true false (got x n) q r = omega (arith, q.within, r (record_line p x) n, length-drop n s)
      go true false (refused t) q r = omega arith
      go false b x q r = omega arith

  -- no more than the window is used
  pub window_used : (room : ℕ) (s : List ℕ) (p c : ℕ) → (window_of last room s p c).used ≤ length s
  unfolding window_of
  window_used room s p c = used_from (length s) room s p c

  pub window_full : (room : ℕ) (s : List ℕ) (p c : ℕ) → room < line_room → window_of last room s p c ≡ rests p c
  unfolding window_of window_from
  window_full room s p c h = enough (length s) (suc (length s)) room s p c (omega arith) (omega arith) ∙ rw (lt-leb line_room room h)

  pub window_waits : (room : ℕ) (s : List ℕ) (p c : ℕ) → pauses last s ≡ true → window_of last room s p c ≡ rests p c
  unfolding window_of window_from
  window_waits room s p c e = enough (length s) (suc (length s)) room s p c (omega arith) (omega arith) ∙ rw e (pick_alike (leb line_room room) (rests p c))

  pub window_step :
      (room : ℕ) (s : List ℕ) (p c : ℕ) → line_room ≤ room → pauses last s ≡ false →
      window_of last room s p c ≡ lined p c (record_of s) (λ line n. window_of last (room - length line) (drop n s) ((p + n) % 2 ^ 64) ((c + 1) % 2 ^ 64))
  unfolding window_of window_from
  window_step room s p c h e =
      enough (length s) (suc (length s)) room s p c (omega arith) (omega arith)
      ∙ rw (le-leb line_room room h, e)
      (lined_same p c (record_of s) (λ line n. window_from (length s) last (room - length line) (drop n s) ((p + n) % 2 ^ 64) ((c + 1) % 2 ^ 64))
      (λ line n. window_from (length (drop n s)) last (room - length line) (drop n s) ((p + n) % 2 ^ 64) ((c + 1) % 2 ^ 64))
      (accepts_all (Stands s) _ (record_of s) (record_stands s) λ x n q.
      enough (length s) (length (drop n s)) (room - length (record_line p x)) (drop n s) ((p + n) % 2 ^ 64) ((c + 1) % 2 ^ 64) (rw (length-drop n s) (omega arith)) (omega arith)))

-- ── the loop ──

-- with `rest` listed too, the window is
pub record Goes (w rest : Windowed) (out₀ out : List ℕ) (used written : ℕ) : Type 0 where
  pub owes : Owes out written rest.text out₀ 0 w.text
  pub uses : used + rest.used ≡ w.used
  pub places : rest.place ≡ w.place
  pub counts : rest.records ≡ w.records
  pub stops : rest.stopped ≡ w.stopped
  pub fits : written ≤ length out

pub begins : (last : Bool) (s out : List ℕ) (p c : ℕ) → Goes (window_of last (length out) s p c) (window_of last (length out - 0) (drop 0 s) p c) out out 0 0
begins last s out p c =
    let e : length out - 0 ≡ length out = omega arith in
    rw e (record { owes = start; uses = zero-add (window_of last (length out) s p c).used; places = refl; counts = refl; stops = refl; fits = omega arith })

goes_on :
    {w rest next : Windowed} {out₀ out out' : List ℕ} {used written written' : ℕ} (line : List ℕ) (n : ℕ) → rest ≡ after_line line n next → Goes w rest out₀ out used written →
    Put out written line out' written' → written + length line ≤ length out → Goes w next out₀ out' (used + n) written'
goes_on {w} {rest} {next} {out₀} {out} {out'} {used} {written} {written'} line n e g p h =
    let o : rest.used ≡ n + next.used = ap (λ (x : Windowed). x.used) e in
    record {
      owes = part (ap (λ (x : Windowed). x.text) e) g.owes p;
      uses = omega (arith, g.uses);
      places = sym (ap (λ (x : Windowed). x.place) e) ∙ g.places;
      counts = sym (ap (λ (x : Windowed). x.records) e) ∙ g.counts;
      stops = sym (ap (λ (x : Windowed). x.stopped) e) ∙ g.stops;
      fits = omega (arith, p.place, long p);
    }

lists : {w : Windowed} {out₀ out : List ℕ} {used written place records : ℕ} {stopped : Bool} → Put out₀ 0 w.text out written → written ≤ length out →
    used ≡ w.used → place ≡ w.place → records ≡ w.records → stopped ≡ w.stopped →
    Lists w out₀ (answered used written place records stopped) out
lists {w} {out₀} {out} {used} {written} p h a b c d = record {
  answers = let e : written ≡ length w.text = p.place ∙ zero-add (length w.text) in rw (a, b, c, d, e);
  leaves = p.bytes ∙ put_front out₀ w.text (omega (arith, p.place, long p));
}

pub goes_out : {w rest : Windowed} {out₀ out : List ℕ} {used written : ℕ} (place records : ℕ) → rest ≡ rests place records → Goes w rest out₀ out used written →
    Lists w out₀ (answered used written place records false) out
goes_out {w} {rest} {out₀} {out} {used} {written} place records e g =
    let o : rest.used ≡ 0 = ap (λ (x : Windowed). x.used) e in
    lists (end (ap (λ (x : Windowed). x.text) e) g.owes) g.fits (omega (arith, g.uses)) (sym (ap (λ (x : Windowed). x.place) e) ∙ g.places)
    (sym (ap (λ (x : Windowed). x.records) e) ∙ g.counts) (sym (ap (λ (x : Windowed). x.stopped) e) ∙ g.stops)

goes_wrong : {w rest : Windowed} {out₀ out out' : List ℕ} {used written written' : ℕ} (place records : ℕ) (line : List ℕ) →
    rest ≡ record { text = line; used = 0; place = place; records = records; stopped = true } → Goes w rest out₀ out used written → Put out written line out' written' → written + length line ≤ length out →
    Lists w out₀ (answered used written' place records true) out'
goes_wrong {w} {rest} {out₀} {out} {out'} {used} {written} {written'} place records line e g p h =
    let o : rest.used ≡ 0 = ap (λ (x : Windowed). x.used) e in
    lists (end refl (part (ap (λ (x : Windowed). x.text) e ∙ sym (append-nil line)) g.owes p)) (omega (arith, p.place, long p)) (omega (arith, g.uses))
    (sym (ap (λ (x : Windowed). x.place) e) ∙ g.places) (sym (ap (λ (x : Windowed). x.records) e) ∙ g.counts) (sym (ap (λ (x : Windowed). x.stopped) e) ∙ g.stops)

-- one turn: a record is listed, or refused
module _ (last : Bool) (s : List ℕ) {w : Windowed} {out₀ out out' : List ℕ} {used written written' : ℕ} (place records : ℕ)
    (g : Goes w (window_of last (length out - written) (drop used s) place records) out₀ out used written) (room : line_room ≤ length out - written) (ready : pauses last (drop used s) ≡ false) where
  pub turn : {x : Record} {n : ℕ} → got x n ≡ record_of (drop used s) → length (record_line place x) ≤ line_room → Put out written (record_line place x) out' written' →
      Goes w (window_of last (length out' - written') (drop (used + n) s) ((place + n) % 2 ^ 64) ((records + 1) % 2 ^ 64)) out₀ out' (used + n) written'
  turn {x} {n} e h p =
      let line = record_line place x in
      let r : length out - written - length line ≡ length out' - written' = omega (arith, p.place, long p) in
      let f : List ℕ → ℕ → Windowed = λ line n. window_of last (length out - written - length line) (drop n (drop used s)) ((place + n) % 2 ^ 64) ((records + 1) % 2 ^ 64) in
      let step : window_of last (length out - written) (drop used s) place records ≡ after_line line n (f line n)
      = window_step last (length out - written) (drop used s) place records room ready ∙ ap (λ a. lined place records a f) (sym e) in
      rw (r, drop-drop n used s) at (goes_on line n step g p (omega arith))

  pub wrong : {t : Told} → refused t ≡ record_of (drop used s) → length (refusal_line place t) ≤ line_room → Put out written (refusal_line place t) out' written' →
      Lists w out₀ (answered used written' place records true) out'
  wrong {t} e h p =
      let f : List ℕ → ℕ → Windowed = λ line n. window_of last (length out - written - length line) (drop n (drop used s)) ((place + n) % 2 ^ 64) ((records + 1) % 2 ^ 64) in
      goes_wrong place records (refusal_line place t) (window_step last (length out - written) (drop used s) place records room ready ∙ ap (λ a. lined place records a f) (sym e)) g p (omega arith)
