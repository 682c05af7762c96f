-- Laws of a turn: which of its cases holds.
-- Assumes nothing.
use Rattle.std.specs.Prelude.{Ok}
use Rattle.std.proofs.Common.{◌≡◌, ℕ, ◌+◌, ◌-◌, ◌<◌, ◌≤◌, Bool, true, false, List, length, drop, sym, refl, ap, ◌∙◌, arith, length-append, le-ltb, lt-ltb}
use Rattle.layout.specs.Answer.{got}
use Rattle.layout.specs.Written.{Put}
use Rattle.turns.specs.declared.Hold.{Hold}
use Rattle.turns.specs.declared.Next.TheVariants as next
use Rattle.turns.specs.Held.{holds, rest, fronted, Kept}
use Rattle.turns.specs.Turn.{Turned, turn_of}
use Rattle.turns.proofs.laws.Running.{rest_most, rest_less, read_within}
use Rattle.turns.proofs.laws.Fronting.{put_fronted}
use Rattle.recording.specs.Row.{whole_of, waits}
use Rattle.recording.specs.Copied.{says_copied, front_text, front_left}
use Rattle.recording.specs.declared.copy.Front.{Front}
use Rattle.recording.specs.declared.copy.Left.{Left}
use Rattle.recording.proofs.laws.Fronts.{whole_most, Fronts}
use Rattle.copying.specs.declared.Tally.{Tally}
use Rattle.copying.specs.declared.Fate.TheVariants as fate
use Rattle.copying.specs.declared.Turn.{Turn}
use Rattle.copying.specs.Report.{report_of}
use Rattle.copying.specs.Turn.{passed, fate_of, Given, stepped, by_front, step_of, stood, turned, Turns}

module _ (last : Bool) (t : Tally) (h : List ℕ) where
  goes_so : 0 < whole_of h → by_front last t h ≡ stepped fate.Going next.Again t h
  goes_so e = rw (lt-ltb 0 (whole_of h) e)

  asks_so : whole_of h ≤ 0 → waits last h ≡ true → by_front last t h ≡ stepped fate.Going next.Read t h
  asks_so e f = rw (le-ltb 0 (whole_of h) e, f)

  stops_so : whole_of h ≤ 0 → waits last h ≡ false → by_front last t h ≡ stepped (fate_of h) next.Stop t h
  stops_so e f = rw (le-ltb 0 (whole_of h) e, f)

-- ── a turn, by what was copied ──

module _ (window : List ℕ) {out out' : List ℕ} (h : Hold) (t : Tally) {r : Front} {n : ℕ} {left : Left} (f : Fronts (rest window h.from h.held) out r out') (d : r.copied ≡ Ok (n, left)) where
  abbrev bs : List ℕ
  bs = rest window h.from h.held

  abbrev used : ℕ
  used = r.used

  u : used ≡ whole_of bs
  u = f.used

  l : out' ≡ fronted (front_text bs) out
  l = f.leaves

  says_so : got left n ≡ got (front_left bs) (length (front_text bs))
  says_so = sym (ap says_copied d) ∙ f.answer

  written : n ≡ length (front_text bs)
  written = let e = says_so in cc

  left_so : left ≡ front_left bs
  left_so = let e = says_so in cc

  -- no more than the window has after the place
  pub used_fits : used ≤ length window - h.from
  used_fits = omega (arith, u, whole_most bs, rest_most window h.from h.held)

  pub turn_goes : {report : List ℕ} → 0 < used → Turns (turn_of step_of window h t) out report (turned n 0 next.Again (stood (holds (h.from + used) h.held h.ended) (passed t used left))) window out' report
  unfolding turn_of step_of
  turn_goes e = rw (goes_so h.ended t bs (omega (arith, u)), u, written, left_so) (record { answers = refl; leaves = l; tells = refl; keeps = refl })

  pub turn_asks : {report : List ℕ} → used ≤ 0 → waits h.ended bs ≡ true → {kept : ℕ} {window' : List ℕ} → Kept window (h.from + used) h.held kept window' →
      Turns (turn_of step_of window h t) out report (turned n 0 next.Read (stood (holds 0 kept false) (passed t used left))) window' out' report
  unfolding turn_of step_of
  turn_asks e g k =
      let q = rest_less window h.from h.held used (omega (arith, u, whole_most bs)) ∙ ap (λ m. drop m bs) u in
      let count = k.count ∙ ap length q in
      let leaves = k.leaves ∙ ap (λ v. fronted v window) q in
      rw (asks_so h.ended t bs (omega (arith, u)) g, u, written, left_so) (record { answers = rw count; leaves = l; tells = refl; keeps = leaves })

  pub turn_stops : used ≤ 0 → waits h.ended bs ≡ false → {told : ℕ} {report report' : List ℕ} → Put report 0 (report_of (fate_of bs) (passed t used left)) report' told → length (report_of (fate_of bs) (passed t used left)) ≤ length report →
      Turns (turn_of step_of window h t) out report (turned n told next.Stop (stood h (passed t used left))) window out' report'
  unfolding turn_of step_of
  turn_stops e g {report = report} p room =
      let q = put_fronted room p in
      let same = ap (λ v. report_of (fate_of bs) (passed t v left)) u ∙ ap (λ v. report_of (fate_of bs) (passed t (whole_of bs) v)) left_so in
      let count = q.0 ∙ ap length same in
      rw (stops_so h.ended t bs (omega (arith, u)) g, u, written, left_so) (record { answers = rw count; leaves = l; tells = q.1 ∙ ap (λ v. fronted v report) same; keeps = refl })

-- ── what a program needs to know to obey ──

-- a turn's bytes stand in the output, and its line in the report
module _ {t : Turned Tally Given} {out report window' out' report' : List ℕ} {r : Turn} (p : Turns t out report r window' out' report') where
  pub text_within : r.written ≤ length out'
  text_within = omega (arith, ap (λ (x : Turn). x.written) p.answers, ap length p.leaves, length-append t.text.text (drop (length t.text.text) out))

  pub line_within : r.reported ≤ length report'
  line_within = omega (arith, ap (λ (x : Turn). x.reported) p.answers, ap length p.tells, length-append t.text.report (drop (length t.text.report) report))

-- where it says to read, the bytes that are held stand in the window
pub held_within : (window : List ℕ) (h : Hold) (t : Tally) {out report window' out' report' : List ℕ} {r : Turn} → Turns (turn_of step_of window h t) out report r window' out' report' → r.next ≡ next.Read → r.stand.hold.held ≤ length window'
held_within window h t p e =
    let k = read_within step_of window h t (sym (ap (λ (x : Turn). x.next) p.answers) ∙ e) in
    omega (arith, ap (λ (x : Turn). x.stand.hold.held) p.answers, ap length p.keeps)
