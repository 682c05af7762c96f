-- What a program needs to know to do what a turn says.
-- Assumes nothing.
use Rattle.std.proofs.Common.{◌≡◌, ℕ, ◌≤◌, List, length, drop, sym, ap, ◌∙◌, arith, length-append}
use Rattle.turns.specs.declared.Hold.{Hold}
use Rattle.turns.specs.declared.Next.TheVariants as next
use Rattle.turns.specs.Turn.{Turned, turn_of}
use Rattle.turns.proofs.laws.Running.{read_within}
use Rattle.mending.specs.declared.turn.Turn.{Turn}
use Rattle.mending.specs.Turn.{State, Given, step_of, Turns}

-- a turn's bytes stand in the output, and its lines in the report
module _ {t : Turned State Given} {out starts lengths report window' out' starts' lengths' report' : List ℕ} {r : Turn} (p : Turns t out starts lengths report r window' out' starts' lengths' report') where
  pub text_within : r.written ≤ length out'
  text_within = omega (arith, ap (λ (x : Turn). x.written) p.answers, ap length p.bytes, length-append t.text.text (drop (length t.text.text) out))

  pub lines_within : r.reported ≤ length report'
  lines_within = omega (arith, ap (λ (x : Turn). x.reported) p.answers, ap length p.tells, length-append t.text.report (drop (length t.text.report) report))

-- where it says to read, the bytes that are held stand in the window
pub held_within : (window : List ℕ) (h : Hold) (s : State) {out starts lengths report window' out' starts' lengths' report' : List ℕ} {r : Turn} →
    Turns (turn_of step_of window h s) out starts lengths report r window' out' starts' lengths' report' → r.next ≡ next.Read → r.stand.hold.held ≤ length window'
held_within window h s p e =
    let k = read_within step_of window h s (sym (ap (λ (x : Turn). x.next) p.answers) ∙ e) in
    omega (arith, ap (λ (x : Turn). x.stand.hold.held) p.answers, ap length p.keeps)
