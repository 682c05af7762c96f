-- `copying::look`: what is found at the front says both. Assumes nothing.
use Rattle.std.proofs.Common.{◌≡◌, ℕ, Bool, ltb, List, length, sym, ap, ◌∙◌, rules}
use Rattle.layout.specs.Answer.{Told, refused, pick}
use Rattle.layout.proofs.laws.Reading.{heard}
use Rattle.recording.specs.Row.{is_cut, waits, says_front, may_change, Finds}
use Rattle.recording.specs.declared.ReadFront.{ReadFront}
use Rattle.copying.specs.declared.Fate.{Fate}
use Rattle.copying.specs.declared.Fate.TheVariants as fate
use Rattle.copying.specs.declared.Outcome.{Outcome}
use Rattle.copying.specs.Turn.{end_of, fate_of, outcome_of}
use Rattle.copying.proofs.Looking.{seen_so, got_going}
use Rattle.copying.proofs.look.Statement.{statement}
use Rattle.copying.proofs.look.Tie as tie

returns : tie.Need-returns-in-Got
unfolding waits is_cut
returns c =
    let a = c.args in
    let p = c.read_front.ensures in
    seen_so a.last a.s.now (heard may_change c.in-Got.is p.waiting) (got_going a.s.now (heard says_front c.in-Got.is p.answer))

-- a refused one, by whether it is cut
refused_so : (last : Bool) (s : List ℕ) {r : ReadFront} {u : Told} {w : Bool} {f : Fate} → Finds last s 0 r → says_front r ≡ refused u → may_change r ≡ w → f ≡ pick (ltb 0 (length s)) (fate.Refused u) fate.Whole → ◌≡◌ {A = Outcome} (record { waits = w; fate = f }) (outcome_of last s)
unfolding waits is_cut fate_of
refused_so last s p e m g = seen_so last s (sym m ∙ p.waiting) (g ∙ ap (λ x. pick (ltb 0 (length s)) (end_of x) fate.Whole) (sym e ∙ p.answer))

returns-2 : tie.Need-returns-in-Refused
returns-2 c = let a = c.args in refused_so a.last a.s.now c.read_front.ensures (ap says_front c.in-Refused.is) (ap may_change c.in-Refused.is) c.fate_of.ensures

returns-3 : tie.Need-returns-in-Cut
returns-3 c = let a = c.args in refused_so a.last a.s.now c.read_front.ensures (ap says_front c.in-Cut.is) (ap may_change c.in-Cut.is) c.fate_of-in-Cut.ensures

pub look_spec : {M : Type 1} → statement M
look_spec =
    tie.close
    (tie.spec
    (λ c κs. search rules)
    (λ c. search rules)
    (λ c. search rules)
    (λ c κs. search rules)
    (λ c. search rules)
    (λ c κs. search rules)
    returns
    returns-2
    returns-3)
