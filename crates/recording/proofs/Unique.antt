-- What the answers of `recording` say determines them; so each promise allows one answer.
-- Assumes nothing.
use Rattle.wire.proofs.laws.Unique.{tells_read}
use Rattle.std.specs.Prelude.{Ok, Err}
use Rattle.wire.specs.Read.{Read, says_read}
use Rattle.recording.specs.declared.Record.{Record}
use mathlib.Core.Path.{◌≡◌, refl, sym, ap, ◌∙◌}
use mathlib.Core.Bool.{Bool, true, false}
use mathlib.Core.List.{List}
use Prim.Native.Nat.{ℕ}
use Rattle.layout.specs.Answer.{Answer, got, refused}
use Rattle.layout.proofs.laws.Determined.{Tells, retracts}
use Rattle.recording.specs.Content.{Content}
use Rattle.recording.specs.Content as content
use Rattle.recording.specs.Record.{says_content, says_record}
use Rattle.std.specs.declared.option.Option as declared
use Rattle.std.specs.declared.option.Option.TheVariants.{Some, None}
use Rattle.wire.specs.declared.container.Container.{Container}
use Rattle.recording.specs.Row.{says_front, may_change, Finds}
use Rattle.recording.specs.declared.ReadFront.{ReadFront}
use Rattle.recording.specs.declared.ReadFront.TheVariants as readFront

abbrev content_from : Content → declared.Option Container
content_from content.note = None
content_from (content.holds x) = Some x

content_back : (c : declared.Option Container) → content_from (says_content c) ≡ c
content_back None = refl
content_back (Some x) = refl

abbrev record-from : Answer content.Record → Read Record
record-from (got x n) = Ok ((record { kind = x.kind; body = x.body; content = content_from x.content }), (record { at = n }))
record-from (refused t) = Err t

record_back : (r : Read Record) → record-from (says_record r) ≡ r
record_back (Ok (x, c)) = ap (λ d. Ok ((record { kind = x.kind; body = x.body; content = d }), c)) (content_back x.content)
record_back (Err t) = refl

pub tells_record : Tells says_record
tells_record = retracts record-from record_back

-- of a recording
pub tells_recording : Tells (says_read {A = ℕ})
tells_recording = tells_read

-- of bytes that others may follow
abbrev front_from : Answer content.Record → Bool → ReadFront
front_from (got x n) w = readFront.Got (record { kind = x.kind; body = x.body; content = content_from x.content }) (record { at = n })
front_from (refused t) true = readFront.Cut t
front_from (refused t) false = readFront.Refused t

front_back : (r : ReadFront) → front_from (says_front r) (may_change r) ≡ r
front_back (readFront.Got x c) = ap (λ d. readFront.Got (record { kind = x.kind; body = x.body; content = d }) c) (content_back x.content)
front_back (readFront.Refused t) = refl
front_back (readFront.Cut t) = refl

pub finds_one : (last : Bool) (s : List ℕ) (at : ℕ) (x y : ReadFront) → Finds last s at x → Finds last s at y → x ≡ y
finds_one last s at x y p q =
    sym (front_back x)
    ∙ ap (λ a. front_from a (may_change x)) (p.answer ∙ sym q.answer)
    ∙ ap (front_from (says_front y)) (p.waiting ∙ sym q.waiting)
    ∙ front_back y
