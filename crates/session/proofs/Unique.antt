-- What an answer says determines it: it can be had back. So each promise allows one answer, and a command's one output.
-- Assumes nothing.
use Rattle.wire.proofs.laws.Unique.{tells_read}
use Rattle.std.specs.Prelude.{Ok, Err}
use Rattle.std.specs.declared.result.Result.{Result}
use Rattle.layout.specs.declared.Refusal.{Refusal}
use Rattle.wire.specs.Read.{Read, says_read}
use Rattle.std.proofs.Common.{◌≡◌, ℕ, List, sym, refl, ap, ◌∙◌}
use Rattle.layout.specs.Answer.{Answer, got, refused, means}
use Rattle.layout.specs.Written.{Said}
use Rattle.layout.proofs.laws.Determined.{Tells, retracts}
use Rattle.session.specs.Search.{Reply, payload, response, says_found}
use Rattle.session.specs.Transaction.{Turn, turn, says_made, Makes}
use Rattle.session.specs.declared.search.Found.{Found}
use Rattle.session.specs.declared.search.Found.TheVariants as found
use Rattle.session.specs.declared.search.Response.{Response}
use Rattle.session.specs.declared.transaction.Made.{Made}
use Rattle.session.specs.declared.transaction.Session.{Session}

pub tells_made : Tells says_made
tells_made = retracts back told
  where
    back : Answer Turn → Result Made Refusal
    back (got t n) = Ok (record { number = t.number; next = t.next; count = n })
    back (refused t) = Err t

    told : (r : Result Made Refusal) → back (says_made r) ≡ r
    told (Ok m) = refl
    told (Err t) = refl

pub one_made : {x : Session} {code : ℕ} {said : ℕ → Said} {old new new' : List ℕ} (r q : Result Made Refusal) → Makes x code said old (says_made r) new → Makes x code said old (says_made q) new' → (r ≡ q) × (new ≡ new')
one_made {x} {code} r q p o = (
  tells_made r q (p.answers ∙ ap (means (λ _. turn x code)) (p.wrote.answers ∙ sym o.wrote.answers) ∙ sym o.answers),
  p.wrote.leaves ∙ sym o.wrote.leaves,
)

pub tells_found : Tells says_found
tells_found = retracts back told
  where
    back : Answer Reply → Read Found
    back (got (payload p) n) = Ok (found.Payload p, record { at = n })
    back (got (response code) n) = Ok (found.Response code, record { at = n })
    back (refused t) = Err t

    told : (r : Read Found) → back (says_found r) ≡ r
    told (Ok (found.Payload p, c)) = refl
    told (Ok (found.Response code, c)) = refl
    told (Err t) = refl

pub tells_response : Tells (says_read {A = Response})
tells_response = tells_read
