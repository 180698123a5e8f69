use Rattle.std.proofs.Common.{◌≡◌, ℕ, Bool, List, Option, Result, Ok, Err, subst, sym}
use Rattle.std.specs.Prelude.{IfSome, IsErrAnd}
use Rattle.pr_roles.specs.declared.parts.Parts.{Parts}
use Rattle.pr_text.specs.declared.fault.ReadError.{ReadError}
use Rattle.pr_text.specs.Reading.{IsRead}
use Rattle.pr_commands.specs.declared.fault.Fault.{Fault}
use Rattle.fence.specs.Explanations.{EndsTold}
use Rattle.fence.proofs.lemmas.Explained.{told_plan}
use Rattle.fence.proofs.explaining.explain_text.Goals as goal

pub returns-clause-ends : goal.returns-clause-ends
returns-clause-ends g c =
    let known = g.R.Read.remaining c.args.reader.now in
    let read = subst (λ (r : Result Parts ReadError). IfSome known (λ text. IsRead text r)) c.in_ok-scenario.was c.read_and_tell-text.ensures.read in
    told_plan known c.in_ok-scenario.scenario c.in_ok-explanation.explanation c.is_refusal.result read
    c.in_ok-explanation.ensures.accepted c.in_ok-explanation.ensures.holds c.is_refusal.ensures

-- A fault of what is called is handed on as it is.
handed_on : (known : Option (List ℕ)) (fault : Fault) (r : Result Bool Fault) → IsErrAnd r (λ f. f ≡ fault) → EndsTold known (Err fault) → EndsTold known r
handed_on known fault (Ok refused) failed told = absurd failed
handed_on known fault (Err f) same told = subst (λ e. EndsTold known (Err e)) (sym same) told

pub returns-in_err-write_told-clause-ends : goal.returns-in_err-write_told-clause-ends
returns-in_err-write_told-clause-ends g c =
    let known = g.R.Read.remaining c.args.reader.now in
    handed_on known c.in_err-write_told.field-0.0 c.from_residual-in_err-write_told.result c.from_residual-in_err-write_told.ensures.1 (c.in_err-write_told.ensures known)
