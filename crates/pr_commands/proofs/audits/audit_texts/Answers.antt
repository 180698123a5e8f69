use Rattle.pr_commands.proofs.Common.{◌≡◌, ℕ, List, Option, Some, None, subst, IfSome, IsErrAnd, scenario_of}
use Rattle.pr_report.specs.Verdicts.{is_refusal, verdict_text}
use Rattle.pr_trace.specs.TraceText.{names_in}
use Rattle.pr_text.specs.declared.fault.ReadError.{ReadError}
use Rattle.pr_commands.specs.declared.audits.Audited.{Audited}
use Rattle.pr_commands.specs.declared.fault.Fault.TheVariants as fault
use Rattle.pr_commands.specs.Audits.{IsAuditOf}
use Rattle.pr_commands.specs.inside.Audited.{IsOf}
use Rattle.pr_commands.proofs.lemmas.Endings.Answers.{answered, cut}
use Rattle.pr_commands.proofs.audits.audit_texts.Goals as goal

audited : (known traced : Option (List ℕ)) (a : Audited) → IfSome known (λ text. IfSome traced (λ trace. IsOf text trace a))
    → IfSome known (λ text. IfSome traced (λ trace. IsAuditOf trace text (verdict_text (names_in (scenario_of a.scenario)) a.verdict) (is_refusal a.verdict)))
audited None traced a is = tt
audited (Some text) None a is = tt
audited (Some text) (Some trace) a is = answered _ _ _ (Some text) (scenario_of a.scenario) a.verdict is.0 is.1

no_input : {Any : Type 0} (e : ReadError) → fault.Input e ≡ fault.Output → Any
no_input e same = let bad : fault.Input e ≡ fault.Output = same in cc

pub returns-in_err-write_verdict-clause-ends : goal.returns-in_err-write_verdict-clause-ends
returns-in_err-write_verdict-clause-ends g c =
    let failed = c.from_residual-in_err-write_verdict.ensures.1 in
    record {
      outputs = cut _ _ _ _ _ _ _ _ _ _ _ (audited _ _ c.in_ok-audited.audited c.in_ok-audited.ensures.audited.0) c.in_err-write_verdict.ensures failed;
      unread = λ e same. no_input e (subst (λ r. IsErrAnd r (λ f. f ≡ fault.Output)) same failed);
    }
