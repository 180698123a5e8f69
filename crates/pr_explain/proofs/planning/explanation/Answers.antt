use Rattle.std.proofs.Common.{subst}
use Rattle.std.specs.Prelude.{IfSome}
use Rattle.pr_roles.specs.Scenarios.{scenario_of}
use Rattle.pr_verify.specs.Outlines.{HaveOutlines}
use Rattle.pr_explain.proofs.lemmas.Reasons.{never_accepted}
use Rattle.pr_explain.proofs.planning.explanation.Goals as goal

pub returns-in-Some-clause-accepted : goal.returns-in-Some-clause-accepted
returns-in-Some-clause-accepted c =
    let P = HaveOutlines (scenario_of c.args.scenario) in
    never_accepted c.refused.result P c.refused.ensures.refused (subst (λ o. IfSome o (λ refusal. ¬ P)) c.in-Some.is c.in_ok-judged.ensures.none)
