use Rattle.pr_commands.proofs.Common.{◌∙◌, scenario_of}
use Rattle.pr_commands.specs.Checks.{IsVerdictOf}
use Rattle.pr_commands.specs.inside.Judgements.{scenario_in, verdict_in}
use Rattle.pr_commands.proofs.lemmas.Checks.Verdicts.{refusal_of}
use Rattle.pr_commands.proofs.lemmas.Endings.Answers.{answered, cut, whole}
use Rattle.pr_commands.proofs.checks.check_text.Goals as goal

pub returns-in_err-put_judgement-clause-ends : goal.returns-in_err-put_judgement-clause-ends
returns-in_err-put_judgement-clause-ends g c =
    let j = c.in_ok-judgement.judgement in
    let judged = c.in_ok-judgement.ensures.judged in
    cut _ _ _ _ _ _ _ _ _ _ _ (answered _ _ _ _ (scenario_of (scenario_in j)) (verdict_in j) judged.0 judged.1) c.in_err-put_judgement.ensures c.from_residual-in_err-put_judgement.ensures.1

pub returns-clause-ends : goal.returns-clause-ends
returns-clause-ends g c =
    let j = c.in_ok-judgement.judgement in
    let judged = c.in_ok-judgement.ensures.judged in
    whole (IsVerdictOf _) _ _ _ _ _ _ (answered _ _ _ _ (scenario_of (scenario_in j)) (verdict_in j) judged.0 judged.1) (c.is_err.ensures.value ∙ refusal_of j) c.in_ok-put_judgement.ensures
