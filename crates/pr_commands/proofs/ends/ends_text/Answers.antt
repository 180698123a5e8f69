use Rattle.pr_commands.proofs.Common.{scenario_of}
use Rattle.pr_commands.specs.Ends.{AreEndsOf}
use Rattle.pr_commands.specs.inside.Gathering.{answer_in, scenario_in}
use Rattle.pr_commands.proofs.lemmas.Endings.Answers.{answered, cut, whole}
use Rattle.pr_commands.proofs.ends.ends_text.Goals as goal

pub returns-in_err-put_answered-clause-ends : goal.returns-in_err-put_answered-clause-ends
returns-in_err-put_answered-clause-ends g c =
    let a = c.in_ok-answered.answered in
    let found = c.in_ok-answered.ensures.answered in
    cut _ _ _ _ _ _ _ _ _ _ _ (answered _ _ _ _ (scenario_of (scenario_in a)) (answer_in a) found.0 found.1) c.in_err-put_answered.ensures c.from_residual-in_err-put_answered.ensures.1

pub returns-clause-ends : goal.returns-clause-ends
returns-clause-ends g c =
    let a = c.in_ok-answered.answered in
    let found = c.in_ok-answered.ensures.answered in
    whole (AreEndsOf _) _ _ _ _ _ _ (answered _ _ _ _ (scenario_of (scenario_in a)) (answer_in a) found.0 found.1) c.is_no.ensures c.in_ok-put_answered.ensures
