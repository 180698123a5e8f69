use Rattle.pr_verify.proofs.Common.{scenario_of, view_of}
use Rattle.pr_verify.proofs.lemmas.Least.Disturbances.{is_closed, if_answered}
use Rattle.pr_verify.proofs.others.is_closed.Goals as goal

pub returns-then-not-branch-clause-open : goal.returns-then-not-branch-clause-open
returns-then-not-branch-clause-open c denied = c.in_ok-is_closed_to_resets.ensures.open c.if-not-branch.true

pub returns-clause-closed : goal.returns-clause-closed
returns-clause-closed c =
    let s = scenario_of c.args.asked.now.scenario.now in
    let v = view_of c.args.asked.now.outline.now.host c.args.view.now in
    if_answered c.is_closed_to_others.result
    (λ b others is. is_closed s v c.args.view.now.hosts c.requires.1 (others is) (c.in_ok-is_closed_to_resets.ensures.closed c.if-not-branch.false))
    c.is_closed_to_others.ensures.closed
