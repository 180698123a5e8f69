use Rattle.pr_verify.proofs.Common.{scenario_of, view_of}
use Rattle.pr_verify.specs.inside.Lacking.{IsClosedTo}
use Rattle.pr_verify.proofs.others.is_closed_to_others.Given as goal

abbrev pub invariant-loop-other : goal.invariant-loop-other
invariant-loop-other l = IsClosedTo l.other (scenario_of l.asked.scenario.now) (view_of l.asked.outline.now.host l.view)
