use Rattle.pr_verify.proofs.Common.{scenario_of, view_of, IsClosed, AllWithin}
use Rattle.pr_verify.proofs.others.lacking_by_others.Given as goal

abbrev pub invariant-loop-i : goal.invariant-loop-i
invariant-loop-i l =
    AllWithin (λ e. IsClosed (scenario_of l.asked.scenario.now) (view_of l.asked.outline.now.host e.1)) l.asked.outline.now.views.items 0 l.i
