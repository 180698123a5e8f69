use Rattle.pr_views.proofs.Common.{AreFilled}
use Rattle.pr_views.proofs.portion.Portion.is_filled.Given as goal

abbrev pub invariant-loop-host : goal.invariant-loop-host
invariant-loop-host l = AreFilled l.host l.self.registrations
