use Rattle.pr_views.specs.inside.Passing.{NonePasses}
use Rattle.pr_views.proofs.portion.Portion.first_passing.Given as goal

abbrev pub invariant-loop-host : goal.invariant-loop-host
invariant-loop-host l = NonePasses l.self l.test l.from l.host
