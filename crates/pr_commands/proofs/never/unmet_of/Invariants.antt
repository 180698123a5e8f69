-- those before this one
use Rattle.pr_commands.proofs.Common.{map, scenario_of}
use Rattle.pr_commands.specs.Never.{AreUnmet}
use Rattle.pr_commands.proofs.never.unmet_of.Given as goal

abbrev pub invariant-loop-word : goal.invariant-loop-word
invariant-loop-word l = AreUnmet (scenario_of l.scenario) (map (λ w. w.now) l.words) (map (λ w. w.now) l.unmet.items)
