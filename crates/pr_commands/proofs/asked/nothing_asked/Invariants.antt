-- so many so far
use Rattle.pr_commands.proofs.Common.{◌≡◌, None, replicate}
use Rattle.pr_commands.proofs.asked.nothing_asked.Given as goal

abbrev pub invariant-loop-nexus : goal.invariant-loop-nexus
invariant-loop-nexus l = l.asked.items ≡ replicate l._nexus None
