use Rattle.std.proofs.Common.{◌≡◌}
use Rattle.pr_words.proofs.adopting.adopt_good.Given as goal

-- there are as many nexuses as before
abbrev pub invariant-loop : goal.invariant-loop
invariant-loop l = l.unit.registry.hosts ≡ l.fn.unit.registry.hosts
