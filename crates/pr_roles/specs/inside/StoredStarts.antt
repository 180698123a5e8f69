-- The alternatives of a nexus as its parts have them.
use Rattle.std.specs.Prelude.{ℕ, List, Option}
use Rattle.pr_roles.specs.declared.parts.Nexus.{Nexus as NexusPart}

abbrev pub start_of : NexusPart → List (Option ℕ)
start_of n = n.start.alternatives.items
