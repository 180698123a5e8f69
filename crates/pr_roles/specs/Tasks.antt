-- Agrees with docs/MODEL.md, 'Which parts make a scenario'.
-- Whether a nexus has a script.
use Rattle.std.specs.Prelude.{Bool, true, false, Option, Some, None}
use Rattle.pr_roles.specs.Scenarios.{Task, Scripted, Planned}

abbrev pub has_script : Option Task → Bool
has_script None = false
has_script (Some (Scripted script budget)) = true
has_script (Some (Planned commands)) = false

-- it has one
abbrev pub IsScripted : Option Task → Type 0
IsScripted None = ⊥
IsScripted (Some (Scripted script budget)) = Unit {0}
IsScripted (Some (Planned commands)) = ⊥
