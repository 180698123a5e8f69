-- Agrees with docs/MODEL.md, 'Cost'.
-- How many commands of the nexuses of a scenario can reach the unit.
use Rattle.std.specs.Prelude.{ℕ, Option, None, Some, length}
use Rattle.pr_roles.specs.Scenarios.{Task, Scripted, Planned}

-- of a host as many as its budget, of a guest as many as its plan has
abbrev pub room_of : Task → ℕ
room_of (Scripted script budget) = budget
room_of (Planned commands) = length commands

-- and none of one that is not there
abbrev pub room_by : Option Task → ℕ
room_by None = 0
room_by (Some t) = room_of t
