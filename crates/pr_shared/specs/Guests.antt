-- Agrees with docs/FORMATS.md, 'Running'.
-- Who of a scenario is a guest.
use Rattle.std.specs.Prelude.{Bool, List, map}
use Rattle.pr_roles.specs.Scenarios.{Scenario}
use Rattle.pr_audit.specs.Auditors.{is_planned}

-- of each nexus, by its number, whether it is a guest
abbrev pub guests_of : Scenario → List Bool
guests_of s = map (λ n. is_planned n.task) s.nexuses
