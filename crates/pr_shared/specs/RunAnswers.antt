-- Agrees with docs/FORMATS.md, 'Running'.
-- What a run answers that came to no outcome.
use Rattle.std.specs.Prelude.{ℕ, ◌<◌, List, length}
use Rattle.pr_roles.specs.declared.item.Item.{Item}
use Rattle.pr_roles.specs.Scenarios.{Scenario}
use Rattle.pr_shared.specs.declared.outcome.Differs.{Differs}
use Rattle.pr_shared.specs.declared.run_error.RunError.{RunError}
use Rattle.pr_shared.specs.declared.run_error.RunError.TheVariants as error

-- of the nexus whose thread could not be started, and the history, if that is why
abbrev pub IfSpawn : (ℕ → List Item → Type 0) → RunError → Type 0
IfSpawn P error.Memory = Unit {0}
IfSpawn P (error.Spawn host history) = P host history.items
IfSpawn P (error.Differs differs) = Unit {0}

-- of the world and the lists that don't belong together, if that is why
abbrev pub IfDiffers : (Differs → Type 0) → RunError → Type 0
IfDiffers P error.Memory = Unit {0}
IfDiffers P (error.Spawn host history) = Unit {0}
IfDiffers P (error.Differs differs) = P differs

-- it is one of the scenario's, whatever the history
abbrev pub IsNexusOf : Scenario → ℕ → List Item → Type 0
IsNexusOf s host history = host < length s.nexuses
