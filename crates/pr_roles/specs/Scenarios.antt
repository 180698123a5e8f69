-- Agrees with docs/FORMATS.md, 'Scenario text'.
-- What a scenario declares, and the scenario that its parts are.
use Rattle.std.specs.Prelude.{ℕ, Bool, true, false, slice_index_or, List, [], Option, Some, None, map}
use Rattle.std.specs.List.{slice_get}
use Rattle.std.specs.Option.{option_map_or}
use Rattle.pr_cdb.specs.declared.command.Command.{Command}
use Rattle.pr_registry.specs.declared.held.Held.{Held}
use Rattle.pr_attention.specs.Attentions.{Codes}
use Rattle.pr_script.specs.Scripts.{Stmts}
use Rattle.pr_script.specs.Trees.{script_of}
use Rattle.pr_roles.specs.declared.role.Clause.{Clause}
use Rattle.pr_roles.specs.declared.parts.Task.{Task as TaskPart}
use Rattle.pr_roles.specs.declared.parts.Task.TheVariants as part
use Rattle.pr_roles.specs.declared.parts.Nexus.{Nexus as NexusPart}
use Rattle.pr_roles.specs.declared.parts.Parts.{Parts}

-- a host runs a script, with the most commands that it may send; a guest has a plan
pub data Task : Type 0 where
  Scripted : Stmts → ℕ → Task
  Planned : List Command → Task

-- A nexus: its name, its role, what it may be registered with at the start, the attentions that may
-- be pending for it then, its task, and how often it may be answered BUSY and TASK SET FULL.
pub record Nexus : Type 0 where
  pub name : List ℕ
  pub role : List Clause
  pub start : List (Option ℕ)
  pub pending : Codes
  pub task : Task
  pub busy : ℕ
  pub full : ℕ

-- The version of its text, the declared keys, the reservations that there may be at the start, the generation of the first start,
-- how often the unit may be reset, on whose paths somebody else may take attentions away, whether the disk may report an attention
-- before it looks at the reservation, and the nexuses in the order of their numbers.
pub record Scenario : Type 0 where
  pub version : ℕ
  pub keys : List ℕ
  pub reservations : List (Option Held)
  pub generation : ℕ
  pub resets : ℕ
  pub shared : ℕ → Bool
  pub early : Bool
  pub nexuses : List Nexus

-- the same scenario where somebody else may send on each path, as on Linux the kernel does, and multipathd
abbrev pub on_shared_paths : Scenario → Scenario
on_shared_paths s = record s { shared = λ h. true }

abbrev pub nexus : Scenario → ℕ → Option Nexus
nexus s h = slice_get s.nexuses h

-- the clauses of the role of h
abbrev pub role : Scenario → ℕ → List Clause
role s h = option_map_or (λ n. n.role) (nexus s h) []

abbrev pub task : Scenario → ℕ → Option Task
task s h = option_map_or (λ n. Some n.task) (nexus s h) None

abbrev pub task_of : TaskPart → Task
task_of (part.Scripted script budget) = Scripted (script_of script) budget
task_of (part.Planned commands) = Planned commands.items

abbrev pub nexus_of : NexusPart → Nexus
nexus_of n = record {
  name = n.name.bytes;
  role = n.role.clauses.items;
  start = n.start.alternatives.items;
  pending = n.pending;
  task = task_of n.task;
  busy = n.busy;
  full = n.full;
}

-- one that is not there has no path
abbrev pub is_shared_by : List Bool → ℕ → Bool
is_shared_by paths h = slice_index_or paths h false

unfoldable pub scenario_of : Parts → Scenario
scenario_of p = record {
  version = p.version;
  keys = p.keys.items;
  reservations = p.reservations.items;
  generation = p.generation;
  resets = p.resets;
  shared = is_shared_by (map (λ n. n.shared) p.nexuses.items);
  early = p.early;
  nexuses = map nexus_of p.nexuses.items;
}
