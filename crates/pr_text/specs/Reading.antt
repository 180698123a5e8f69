-- Agrees with docs/FORMATS.md, 'Scenario text'.
-- The scenario that a text is.
use Rattle.std.specs.Prelude.{◌≡◌, ℕ, Bool, false, not, ◌&&◌, nat_lt, List, [], map, Option, unwrap_or, Result, Ok, Err}
use Rattle.std.specs.List.{slice_get}
use Rattle.std.specs.Option.{option_map_or}
use Rattle.pr_attention.specs.Attentions.{Codes}
use Rattle.pr_attention.specs.CodeSets.{no_code}
use Rattle.pr_roles.specs.declared.role.Clause.{Clause}
use Rattle.pr_roles.specs.Scenarios.{Scenario, Nexus, Task, Scripted, Planned, scenario_of}
use Rattle.pr_roles.specs.declared.parts.Parts.{Parts}
use Rattle.pr_text.specs.declared.fault.ReadError.{ReadError}
use Rattle.pr_text.specs.Faults.{FailsOrUnread}
use Rattle.pr_text.specs.ScriptLines.{body_lines}
use Rattle.pr_text.specs.Declarations.{Declaration, WrittenTask, scripted, planned, Declared}
use Rattle.pr_text.specs.Texts.{start_of, reservations_of, answer_of}

-- a nexus, with its script as the lines that it is written as
pub record WrittenNexus : Type 0 where
  pub name : List ℕ
  pub role : List Clause
  pub start : List (Option ℕ)
  pub pending : Codes
  pub task : WrittenTask
  pub busy : ℕ
  pub full : ℕ

abbrev pub task_written : Task → WrittenTask
task_written (Scripted script budget) = scripted (body_lines script) budget
task_written (Planned commands) = planned commands

abbrev pub nexus_written : Nexus → WrittenNexus
nexus_written n = record { name = n.name; role = n.role; start = n.start; pending = n.pending; task = task_written n.task; busy = n.busy; full = n.full }

-- what is declared of a nexus, where nothing pending, no registration, no refusal and no command of a plan need
-- be written
abbrev pub nexus_declared : Declaration → WrittenNexus
nexus_declared x = record {
  name = x.name;
  role = x.role;
  start = start_of x;
  pending = unwrap_or x.pending no_code;
  task = unwrap_or x.task (planned []);
  busy = unwrap_or x.busy 0;
  full = unwrap_or x.full 0;
}

-- From version 3 on somebody else may send on the path of a host, unless a line says that nobody does.
abbrev pub is_shared_path : ℕ → Declaration → Bool
is_shared_path version x = nat_lt 2 version && (not x.is_guest && not x.alone)

-- From version 3 on the disk may report an attention before it looks at the reservation, unless a line says that it doesn't.
abbrev pub is_early_in : Declared → Bool
is_early_in d = nat_lt 2 d.version && not d.in_order

-- The scenario is just what is declared: its scripts are written as the lines that were read. Where no line says how often the
-- unit may be reset, it is not reset.
pub record IsDeclaredBy (d : Declared) (s : Scenario) : Type 0 where
  pub version : s.version ≡ d.version
  pub keys : s.keys ≡ unwrap_or d.keys []
  pub reservations : s.reservations ≡ reservations_of d
  pub generation : s.generation ≡ unwrap_or d.generation 0
  pub resets : s.resets ≡ unwrap_or d.resets 0
  pub paths : (h : ℕ) → s.shared h ≡ option_map_or (is_shared_path d.version) (slice_get d.nexuses h) false
  pub order : s.early ≡ is_early_in d
  pub nexuses : map nexus_written s.nexuses ≡ map nexus_declared d.nexuses

-- The text has no fault, and the scenario is what it declares.
pub record IsWrittenAs (text : List ℕ) (s : Scenario) : Type 0 where
  pub declared : Declared
  pub faultless : answer_of text ≡ Ok declared
  pub kept : IsDeclaredBy declared s

-- What a reader's text was read as. A reader may fail on any text, and memory may run out on any.
abbrev pub IsRead : List ℕ → Result Parts ReadError → Type 0
IsRead text (Ok parts) = IsWrittenAs text (scenario_of parts)
IsRead text (Err e) = FailsOrUnread (Unit {0}) e (answer_of text)
