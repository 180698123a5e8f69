-- Agrees with docs/FORMATS.md, 'Reading a trace'.
-- Laws of traces that are read.
use Rattle.std.specs.Prelude.{◌≡◌, ℕ, ◌<◌, ◌≤◌, IsTrue, List, length, Option, Some, None, Ok}
use Rattle.std.specs.List.{All}
use Rattle.pr_cdb.specs.declared.codes.TheConstants.{MOST_CDB_LENGTH, PARAMETER_LIST_LENGTH}
use Rattle.pr_cdb.specs.declared.reply.Sense.{Sense}
use Rattle.pr_cdb.specs.declared.reply.Status.{Status}
use Rattle.pr_cdb.specs.declared.reply.Status.TheVariants.{Good, CheckCondition, Conflict, Busy, TaskFull}
use Rattle.pr_cdb.specs.Requests.{AreBytes}
use Rattle.pr_registry.specs.Registrations.{State, IsWellFormed}
use Rattle.pr_unit.specs.UnitStates.{UnitState}
use Rattle.pr_script.specs.Names.{is_name}
use Rattle.pr_roles.specs.declared.entry.Entry.{Entry}
use Rattle.pr_roles.specs.declared.item.Item.{Item}
use Rattle.pr_roles.specs.declared.item.Item.TheVariants.{Sent, Reset}
use Rattle.pr_roles.specs.Scenarios.{Scenario}
use Rattle.pr_roles.specs.Fitting.{Fits}
use Rattle.pr_roles.specs.Schedules.{Schedule}
use Rattle.pr_roles.specs.Starts.{IsAllowedStart}
use Rattle.pr_roles.specs.Worlds.{Event, Run, world_from}
use Rattle.pr_audit.specs.Ends.{Ending, stops, waits, traps, leaves}
use Rattle.pr_trace.specs.Versions.{has_resets, has_status, most_data, most_items}
use Rattle.pr_trace.specs.Traces.{IsTraceOf}
use Rattle.pr_trace.specs.TraceText.{names_in, trace_text}
use Rattle.pr_trace.specs.TraceReadings.{trace_of}

-- with CHECK CONDITION there is a sense, whose fields are in range, and with no other status
abbrev pub HasSense : Status → Option Sense → Type 0
HasSense Good None = Unit {0}
HasSense Good (Some s) = ⊥
HasSense CheckCondition None = ⊥
HasSense CheckCondition (Some s) = (s.key < 16) × (s.asc < 256) × (s.ascq < 256)
HasSense Conflict None = Unit {0}
HasSense Conflict (Some s) = ⊥
HasSense Busy None = Unit {0}
HasSense Busy (Some s) = ⊥
HasSense TaskFull None = Unit {0}
HasSense TaskFull (Some s) = ⊥

-- The sender is one of so many nexuses. The command, its parameters and the data are bytes, no more than a
-- wire and a reply hold, and the command has one at least. The version has the status.
pub record IsEntry (version hosts : ℕ) (e : Entry) : Type 0 where
  pub sender : e.host < hosts
  pub bytes : AreBytes e.wire.cdb.items × AreBytes e.wire.params.items × AreBytes e.reply.bytes.items
  pub command : (0 < length e.wire.cdb.items) × (length e.wire.cdb.items ≤ MOST_CDB_LENGTH)
  pub lengths : (length e.wire.params.items ≤ PARAMETER_LIST_LENGTH) × (length e.reply.bytes.items ≤ most_data version)
  pub status : IsTrue (has_status version e.reply.status)
  pub sense : HasSense e.reply.status e.reply.sense

-- The unit may have been reset in a version that has resets.
abbrev pub IsItem : ℕ → ℕ → Item → Type 0
IsItem version hosts (Sent e) = IsEntry version hosts e
IsItem version hosts Reset = IsTrue (has_resets version)

-- a script stops with a word that has the form of a name
abbrev pub IsEnding : Ending → Type 0
IsEnding (stops word) = IsTrue (is_name word)
IsEnding (waits place) = Unit {0}
IsEnding (traps place) = Unit {0}
IsEnding (leaves planned) = Unit {0}

-- The text of these items, under the names of a scenario, is read as them. The unit is well formed, as each is that a run
-- leads to: with a longer key the line of sixteen names could be too long.
abbrev pub WrittenTracesAreRead : Type 0
WrittenTracesAreRead =
    (s : Scenario) (history : List Item) (unit : State) (ends : List Ending) (counts : List ℕ)
    → Fits s → IsWellFormed unit → All (IsItem s.version (length s.nexuses)) history → length history ≤ most_items s.version
    → length ends ≡ length s.nexuses → All IsEnding ends
    → trace_of s.version (names_in s) (trace_text s.version (names_in s) history unit ends counts) ≡ Ok history

-- The trace of a run from an allowed start is read as the run's history, where that has no more items than a trace of the version.
abbrev pub TracesOfRunsAreRead : Type 0
TracesOfRunsAreRead =
    (s : Scenario) (u : UnitState) (es : List Event) (y : Schedule) (text : List ℕ)
    → Fits s → IsAllowedStart s u → Run s (world_from s u) es y.world → length y.world.history ≤ most_items s.version
    → IsTraceOf s y text → trace_of s.version (names_in s) text ≡ Ok y.world.history
