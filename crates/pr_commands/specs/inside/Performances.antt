-- A scenario that was run, or refused, and its text not written yet.
use Rattle.std.specs.Prelude.{◌≡◌, ℕ, ◌<◌, List, length, Option, IfSome, Result, Ok, Err}
use Rattle.pr_roles.specs.declared.parts.Parts.{Parts}
use Rattle.pr_roles.specs.Scenarios.{Scenario, scenario_of}
use Rattle.pr_text.specs.Reading.{IsWrittenAs}
use Rattle.pr_verify.specs.declared.verifying.Refused.{Refused}
use Rattle.pr_roles.specs.declared.refusal.Refusal.{Refusal}
use Rattle.pr_shared.specs.declared.run_error.RunError.{RunError}
use Rattle.pr_shared.specs.declared.run_error.RunError.TheVariants as error
use Rattle.pr_shared.specs.declared.outcome.Outcome.{Outcome}
use Rattle.pr_trace.specs.TraceText.{name_of, names_in}
use Rattle.pr_commands.specs.declared.fault.Fault.{Fault}
use Rattle.pr_commands.specs.declared.fault.Fault.TheVariants as fault
use Rattle.pr_commands.specs.declared.runs.Ran.{Ran}
use Rattle.pr_commands.specs.Runs.{Holds, IsUnstarted, answer_text}
use Rattle.pr_commands.specs.inside.EarlyFaults.{IsEarlyFault}

abbrev pub Performed : Type 0
Performed = Result Ran Refused

abbrev pub scenario_in : Performed → Parts
scenario_in (Ok ran) = ran.scenario
scenario_in (Err refused) = refused.scenario

abbrev pub answer_in : Performed → Result Outcome Refusal
answer_in (Ok ran) = Ok ran.outcome
answer_in (Err refused) = Err refused.refusal

abbrev pub Stands : Performed → Type 0
Stands p = Holds (scenario_of (scenario_in p)) (answer_in p)

abbrev pub performed_text : Performed → List ℕ
performed_text p = answer_text (scenario_of (scenario_in p)) (answer_in p)

-- it tells of the one whose thread was not started, by this name
abbrev pub TellsOf : List ℕ → Fault → Type 0
TellsOf name fault.Usage = ⊥
TellsOf name fault.File = ⊥
TellsOf name (fault.Input e) = ⊥
TellsOf name (fault.Trace e) = ⊥
TellsOf name (fault.Thread told) = told.bytes ≡ name
TellsOf name fault.History = ⊥
TellsOf name fault.Memory = ⊥
TellsOf name fault.Output = ⊥

-- the fault for why a run came to no outcome
abbrev pub IsFaultFor : Scenario → RunError → Fault → Type 0
IsFaultFor s error.Memory f = f ≡ fault.Memory
IsFaultFor s (error.Spawn host history) f = TellsOf (name_of (names_in s) host) f
IsFaultFor s (error.Differs differs) f = f ≡ fault.History

-- it may come of the scenario's run
abbrev pub IsRunFault : Scenario → Fault → Type 0
IsRunFault s fault.Usage = ⊥
IsRunFault s fault.File = ⊥
IsRunFault s (fault.Input e) = ⊥
IsRunFault s (fault.Trace e) = ⊥
IsRunFault s (fault.Thread name) = (host : ℕ) × (host < length s.nexuses) × (name.bytes ≡ name_of (names_in s) host)
IsRunFault s fault.History = Unit {0}
IsRunFault s fault.Memory = Unit {0}
IsRunFault s fault.Output = ⊥

-- of the scenario of a text that is known, or its first fault
abbrev pub IsPerformed : Option (List ℕ) → Result Performed Fault → Type 0
IsPerformed known (Ok performed) = IfSome known (λ text. IsWrittenAs text (scenario_of (scenario_in performed))) × Stands performed
IsPerformed known (Err f) = IsEarlyFault ⊥ (λ e. ⊥) (λ name. IfSome known (λ text. IsUnstarted text name)) (Unit {0}) known f
