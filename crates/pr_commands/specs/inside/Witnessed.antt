-- A scenario that was searched, and its text not written yet.
use Rattle.std.specs.Prelude.{ℕ, List, Option, IfSome, Result, Ok, Err}
use Rattle.pr_roles.specs.declared.parts.Parts.{Parts}
use Rattle.pr_roles.specs.Scenarios.{scenario_of}
use Rattle.pr_text.specs.Reading.{IsWrittenAs}
use Rattle.pr_trace.specs.TraceText.{names_under}
use Rattle.pr_commands.specs.declared.witnesses.Witnessed.{Witnessed}
use Rattle.pr_commands.specs.declared.witnesses.Witnessed.TheVariants as witnessed
use Rattle.pr_commands.specs.declared.fault.Fault.{Fault}
use Rattle.pr_commands.specs.Witnesses.{Answer, accepted, searched, Holds, answer_text}
use Rattle.pr_commands.specs.inside.EarlyFaults.{IsEarlyFault}

abbrev pub scenario_in : Witnessed → Parts
scenario_in (witnessed.Accepted verified) = verified
scenario_in (witnessed.Searched scenario refusal search) = scenario

abbrev pub answer_in : Witnessed → Answer
answer_in (witnessed.Accepted verified) = accepted
answer_in (witnessed.Searched scenario refusal search) = searched refusal search

abbrev pub witnessed_text : Witnessed → List ℕ
witnessed_text w = answer_text (names_under (scenario_in w)) (answer_in w)

abbrev pub Stands : Witnessed → Type 0
Stands w = Holds (scenario_of (scenario_in w)) (answer_in w)

-- of the scenario of a text that is known, or its first fault
abbrev pub IsWitnessed : Option (List ℕ) → Result Witnessed Fault → Type 0
IsWitnessed known (Ok w) = IfSome known (λ text. IsWrittenAs text (scenario_of (scenario_in w))) × Stands w
IsWitnessed known (Err f) = IsEarlyFault ⊥ (λ e. ⊥) (λ name. ⊥) ⊥ known f
