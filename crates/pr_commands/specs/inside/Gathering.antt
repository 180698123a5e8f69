-- Ends that were searched for, and their text not written yet.
use Rattle.std.specs.Prelude.{ℕ, List, Option, IfSome, Result, Ok, Err}
use Rattle.pr_roles.specs.declared.parts.Parts.{Parts}
use Rattle.pr_roles.specs.Scenarios.{scenario_of}
use Rattle.pr_text.specs.Reading.{IsWrittenAs}
use Rattle.pr_trace.specs.TraceText.{names_under}
use Rattle.pr_commands.specs.declared.ends.Answered.{Answered}
use Rattle.pr_commands.specs.declared.ends.Answered.TheVariants as answered
use Rattle.pr_commands.specs.declared.fault.Fault.{Fault}
use Rattle.pr_commands.specs.Ends.{EndsAnswer, listed, sought, Answers, answer_text, IsMisasked}
use Rattle.pr_commands.specs.inside.EarlyFaults.{IsEarlyFault}

abbrev pub scenario_in : Answered → Parts
scenario_in (answered.Listed scenario ends) = scenario
scenario_in (answered.Sought scenario asked found) = scenario

abbrev pub answer_in : Answered → EndsAnswer
answer_in (answered.Listed scenario ends) = listed ends
answer_in (answered.Sought scenario asked found) = sought asked.items found

abbrev pub answered_text : Answered → List ℕ
answered_text a = answer_text (names_under (scenario_in a)) (answer_in a)

-- of the scenario of a text that is known, or its first fault
abbrev pub IsAnswered : List (List ℕ) → Option (List ℕ) → Result Answered Fault → Type 0
IsAnswered words known (Ok a) = IfSome known (λ text. IsWrittenAs text (scenario_of (scenario_in a))) × Answers (scenario_of (scenario_in a)) words (answer_in a)
IsAnswered words known (Err f) = IsEarlyFault (IfSome known (IsMisasked words)) (λ e. ⊥) (λ name. ⊥) ⊥ known f
