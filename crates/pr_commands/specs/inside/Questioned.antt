-- A moment that was searched for, and its text not written yet.
use Rattle.std.specs.Prelude.{ℕ, List, Option, IfSome, Result, Ok, Err, Vec}
use Rattle.std.specs.Borrow.{Bor}
use Rattle.std.specs.declared.alloc.Global.{Global}
use Rattle.pr_roles.specs.Scenarios.{Scenario, scenario_of}
use Rattle.pr_text.specs.Reading.{IsWrittenAs}
use Rattle.pr_audit.specs.declared.end.End.{End}
use Rattle.pr_explore.specs.declared.moments.Fact.{Fact}
use Rattle.pr_witness.specs.declared.ending.Sought.{Sought}
use Rattle.pr_witness.specs.Moments.{IsMomentSought}
use Rattle.pr_commands.specs.Never.{Answers, AreUnmet, IsMisasked, NeverAnswer}
use Rattle.pr_commands.specs.Steps.{texts_of}
use Rattle.pr_commands.specs.declared.fault.Fault.{Fault}
use Rattle.pr_commands.specs.declared.never.Questioned.{Questioned}
use Rattle.pr_commands.specs.inside.EarlyFaults.{IsEarlyFault}

-- what the search came to, and which words by themselves are never so
abbrev pub IsSearched : Scenario → List (List ℕ) → List (Option End) → List Fact → Sought × Vec (Bor (List ℕ)) Global → Type 0
IsSearched s words asked facts found = IsMomentSought s asked facts found.0 × AreUnmet s words (texts_of found.1.items)

abbrev pub answer_in : Questioned → NeverAnswer
answer_in q = record { sought = q.sought; unmet = texts_of q.unmet.items }

-- of the scenario of a text that is known, or its first fault
abbrev pub IsQuestioned : List (List ℕ) → Option (List ℕ) → Result Questioned Fault → Type 0
IsQuestioned words known (Ok q) = IfSome known (λ text. IsWrittenAs text (scenario_of q.scenario)) × Answers (scenario_of q.scenario) words (answer_in q)
IsQuestioned words known (Err f) = IsEarlyFault (IfSome known (IsMisasked words)) (λ e. ⊥) (λ name. ⊥) ⊥ known f
