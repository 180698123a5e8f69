-- A scenario that was judged, and its verdict not written yet.
use Rattle.std.specs.Prelude.{ℕ, List, Option, Some, None, IfSome, Result, Ok, Err}
use Rattle.pr_roles.specs.declared.parts.Parts.{Parts}
use Rattle.pr_roles.specs.Scenarios.{on_shared_paths, scenario_of}
use Rattle.pr_roles.specs.Safety.{IsSafe}
use Rattle.pr_text.specs.Reading.{IsWrittenAs}
use Rattle.pr_verify.specs.declared.verifying.Refused.{Refused}
use Rattle.pr_verify.specs.Outlines.{HaveOutlines}
use Rattle.pr_verify.specs.Verdicts.{IsFirstReason, IsVerdict}
use Rattle.pr_trace.specs.TraceText.{names_in}
use Rattle.pr_report.specs.Verdicts.{verdict_text}
use Rattle.pr_report.specs.declared.verdict.Verdict.{Verdict}
use Rattle.pr_report.specs.declared.verdict.Verdict.TheVariants as verdict
use Rattle.pr_commands.specs.Checks.{Holds}
use Rattle.pr_commands.specs.declared.fault.Fault.{Fault}
use Rattle.pr_commands.specs.declared.judging.Acceptance.{Acceptance}
use Rattle.pr_commands.specs.declared.judging.Method.{Method}
use Rattle.pr_commands.specs.inside.EarlyFaults.{IsEarlyFault}

-- ---- by outlines alone

-- verified, or refused for a reason
abbrev pub Verification : Type 0
Verification = Result Parts Refused

abbrev pub verified_in : Verification → Parts
verified_in (Ok verified) = verified
verified_in (Err refused) = refused.scenario

-- what a verification answers: what stands, or that memory was refused
abbrev pub IsVerified : Verification → Type 0
IsVerified (Ok verified) = IsSafe (on_shared_paths (scenario_of verified)) × HaveOutlines (scenario_of verified)
IsVerified (Err refused) = IsVerdict (scenario_of refused.scenario) refused.refusal

-- what stands
abbrev pub IsSettled : Verification → Type 0
IsSettled (Ok verified) = IsSafe (on_shared_paths (scenario_of verified)) × HaveOutlines (scenario_of verified)
IsSettled (Err refused) = IsFirstReason (scenario_of refused.scenario) refused.refusal

-- ---- by outlines or by a search

-- safe, or refused for a reason
abbrev pub Judgement : Type 0
Judgement = Result Acceptance Refused

abbrev pub scenario_in : Judgement → Parts
scenario_in (Ok accepted) = accepted.verified
scenario_in (Err refused) = refused.scenario

-- by outlines, or by a search through so many worlds
abbrev pub accepted_by : Option ℕ → Verdict
accepted_by None = verdict.Accepted
accepted_by (Some worlds) = verdict.AcceptedBySearch worlds

abbrev pub verdict_in : Judgement → Verdict
verdict_in (Ok accepted) = accepted_by accepted.worlds
verdict_in (Err refused) = verdict.Refused refused.refusal

-- the verdict holds
abbrev pub Stands : Method → Judgement → Type 0
Stands method j = Holds method (scenario_of (scenario_in j)) (verdict_in j)

abbrev pub judgement_text : Judgement → List ℕ
judgement_text j = verdict_text (names_in (scenario_of (scenario_in j))) (verdict_in j)

-- of the scenario of a text that is known, or its first fault
abbrev pub IsJudged : Method → Option (List ℕ) → Result Judgement Fault → Type 0
IsJudged method known (Ok judgement) = IfSome known (λ text. IsWrittenAs text (scenario_of (scenario_in judgement))) × Stands method judgement
IsJudged method known (Err f) = IsEarlyFault ⊥ (λ e. ⊥) (λ name. ⊥) ⊥ known f
