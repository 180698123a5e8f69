-- The verdict in a judgement.
use Rattle.pr_commands.proofs.Common.{◌≡◌, ℕ, false, Option, Some, None, Ok, Err, refl, is_err, Scenario, scenario_of, Judgement}
use Rattle.pr_roles.specs.Safety.{IsSafe}
use Rattle.pr_roles.proofs.lemmas.SafeRuns.FewerPremises.{fewer_premises_are_no_safer, shared_paths_are_no_safer}
use Rattle.pr_report.specs.Verdicts.{IsVerdict, is_refusal}
use Rattle.pr_commands.specs.declared.judging.Method.{Method}
use Rattle.pr_commands.specs.declared.judging.Method.TheVariants.{Outlines, Search}
use Rattle.pr_commands.specs.Checks.{Holds}
use Rattle.pr_commands.specs.inside.Judgements.{Stands, accepted_by, verdict_in}
use Rattle.pr_commands.proofs.lemmas.Checks.Reasons.{is_reason}

refuses_not : (worlds : Option ℕ) → false ≡ is_refusal (accepted_by worlds)
refuses_not None = refl
refuses_not (Some worlds) = refl

pub refusal_of : (j : Judgement) → is_err j ≡ is_refusal (verdict_in j)
refusal_of (Ok accepted) = refuses_not accepted.worlds
refusal_of (Err back) = refl

accepts : (worlds : Option ℕ) → IsVerdict (accepted_by worlds)
accepts None = tt
accepts (Some worlds) = tt

-- what stands can be written
pub verdict_of : (method : Method) (j : Judgement) → Stands method j → IsVerdict (verdict_in j)
verdict_of method (Ok accepted) stands = accepts accepted.worlds
verdict_of method (Err back) stands = is_reason (scenario_of back.scenario) back.refusal stands

-- what is accepted is safe
pub safe_by : (method : Method) (s : Scenario) (worlds : Option ℕ) → Holds method s (accepted_by worlds) → IsSafe s
safe_by method s None holds = shared_paths_are_no_safer s holds.0
safe_by Outlines s (Some worlds) holds = absurd holds
safe_by Search s (Some worlds) holds = shared_paths_are_no_safer s (fewer_premises_are_no_safer s holds)
