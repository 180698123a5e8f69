-- What is told of texts, where it is known what the readers have.
use Rattle.std.proofs.Common.{◌≡◌, ℕ, Bool, List, Option, Some, None, refl}
use Rattle.std.specs.Prelude.{◌↔◌, false, IfSome, Ok}
use Rattle.pr_roles.specs.declared.parts.Parts.{Parts}
use Rattle.pr_roles.specs.Scenarios.{scenario_of}
use Rattle.pr_text.specs.Reading.{IsWrittenAs}
use Rattle.pr_verify.specs.Outlines.{HaveOutlines}
use Rattle.pr_trace.specs.TraceText.{names_in}
use Rattle.pr_report.specs.Verdicts.{verdict_text}
use Rattle.pr_report.specs.declared.verdict.Verdict.TheVariants as verdict
use Rattle.pr_explain.specs.declared.plan.Explanation.{Explanation}
use Rattle.pr_explain.specs.declared.plan.Explanation.TheVariants.{Accepted, Refused}
use Rattle.pr_explain.specs.Explanations.{Holds, is_refusal}
use Rattle.fence.specs.Explanations.{EndsTold}

-- the verdict that a plan of what is said tells
pub told_plan : (known : Option (List ℕ)) (p : Parts) (e : Explanation) (refused : Bool) → IfSome known (λ text. IsWrittenAs text (scenario_of p))
    → (is_refusal e ≡ false) ↔ HaveOutlines (scenario_of p) → Holds (scenario_of p) e → refused ≡ is_refusal e → EndsTold known (Ok refused)
told_plan None p e refused read exact holds is = tt
told_plan (Some text) p (Accepted it) refused read exact holds is = (
  verdict_text (names_in (scenario_of p)) verdict.Accepted,
  record {
    scenario = scenario_of p;
    read = read;
    answer = verdict.Accepted;
    holds = (holds.0, exact.0 refl);
    lines_are = refl;
    refused_is = is;
  },
)
told_plan (Some text) p (Refused it) refused read exact holds is = (
  verdict_text (names_in (scenario_of p)) (verdict.Refused it.refusal),
  record {
    scenario = scenario_of p;
    read = read;
    answer = verdict.Refused it.refusal;
    holds = holds.0;
    lines_are = refl;
    refused_is = is;
  },
)
