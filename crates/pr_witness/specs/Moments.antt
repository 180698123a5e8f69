-- Agrees with docs/FORMATS.md, 'Moments'.
-- What a search for a run comes to that leads to a moment.
use Rattle.std.specs.Prelude.{◌≡◌, List, Option, IfSome}
use Rattle.pr_roles.specs.declared.parts.Parts.{Parts}
use Rattle.pr_roles.specs.Scenarios.{Scenario, scenario_of}
use Rattle.pr_audit.specs.declared.end.End.{End}
use Rattle.pr_explore.specs.declared.moments.Fact.{Fact}
use Rattle.pr_explore.specs.Moments.{IsMoment, NeverIs}
use Rattle.pr_witness.specs.declared.breach.CertifiedRun.{CertifiedRun}
use Rattle.pr_witness.specs.declared.ending.Sought.{Sought}
use Rattle.pr_witness.specs.declared.ending.Sought.TheVariants.{Found, Never, Nothing}
use Rattle.pr_witness.specs.CertifiedRuns.{IsRunOf}

-- a run of the scenario, and the world to which it leads is such a moment
pub record IsMomentRun (s : Scenario) (asked : List (Option End)) (facts : List Fact) (c : CertifiedRun) : Type 0 where
  pub is : IsRunOf s c
  pub moment : IsMoment is.world asked facts

-- That nothing was found says nothing.
abbrev pub IsMomentSought : Scenario → List (Option End) → List Fact → Sought → Type 0
IsMomentSought s asked facts (Found run steps) = IsMomentRun s asked facts run
IsMomentSought s asked facts (Never worlds) = NeverIs s asked facts
IsMomentSought s asked facts (Nothing worlds bound) = Unit {0}

-- and what was seen, where that is all that can come up of the scenario
pub record IsMomentFound (s : Scenario) (asked : List (Option End)) (facts : List Fact) (found : Sought × Option Parts) : Type 0 where
  pub sought : IsMomentSought s asked facts found.0
  pub seen : IfSome found.1 (λ all. scenario_of all ≡ s)
