-- A command that was spelled is the one that was executed.
use Rattle.pr_world.proofs.Common.{◌≡◌, ℕ, Bool, true, false, Ok, ap, subst, Command, Reply, Request, Plain, UnitState}
use Rattle.std.proofs.Common.{Result}
use Rattle.pr_cdb.specs.declared.wire.Bad.{Bad}
use Rattle.pr_cdb.specs.Requests.{plain_request}
use Rattle.pr_unit.specs.EarlyReports.{EarlyStep, ExecutesEarly, TakenEarly, is_early}
use Rattle.pr_unit.specs.TakenSteps.{TakenStep, Executes}
use Rattle.pr_unit.proofs.lemmas.Steps.WellFormedSteps.{hosts-step}

pub executed : (u : UnitState) (h : ℕ) (c : Command) (q : Result Request Bad) (r : Reply) (v : UnitState) → q ≡ plain_request c → Executes u h q (Ok r) v → TakenStep u h (Plain c) r v
executed u h c q r v is executes = subst (λ q. Executes u h q (Ok r) v) is executes

pub executed_early : (u : UnitState) (h : ℕ) (c : Command) (q : Result Request Bad) (r : Reply) (v : UnitState) → q ≡ plain_request c → ExecutesEarly u h q (Ok r) v → TakenEarly u h (Plain c) r v
executed_early u h c q r v is executes = subst (λ q. ExecutesEarly u h q (Ok r) v) is executes

pub hosts-taken_early : (u : UnitState) (h : ℕ) (q : Request) (r : Reply) (v : UnitState) → TakenEarly u h q r v → v.registry.hosts ≡ u.registry.hosts
hosts-taken_early u h q r v taken = at (is_early u h q) taken
  where
    at : (b : Bool) → EarlyStep b u h q r v → v.registry.hosts ≡ u.registry.hosts
    at true early = ap (λ (x : UnitState). x.registry.hosts) early.0.reports.after
    at false step = hosts-step u h q r v step.step
