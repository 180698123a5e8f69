-- That a unit that goes on keeps its nexuses.
use Rattle.std.specs.Prelude.{◌≡◌, ℕ, Result, Ok, Err}
use Rattle.std.proofs.Common.{ap}
use Rattle.pr_cdb.specs.declared.reply.Reply.{Reply}
use Rattle.pr_cdb.specs.declared.wire.Bad.{Bad}
use Rattle.pr_cdb.specs.declared.wire.Request.{Request}
use Rattle.pr_unit.specs.UnitStates.{UnitState}
use Rattle.pr_unit.specs.TakenSteps.{Executes}
use Rattle.pr_unit.proofs.lemmas.Steps.WellFormedSteps.{hosts-step}

pub hosts_executed : (u : UnitState) (h : ℕ) (q : Result Request Bad) (r : Result Reply Bad) (v : UnitState) → Executes u h q r v → v.registry.hosts ≡ u.registry.hosts
hosts_executed u h (Ok q) (Ok r) v done = hosts-step u h q r v done.step
hosts_executed u h (Err bad) (Err b) v done = ap (λ (x : UnitState). x.registry.hosts) done.1
hosts_executed u h (Ok q) (Err bad) v done = absurd done
hosts_executed u h (Err bad) (Ok r) v done = absurd done
