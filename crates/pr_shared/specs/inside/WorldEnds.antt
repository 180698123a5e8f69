-- How the nexuses of a world stand, and whether it belongs to a scenario and to lists.
use Rattle.std.specs.Prelude.{◌≡◌, List, length}
use Rattle.pr_roles.specs.declared.entry.Entry.{Entry}
use Rattle.pr_roles.specs.Scenarios.{Scenario, scenario_of}
use Rattle.pr_audit.specs.declared.end.End.{End}
use Rattle.pr_audit.specs.Ends.{endings_of}
use Rattle.pr_world.specs.Progress.{Progress}
use Rattle.pr_shared.specs.Histories.{entries_by}
use Rattle.pr_shared.specs.Outcomes.{endings_in}

-- each nexus of the world stands as these ends say, by its number
abbrev pub AreEndsOf : Progress → List End → Type 0
AreEndsOf w ends = endings_of ends ≡ endings_in (scenario_of w.scenario) w.schedule

-- the world is one of this scenario, and each of these lists is what its nexus sent
pub record AreOne (s : Scenario) (mine : List (List Entry)) (w : Progress) : Type 0 where
  pub scenario : scenario_of w.scenario ≡ s
  pub own : entries_by (length mine) w.schedule.world.history ≡ mine
