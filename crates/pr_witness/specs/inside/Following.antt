-- A history that is followed, and what its last item breaks.
use Rattle.std.specs.Prelude.{◌≡◌, ℕ, true, false, List, [], Some}
use Rattle.pr_cdb.specs.declared.command.Command.{Command}
use Rattle.pr_cdb.specs.declared.wire.Request.TheVariants.{Plain}
use Rattle.pr_unit.specs.UnitStates.{UnitState}
use Rattle.pr_unit.specs.Replies.{is_good}
use Rattle.pr_script.specs.Scripts.{ready}
use Rattle.pr_roles.specs.declared.entry.Entry.{Entry}
use Rattle.pr_roles.specs.declared.item.Item.{Item}
use Rattle.pr_roles.specs.declared.item.Item.TheVariants.{Sent, Reset}
use Rattle.pr_roles.specs.Breaches.{Broken, meets_no_arm, leaves_role, exceeds_budget, Breaks}
use Rattle.pr_roles.specs.Permits.{is_permitted}
use Rattle.pr_roles.specs.Scenarios.{Scenario, role, task}
use Rattle.pr_roles.specs.Safety.{KeepsBudgetBy}
use Rattle.pr_roles.specs.Worlds.{World, control, standing_of}
use Rattle.pr_audit.specs.declared.auditor.Auditor.{Auditor}
use Rattle.pr_audit.specs.Auditors.{ActFor, world_at}
use Rattle.pr_audit.specs.inside.Auditing.{Reaches}
use Rattle.pr_witness.specs.declared.breach.CertifiedRun.{CertifiedRun}
use Rattle.pr_witness.specs.CertifiedRuns.{TellsOf}

-- some run from this start has this history and leads to this world, in which there is one nexus for each that the scenario
-- declares
pub record IsFollowed (s : Scenario) (u : UnitState) (history : List Item) (w : World) : Type 0 where
  pub reaches : Reaches s u history w
  pub acts : ActFor s w

-- in this world the entry, which ends GOOD, is the command of the script of h on this line, and the role does not permit it
pub record LeavesWith (s : Scenario) (w : World) (e : Entry) (h line : ℕ) : Type 0 where
  pub sender : e.host ≡ h
  pub command : Command
  pub ready : standing_of (control w h) ≡ Some (ready line command)
  pub good : is_good e.reply ≡ true
  pub forbidden : is_permitted (role s h) w.unit.registry h (Plain command) ≡ false

-- so it is of this item and this breach
abbrev pub IsForbidden : Scenario → World → Item → Broken → Type 0
IsForbidden s w (Sent e) (meets_no_arm h line) = ⊥
IsForbidden s w (Sent e) (leaves_role h line) = LeavesWith s w e h line
IsForbidden s w (Sent e) (exceeds_budget h) = ⊥
IsForbidden s w Reset broken = ⊥

-- more commands of h than its budget
abbrev pub IsOverBudget : Scenario → List Item → ℕ → Type 0
IsOverBudget s history h = (w : World) → w.history ≡ history → ¬ KeepsBudgetBy (task s h) w h

-- a followed history has broken this
pub record IsBroken (s : Scenario) (u : UnitState) (history : List Item) (w : World) (broken : Broken) : Type 0 where
  pub followed : IsFollowed s u history w
  pub breaks : Breaks s u w broken

-- the run has this start and this history, and tells the world in which the auditor is
pub record IsRunFrom (s : Scenario) (a : Auditor) (start : UnitState) (history : List Item) (c : CertifiedRun) : Type 0 where
  pub starts : c.start ≡ start
  pub items : c.history.items ≡ history
  pub tells : TellsOf s c (world_at a [])
