-- Agrees with docs/VERDICTS.md, '`accepted`'.
-- What safety promises of the next event, and of the same scenario with fewer premises.
use Rattle.std.specs.Prelude.{◌≡◌, ℕ, true, false, nat_lt, IsTrue, List, [], ◌∷◌, ◌++◌, length}
use Rattle.pr_cdb.specs.declared.wire.Request.TheVariants.{Plain}
use Rattle.pr_unit.specs.UnitStates.{UnitState}
use Rattle.pr_unit.specs.Replies.{is_good}
use Rattle.pr_roles.specs.declared.how.How.{How}
use Rattle.pr_roles.specs.Permits.{is_permitted}
use Rattle.pr_roles.specs.Scenarios.{Scenario, on_shared_paths, role, task}
use Rattle.pr_roles.specs.Starts.{IsAllowedStart}
use Rattle.pr_roles.specs.Worlds.{World, Event, HostSends, Happens, Run, control, is_trapped, world_from}
use Rattle.pr_roles.specs.Safety.{IsSafe, KeepsBudgetBy}

-- a run and one event more are a run
abbrev pub RunsGoOn : Type 0
RunsGoOn = (s : Scenario) (w v x : World) (es : List Event) (e : Event) → Run s w es v → Happens s v e x → Run s w (es ++ e ∷ []) x

-- A command of a host that leads to this world: the script found an arm for its reply, sent no more commands than its
-- budget, and kept to its role.
pub record IsFine (s : Scenario) (w : World) (h : ℕ) (how : How) (v : World) (sends : HostSends s w h how v) : Type 0 where
  pub arm : is_trapped (control v h) ≡ false
  pub budget : KeepsBudgetBy (task s h) v h
  pub role : is_good sends.reply ≡ true → IsTrue (is_permitted (role s h) w.unit.registry h (Plain sends.command))

-- so does each that comes after a run of a safe scenario
abbrev pub SafeSendsAreFine : Type 0
SafeSendsAreFine =
    (s : Scenario) (u : UnitState) (es : List Event) (w : World) (h : ℕ) (how : How) (v : World) → IsSafe s → IsAllowedStart s u → Run s (world_from s u) es w
    → (sends : HostSends s w h how v) → IsFine s w h how v sends

-- who is safe where somebody else may look at the disk by each path is safe as the scenario has it
abbrev pub SharedPathsAreNoSafer : Type 0
SharedPathsAreNoSafer = (s : Scenario) → IsSafe (on_shared_paths s) → IsSafe s

-- The same scenario as one of version 3, without two premises: somebody else may send on the path of each nexus, and the disk may
-- report an attention before it looks at the reservation.
abbrev pub without_premises : Scenario → Scenario
without_premises s = record s { version = 3; shared = λ h. nat_lt h (length s.nexuses); early = true }

-- who is safe so is safe where the disk looks at the reservation first, or as early as the scenario has it
abbrev pub FewerPremisesAreNoSafer : Type 0
FewerPremisesAreNoSafer = (s : Scenario) → IsSafe (without_premises s) → IsSafe (on_shared_paths s)
