-- Agrees with docs/MODEL.md, 'Safe scenarios and legal histories'.
-- When a scenario is safe.
use Rattle.std.specs.Prelude.{◌≡◌, ℕ, ◌≤◌, true, false, IsTrue, List, Option, Some, None}
use Rattle.pr_cdb.specs.declared.wire.Request.TheVariants.{Plain}
use Rattle.pr_unit.specs.UnitStates.{UnitState}
use Rattle.pr_unit.specs.Replies.{is_good}
use Rattle.pr_roles.specs.declared.how.How.{How}
use Rattle.pr_roles.specs.Permits.{is_permitted}
use Rattle.pr_roles.specs.Scenarios.{Scenario, Task, Scripted, Planned, role, task}
use Rattle.pr_roles.specs.Starts.{IsAllowedStart}
use Rattle.pr_roles.specs.Worlds.{World, Event, HostSends, Run, control, is_trapped, world_from, commands_by}

-- a script sent no more commands than its budget
abbrev pub KeepsBudgetBy : Option Task → World → ℕ → Type 0
KeepsBudgetBy None w h = Unit {0}
KeepsBudgetBy (Some (Scripted script budget)) w h = commands_by w.history h ≤ budget
KeepsBudgetBy (Some (Planned commands)) w h = Unit {0}

-- whatever h sends next, if it ends GOOD, then its role permits it, in the state just before it
abbrev pub KeepsRole : Scenario → World → ℕ → Type 0
KeepsRole s w h =
    (how : How) (v : World) (sends : HostSends s w h how v)
    → is_good sends.reply ≡ true → IsTrue (is_permitted (role s h) w.unit.registry h (Plain sends.command))

-- What the headline promises of an accepted scenario. From every allowed start and under every list of events: no host is trapped,
-- none has sent more commands than its budget, and each keeps to its role in what it sends next.
unfoldable pub IsSafe : Scenario → Type 0
IsSafe s =
    (u : UnitState) → IsAllowedStart s u → (es : List Event) (w : World) → Run s (world_from s u) es w
    → (h : ℕ) → (is_trapped (control w h) ≡ false) × KeepsBudgetBy (task s h) w h × KeepsRole s w h
