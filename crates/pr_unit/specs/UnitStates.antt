-- Agrees with docs/MODEL.md, 'Well formed states'.
-- The state of a logical unit: its registrations, reservation and generation, and the pending
-- attentions of each host.
use Rattle.std.specs.Prelude.{◌≡◌, ℕ, ◌<◌, Bool, true, IsTrue}
use Rattle.std.specs.FinSet as set
use Rattle.std.specs.List.{list_any}
use Rattle.pr_cdb.specs.declared.command.Command.{Command}
use Rattle.pr_registry.specs.declared.change.Change.{Change}
use Rattle.pr_registry.specs.Hosts.{Hosts}
use Rattle.pr_registry.specs.Registrations.{State, IsWellFormed as IsWellFormedRegistry}
use Rattle.pr_unit.specs.Demands.{demand_of}
use Rattle.pr_unit.specs.Conduct.{conduct}
use Rattle.pr_unit.specs.Attentions.{Pairs, attentions, is_attention, hosts_below, each_with, power_on, reservations_preempted, reservations_released, registrations_preempted}

pub record UnitState : Type 0 where
  pub registry : State
  pub pending : Pairs

abbrev pub is_pending : UnitState → ℕ → ℕ → Bool
is_pending u h code = set.contains u.pending (h, code)

-- one of the four attentions is pending for the host
abbrev pub has_attention : Pairs → ℕ → Bool
has_attention pending h = list_any (λ code. set.contains pending (h, code)) attentions

abbrev pub is_any_pending : UnitState → ℕ → Bool
is_any_pending u h = has_attention u.pending h

-- the registry is well formed, and what is pending is one of the four attentions of a host that is there
pub record IsWellFormed (u : UnitState) : Type 0 where
  pub registry : IsWellFormedRegistry u.registry
  pub pending : (h code : ℕ) → is_pending u h code ≡ true → (h < u.registry.hosts) × IsTrue (is_attention code)

-- what is pending once a service action has told whom it tells
abbrev pub pending_after : Pairs → Change → Pairs
pending_after pending c =
    set.union (set.union (set.union pending (each_with c.told_03 reservations_preempted)) (each_with c.told_04 reservations_released)) (each_with c.told_05 registrations_preempted)

-- the registrations, the reservation and PRGENERATION after a command of h that ends GOOD
abbrev pub registry_after : State → ℕ → Command → State
registry_after u h c = (conduct u h (demand_of c)).after

-- whom it removes and tells
abbrev pub change : State → ℕ → Command → Change
change u h c = (conduct u h (demand_of c)).change

-- the state after a command of h that ends GOOD
abbrev pub effect : UnitState → ℕ → Command → UnitState
effect u h c = record { registry = registry_after u.registry h c; pending = pending_after u.pending (change u.registry h c) }

-- the state once this code of h has been reported
abbrev pub after_report : UnitState → ℕ → ℕ → UnitState
after_report u h code = record u { pending = set.remove u.pending (h, code) }

-- the hosts that are there
abbrev pub hosts_of : State → Hosts
hosts_of u = hosts_below u.hosts

-- the state after a reset: power on is pending for each host, and nothing else is another (SAM-5, 'Logical unit reset')
abbrev pub reset : UnitState → UnitState
reset u = record u { pending = set.union u.pending (each_with (hosts_of u.registry) power_on) }
