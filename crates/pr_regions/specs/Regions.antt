-- Agrees with docs/MODEL.md, 'The order in which a request is answered'.
-- How a command ends, region by region of the states with one reservation and one standing of the sender.
use Rattle.std.specs.Prelude.{◌≡◌, ◌≢◌, ℕ, zero, suc, ◌+◌, ◌≤◌, ◌<◌, Bool, true, false, ◌==◌, if◌then◌else◌, List, Option, Some, None, option_map, unwrap_or, bit_or}
use Rattle.std.specs.List.{Contains}
use Rattle.std.specs.Option.{option_map_or}
use Rattle.pr_cdb.specs.declared.command.Command.{Command}
use Rattle.pr_registry.specs.declared.held.Held.{Held}
use Rattle.pr_registry.specs.declared.held.Held.TheVariants.{One, All}
use Rattle.pr_registry.specs.Registrations.{key_of}
use Rattle.pr_unit.specs.UnitStates.{UnitState, IsWellFormed, effect}
use Rattle.pr_unit.specs.Conduct.{command_conflicts, command_fault}
use Rattle.pr_unit.specs.Demands.{is_not_admitted}
use Rattle.pr_unit.specs.NamedKeys.{named}
use Rattle.pr_roles.specs.declared.limits.TheConstants.{MOST_KEYS}
use Rattle.pr_sets.specs.declared.bit_set.BitSet.{BitSet}
use Rattle.pr_sets.specs.BitSets.{has}
use Rattle.pr_attention.specs.declared.flags.TheConstants.{RESERVATIONS_PREEMPTED_BIT, RESERVATIONS_RELEASED_BIT, REGISTRATIONS_PREEMPTED_BIT}
use Rattle.pr_views.specs.Possibilities.{Scope, IsScope, Registration, Reservation, Attentions, IsSo, count_of_reservations}
use Rattle.pr_views.specs.Portions.{HasSomebody}
use Rattle.pr_regions.specs.declared.region.Region.{Region}
use Rattle.pr_regions.specs.declared.region.Transition.{Transition}
use Rattle.pr_regions.specs.declared.region.Ending.{Ending}
use Rattle.pr_regions.specs.declared.region.Ending.TheVariants.{Conflict, Fault, Good}
use Rattle.pr_regions.specs.declared.region.Branch.{Branch}
use Rattle.pr_regions.specs.Purposes.{Purpose, purpose_of}
use Rattle.pr_regions.specs.declared.purpose.Standing.{Standing}
use Rattle.pr_regions.specs.declared.purpose.Standing.TheVariants.{Unregistered, Named, Other}

-- ---- what is known beforehand

-- the purpose names the key of this number
abbrev pub names : Purpose → ℕ → Bool
names p r = option_map_or (λ j. r == j) (named p) false

-- how a sender with this registration stands to a purpose
abbrev pub standing_of : Purpose → ℕ → Standing
standing_of purpose zero = Unregistered
standing_of purpose (suc i) = if names purpose (suc i) then Named else Other

-- A command of the sender in a state: its purpose is this one and its reservation key is accepted. Whatever is
-- registered is a declared key, the reservation is this one, and the sender stands so.
pub record Meets (s : Scope) (asked : Purpose) (reserved : Option Held) (sender : ℕ) (stands : Standing) (u : UnitState) (c : Command) : Type 0 where
  pub scope : IsScope s
  pub below : sender < s.hosts
  pub formed : IsWellFormed u
  pub hosts : u.registry.hosts ≡ s.hosts
  pub numbered : (g : ℕ) → g < s.hosts → (r : ℕ) × IsSo s u (Registration g r)
  pub held : u.registry.held ≡ reserved
  pub standing : (r : ℕ) → IsSo s u (Registration sender r) → standing_of asked r ≡ stands
  pub purpose : purpose_of s.keys c ≡ Some asked
  pub accepted : is_not_admitted (key_of u.registry sender) c ≡ false

-- ---- which states are in a region

-- the registrations that a region leaves to g: those of the single holder, or those of any other
abbrev pub filter_of : Region → Option Held → ℕ → BitSet
filter_of region None g = region.others
filter_of region (Some (One kind h)) g = if h == g then region.holder else region.others
filter_of region (Some (All kind)) g = region.others

-- every nexus but the sender has a registration that the region leaves to it, and, if there is a
-- test, one of them has one that passes it
pub record IsInRegion (s : Scope) (sender : ℕ) (region : Region) (u : UnitState) : Type 0 where
  pub registrations : (g r : ℕ) → g ≢ sender → IsSo s u (Registration g r) → has (filter_of region u.registry.held g) r ≡ true
  pub somebody : HasSomebody s u sender (option_map has region.somebody)

-- ---- how a command ends there

abbrev pub flag : Bool → ℕ → ℕ
flag tells bit = if tells then bit else 0

-- the bits of what an owner with registration r is told
abbrev pub mark : Transition → ℕ → ℕ
mark c r =
    flag (has c.told_03 r) RESERVATIONS_PREEMPTED_BIT +
    (flag (has c.told_04 r) RESERVATIONS_RELEASED_BIT + flag (has c.told_05 r) REGISTRATIONS_PREEMPTED_BIT)

-- the number of the owner's attentions once it has been told
abbrev pub told_number : Transition → ℕ → ℕ → ℕ
told_number c r q = bit_or q (mark c r)

-- What becomes of the sender's registration, of the others', of the reservation, and of what is pending for
-- the owner of the view: each by itself.
pub record Changes (s : Scope) (from : ℕ) (c : Transition) (u v : UnitState) : Type 0 where
  pub sender : (r : ℕ) → IsSo s u (Registration from r) → IsSo s v (Registration from (unwrap_or c.sender r))
  pub others : (g r : ℕ) → g ≢ from → IsSo s u (Registration g r) → IsSo s v (Registration g (if has c.removed r then 0 else r))
  pub reservation : IsSo s v (Reservation c.reservation)
  pub told : (r q : ℕ) → s.own ≢ from → IsSo s u (Registration s.own r) → IsSo s u (Attentions q) → IsSo s v (Attentions (told_number c r q))
  pub untold : (q : ℕ) → s.own ≡ from → IsSo s u (Attentions q) → IsSo s v (Attentions q)

-- once nothing is pending for the sender, it ends so
abbrev pub Ends : Scope → ℕ → Ending → UnitState → Command → Type 0
Ends s sender Conflict u c = command_conflicts u.registry sender c ≡ true
Ends s sender (Fault sense) u c = (command_conflicts u.registry sender c ≡ false) × (command_fault u.registry sender c ≡ Some sense)
Ends s sender (Good change) u c =
    (command_conflicts u.registry sender c ≡ false) × (command_fault u.registry sender c ≡ None) × Changes s sender change u (effect u sender c)

-- the state is in the region of one of the branches
pub record IsCovered (s : Scope) (sender : ℕ) (branches : List Branch) (u : UnitState) : Type 0 where
  pub branch : Branch
  pub listed : Contains branches branch
  pub inside : IsInRegion s sender branch.region u

-- each state is in some branch's region, and ends as each branch says whose region it is in
pub record IsDecided (s : Scope) (sender : ℕ) (branches : List Branch) (u : UnitState) (c : Command) : Type 0 where
  pub covered : IsCovered s sender branches u
  pub right : (b : Branch) → Contains branches b → IsInRegion s sender b.region u → Ends s sender b.ending u c

-- so it is in every state that meets what is known
abbrev pub AreBranches : ℕ → Purpose → Option Held → ℕ → Standing → List Branch → Type 0
AreBranches hosts purpose held sender standing branches =
    (s : Scope) (u : UnitState) (c : Command) → s.hosts ≡ hosts → Meets s purpose held sender standing u c
    → IsDecided s sender branches u c

-- ---- limits that branches keep

-- that a nexus is not registered passes no test
abbrev pub IsUntestedOrRegistered : Option BitSet → Type 0
IsUntestedOrRegistered None = Unit {0}
IsUntestedOrRegistered (Some w) = has w 0 ≡ false

abbrev pub IsProper : Branch → Type 0
IsProper b = IsUntestedOrRegistered b.region.somebody

-- the numbers after it are those of a registration and of a reservation
abbrev pub HasRoom : ℕ → Ending → Type 0
HasRoom hosts Conflict = Unit {0}
HasRoom hosts (Fault sense) = Unit {0}
HasRoom hosts (Good change) = (unwrap_or change.sender 0 ≤ MOST_KEYS) × (change.reservation < count_of_reservations hosts)
