-- Agrees with docs/MODEL.md, 'What a failed command changes'.
-- What holds of every step.
use Rattle.std.specs.Prelude.{◌≡◌, ◌≢◌, ℕ, ◌<◌, ◌⊎◌, ◌==◌, ◌&&◌, ◌||◌, not, nat_lt, Bool, true, false, IsTrue, None, Ok}
use Rattle.pr_cdb.specs.declared.command.Command.{Command}
use Rattle.pr_cdb.specs.declared.codes.TheConstants.{PERSISTENT_RESERVE_OUT}
use Rattle.pr_cdb.specs.declared.reply.Reply.{Reply}
use Rattle.pr_cdb.specs.declared.wire.Request.{Request}
use Rattle.pr_cdb.specs.declared.wire.Request.TheVariants.{Plain, Faulty}
use Rattle.pr_cdb.specs.Ranges.{Fits, FitsWhereRead}
use Rattle.pr_cdb.specs.Spelling.{operation_code}
use Rattle.pr_cdb.specs.Statuses.{is_busy_status, is_full_status}
use Rattle.pr_unit.specs.Attentions.{power_on}
use Rattle.pr_unit.specs.UnitStates.{UnitState, IsWellFormed, is_pending, is_any_pending, effect, reset}
use Rattle.pr_unit.specs.Conduct.{command_conflicts, command_fault}
use Rattle.pr_unit.specs.Replies.{good, is_good, is_request_sense, data_of}
use Rattle.pr_unit.specs.Steps.{Step}

-- a command without conflict and fault leaves a well formed state well formed
abbrev pub EffectsAreWellFormed : Type 0
EffectsAreWellFormed =
    (u : UnitState) (h : ℕ) (c : Command) → IsWellFormed u → h < u.registry.hosts → Fits c
    → command_conflicts u.registry h c ≡ false → command_fault u.registry h c ≡ None
    → IsWellFormed (effect u h c)

-- a step leads from a well formed state to a well formed one
abbrev pub StepsAreWellFormed : Type 0
StepsAreWellFormed =
    (u : UnitState) (h : ℕ) (q : Request) (r : Reply) (v : UnitState) → IsWellFormed u → h < u.registry.hosts → FitsWhereRead (Ok q)
    → Step u h q r v → IsWellFormed v

-- no step changes how many hosts there are
abbrev pub StepsKeepHosts : Type 0
StepsKeepHosts = (u : UnitState) (h : ℕ) (q : Request) (r : Reply) (v : UnitState) → Step u h q r v → v.registry.hosts ≡ u.registry.hosts

-- the request may be answered
pub record HasStep (u : UnitState) (h : ℕ) (q : Request) : Type 0 where
  pub reply : Reply
  pub after : UnitState
  pub step : Step u h q reply after

-- the unit answers each request, in each state
abbrev pub EveryRequestHasAStep : Type 0
EveryRequestHasAStep = (u : UnitState) (h : ℕ) (q : Request) → HasStep u h q

-- whether a request ends GOOD is fixed by the state, the host and the request
abbrev pub GoodIsFixed : Type 0
GoodIsFixed =
    (u : UnitState) (h : ℕ) (q : Request) (r s : Reply) (v w : UnitState) → Step u h q r v → Step u h q s w → is_good r ≡ is_good s

-- the unit by itself answers neither BUSY nor TASK SET FULL
abbrev pub StepsAreNeverBusy : Type 0
StepsAreNeverBusy =
    (u : UnitState) (h : ℕ) (q : Request) (r : Reply) (v : UnitState) → Step u h q r v
    → (is_busy_status r.status ≡ false) × (is_full_status r.status ≡ false)

-- what a command does that ends GOOD: it neither conflicts nor is at fault, and has its data and its effect
pub record TakesEffect (u : UnitState) (h : ℕ) (c : Command) (r : Reply) (v : UnitState) : Type 0 where
  pub free : command_conflicts u.registry h c ≡ false
  pub whole : command_fault u.registry h c ≡ None
  pub reply : r ≡ good (data_of u.registry c)
  pub after : v ≡ effect u h c

-- so does every command that ends GOOD, but for a REQUEST SENSE, which may report an attention
abbrev pub GoodStepsTakeEffect : Type 0
GoodStepsTakeEffect =
    (u : UnitState) (h : ℕ) (c : Command) (r : Reply) (v : UnitState) → Step u h (Plain c) r v
    → is_good r ≡ true → is_request_sense (Plain c) ≡ false → TakesEffect u h c r v

-- where nothing is pending for the sender, a command that neither conflicts nor is at fault ends GOOD
abbrev pub FreeCommandsEndGood : Type 0
FreeCommandsEndGood =
    (u : UnitState) (h : ℕ) (c : Command) → is_any_pending u h ≡ false
    → command_conflicts u.registry h c ≡ false → command_fault u.registry h c ≡ None
    → Step u h (Plain c) (good (data_of u.registry c)) (effect u h c)

-- The registry stays, and what is pending for every host but h. For h nothing is pending that was not.
pub record IsQuiet (u : UnitState) (h : ℕ) (v : UnitState) : Type 0 where
  pub registry : v.registry ≡ u.registry
  pub others : (other code : ℕ) → other ≢ h → is_pending v other code ≡ is_pending u other code
  pub own : (code : ℕ) → is_pending v h code ≡ true → is_pending u h code ≡ true

-- the request only looks: it is no PERSISTENT RESERVE OUT
abbrev pub request_looks : Request → Bool
request_looks (Plain c) = not (operation_code c == PERSISTENT_RESERVE_OUT)
request_looks (Faulty sense) = true

-- what does not end GOOD, and what only looks, changes at most what is pending for the sender
abbrev pub QuietSteps : Type 0
QuietSteps =
    (u : UnitState) (h : ℕ) (q : Request) (r : Reply) (v : UnitState) → Step u h q r v
    → (is_good r ≡ false) ⊎ IsTrue (request_looks q) → IsQuiet u h v

-- after a reset power on is pending for each host that is there, and else what was pending before
abbrev pub ResetsTellEach : Type 0
ResetsTellEach =
    (u : UnitState) (h code : ℕ) → is_pending (reset u) h code ≡ (is_pending u h code || (nat_lt h u.registry.hosts && code == power_on))

-- a reset leads from a well formed state to a well formed one
abbrev pub ResetsAreWellFormed : Type 0
ResetsAreWellFormed = (u : UnitState) → IsWellFormed u → IsWellFormed (reset u)
