-- Agrees with docs/MODEL.md, 'Roles'.
-- Which commands a role permits.
use Rattle.std.specs.Prelude.{ℕ, Bool, true, false, ◌==◌, ◌&&◌, ◌||◌, List, [], ◌∷◌, bytes_eq, Option, Some, None, is_some, option_map}
use Rattle.std.specs.List.{list_any}
use Rattle.std.specs.Option.{option_map_or}
use Rattle.pr_cdb.specs.declared.codes.TheConstants.{TEST_UNIT_READY, REQUEST_SENSE, PERSISTENT_RESERVE_IN, READ_10, WRITE_10, REGISTER, RESERVE, RELEASE, CLEAR, PREEMPT}
use Rattle.pr_cdb.specs.declared.command.Command.{Command}
use Rattle.pr_cdb.specs.declared.command.Command.TheVariants as command
use Rattle.pr_cdb.specs.declared.wire.Request.{Request}
use Rattle.pr_cdb.specs.declared.wire.Request.TheVariants.{Plain, Faulty}
use Rattle.pr_cdb.specs.Kinds.{type_code}
use Rattle.pr_cdb.specs.Spelling.{operation_code}
use Rattle.pr_registry.specs.Registrations.{State, is_registered, is_holder}
use Rattle.pr_roles.specs.declared.role.Action.{Action}
use Rattle.pr_roles.specs.declared.role.Action.TheVariants as action
use Rattle.pr_roles.specs.declared.role.Condition.{Condition}
use Rattle.pr_roles.specs.declared.role.Condition.TheVariants as condition
use Rattle.pr_roles.specs.declared.role.Clause.{Clause}

-- The action by which a clause names a command. What only looks needs no clause, and a PREEMPT without a type has none.
abbrev pub action_of : Command → Option Action
action_of command.TestUnitReady = None
action_of command.RequestSense = None
action_of (command.Read lba blocks) = Some action.Read
action_of (command.Write lba blocks) = Some action.Write
action_of (command.ReadKeys alloc) = None
action_of (command.ReadReservation alloc) = None
action_of (command.ReportCapabilities alloc) = None
action_of (command.Register rk sark) = Some (action.Register sark)
action_of (command.RegisterIgnore sark) = Some (action.Register sark)
action_of (command.Reserve rk kind) = Some (action.Reserve kind)
action_of (command.Release rk kind) = Some action.Release
action_of (command.Clear rk) = Some action.Clear
action_of (command.Preempt rk sark kind) = option_map (λ t. action.Preempt sark t) kind
action_of (command.PreemptAbort rk sark kind) = option_map (λ t. action.Preempt sark t) kind

-- An action as numbers, by which actions are told apart: its service action or, of READ (10) and WRITE (10), an operation code
-- that is too large for one; its key; and the code of its type. To unregister is to register the key zero.
abbrev pub numbers : Action → List ℕ
numbers (action.Register key) = REGISTER ∷ key ∷ []
numbers action.Unregister = REGISTER ∷ 0 ∷ []
numbers (action.Reserve kind) = RESERVE ∷ type_code kind ∷ []
numbers action.Release = RELEASE ∷ []
numbers action.Clear = CLEAR ∷ []
numbers (action.Preempt key kind) = PREEMPT ∷ key ∷ type_code kind ∷ []
numbers action.Read = READ_10 ∷ []
numbers action.Write = WRITE_10 ∷ []

abbrev pub same_numbers : List ℕ → List ℕ → Bool
same_numbers = bytes_eq

-- the action names this command
abbrev pub names : Action → Command → Bool
names a c = option_map_or (λ named. same_numbers (numbers named) (numbers a)) (action_of c) false

-- the condition, if there is one, holds of the sender in this state
abbrev pub holds : Option Condition → State → ℕ → Bool
holds None u h = true
holds (Some condition.Registered) u h = is_registered u h
holds (Some condition.Holder) u h = is_holder u h
holds (Some condition.Reserved) u h = is_some u.held

abbrev pub clause_permits : Clause → State → ℕ → Command → Bool
clause_permits clause u h c = names clause.action c && holds clause.condition u h

-- the commands that only look
abbrev pub is_always_permitted : Command → Bool
is_always_permitted c =
    let code = operation_code c in code == TEST_UNIT_READY || (code == REQUEST_SENSE || code == PERSISTENT_RESERVE_IN)

-- some clause permits the command of h, in the state just before it
abbrev pub command_permitted : List Clause → State → ℕ → Command → Bool
command_permitted role u h c = is_always_permitted c || list_any (λ clause. clause_permits clause u h c) role

-- bytes at fault do nothing that a clause could name
abbrev pub is_permitted : List Clause → State → ℕ → Request → Bool
is_permitted role u h (Plain c) = command_permitted role u h c
is_permitted role u h (Faulty sense) = false
