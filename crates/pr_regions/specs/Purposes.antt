-- Agrees with docs/MODEL.md, 'The order in which a request is answered'.
-- What a command asks for, its key named by a number.
use Rattle.std.specs.Prelude.{ℕ, suc, ◌≤◌, Bool, true, ◌==◌, List, Option, Some, IfSome, option_map, position, unwrap_or}
use Rattle.std.specs.Option.{option_map_or}
use Rattle.pr_cdb.specs.declared.command.Kind.{Kind}
use Rattle.pr_cdb.specs.declared.command.Command.{Command}
use Rattle.pr_unit.specs.declared.demand.Demand.{Demand}
use Rattle.pr_unit.specs.declared.demand.Demand.TheVariants.{Look, Read, Write, Register, Unregister, Reserve, Release, Clear, PreemptAll, Preempt}
use Rattle.pr_script.specs.Grammar.{is_declared}
use Rattle.pr_roles.specs.declared.limits.TheConstants.{MOST_KEYS}
use Rattle.pr_unit.specs.Demands.{Asked, demand_of}
use Rattle.pr_unit.specs.NamedKeys.{named}

-- its key is the number of a declared one, and a PREEMPT has a type
abbrev pub Purpose : Type 0
Purpose = Demand ℕ Kind

-- the number of a declared key, from 1
abbrev pub number_in : List ℕ → ℕ → ℕ
number_in keys k = option_map_or suc (position (λ key. key == k) keys) 0

-- A PREEMPT without a type has none: no role permits it, and no text writes it.
abbrev pub numbered : List ℕ → Asked → Option Purpose
numbered keys Look = Some Look
numbered keys (Read in_range) = Some (Read in_range)
numbered keys (Write in_range) = Some (Write in_range)
numbered keys (Register key) = Some (Register (number_in keys key))
numbered keys Unregister = Some Unregister
numbered keys (Reserve kind) = Some (Reserve kind)
numbered keys (Release kind) = Some (Release kind)
numbered keys Clear = Some Clear
numbered keys (PreemptAll kind) = option_map (λ t. PreemptAll t) kind
numbered keys (Preempt key kind) = option_map (λ t. Preempt (number_in keys key) t) kind

abbrev pub purpose_of : List ℕ → Command → Option Purpose
purpose_of keys c = numbered keys (demand_of c)

-- the number of the key that it names, or 0
abbrev pub key_named : Purpose → ℕ
key_named p = unwrap_or (named p) 0

-- the key that it names, if it names one, has a number: there are at most 12
abbrev pub HasNumber : Purpose → Type 0
HasNumber p = IfSome (named p) (λ j. (1 ≤ j) × (j ≤ MOST_KEYS))

-- the key that it names, if it names one, is declared
abbrev pub names_declared : List ℕ → Command → Bool
names_declared keys c = option_map_or (is_declared keys) (named (demand_of c)) true
