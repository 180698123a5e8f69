-- Agrees with docs/MODEL.md, 'Well formed states'.
-- Pending attentions as a table has them, and the states of a unit by such a table, or with nothing pending.
use Rattle.std.specs.Prelude.{ℕ, zero, suc, List, map, slice_index_or}
use Rattle.std.specs.FinSet as set
use Rattle.pr_cdb.specs.declared.codes.TheConstants.{MOST_NEXUSES}
use Rattle.pr_attention.specs.Attentions.{Codes}
use Rattle.pr_attention.specs.CodeSets.{no_code}
use Rattle.pr_registry.specs.Registrations.{State}
use Rattle.pr_unit.specs.Attentions.{Pairs}
use Rattle.pr_unit.specs.UnitStates.{UnitState}

-- this host, with each of these codes
unfoldable pub of_host : ℕ → Codes → Pairs
of_host h codes = set.from_list (map (λ code. (h, code)) (set.items codes))

-- each host below n, with the codes that the table gives it
unfoldable pub pairs_where : ℕ → (ℕ → Codes) → Pairs
pairs_where zero f = set.empty
pairs_where (suc n) f = set.union (pairs_where n f) (of_host n (f n))

-- what a table has at the place of a host, and nothing where it has no such place
abbrev pub place : List Codes → ℕ → Codes
place table h = slice_index_or table h no_code

-- the pairs of a table with a place for each host
abbrev pub table_pairs : List Codes → Pairs
table_pairs table = pairs_where MOST_NEXUSES (place table)

-- the state of a registry and a table of pending attentions
abbrev pub unit_of : State → List Codes → UnitState
unit_of registry table = record { registry = registry; pending = table_pairs table }

-- nothing is pending
abbrev pub quiet_unit : State → UnitState
quiet_unit registry = record { registry = registry; pending = set.empty }
