-- Agrees with docs/MODEL.md, 'Nexuses and registrations'.
-- Registrations as a table has them, and a unit with nothing of them.
use Rattle.std.specs.Prelude.{ℕ, zero, suc, Option, Some, None, List, length, slice_index_or}
use Rattle.std.specs.FinMap as map
use Rattle.pr_registry.specs.declared.held.Held.{Held}
use Rattle.pr_registry.specs.Hosts.{Keys}
use Rattle.pr_registry.specs.Registrations.{State}

-- h has this key, if it is one
abbrev pub with_pair : Keys → ℕ → Option ℕ → Keys
with_pair keys h None = keys
with_pair keys h (Some k) = map.insert keys h k

-- the pairs of each host below n that the table gives a key
unfoldable pub map_where : ℕ → (ℕ → Option ℕ) → Keys
map_where zero f = map.empty
map_where (suc n) f = with_pair (map_where n f) n (f n)

-- nothing is registered or reserved
abbrev pub empty_registry : ℕ → State
empty_registry hosts = record { hosts = hosts; keys = map.empty; held = None; generation = 0 }

-- the registrations of a table with a place for each of n hosts
abbrev pub table_keys : ℕ → List (Option ℕ) → Keys
table_keys n slots = map_where n (λ h. slice_index_or slots h None)

-- the state that a list of each host's key, a reservation and a generation describe
abbrev pub state_from : List (Option ℕ) → Option Held → ℕ → State
state_from keys held generation =
    record { hosts = length keys; keys = table_keys (length keys) keys; held = held; generation = generation }
