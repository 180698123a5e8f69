-- A state as a table of keys has it, and how states are told apart.
use Rattle.std.specs.Prelude.{ℕ, List, Option, Some, None, refl}
use Rattle.std.specs.FinMap as map
use Rattle.std.specs.Coded.{Coded, code_by, coded×, coded_ℕ, coded_option}
use Rattle.pr_cdb.specs.declared.codes.TheConstants.{MOST_NEXUSES}
use Rattle.pr_registry.specs.declared.held.Held.{Held}
use Rattle.pr_registry.specs.Hosts.{Keys}
use Rattle.pr_registry.specs.Registrations.{State, IsKey}
use Rattle.pr_registry.specs.Tables.{table_keys}

abbrev pub state_code : Coded Held → Coded State
state_code held =
    code_by (ℕ × (Keys × (Option Held × ℕ))) (coded× coded_ℕ (coded× (map.code coded_ℕ coded_ℕ) (coded× (coded_option held) coded_ℕ)))
    (λ u. (u.hosts, (u.keys, (u.held, u.generation))))
    (λ t. record { hosts = t.0; keys = t.1.0; held = t.1.1.0; generation = t.1.1.1 })
    (λ _. refl)

abbrev pub IsKeyOrNone : Option ℕ → Type 0
IsKeyOrNone None = Unit {0}
IsKeyOrNone (Some k) = IsKey k

-- the state that a table with a place for each host, a reservation and a generation describe
abbrev pub state_of : ℕ → List (Option ℕ) → Option Held → ℕ → State
state_of hosts slots held generation =
    record { hosts = hosts; keys = table_keys MOST_NEXUSES slots; held = held; generation = generation }
