-- Agrees with docs/MODEL.md, 'Starts'.
-- The first of the states that a scenario may start from: a replay begins there.
use Rattle.std.specs.Prelude.{ℕ, if◌then◌else◌, List, [], ◌∷◌, Option, Some, None, is_some, option_map, option_and_then, map, position, slice_set}
use Rattle.std.specs.List.{slice_get, list_any}
use Rattle.std.specs.Option.{option_or}
use Rattle.pr_registry.specs.declared.held.Held.{Held}
use Rattle.pr_registry.specs.declared.held.Held.TheVariants.{One, All}
use Rattle.pr_registry.specs.Tables.{state_from}
use Rattle.pr_unit.specs.UnitStates.{UnitState}
use Rattle.pr_unit.specs.Tables.{quiet_unit}
use Rattle.pr_roles.specs.Scenarios.{Scenario}

-- the alternatives of each nexus
abbrev pub Starts : Type 0
Starts = List (List (Option ℕ))

abbrev pub starts : Scenario → Starts
starts s = map (λ n. n.start) s.nexuses

-- of the alternatives, the first
abbrev pub first_of : List (Option ℕ) → Option ℕ
first_of [] = None
first_of (k ∷ ks) = k

-- of the alternatives, the first that is a key
abbrev pub first_key : List (Option ℕ) → Option ℕ
first_key [] = None
first_key (None ∷ ks) = first_key ks
first_key ((Some k) ∷ ks) = Some k

-- h is registered with the first of its keys, if it has one
abbrev pub with_key : Starts → List (Option ℕ) → ℕ → Option (List (Option ℕ))
with_key all keys h = option_and_then (λ ks. option_map (λ k. slice_set keys h (Some k)) (first_key ks)) (slice_get all h)

-- all registrants hold: some nexus is registered, or else the first that can be is
abbrev pub with_registrant : Starts → List (Option ℕ) → Option (List (Option ℕ))
with_registrant all keys =
    if list_any (λ k. is_some k) keys then Some keys else
    option_and_then (λ h. with_key all keys h) (position (λ ks. is_some (first_key ks)) all)

-- The registrations under which this reservation is well formed: each the first of its alternatives, but that
-- a single holder has its first key.
abbrev pub keys_under : Starts → Option Held → Option (List (Option ℕ))
keys_under all None = Some (map first_of all)
keys_under all (Some (One t h)) = with_key all (map first_of all) h
keys_under all (Some (All t)) = with_registrant all (map first_of all)

-- the first of the reservations that can be well formed, with the registrations under it
abbrev pub first_under : Starts → List (Option Held) → Option (Option Held × List (Option ℕ))
first_under all [] = None
first_under all (v ∷ vs) = option_or (option_map (λ keys. (v, keys)) (keys_under all v)) (first_under all vs)

-- The first start: nothing is pending, and the generation is the written one.
abbrev pub first_state : Scenario → Option UnitState
first_state s = option_map (λ first. quiet_unit (state_from first.1 first.0 s.generation)) (first_under (starts s) s.reservations)
