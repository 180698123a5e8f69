-- Agrees with SPC-4, 'Registering', 'Unregistering', 'Reserving', 'Releasing', 'Preempting', 'Clearing'; docs/MODEL.md, 'PREEMPT'.
-- What a service action that ends GOOD makes of the registrations, the reservation and PRGENERATION
-- (SPC-4, 'Registering', 'Unregistering', 'Reserving', 'Releasing', 'Preempting', 'Clearing').
use Rattle.std.specs.Prelude.{ℕ, ◌+◌, ◌%◌, ◌^◌, if◌then◌else◌, Option, Some, None, option_map}
use Rattle.std.specs.FinMap as map
use Rattle.pr_cdb.specs.declared.command.Kind.{Kind}
use Rattle.pr_registry.specs.declared.held.Held.{Held}
use Rattle.pr_registry.specs.declared.held.Held.TheVariants.{One, All}
use Rattle.pr_registry.specs.Hosts.{Keys, just, without, is_empty}
use Rattle.pr_registry.specs.Registrations.{State, new_reservation, holds_alone}
use Rattle.pr_registry.specs.Changes.{Case, ReplacesAll, ReplacesHolder, RemovesKey, preempt_case, removed_by_preempt, is_released}

-- the next generation, which wraps at 2^32
abbrev pub next : ℕ → ℕ
next generation = (generation + 1) % 2 ^ 32

-- what is left of a reservation once these registrations remain: one of all registrants ends with the
-- last of them
abbrev pub held_by_rest : Keys → Option Held → Option Held
held_by_rest keys None = None
held_by_rest keys (Some (One t g)) = Some (One t g)
held_by_rest keys (Some (All t)) = if is_empty keys then None else Some (All t)

abbrev pub with_registration : State → ℕ → ℕ → State
with_registration u h key = record u { keys = map.insert u.keys h key; generation = next u.generation }

abbrev pub without_registration : State → ℕ → State
without_registration u h =
    let keys = without u.keys (just h) in
    record u {
      keys = keys;
      held = if holds_alone u.held h then None else held_by_rest keys u.held;
      generation = next u.generation;
    }

-- a reservation that stands, or else the new one
abbrev pub held_or : Option Held → Held → Option Held
held_or None new = Some new
held_or (Some v) new = Some v

abbrev pub with_reservation : State → ℕ → Kind → State
with_reservation u h t = record u { held = held_or u.held (new_reservation t h) }

abbrev pub after_release : State → ℕ → Kind → State
after_release u h t = record u { held = if is_released u h t then None else u.held }

abbrev pub after_clear : State → State
after_clear u = record u { keys = map.empty; held = None; generation = next u.generation }

-- The reservation after a PREEMPT over these remaining registrations. Where it is replaced there is a
-- type, since a PREEMPT without one is then at fault.
abbrev pub held_after_preempt : Keys → Option Held → ℕ → Option Kind → Case → Option Held
held_after_preempt rest held h kind ReplacesAll = option_map (λ t. new_reservation t h) kind
held_after_preempt rest held h kind (ReplacesHolder s) = option_map (λ t. new_reservation t h) kind
held_after_preempt rest held h kind RemovesKey = held_by_rest rest held

abbrev pub after_preempt : State → ℕ → ℕ → Option Kind → State
after_preempt u h sark kind =
    let case = preempt_case u.keys u.held sark in
    let rest = without u.keys (removed_by_preempt u.keys h sark case) in
    record u { keys = rest; held = held_after_preempt rest u.held h kind case; generation = next u.generation }
