-- Agrees with SPC-4, 'Unregistering', 'Releasing', 'Preempting', 'Clearing'; docs/MODEL.md, 'PREEMPT'.
-- Whose registrations a service action removes, and whom it tells by a unit attention (SPC-4,
-- 'Unregistering', 'Releasing', 'Preempting' and 'Clearing'). The attentions are named by their
-- qualifier under the additional sense code 2Ah: 03h reservations preempted, 04h reservations released,
-- 05h registrations preempted.
use Rattle.std.specs.Prelude.{ℕ, ◌==◌, ◌&&◌, not, Bool, true, false, if◌then◌else◌, Option, Some, None}
use Rattle.std.specs.FinSet as set
use Rattle.std.specs.FinMap as map
use Rattle.pr_cdb.specs.declared.command.Kind.{Kind}
use Rattle.pr_cdb.specs.Kinds.{type_code}
use Rattle.pr_registry.specs.declared.held.Held.{Held}
use Rattle.pr_registry.specs.declared.held.Held.TheVariants.{One, All}
use Rattle.pr_registry.specs.declared.change.Change.{Change}
use Rattle.pr_registry.specs.Hosts.{Hosts, Keys, nobody, just, is_key, hosts_in, hosts_with}
use Rattle.pr_registry.specs.Registrations.{State, registrants, others, is_holder, holds_alone, is_for_registrants, kind_of}

abbrev pub no_change : Change
no_change = record { removed = nobody; told_03 = nobody; told_04 = nobody; told_05 = nobody }

-- the two types are one
abbrev pub is_kind : Kind → Kind → Bool
is_kind s t = type_code s == type_code t

-- the reservation is of a type that tells the registrants when it is lost
abbrev pub is_told_of_loss : Option Held → Bool
is_told_of_loss None = false
is_told_of_loss (Some v) = is_for_registrants (kind_of v)

-- A registrant unregisters. Where it held alone, registrants who lose their access are told.
abbrev pub change_on_unregister : State → ℕ → Change
change_on_unregister u h = record no_change {
  removed = just h;
  told_04 = if holds_alone u.held h && is_told_of_loss u.held then others u h else nobody;
}

-- the reservation that stands is of type t
abbrev pub is_held_as : Option Held → Kind → Bool
is_held_as None t = false
is_held_as (Some v) t = is_kind (kind_of v) t

-- a reservation that keeps h from reserving: one that h does not hold, or of another type
abbrev pub conflicts_with_reserve : State → ℕ → Option Held → Kind → Bool
conflicts_with_reserve u h None t = false
conflicts_with_reserve u h (Some v) t = not (is_holder u h && is_held_as (Some v) t)

-- RELEASE by a holder of the type that stands ends the reservation
abbrev pub is_released : State → ℕ → Kind → Bool
is_released u h t = is_holder u h && is_held_as u.held t

abbrev pub change_on_release : State → ℕ → Kind → Change
change_on_release u h t = record no_change {
  told_04 = if is_released u h t && is_told_of_loss u.held then others u h else nobody;
}

abbrev pub change_on_clear : State → ℕ → Change
change_on_clear u h = record no_change { removed = registrants u; told_03 = others u h }

-- the reservation is of all registrants
abbrev pub is_held_by_all : Option Held → Bool
is_held_by_all None = false
is_held_by_all (Some (One t g)) = false
is_held_by_all (Some (All t)) = true

-- the three successful cases of PREEMPT
pub data Case : Type 0 where
  -- service action reservation key zero where all registrants hold: all other registrations
  ReplacesAll : Case
  -- the key of the single holder of a reservation of this type
  ReplacesHolder : Kind → Case
  -- any other key
  RemovesKey : Case

-- which of them a PREEMPT of this key is
abbrev pub preempt_case : Keys → Option Held → ℕ → Case
preempt_case keys None sark = RemovesKey
preempt_case keys (Some (One t g)) sark = if is_key (map.get keys g) sark then ReplacesHolder t else RemovesKey
preempt_case keys (Some (All t)) sark = if sark == 0 then ReplacesAll else RemovesKey

-- the reservation is replaced
abbrev pub is_replacing : Case → Bool
is_replacing ReplacesAll = true
is_replacing (ReplacesHolder t) = true
is_replacing RemovesKey = false

-- The sender stays where its own reservation is replaced, and goes where its key is merely removed.
abbrev pub removed_by_preempt : Keys → ℕ → ℕ → Case → Hosts
removed_by_preempt keys h sark ReplacesAll = set.remove (hosts_in keys) h
removed_by_preempt keys h sark (ReplacesHolder t) = set.remove (hosts_with keys sark) h
removed_by_preempt keys h sark RemovesKey = hosts_with keys sark

-- the holder's reservation is replaced by one of another type
abbrev pub is_new_type : Option Kind → Case → Bool
is_new_type None case = false
is_new_type (Some t) ReplacesAll = false
is_new_type (Some t) (ReplacesHolder s) = not (is_kind s t)
is_new_type (Some t) RemovesKey = false

abbrev pub change_on_preempt : State → ℕ → ℕ → Option Kind → Change
change_on_preempt u h sark kind =
    let case = preempt_case u.keys u.held sark in
    let removed = removed_by_preempt u.keys h sark case in
    record no_change {
      removed = removed;
      told_04 = if is_new_type kind case then set.difference (others u h) removed else nobody;
      told_05 = set.remove removed h;
    }
