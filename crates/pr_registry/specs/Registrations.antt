-- Agrees with SPC-4, 'Persistent reservations', 'Persistent reservation holder'; docs/MODEL.md, 'Well formed states'.
-- What a logical unit keeps of persistent reservations (SPC-4, 'Reservations' and 'Persistent
-- reservations'): who is registered with which key, the reservation, and PRGENERATION.
use Rattle.std.specs.Prelude.{◌≡◌, ℕ, ◌<◌, ◌≤◌, ◌^◌, Bool, true, false, ◌==◌, IsTrue, Option, Some, None, if◌then◌else◌}
use Rattle.std.specs.FinSet as set
use Rattle.std.specs.FinMap as map
use Rattle.pr_cdb.specs.declared.codes.TheConstants.{MOST_NEXUSES}
use Rattle.pr_cdb.specs.declared.command.Kind.{Kind}
use Rattle.pr_cdb.specs.declared.command.Kind.TheVariants.{WriteExclusive, ExclusiveAccess, WriteExclusiveRegistrantsOnly, ExclusiveAccessRegistrantsOnly, WriteExclusiveAllRegistrants, ExclusiveAccessAllRegistrants}
use Rattle.pr_registry.specs.declared.held.Held.{Held}
use Rattle.pr_registry.specs.declared.held.Held.TheVariants.{One, All}
use Rattle.pr_registry.specs.Hosts.{Hosts, Keys, hosts_in, is_empty}

pub record State : Type 0 where
  pub hosts : ℕ
  pub keys : Keys
  pub held : Option Held
  pub generation : ℕ

abbrev pub key_of : State → ℕ → Option ℕ
key_of u h = map.get u.keys h

abbrev pub is_registered : State → ℕ → Bool
is_registered u h = map.contains_key u.keys h

abbrev pub registrants : State → Hosts
registrants u = hosts_in u.keys

-- the registrants but h
abbrev pub others : State → ℕ → Hosts
others u h = set.remove (registrants u) h

-- types 7 and 8, under which every registrant holds the reservation
abbrev pub is_all : Kind → Bool
is_all WriteExclusive = false
is_all ExclusiveAccess = false
is_all WriteExclusiveRegistrantsOnly = false
is_all ExclusiveAccessRegistrantsOnly = false
is_all WriteExclusiveAllRegistrants = true
is_all ExclusiveAccessAllRegistrants = true

-- types 5 to 8, under which every registrant has access
abbrev pub is_for_registrants : Kind → Bool
is_for_registrants WriteExclusive = false
is_for_registrants ExclusiveAccess = false
is_for_registrants WriteExclusiveRegistrantsOnly = true
is_for_registrants ExclusiveAccessRegistrantsOnly = true
is_for_registrants WriteExclusiveAllRegistrants = true
is_for_registrants ExclusiveAccessAllRegistrants = true

abbrev pub kind_of : Held → Kind
kind_of (One t g) = t
kind_of (All t) = t

-- a reservation of type t that h establishes: its own, or one of all registrants
abbrev pub new_reservation : Kind → ℕ → Held
new_reservation t h = if is_all t then All t else One t h

-- h is the single holder
abbrev pub holds_alone : Option Held → ℕ → Bool
holds_alone None h = false
holds_alone (Some (One t g)) h = g == h
holds_alone (Some (All t)) h = false

-- h holds: the single holder, or each registrant (SPC-4, 'Persistent reservation holder')
abbrev pub is_holder_of : Keys → Option Held → ℕ → Bool
is_holder_of keys None h = false
is_holder_of keys (Some (One t g)) h = g == h
is_holder_of keys (Some (All t)) h = map.contains_key keys h

abbrev pub is_holder : State → ℕ → Bool
is_holder u h = is_holder_of u.keys u.held h

-- a single holder is registered, and all registrants are at least one
abbrev pub HasHolder : Keys → Option Held → Type 0
HasHolder keys None = Unit {0}
HasHolder keys (Some (One t g)) = (is_all t ≡ false) × IsTrue (map.contains_key keys g)
HasHolder keys (Some (All t)) = (is_all t ≡ true) × (is_empty keys ≡ false)

-- a key is not zero, and has 64 bits
abbrev pub IsKey : ℕ → Type 0
IsKey k = (1 ≤ k) × (k < 2 ^ 64)

pub record IsWellFormed (u : State) : Type 0 where
  pub hosts : (1 ≤ u.hosts) × (u.hosts ≤ MOST_NEXUSES)
  pub keys : (h k : ℕ) → key_of u h ≡ Some k → (h < u.hosts) × IsKey k
  pub held : HasHolder u.keys u.held
  pub generation : u.generation < 2 ^ 32
