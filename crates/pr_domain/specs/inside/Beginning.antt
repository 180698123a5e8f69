-- The possibilities that a scenario writes for its starts.
use Rattle.std.specs.Prelude.{◌≡◌, ◌↔◌, ℕ, ◌<◌, ◌≤◌, Bool, true, false, ◌==◌, List, length, Option, Some, None}
use Rattle.std.specs.List.{slice_get, list_any, Contains}
use Rattle.std.specs.Option.{option_map_or}
use Rattle.pr_attention.specs.Flagged.{codes_of}
use Rattle.pr_registry.specs.declared.held.Held.{Held}
use Rattle.pr_roles.specs.declared.parts.Nexus.{Nexus as NexusPart}
use Rattle.pr_roles.specs.declared.parts.Parts.{Parts}
use Rattle.pr_roles.specs.Fitting.{is_reservation}
use Rattle.pr_roles.specs.Scenarios.{Scenario, Nexus, nexus}
use Rattle.pr_roles.specs.inside.StoredStarts.{start_of}
use Rattle.pr_sets.specs.BitSets.{has}
use Rattle.pr_sets.specs.Numbers.{Within}
use Rattle.pr_sets.specs.Wides.{has_wide}
use Rattle.pr_views.specs.declared.possibilities.Possibilities.{Possibilities}
use Rattle.pr_roles.specs.Keys.{key_at}
use Rattle.pr_views.specs.Possibilities.{Scope, number_of, count_of_attentions}
use Rattle.pr_views.specs.Portions.{has_at}
use Rattle.pr_regions.specs.Purposes.{number_in}

-- whose view it is, in these parts
abbrev pub scope_in : ℕ → ℕ → Parts → Scope
scope_in own hosts parts = record { own = own; hosts = hosts; keys = parts.keys.items }

-- the number of a registration: 0 for none, and from 1 for the declared keys
abbrev pub registration_in : List ℕ → Option ℕ → ℕ
registration_in keys None = 0
registration_in keys (Some key) = number_in keys key

-- one of the alternatives has this number
abbrev pub has_alternative : List ℕ → List (Option ℕ) → ℕ → Bool
has_alternative keys alternatives r = list_any (λ key. registration_in keys key == r) alternatives

-- the nexus of this place may start with the registration of this number
abbrev pub may_have : List ℕ → List NexusPart → ℕ → ℕ → Bool
may_have keys nexuses g r = option_map_or (λ n. has_alternative keys (start_of n) r) (slice_get nexuses g) false

-- one of the reservations has this number
abbrev pub has_reservation : ℕ → List (Option Held) → ℕ → Bool
has_reservation hosts reservations x = list_any (λ held. number_of hosts held == x) reservations

-- the possibilities are the written alternatives
pub record AreAlternatives (sc : Scenario) (s : Scope) (p : Possibilities) : Type 0 where
  pub hosts : s.hosts ≡ length sc.nexuses
  pub there : (g : ℕ) (n : Nexus) → nexus sc g ≡ Some n → g < s.hosts
  pub registrations : (g r : ℕ) (n : Nexus) → nexus sc g ≡ Some n → r ≤ length s.keys → (has_at p.registrations g r ≡ true) ↔ Contains n.start (key_at s.keys r)
  pub reservations : (held : Option Held) → is_reservation s.hosts held ≡ true → (has_wide p.reservations (number_of s.hosts held) ≡ true) ↔ Contains sc.reservations held
  pub pending : (q : ℕ) (n : Nexus) → q < count_of_attentions → nexus sc s.own ≡ Some n → (has p.pending q ≡ true) ↔ Within (codes_of q) n.pending
