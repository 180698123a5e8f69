-- The portion of a view that the states of a place are.
use Rattle.std.specs.Prelude.{◌≡◌, ℕ, ◌<◌, ◌≤◌, Bool, true, false, not, ◌==◌, ◌&&◌, if◌then◌else◌, List, Option, Some, None}
use Rattle.pr_registry.specs.Registrations.{holds_alone}
use Rattle.pr_registry.specs.Changes.{is_held_by_all}
use Rattle.pr_roles.specs.declared.limits.TheConstants.{MOST_KEYS}
use Rattle.pr_sets.specs.declared.bit_set.BitSet.{BitSet}
use Rattle.pr_sets.specs.BitSets.{has}
use Rattle.pr_views.specs.declared.portion.Portion.{Portion}
use Rattle.pr_views.specs.declared.possibilities.Possibilities.{Possibilities}
use Rattle.pr_views.specs.Portions.{has_at}
use Rattle.pr_regions.specs.declared.region.Region.{Region}
use Rattle.pr_regions.specs.Regions.{filter_of}
use Rattle.pr_regions.specs.declared.place.Place.{Place}

-- g may have this registration
abbrev pub passes : Place → BitSet → Region → ℕ → ℕ → Bool
passes place senders region g r =
    has (if g == place.sender then senders else filter_of region place.held g) r && not (holds_alone place.held g && r == 0)

-- the words have this registration of g where the view has it and it passes
abbrev pub IsLeftAt : Possibilities → Place → BitSet → Region → List BitSet → ℕ → ℕ → Type 0
IsLeftAt view place senders region words g r = has_at words g r ≡ (has_at view.registrations g r && passes place senders region g r)

-- the later words have it where the earlier ones do
abbrev pub IsSameAt : List BitSet → List BitSet → ℕ → ℕ → Type 0
IsSameAt old new g r = has_at new g r ≡ has_at old g r

-- the registrations that the portion leaves to each
abbrev pub IsLeftTo : Possibilities → Place → BitSet → Region → Portion → Type 0
IsLeftTo view place senders region p = (g r : ℕ) → g < place.hosts → IsLeftAt view place senders region p.registrations g r

-- where all registrants hold and the sender is none, another one must be registered
abbrev pub HasTest : Place → BitSet → Option BitSet → Option BitSet → Type 0
HasTest place senders None None = (is_held_by_all place.held && has senders 0) ≡ false
HasTest place senders None (Some w) = ((is_held_by_all place.held && has senders 0) ≡ true) × ((r : ℕ) → 1 ≤ r → r ≤ MOST_KEYS → has w r ≡ true) × (has w 0 ≡ false)
HasTest place senders (Some w) None = ⊥
HasTest place senders (Some w) (Some x) = x ≡ w
