-- Reservations that have the same holders, and differ in type alone.
use Rattle.std.specs.Prelude.{◌≡◌, ℕ, ◌<◌, Bool, true, ◌==◌, ◌&&◌, ◌||◌, Option, Some, None}
use Rattle.pr_registry.specs.declared.held.Held.{Held}
use Rattle.pr_registry.specs.declared.held.Held.TheVariants.{One, All}
use Rattle.pr_roles.specs.Fitting.{is_reservation}
use Rattle.pr_sets.specs.Wides.{has_wide}
use Rattle.pr_views.specs.declared.possibilities.Possibilities.{Possibilities}
use Rattle.pr_views.specs.Possibilities.{Item, Registration, Reservation, Attentions, number_of}
use Rattle.pr_regions.specs.declared.place.Place.{Place}
use Rattle.pr_domain.specs.declared.tally.Tally.{Tally}
use Rattle.pr_domain.specs.inside.Tallies.{has_tallied}

-- the same host holds both alone, or all registrants hold both
abbrev pub AreTwins : Option Held → Option Held → Type 0
AreTwins None w = ⊥
AreTwins (Some (One t g)) None = ⊥
AreTwins (Some (One t g)) (Some (One k h)) = g ≡ h
AreTwins (Some (One t g)) (Some (All k)) = ⊥
AreTwins (Some (All t)) None = ⊥
AreTwins (Some (All t)) (Some (One k h)) = ⊥
AreTwins (Some (All t)) (Some (All k)) = Unit {0}

-- x is a reservation of the view before the one of the place, and has the same holders
pub record IsTwin (view : Possibilities) (place : Place) (x : ℕ) : Type 0 where
  pub below : x < place.reservation
  pub possible : has_wide view.reservations x ≡ true
  pub twin : Option Held
  pub number : x ≡ number_of place.hosts twin
  pub fits : is_reservation place.hosts twin ≡ true
  pub same : AreTwins twin place.held

-- what a tally has of a way once y is added where x is
abbrev pub has_with_twin : Tally → ℕ → ℕ → ℕ → Item → Bool
has_with_twin t x y way (Registration g r) = has_tallied t way (Registration g r)
has_with_twin t x y way (Reservation z) = has_tallied t way (Reservation z) || (z == y && has_tallied t way (Reservation x))
has_with_twin t x y way (Attentions q) = has_tallied t way (Attentions q)
