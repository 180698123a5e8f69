-- What a command reaches under the reservations that some may hold.
use Rattle.pr_interference.proofs.Common.{◌≡◌, ℕ, ◌<◌, Bool, true, false, Some, Option, sym, refl, ap, ◌∙◌, subst, has_wide, new_reservation, Held, is_action, Kind, Clause, Scope, number_of, None, One, is_held_by_all, false≢true, and_parts, not, arith, nat_tests, count_of_reservations, one_reservation, Place, Onlooker, Reach, IsWatched, IsOnlooking}
use Rattle.std.specs.Prelude.{nat_lt}
use Rattle.pr_registry.specs.declared.held.Held.TheVariants.{All}
use Rattle.pr_registry.specs.Registrations.{is_all}
use Rattle.pr_roles.specs.Fitting.{is_reservation}
use Rattle.pr_regions.specs.Conditions.{holds_as}
use Rattle.pr_sets.specs.declared.wide.Wide.{Wide}
use Rattle.pr_views.proofs.lemmas.Possibilities.Numbers.{held_at, number_of-held_at}
use Rattle.pr_interference.specs.declared.holders.Holders.{Holders}
use Rattle.pr_interference.specs.inside.Reaching.{AreHolders, IsHeldAmong, IsReach}
use Rattle.pr_interference.proofs.lemmas.Reaching.Bounds.{forbidden_reach}

-- What is reached at each place of the other's is reached.
pub reach_of_places : (s : Scope) (o : Onlooker) (clause : Clause) (reach : Reach) → IsOnlooking s o
    → ((place : Place) → place.hosts ≡ o.hosts → place.sender ≡ o.other → IsWatched s o place → IsReach s o.view clause place.sender place.reservation reach) → (x : ℕ) → IsReach s o.view clause o.other x reach
reach_of_places s o clause reach is each x u w led =
    each place refl refl (record { known = record { hosts = is.hosts; fits = is.fits; possible = possible }; own = is.own; other = is.other }) u w led
  where
    possible : has_wide o.view.reservations x ≡ true
    possible = (let seen = led.leads.shown.reservation in subst (λ y. has_wide o.view.reservations y ≡ true) (one_reservation s u seen.0 x seen.1.1 led.leads.reserved) seen.1.0)

    place : Place
    place =
        let below = is.fits.reservations x possible in
        let numbered = number_of-held_at s.hosts x is.fits.scope.hosts.0 below in
        record {
          hosts = o.hosts;
          sender = o.other;
          reservation = x;
          held = held_at s.hosts x;
          some = o.some;
          few = o.few;
          there = o.other_there;
          below = subst (λ n. x < count_of_reservations n) is.hosts below;
          number = subst (λ n. x ≡ number_of n (held_at s.hosts x)) is.hosts numbered.1;
          fits = subst (λ n. is_reservation n (held_at s.hosts x) ≡ true) is.hosts numbered.0;
        }

module _ (s : Scope) (o : Onlooker) (place : Place) (is : IsWatched s o place) where
  -- the reservation of a place is possible by its number
  pub possible_by_number : has_wide o.view.reservations (number_of place.hosts place.held) ≡ true
  possible_by_number = subst (λ x. has_wide o.view.reservations x ≡ true) place.number is.known.possible

-- What is reached under each reservation that they may hold, where the condition is met, is reached.
pub reach_of_held : (s : Scope) (o : Onlooker) (clause : Clause) (reach : Reach) (holders met : Holders) → IsOnlooking s o → is_action o.keys.now clause.action ≡ true → AreHolders o.hosts o.view.reservations holders
    → ((held : Option Held) → IsHeldAmong holders held → holds_as clause.condition held o.other true ≡ true → IsHeldAmong met held)
    → ((place : Place) → place.hosts ≡ o.hosts → place.sender ≡ o.other → IsWatched s o place → is_action s.keys clause.action ≡ true → IsHeldAmong met place.held → IsReach s o.view clause place.sender place.reservation reach)
    → (x : ℕ) → IsReach s o.view clause o.other x reach
reach_of_held s o clause reach holders met is fits are meets each = reach_of_places s o clause reach is at
  where
    named : is_action s.keys clause.action ≡ true
    named = subst (λ k. is_action k clause.action ≡ true) (sym is.keys) fits

    at : (place : Place) → place.hosts ≡ o.hosts → place.sender ≡ o.other → IsWatched s o place → IsReach s o.view clause place.sender place.reservation reach
    at place hosts sender watched = by (holds_as clause.condition place.held place.sender true) refl
      where
        held : IsHeldAmong holders place.held
        held = are place.held (subst (λ n. is_reservation n place.held ≡ true) hosts place.fits)
            (subst (λ n. has_wide o.view.reservations (number_of n place.held) ≡ true) hosts (possible_by_number s o place watched))

        by : (b : Bool) → holds_as clause.condition place.held place.sender true ≡ b → IsReach s o.view clause place.sender place.reservation reach
        by true there = each place hosts sender watched named (meets place.held held (subst (λ g. holds_as clause.condition place.held g true ≡ true) sender there))
        by false none = forbidden_reach s o place clause reach watched named none

-- what the other establishes, by the numbers of a place
pub established_at : (o : Onlooker) (place : Place) (t : Kind) (w : Wide) → place.hosts ≡ o.hosts → place.sender ≡ o.other
    → has_wide w (number_of o.hosts (Some (new_reservation t o.other))) ≡ true → has_wide w (number_of place.hosts (Some (new_reservation t place.sender))) ≡ true
established_at o place t w hosts sender is =
    subst (λ n. has_wide w (number_of n (Some (new_reservation t place.sender))) ≡ true) (sym hosts)
    (subst (λ g. has_wide w (number_of o.hosts (Some (new_reservation t g))) ≡ true) (sym sender) is)

-- where all registrants hold, everybody does
pub by_everybody : (p : Holders) (held : Option Held) → IsHeldAmong p held → is_held_by_all held ≡ true → p.everybody ≡ true
by_everybody p None among all = absurd (false≢true all)
by_everybody p (Some (One t h)) among all = absurd (false≢true all)
by_everybody p (Some (All t)) among all = among

-- a single holder is there
pub single_below : (hosts : ℕ) (held : Option Held) (t : Kind) (h : ℕ) → held ≡ Some (One t h) → is_reservation hosts held ≡ true → h < hosts
single_below hosts held t h is fits =
    let there : is_reservation hosts (Some (One t h)) ≡ true = ap (is_reservation hosts) (sym is) ∙ fits in
    let parts = and_parts (not (is_all t)) (nat_lt h hosts) there in
    let small : nat_lt h hosts ≡ true = parts.1 in
    grind (arith, nat_tests)
