-- What is said of views holds of every view with the same possibilities.
use Rattle.pr_regions.proofs.Common.{◌≡◌, ℕ, ◌<◌, true, Option, Some, None, sym, ap, ◌∙◌, subst, arith, false≢true, Held, One, UnitState, Scope, Registration, IsSo, number_of, Possibilities, Item, Reservation, Attentions, count_of_reservations, IsPossible, Shows, view_in}
use Rattle.std.proofs.Common.{◌↔◌}
use Rattle.std.specs.Prelude.{Result, Ok, Err, IfOk}
use Rattle.std.proofs.lemmas.Bool.{ltb-true}
use Rattle.pr_cdb.specs.declared.command.Kind.TheVariants.{WriteExclusive, ExclusiveAccess, WriteExclusiveRegistrantsOnly, ExclusiveAccessRegistrantsOnly, WriteExclusiveAllRegistrants, ExclusiveAccessAllRegistrants}
use Rattle.pr_registry.specs.declared.held.Held.TheVariants.{All as Everybody}
use Rattle.pr_unit.specs.UnitStates.{IsWellFormed}
use Rattle.pr_roles.specs.Fitting.{is_reservation}
use Rattle.pr_views.specs.Views.{View, Within}
use Rattle.pr_sets.specs.declared.view_set.ViewSet.{Ghosts as ViewSet}
use Rattle.pr_views.specs.declared.view.ViewOf.{ViewOf}
use Rattle.pr_views.specs.Rooms.{scope_of, view_of}
use Rattle.pr_views.proofs.lemmas.Possibilities.Numbers.{reservation_of}

-- ---- equal possibilities

-- the same scope and the same possibilities
pub record IsSame (v w : View) : Type 0 where
  pub scope : w.scope ≡ v.scope
  pub there : Within v w
  pub back : Within w v

-- what is possible in the one view is so in the other
pub shows_within : (v w : View) (u : UnitState) → w.scope ≡ v.scope → Within v w → Shows v u → Shows w u
shows_within v w u same within shown = record {
  formed = shown.formed;
  hosts = shown.hosts ∙ ap (λ (s : Scope). s.hosts) (sym same);
  registrations = λ g there.
      let seen = shown.registrations g (subst (λ (s : Scope). g < s.hosts) same there) in
      (seen.0, (within (Registration g seen.0) seen.1.0, subst (λ s. IsSo s u (Registration g seen.0)) (sym same) seen.1.1));
  reservation = (shown.reservation.0, (within (Reservation shown.reservation.0) shown.reservation.1.0, subst (λ s. IsSo s u (Reservation shown.reservation.0)) (sym same) shown.reservation.1.1));
  pending = (shown.pending.0, (within (Attentions shown.pending.0) shown.pending.1.0, subst (λ s. IsSo s u (Attentions shown.pending.0)) (sym same) shown.pending.1.1));
}

-- ---- the range of what is so

pub number_below : (hosts : ℕ) (held : Option Held) → is_reservation hosts held ≡ true → number_of hosts held < count_of_reservations hosts
number_below hosts None fits = omega arith
number_below hosts (Some (One WriteExclusive h)) fits = let small = ltb-true h hosts fits in omega arith
number_below hosts (Some (One ExclusiveAccess h)) fits = let small = ltb-true h hosts fits in omega arith
number_below hosts (Some (One WriteExclusiveRegistrantsOnly h)) fits = let small = ltb-true h hosts fits in omega arith
number_below hosts (Some (One ExclusiveAccessRegistrantsOnly h)) fits = let small = ltb-true h hosts fits in omega arith
number_below hosts (Some (Everybody WriteExclusiveAllRegistrants)) fits = omega arith
number_below hosts (Some (Everybody ExclusiveAccessAllRegistrants)) fits = omega arith
number_below hosts _ fits = absurd (false≢true fits)

-- a state of so many nexuses has a reservation in range
pub reservation_below : (s : Scope) (u : UnitState) (x : ℕ) → IsWellFormed u → u.registry.hosts ≡ s.hosts → IsSo s u (Reservation x) → x < count_of_reservations s.hosts
reservation_below s u x formed hosts so =
    subst (λ n. n < count_of_reservations s.hosts) (sym so)
    (number_below s.hosts u.registry.held (subst (λ n. is_reservation n u.registry.held ≡ true) hosts (reservation_of u.registry formed.registry)))

-- ---- of an answer that may be refused

pub if_ok : {A E : Type 0} (r : Result A E) {P Q R T : A → Type 0} → ((x : A) → P x → Q x → R x → T x) → IfOk r P → IfOk r Q → IfOk r R → IfOk r T
if_ok (Ok x) f p q r = f x p q r
if_ok (Err e) f p q r = p

pub same_views : {S : Type 0} {sets : ViewSet S} (own : ℕ) (w : ViewOf S sets) (s : Scope) (p : Possibilities) → scope_of own w ≡ s
    → ((i : Item) → IsPossible (view_of own w) i ↔ IsPossible (view_in (scope_of own w) p) i) → IsSame (view_in s p) (view_of own w)
same_views own w s p scope same = record {
  scope = scope;
  there = λ i possible. (same i).1 (subst (λ t. IsPossible (view_in t p) i) (sym scope) possible);
  back = λ i possible. subst (λ t. IsPossible (view_in t p) i) scope ((same i).0 possible);
}
