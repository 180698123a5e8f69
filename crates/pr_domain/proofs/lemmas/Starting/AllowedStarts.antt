-- The view of the written alternatives shows each allowed start, and what is kept of it is so in one.
use Rattle.pr_domain.proofs.Common.{◌≡◌, ℕ, ◌<◌, true, Some, Contains, sym, ap, ◌∙◌, subst, key_of, UnitState, is_pending, is_reservation, Scenario, nexus, view_in, Scope, number_of, count_of_reservations, Registration, Reservation, Attentions, IsSo, AreInRange, View, Shows, Possibilities, reservation_of, AreAlternatives, IsSame}
use Rattle.pr_roles.specs.Fitting.{Fits as FitsAll, is_alternative}
use Rattle.pr_roles.specs.Scenarios.{Nexus}
use Rattle.pr_roles.specs.Starts.{IsAllowedStart}
use Rattle.pr_roles.proofs.lemmas.FirstStarts.Existence.{all_pass}
use Rattle.pr_roles.proofs.lemmas.Starts.AllowedStarts.{some_nexus}
use Rattle.pr_domain.specs.Starting.{IsOfStart}
use Rattle.pr_domain.specs.inside.Beginning.{registration_in}
use Rattle.pr_regions.specs.Keeping.{IsKept, IsShownSo}
use Rattle.pr_domain.proofs.lemmas.Starting.ShownStarts.{starts_so}
use Rattle.pr_domain.proofs.lemmas.Starting.CodeSubsets.{numbered}
use Rattle.pr_regions.proofs.lemmas.Showing.AlikeViews.{shows_within, reservation_below}
use Rattle.pr_domain.proofs.lemmas.Starting.WrittenNumbers.{registration_below, registration_tells, start_fits}

pub start_shown : (sc : Scenario) (s : Scope) (p : Possibilities) (u : UnitState) → FitsAll sc → s.keys ≡ sc.keys → s.own < s.hosts → AreAlternatives sc s p → IsAllowedStart sc u
    → Shows (view_in s p) u
start_shown sc s p u fits keys owned are allowed = record {
  formed = allowed.formed;
  hosts = hosts;
  registrations = λ g there.
      let n = at g there in
      let contains = allowed.registrations g n.0 n.1 in
      let key = key_of u.registry g in
      let r = registration_in s.keys key in
      let tells = registration_tells s.keys key (subst (λ ks. is_alternative ks key ≡ true) (sym keys) (all_pass (is_alternative sc.keys) n.0.start key (start_fits sc g n.0 fits n.1) contains)) in
      let small = registration_below s.keys key in
      (r, ((there, (are.registrations g r n.0 n.1 small).1 (subst (Contains n.0.start) (sym tells) contains)), (there, small, sym tells)));
  reservation = (number_of s.hosts u.registry.held, ((are.reservations u.registry.held held).1 allowed.reservation, λ i. number_of s.hosts u.registry.held));
  pending =
      let q = numbered (is_pending u s.own) (λ code is. (allowed.formed.pending s.own code is).1) in
      let n = at s.own owned in
      (q.0, ((are.pending q.0 n.0 q.1 n.1).1 (λ code there. allowed.pending s.own code n.0 n.1 (q.2 code ∙ there)), (q.1, q.2)));
}
  where
    hosts : u.registry.hosts ≡ s.hosts
    hosts = allowed.hosts ∙ sym are.hosts

    at : (g : ℕ) → g < s.hosts → (n : Nexus) × (nexus sc g ≡ Some n)
    at g there = some_nexus sc g (subst (λ m. g < m) are.hosts there)

    held : is_reservation s.hosts u.registry.held ≡ true
    held = subst (λ m. is_reservation m u.registry.held ≡ true) hosts (reservation_of u.registry allowed.formed.registry)

-- what is kept of a view that shows the state shows it too
kept_shows : (v kept : View) (u : UnitState) → kept.scope ≡ v.scope → IsKept v kept → Shows v u → Shows kept u
kept_shows v kept u same is shown = record {
  formed = shown.formed;
  hosts = shown.hosts ∙ ap (λ (t : Scope). t.hosts) (sym same);
  registrations = λ g there.
      let seen = shown.registrations g (subst (λ (t : Scope). g < t.hosts) same there) in
      (seen.0, (is.all u (Registration g seen.0) shown seen.1.1, subst (λ t. IsSo t u (Registration g seen.0)) (sym same) seen.1.1));
  reservation =
      let seen = shown.reservation in
      (seen.0, (is.all u (Reservation seen.0) shown seen.1.1, subst (λ t. IsSo t u (Reservation seen.0)) (sym same) seen.1.1));
  pending =
      let seen = shown.pending in
      (seen.0, (is.all u (Attentions seen.0) shown seen.1.1, subst (λ t. IsSo t u (Attentions seen.0)) (sym same) seen.1.1));
}

pub kept_of_start : (sc : Scenario) (s : Scope) (p kept : Possibilities) → FitsAll sc → s.keys ≡ sc.keys → s.own < s.hosts → AreAlternatives sc s p → IsKept (view_in s p) (view_in s kept)
    → IsOfStart sc (view_in s kept)
kept_of_start sc s p kept fits keys owned are is = record {
  cover = λ u allowed. kept_shows (view_in s p) (view_in s kept) u (λ i. s) is (start_shown sc s p u fits keys owned are allowed);
  only = λ i possible.
      let it = is.only i possible in
      let so = starts_so sc s p it.unit i are it.shown it.is in
      record { unit = so.unit; allowed = so.allowed; is = so.is };
}

pub kept_in_range : (s : Scope) (v : View) (kept : Possibilities) → v.scope ≡ s → IsKept v (view_in s kept) → AreInRange s.hosts s.keys kept
kept_in_range s v kept same is = record {
  registrations = λ g r small got. (let it = is.only (Registration g r) (small, got) in (subst (λ t. IsSo t it.unit (Registration g r)) same it.is).1);
  reservations = λ x got. reserved x (is.only (Reservation x) got);
  pending = λ q got. (let it = is.only (Attentions q) got in it.is.0);
}
  where
    reserved : (x : ℕ) → IsShownSo v (Reservation x) → x < count_of_reservations s.hosts
    reserved x it =
        reservation_below s it.unit x it.shown.formed (it.shown.hosts ∙ ap (λ (t : Scope). t.hosts) same) (subst (λ t. IsSo t it.unit (Reservation x)) same it.is)

pub start_same : (sc : Scenario) (v w : View) → IsSame v w → IsOfStart sc v → IsOfStart sc w
start_same sc v w same is = record {
  cover = λ u allowed. shows_within v w u same.scope same.there (is.cover u allowed);
  only = λ i possible.
      let so = is.only i (same.back i possible) in
      record { unit = so.unit; allowed = so.allowed; is = subst (λ t. IsSo t so.unit i) (sym same.scope) so.is };
}
