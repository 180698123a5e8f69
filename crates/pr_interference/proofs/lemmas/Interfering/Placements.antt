-- What a clause leads to under one reservation, whatever its sender's standing.
use Rattle.pr_interference.proofs.Common.{◌≡◌, ℕ, ◌<◌, ◌≤◌, Bool, true, false, ◌||◌, ◌⊎◌, List, [], length, if◌then◌else◌, ◌==◌, Some, None, Option, sym, refl, ◌∙◌, subst, inl, inr, arith, Held, UnitState, is_declared, is_action, Action, Clause, view_in, Scope, Item, Registration, IsSo, Possibilities, one_registration, number_in, purpose_of_preempt, Place, Purpose, Adds, adds_both, same_reservation, Onlooker, purpose_for, StandingLeads, PlaceLeads, IsWatched, MOST_KEYS}
use Rattle.pr_unit.specs.declared.demand.Demand.TheVariants.{Register, PreemptAll, Preempt}
use Rattle.pr_roles.specs.declared.role.Action.TheVariants as action
use Rattle.pr_regions.specs.declared.purpose.Standing.{Standing}
use Rattle.pr_regions.specs.declared.purpose.Standing.TheVariants.{Unregistered, Named, Other}
use Rattle.pr_regions.specs.Purposes.{HasNumber}
use Rattle.pr_regions.specs.Regions.{standing_of}
use Rattle.pr_regions.proofs.lemmas.Purposes.Conduct.{number_named, declared_number}
use Rattle.pr_interference.specs.inside.Clauses.{PurposeLeads}

-- ---- the numbers of declared keys

declared : (keys : List ℕ) (key : ℕ) → length keys ≤ MOST_KEYS → is_declared keys key ≡ true → (1 ≤ number_in keys key) × (number_in keys key ≤ MOST_KEYS)
declared keys key few is =
    let some = declared_number keys key is in
    let inside = (number_named keys key (number_in keys key) refl some).0 in
    (some, omega arith)

numbered : (p q : Purpose) → Some q ≡ Some p → HasNumber q → HasNumber p
numbered p q same has = let e : q ≡ p = cc in subst HasNumber e has

pub has_number : (keys : List ℕ) (a : Action) (held : Option Held) (p : Purpose) → length keys ≤ MOST_KEYS → is_action keys a ≡ true → purpose_for keys a held ≡ Some p → HasNumber p
has_number keys (action.Register key) held p few fits meant = numbered p (Register (number_in keys key)) meant (declared keys key few fits)
has_number keys action.Release None p few fits meant = let bad : None ≡ Some p = meant in cc
has_number keys (action.Preempt key kind) held p few fits meant = numbered p (purpose_of_preempt keys key kind) meant (at (key == 0) fits)
  where
    at : (b : Bool) → (b || is_declared keys key) ≡ true → HasNumber (if b then PreemptAll kind else Preempt (number_in keys key) kind)
    at true fits = tt
    at false fits = declared keys key few fits
has_number keys action.Read held p few fits meant = let bad : None ≡ Some p = meant in cc
has_number keys action.Write held p few fits meant = let bad : None ≡ Some p = meant in cc
has_number keys _ held p few fits meant = numbered p _ meant tt

-- ---- the three standings

pub by_standing : (s : Scope) (o : Onlooker) (place : Place) (clause : Clause) (p : Purpose) (u w : UnitState) → IsWatched s o place
    → PurposeLeads (view_in s o.view) clause place.sender place.reservation p u w
    → (StandingLeads (view_in s o.view) clause place.sender place.reservation p Unregistered u w ⊎ StandingLeads (view_in s o.view) clause place.sender place.reservation p Named u w)
    ⊎ StandingLeads (view_in s o.view) clause place.sender place.reservation p Other u w
by_standing s o place clause p u w is leads = at (standing_of p seen.0) refl
  where
    below : place.sender < s.hosts
    below = subst (λ n. place.sender < n) (sym is.known.hosts) place.there

    seen : (r : ℕ) × IsSo s u (Registration place.sender r)
    seen = let there = leads.shown.registrations place.sender below in (there.0, there.1.1)

    so : (standing : Standing) → standing_of p seen.0 ≡ standing → StandingLeads (view_in s o.view) clause place.sender place.reservation p standing u w
    so standing stands = record {
      leads = leads;
      stands = λ r it. subst (λ n. standing_of p n ≡ standing) (one_registration s u place.sender seen.0 r is.known.fits.scope seen.1 it) stands;
    }

    at : (standing : Standing) → standing_of p seen.0 ≡ standing
        → (StandingLeads (view_in s o.view) clause place.sender place.reservation p Unregistered u w ⊎ StandingLeads (view_in s o.view) clause place.sender place.reservation p Named u w)
        ⊎ StandingLeads (view_in s o.view) clause place.sender place.reservation p Other u w
    at Unregistered stands = inl (inl (so Unregistered stands))
    at Named stands = inl (inr (so Named stands))
    at Other stands = inr (so Other stands)

same_meant : (s : Scope) (o : Onlooker) (place : Place) (clause : Clause) (keys : List ℕ) (u w : UnitState) → IsWatched s o place → s.keys ≡ keys
    → (leads : PlaceLeads (view_in s o.view) clause place.sender place.reservation u w) → purpose_for keys clause.action place.held ≡ Some leads.purpose
same_meant s o place clause keys u w is same leads =
    subst (λ v. purpose_for keys clause.action v ≡ Some leads.purpose) (same_reservation s o.view place u is.known leads.leads.shown leads.leads.reserved)
    (subst (λ k. purpose_for k clause.action u.registry.held ≡ Some leads.purpose) same leads.meant)

pub none_meant : (s : Scope) (o : Onlooker) (place : Place) (clause : Clause) (keys : List ℕ) (u w : UnitState) → IsWatched s o place → s.keys ≡ keys → purpose_for keys clause.action place.held ≡ None
    → PlaceLeads (view_in s o.view) clause place.sender place.reservation u w → ⊥
none_meant s o place clause keys u w is same none leads = let bad : None ≡ Some leads.purpose = sym none ∙ same_meant s o place clause keys u w is same leads in cc

pub adds_standings : (s : Scope) (o : Onlooker) (place : Place) (clause : Clause) (keys : List ℕ) (p : Purpose) (a b c d : Possibilities) (leaves : Item → Type 0) → IsWatched s o place → s.keys ≡ keys
    → purpose_for keys clause.action place.held ≡ Some p
    → Adds s a b (StandingLeads (view_in s o.view) clause place.sender place.reservation p Unregistered) leaves
    → Adds s b c (StandingLeads (view_in s o.view) clause place.sender place.reservation p Named) leaves
    → Adds s c d (StandingLeads (view_in s o.view) clause place.sender place.reservation p Other) leaves
    → Adds s a d (PlaceLeads (view_in s o.view) clause place.sender place.reservation) leaves
adds_standings s o place clause keys p a b c d leaves is same meant first second third =
    let L = StandingLeads (view_in s o.view) clause place.sender place.reservation p Unregistered in
    let M = StandingLeads (view_in s o.view) clause place.sender place.reservation p Named in
    let N = StandingLeads (view_in s o.view) clause place.sender place.reservation p Other in
    adds_both s a c d (λ u w. L u w ⊎ M u w) N (PlaceLeads (view_in s o.view) clause place.sender place.reservation) leaves leaves leaves
    (adds_both s a b c L M (λ u w. L u w ⊎ M u w) leaves leaves leaves first second (λ u w led. led) (λ i left. left) (λ i left. left))
    third (λ u w led. by_standing s o place clause p u w is (as_meant u w led)) (λ i left. left) (λ i left. left)
  where
    as_meant : (u w : UnitState) → PlaceLeads (view_in s o.view) clause place.sender place.reservation u w → PurposeLeads (view_in s o.view) clause place.sender place.reservation p u w
    as_meant u w led =
        let both : Some led.purpose ≡ Some p = sym (same_meant s o place clause keys u w is same led) ∙ meant in
        let e : led.purpose ≡ p = cc in
        subst (λ q. PurposeLeads (view_in s o.view) clause place.sender place.reservation q u w) e led.leads
