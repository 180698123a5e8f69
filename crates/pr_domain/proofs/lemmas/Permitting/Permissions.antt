-- What a role says of a command where it ends GOOD: at one place, and at one after another.
use Rattle.pr_domain.proofs.Common.{◌≡◌, ℕ, zero, suc, ◌<◌, ◌≤◌, Bool, true, false, not, ◌&&◌, ◌||◌, ◌⊎◌, List, [], ◌∷◌, length, is_some, IsTrue, ◌==◌, Option, sym, refl, ap, ◌∙◌, subst, inl, inr, arith, list_any, false≢true, and_from, nat_tests, has_wide, has, BitSet, Command, State, key_of, UnitState, effect, has_at, view_in, Scope, key_at, first_test, good, data_of, and_parts, Item, count_of_reservations, number_of, Registration, Reservation, IsSo, Shows, Possibilities, Place, same_reservation, Tally, has_tallied, Grows, HasOneOf, IsUnder, scope_at}
use Rattle.std.proofs.lemmas.Bool.{not-true}
use Rattle.pr_registry.specs.Registrations.{is_registered}
use Rattle.pr_roles.specs.declared.role.Clause.{Clause}
use Rattle.pr_roles.specs.declared.role.Condition.{Condition}
use Rattle.pr_roles.specs.Permits.{names, holds, clause_permits}
use Rattle.pr_views.proofs.lemmas.Possibilities.Numbers.{key_there, one_reservation}
use Rattle.pr_regions.specs.Conditions.{holds_as}
use Rattle.pr_regions.proofs.lemmas.Conditions.Senders.{holds_by}
use Rattle.pr_domain.specs.declared.tested.TestedCommand.{TestedCommand}
use Rattle.pr_domain.specs.inside.Tallies.{IsFound}
use Rattle.pr_domain.specs.inside.Permitting.{ArePermitted, IsServed, permits_at, is_one_permitting, view_of_asker, IsAsking, PermitsAt, RefusesAt, PermitsAll}

-- ---- clauses

registered_same : (u : State) (keys : List ℕ) (h r : ℕ) → r ≤ length keys → key_of u h ≡ key_at keys r → is_registered u h ≡ not (r == 0)
registered_same u keys h zero small is = ap is_some is
registered_same u keys h (suc i) small is =
    let some : not (suc i == 0) ≡ true = grind (arith, nat_tests) in
    ap is_some (is ∙ (key_there keys i small).1) ∙ sym some

-- in such a state the condition holds exactly where it does by the number of the registration
holds_same : (u : State) (place : Place) (keys : List ℕ) (r : ℕ) (o : Option Condition) → u.held ≡ place.held → r ≤ length keys → key_of u place.sender ≡ key_at keys r
    → holds o u place.sender ≡ holds_as o place.held place.sender (not (r == 0))
holds_same u place keys r o held small is =
    holds_by o u place.sender ∙ ap (λ v. holds_as o v place.sender (is_registered u place.sender)) held
    ∙ ap (holds_as o place.held place.sender) (registered_same u keys place.sender r small is)

permits_same : (u : State) (place : Place) (keys : List ℕ) (r : ℕ) (c : Command) (clauses : List Clause) → u.held ≡ place.held → r ≤ length keys → key_of u place.sender ≡ key_at keys r
    → list_any (λ clause. clause_permits clause u place.sender c) clauses ≡ is_one_permitting clauses c place (not (r == 0))
permits_same u place keys r c [] held small is = refl
permits_same u place keys r c (clause ∷ rest) held small is =
    ap (λ b. (names clause.action c && b) || list_any (λ x. clause_permits x u place.sender c) rest) (holds_same u place keys r clause.condition held small is)
    ∙ ap (λ b. permits_at clause c place (not (r == 0)) || b) (permits_same u place keys r c rest held small is)

-- ---- one place

module _ (q : TestedCommand) (place : Place) (view : Possibilities) (clauses : List Clause) (there senders : BitSet)
    (asking : IsAsking q place.hosts place.sender view) (possible : has_wide view.reservations place.reservation ≡ true)
    (here : (r : ℕ) → has_at view.registrations place.sender r ≡ true → has there r ≡ true) (are : (r : ℕ) → has senders r ≡ (has there r && not (is_one_permitting clauses q.command place (not (r == 0)))))
  where
    by_number : (r : ℕ) (u : UnitState) → Shows (view_of_asker q place.hosts place.sender view) u → IsUnder (scope_at q.keys.now place.hosts place.sender) place u
        → r ≤ length q.keys.now → key_of u.registry place.sender ≡ key_at q.keys.now r
        → list_any (λ clause. clause_permits clause u.registry place.sender q.command) clauses ≡ is_one_permitting clauses q.command place (not (r == 0))
    by_number r u shown under small is =
        permits_same u.registry place q.keys.now r q.command clauses
        (same_reservation (scope_at q.keys.now place.hosts place.sender) view place u (record { hosts = refl; fits = asking.fits; possible = possible }) shown under) small is

    -- where no state has one of those whom no clause permits it
    permitted_unless : ((r : ℕ) (u : UnitState) → Shows (view_of_asker q place.hosts place.sender view) u → IsUnder (scope_at q.keys.now place.hosts place.sender) place u
        → IsSo (scope_at q.keys.now place.hosts place.sender) u (Registration place.sender r) → IsServed (scope_at q.keys.now place.hosts place.sender) q.command u → has senders r ≡ true → ⊥)
        → PermitsAt q place view clauses
    permitted_unless nowhere u shown under served =
        let seen = shown.registrations place.sender place.there in
        at seen.0 (is_one_permitting clauses q.command place (not (seen.0 == 0))) seen.1.0.1 seen.1.1 refl
      where
        at : (r : ℕ) (b : Bool) → has_at view.registrations place.sender r ≡ true → IsSo (scope_at q.keys.now place.hosts place.sender) u (Registration place.sender r)
            → is_one_permitting clauses q.command place (not (r == 0)) ≡ b → IsTrue (list_any (λ clause. clause_permits clause u.registry place.sender q.command) clauses)
        at r true may so is = by_number r u shown under so.1 so.2 ∙ is
        at r false may so is = absurd (nowhere r u shown under so served (are r ∙ and_from _ _ (here r may) (ap not is)))

    -- where some clause permits it with each registration
    pub permitted_to_all : ((r : ℕ) → has senders r ≡ false) → PermitsAt q place view clauses
    permitted_to_all nobody = permitted_unless (λ r u shown under so served one. false≢true (sym (nobody r) ∙ one))

module _ (q : TestedCommand) (place : Place) (view : Possibilities) (clauses : List Clause) (there senders : BitSet) (none new : Tally)
    (asking : IsAsking q place.hosts place.sender view) (possible : has_wide view.reservations place.reservation ≡ true)
    (here : (r : ℕ) → has_at view.registrations place.sender r ≡ true → has there r ≡ true) (are : (r : ℕ) → has senders r ≡ (has there r && not (is_one_permitting clauses q.command place (not (r == 0)))))
    (nothing : (way : ℕ) (i : Item) → has_tallied none way i ≡ false)
    (grows : Grows (view_of_asker q place.hosts place.sender view) q.command q.tests.now none new (HasOneOf (scope_at q.keys.now place.hosts place.sender) place senders))
  where
    -- where no clause permits it and it ends GOOD, some reservation is found of that way
    pub permitted_at : ((x : ℕ) → has_tallied new 3 (Reservation x) ≡ false) → PermitsAt q place view clauses
    permitted_at empty = permitted_unless q place view clauses there senders asking possible here are found
      where
        found : (r : ℕ) (u : UnitState) → Shows (view_of_asker q place.hosts place.sender view) u → IsUnder (scope_at q.keys.now place.hosts place.sender) place u
            → IsSo (scope_at q.keys.now place.hosts place.sender) u (Registration place.sender r) → IsServed (scope_at q.keys.now place.hosts place.sender) q.command u → has senders r ≡ true → ⊥
        found r u shown under so served one =
            let left = number_of place.hosts (effect u place.sender q.command).registry.held in
            false≢true (sym (empty left) ∙ grows.all u 3 (Reservation left) shown (r, one, (under, so))
            (served.free, served.whole, ap (λ tests. first_test tests (good (data_of u.registry q.command))) asking.untested, refl))

    -- a reservation that is found of that way is of a state in which it ends GOOD and no clause permits it
    pub refused_at : (x : ℕ) → has_tallied new 3 (Reservation x) ≡ true → RefusesAt q place view clauses
    refused_at x some = at (grows.only 3 (Reservation x) 0 some asking.idle)
      where
        at : (has_tallied none 3 (Reservation x) ≡ true)
            ⊎ IsFound (view_of_asker q place.hosts place.sender view) q.command q.tests.now (HasOneOf (scope_at q.keys.now place.hosts place.sender) place senders) 3 (Reservation x) 0 → RefusesAt q place view clauses
        at (inl old) = absurd (false≢true (sym (nothing 3 (Reservation x)) ∙ old))
        at (inr found) =
            let r = found.among.0 in
            let unpermitted = (and_parts (has there r) (not (is_one_permitting clauses q.command place (not (r == 0)))) (sym (are r) ∙ found.among.1)).1 in
            record {
              unit = found.unit;
              shown = found.shown;
              reserved = found.among.2.0;
              served = record { idle = found.pending; free = found.leaves.0; whole = found.leaves.1 };
              refused = by_number q place view clauses there senders asking possible here are r found.unit found.shown found.among.2.0 found.among.2.1.1 found.among.2.1.2
                  ∙ not-true (is_one_permitting clauses q.command place (not (r == 0))) unpermitted;
            }

-- ---- one reservation after another

-- a reservation that the view has not
pub not_shown : (s : Scope) (view : Possibilities) (clauses : List Clause) (c : Command) (x : ℕ) → has_wide view.reservations x ≡ false
    → ArePermitted (view_in s view) clauses c x
not_shown s view clauses c x none u shown so served =
    let seen = shown.reservation in
    absurd (false≢true (sym none ∙ subst (λ y. has_wide view.reservations y ≡ true) (one_reservation s u seen.0 x seen.1.1 so) seen.1.0))

pub each_reservation : (q : TestedCommand) (hosts sender : ℕ) (view : Possibilities) (clauses : List Clause) (n : ℕ) → IsAsking q hosts sender view → count_of_reservations hosts ≤ n
    → ((x : ℕ) → x < n → ArePermitted (view_of_asker q hosts sender view) clauses q.command x)
    → PermitsAll q hosts sender view clauses
each_reservation q hosts sender view clauses n asking all permitted x u shown so served =
    let seen = shown.reservation in
    let below = asking.fits.reservations seen.0 seen.1.0 in
    permitted seen.0 (omega arith) u shown seen.1.1 served
