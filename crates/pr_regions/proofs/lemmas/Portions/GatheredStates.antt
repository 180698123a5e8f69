-- The portion of a view that stands for a region: it has the states of the region, and no other.
use Rattle.pr_regions.proofs.Common.{◌≡◌, ◌≢◌, ℕ, zero, suc, ◌<◌, ◌≤◌, Bool, true, false, not, ◌==◌, ◌&&◌, nat_lt, nat_le, if◌then◌else◌, IsTrue, List, length, Option, Some, None, is_some, option_map, refl, sym, ap, ◌∙◌, subst, inl, inr, ◌⊎◌, arith, false≢true, nat_tests, eqb_tells, Held, One, All, Keys, is_empty, is_held_by_all, UnitState, BitSet, has, Scope, Registration, IsSo, number_of, HasSomebody, MOST_KEYS, and_parts, holds_alone, HasHolder, is_empty_from_none, has_wide, Possibilities, Reservation, Shows, has_at, view_in, one_registration, Region, IsUntestedOrRegistered, filter_of, Place}
use Rattle.std.proofs.Common.{IfNone}
use Rattle.std.specs.FinMap as map
use Rattle.std.proofs.lemmas.Bool.{and_from, ltb-true, leb-true}
use Rattle.std.proofs.lemmas.Option.{none-some}
use Rattle.std.proofs.Math.Bool.{and-false}
use Rattle.pr_registry.specs.Registrations.{is_all}
use Rattle.pr_unit.specs.UnitStates.{IsWellFormed}
use Rattle.pr_roles.specs.Fitting.{is_reservation, AreDeclared, are_distinct}
use Rattle.pr_views.specs.declared.portion.Portion.{Portion}
use Rattle.pr_views.specs.Views.{IsSeen}
use Rattle.pr_views.specs.Portions.{TestsRegistered, IsPortion, IsIn, GivesHolder}
use Rattle.pr_views.proofs.lemmas.Possibilities.Numbers.{same_held, reservation_of}
use Rattle.pr_regions.specs.Gathering.{IsPlace, IsUniform, IsProper, IsAt}
use Rattle.pr_regions.specs.inside.Portions.{passes, IsLeftTo, HasTest}

-- the number of its reservation, and that this is one, in the view's scope
pub number_at : (s : Scope) (view : Possibilities) (place : Place) → IsPlace s view place → place.reservation ≡ number_of s.hosts place.held
number_at s view place is = subst (λ n. place.reservation ≡ number_of n place.held) (sym is.hosts) place.number

pub held_at : (s : Scope) (view : Possibilities) (place : Place) → IsPlace s view place → is_reservation s.hosts place.held ≡ true
held_at s view place is = subst (λ n. is_reservation n place.held ≡ true) (sym is.hosts) place.fits

passed_sender : (place : Place) (senders : BitSet) (region : Region) (r : ℕ) → passes place senders region place.sender r ≡ true → has senders r ≡ true
passed_sender place senders region r is =
    let same : (place.sender == place.sender) ≡ true = grind (arith, nat_tests) in
    subst (λ b. has (if b then senders else filter_of region place.held place.sender) r ≡ true) same
    (and_parts _ (not (holds_alone place.held place.sender && r == 0)) is).0

passed_other : (place : Place) (senders : BitSet) (region : Region) (g r : ℕ) → g ≢ place.sender → passes place senders region g r ≡ true → has (filter_of region place.held g) r ≡ true
passed_other place senders region g r other is =
    let same : (g == place.sender) ≡ false = grind (arith, nat_tests) in
    subst (λ b. has (if b then senders else filter_of region place.held g) r ≡ true) same
    (and_parts _ (not (holds_alone place.held g && r == 0)) is).0

-- a single holder is left no registration of none
holder_passes : (place : Place) (senders : BitSet) (region : Region) (h : ℕ) → holds_alone place.held h ≡ true → passes place senders region h 0 ≡ false
holder_passes place senders region h alone = rw alone (grind (arith, nat_tests))

-- ---- somebody is registered

search_below : (keys : Keys) (n : ℕ) → ((q : ℕ) × (k : ℕ) × (q < n) × (map.get keys q ≡ Some k)) ⊎ ((q : ℕ) → q < n → map.get keys q ≡ None)
search_below keys zero = inr (λ q small. absurd (omega arith))
search_below keys (suc n) = at (search_below keys n) (map.get keys n) refl
  where
    at : (((q : ℕ) × (k : ℕ) × (q < n) × (map.get keys q ≡ Some k)) ⊎ ((q : ℕ) → q < n → map.get keys q ≡ None))
        → (o : Option ℕ) → map.get keys n ≡ o
        → ((q : ℕ) × (k : ℕ) × (q < suc n) × (map.get keys q ≡ Some k)) ⊎ ((q : ℕ) → q < suc n → map.get keys q ≡ None)
    at (inl found) o is = inl (found.0, found.1, omega arith, found.3)
    at (inr none) (Some k) is = inl (n, k, omega arith, is)
    at (inr none) None is = inr (λ q small. last q small (eqb_tells q n))
      where
        last : (q : ℕ) → q < suc n → (((q == n) ≡ true) × (q ≡ n)) ⊎ (((q == n) ≡ false) × (q ≢ n)) → map.get keys q ≡ None
        last q small (inl same) = subst (λ m. map.get keys m ≡ None) (sym same.1) is
        last q small (inr other) = none q (let differs = other.1 in omega arith)

-- where somebody is registered, there is one
pub someone : (keys : Keys) (n : ℕ) → ((q k : ℕ) → map.get keys q ≡ Some k → q < n) → is_empty keys ≡ false → (q : ℕ) × (k : ℕ) × (map.get keys q ≡ Some k)
someone keys n below filled = at (search_below keys n)
  where
    at : (((q : ℕ) × (k : ℕ) × (q < n) × (map.get keys q ≡ Some k)) ⊎ ((q : ℕ) → q < n → map.get keys q ≡ None)) → (q : ℕ) × (k : ℕ) × (map.get keys q ≡ Some k)
    at (inl found) = (found.0, found.1, found.3)
    at (inr none) = absurd (false≢true (sym filled ∙ is_empty_from_none keys (λ q. all q (map.get keys q) refl)))
      where
        all : (q : ℕ) (o : Option ℕ) → map.get keys q ≡ o → map.get keys q ≡ None
        all q None is = is
        all q (Some k) is = none q (below q k is)

-- ---- the portion

pub record IsPortionOf (view : Possibilities) (place : Place) (senders : BitSet) (region : Region) (p : Portion) : Type 0 where
  pub sender : p.sender ≡ place.sender
  pub reservation : p.reservation ≡ place.reservation
  pub left : IsLeftTo view place senders region p
  pub tested : HasTest place senders region.somebody p.somebody

gives : (s : Scope) (view : Possibilities) (place : Place) (senders : BitSet) (region : Region) (p : Portion) → IsPlace s view place → IsProper region
    → IsPortionOf view place senders region p → (held : Option Held) → place.held ≡ held → is_reservation s.hosts held ≡ true → GivesHolder p held
gives s view place senders region p is proper of None held fits = tt
gives s view place senders region p is proper of (Some (One kind h)) held fits =
    let parts = and_parts (not (is_all kind)) (nat_lt h s.hosts) fits in
    let below : h < place.hosts = subst (λ n. h < n) is.hosts (ltb-true h s.hosts parts.1) in
    let alone : holds_alone place.held h ≡ true = subst (λ v. holds_alone v h ≡ true) (sym held) (grind (arith, nat_tests)) in
    of.left h 0 below ∙ ap (λ b. has_at view.registrations h 0 && b) (holder_passes place senders region h alone) ∙ and-false (has_at view.registrations h 0)
gives s view place senders region p is proper of (Some (All kind)) held fits = at (has senders 0) refl
  where
    by_all : is_held_by_all place.held ≡ true
    by_all = subst (λ v. is_held_by_all v ≡ true) (sym held) refl

    at : (b : Bool) → has senders 0 ≡ b → (has_at p.registrations p.sender 0 ≡ false) ⊎ TestsRegistered p.somebody
    at false none = inl (subst (λ n. has_at p.registrations n 0 ≡ false) (sym of.sender)
        (of.left place.sender 0 place.there ∙ ap (λ b. has_at view.registrations place.sender 0 && b) (unsent none) ∙ and-false (has_at view.registrations place.sender 0)))
      where
        unsent : has senders 0 ≡ false → passes place senders region place.sender 0 ≡ false
        unsent none =
            let same : (place.sender == place.sender) ≡ true = grind (arith, nat_tests) in
            subst (λ b. (has (if b then senders else filter_of region place.held place.sender) 0 && not (holds_alone place.held place.sender && 0 == 0)) ≡ false) (sym same)
            (ap (λ b. b && not (holds_alone place.held place.sender && 0 == 0)) none)
    at true some = inr (tests region.somebody p.somebody of.tested proper)
      where
        tests : (a b : Option BitSet) → HasTest place senders a b → IsUntestedOrRegistered a → TestsRegistered b
        tests None None none proper = absurd (false≢true (sym none ∙ ap (λ b. b && has senders 0) by_all ∙ some))
        tests None (Some w) another proper = another.2
        tests (Some w) None none proper = absurd none
        tests (Some w) (Some x) same proper = subst (λ y. has y 0 ≡ false) (sym same) proper

pub is_portion : (s : Scope) (view : Possibilities) (place : Place) (senders : BitSet) (region : Region) (p : Portion) → IsPlace s view place → IsProper region
    → IsPortionOf view place senders region p → IsPortion (view_in s view) p
is_portion s view place senders region p is proper of = record {
  sender = subst (λ n. n < s.hosts) (sym of.sender) (subst (λ n. place.sender < n) (sym is.hosts) place.there);
  registrations = λ g r below has. (and_parts (has_at view.registrations g r) _ (sym (of.left g r (subst (λ n. g < n) is.hosts below)) ∙ has)).0;
  reservation = subst (λ n. has_wide view.reservations n ≡ true) (sym of.reservation) is.possible;
  holder = λ held fits number.
      let same = same_held s.hosts place.held held (held_at s view place is) fits (sym (number_at s view place is) ∙ sym of.reservation ∙ number) in
      gives s view place senders region p is proper of held same fits;
}

-- ---- its states

-- the reservation of the place is that of the state
pub same_reservation : (s : Scope) (view : Possibilities) (place : Place) (u : UnitState) → IsPlace s view place → Shows (view_in s view) u → IsSo s u (Reservation place.reservation)
    → u.registry.held ≡ place.held
same_reservation s view place u is shown so =
    let fits = subst (λ n. is_reservation n u.registry.held ≡ true) shown.hosts (reservation_of u.registry shown.formed.registry) in
    same_held s.hosts u.registry.held place.held fits (held_at s view place is) (sym so ∙ number_at s view place is)

pub at_from_in : (s : Scope) (view : Possibilities) (place : Place) (senders : BitSet) (region : Region) (p : Portion) → IsPlace s view place
    → IsPortionOf view place senders region p → (u : UnitState) → IsIn (view_in s view) p u → IsAt (view_in s view) place senders region u
at_from_in s view place senders region p is of u inside =
    let so = subst (λ x. IsSo s u (Reservation x)) of.reservation inside.reservation in
    let held = same_reservation s view place u is inside.shown so in
    record {
      shown = inside.shown;
      reservation = so;
      sender = λ r it. passed_sender place senders region r (passed place.sender r it);
      inside = record {
        registrations = λ g r other it. subst (λ v. has (filter_of region v g) r ≡ true) (sym held) (passed_other place senders region g r other (passed g r it));
        somebody = somebody region.somebody p.somebody of.tested (subst (λ n. HasSomebody s u n (option_map has p.somebody)) of.sender inside.somebody);
      };
    }
  where
    passed : (g r : ℕ) → IsSo s u (Registration g r) → passes place senders region g r ≡ true
    passed g r it =
        (and_parts (has_at view.registrations g r) (passes place senders region g r)
        (sym (of.left g r (subst (λ n. g < n) is.hosts it.0)) ∙ inside.registrations g r it)).1

    somebody : (a b : Option BitSet) → HasTest place senders a b → HasSomebody s u place.sender (option_map has b) → HasSomebody s u place.sender (option_map has a)
    somebody None None none some = tt
    somebody None (Some w) another some = tt
    somebody (Some w) None none some = absurd none
    somebody (Some w) (Some x) same some = subst (λ y. HasSomebody s u place.sender (Some (has y))) same some

-- a registered holder, where one holds alone
holder_registered : (s : Scope) (u : UnitState) (v : Option Held) → u.registry.held ≡ v → IsWellFormed u → (g r : ℕ) → IsSo s u (Registration g r)
    → holds_alone v g ≡ true → (r == 0) ≡ false
holder_registered s u None held formed g r so alone = absurd (false≢true alone)
holder_registered s u (Some (All kind)) held formed g r so alone = absurd (false≢true alone)
holder_registered s u (Some (One kind h)) held formed g zero so alone =
    let same : h ≡ g = grind (arith, nat_tests) in
    let there = (subst (HasHolder u.registry.keys) held formed.registry.held).1 in
    let none = subst (λ n. map.get u.registry.keys n ≡ None) (sym same) so.2 in
    absurd (subst (λ o. IsTrue (is_some o) → ⊥) (sym none) false≢true there)
holder_registered s u (Some (One kind h)) held formed g (suc i) so alone = grind (arith, nat_tests)

pub few_keys : (keys : List ℕ) → AreDeclared keys → length keys ≤ MOST_KEYS
few_keys keys declared = leb-true (length keys) MOST_KEYS (and_parts (nat_le (length keys) MOST_KEYS) (are_distinct (λ j k. j == k) keys) declared.once).0

pub in_from_at : (s : Scope) (view : Possibilities) (place : Place) (senders : BitSet) (region : Region) (p : Portion) → IsPlace s view place → IsUniform senders
    → IsPortionOf view place senders region p → (u : UnitState) → IsAt (view_in s view) place senders region u → IsIn (view_in s view) p u
in_from_at s view place senders region p is uniform of u at = record {
  shown = at.shown;
  reservation = subst (λ x. IsSo s u (Reservation x)) (sym of.reservation) at.reservation;
  registrations = λ g r so.
      of.left g r (subst (λ n. g < n) is.hosts so.0) ∙ and_from _ _ (possible g r so) (and_from _ _ (passed g r so) (single g r so));
  somebody = subst (λ n. HasSomebody s u n (option_map has p.somebody)) (sym of.sender) (somebody region.somebody p.somebody of.tested at.inside.somebody);
}
  where
    held : u.registry.held ≡ place.held
    held = same_reservation s view place u is at.shown at.reservation

    possible : (g r : ℕ) → IsSo s u (Registration g r) → has_at view.registrations g r ≡ true
    possible g r so =
        let seen = at.shown.registrations g so.0 in
        subst (λ n. has_at view.registrations g n ≡ true) (one_registration s u g seen.0 r is.fits.scope seen.1.1 so) seen.1.0.1

    passed : (g r : ℕ) → IsSo s u (Registration g r) → has (if g == place.sender then senders else filter_of region place.held g) r ≡ true
    passed g r so = pick (eqb_tells g place.sender)
      where
        pick : (((g == place.sender) ≡ true) × (g ≡ place.sender)) ⊎ (((g == place.sender) ≡ false) × (g ≢ place.sender))
            → has (if g == place.sender then senders else filter_of region place.held g) r ≡ true
        pick (inl same) = rw same.0 (at.sender r (subst (λ n. IsSo s u (Registration n r)) same.1 so))
        pick (inr other) = rw other.0 (subst (λ v. has (filter_of region v g) r ≡ true) held (at.inside.registrations g r other.1 so))

    single : (g r : ℕ) → IsSo s u (Registration g r) → not (holds_alone place.held g && r == 0) ≡ true
    single g r so = pick (holds_alone place.held g) refl
      where
        pick : (b : Bool) → holds_alone place.held g ≡ b → not (b && r == 0) ≡ true
        pick false is = refl
        pick true alone = ap not (holder_registered s u place.held held at.shown.formed g r so alone)

    another : (w : BitSet) → is_held_by_all place.held ≡ true → has senders 0 ≡ true → ((r : ℕ) → 1 ≤ r → r ≤ MOST_KEYS → has w r ≡ true)
        → HasSomebody s u place.sender (Some (has w))
    another w all free keys = pick (someone u.registry.keys u.registry.hosts (λ q k there. (at.shown.formed.registry.keys q k there).0) (filled u.registry.held refl))
      where
        filled : (v : Option Held) → u.registry.held ≡ v → is_empty u.registry.keys ≡ false
        filled None is = absurd (false≢true (subst (λ v. is_held_by_all v ≡ true) (sym held ∙ is) all))
        filled (Some (One kind h)) is = absurd (false≢true (subst (λ v. is_held_by_all v ≡ true) (sym held ∙ is) all))
        filled (Some (All kind)) is = (subst (HasHolder u.registry.keys) is at.shown.formed.registry.held).1

        pick : (q : ℕ) × (k : ℕ) × (map.get u.registry.keys q ≡ Some k) → HasSomebody s u place.sender (Some (has w))
        pick found = numbered seen.0 seen.1.1
          where
            below : found.0 < s.hosts
            below = subst (λ n. found.0 < n) at.shown.hosts (at.shown.formed.registry.keys found.0 found.1 found.2).0

            seen : (r : ℕ) × IsSeen (view_in s view) u (Registration found.0 r)
            seen = at.shown.registrations found.0 below

            numbered : (r : ℕ) → IsSo s u (Registration found.0 r) → HasSomebody s u place.sender (Some (has w))
            numbered zero so = absurd (none-some found.1 (sym so.2 ∙ found.2))
            numbered (suc i) so = (found.0, suc i, elsewhere, so, keys (suc i) (omega arith) (let few = few_keys s.keys is.fits.scope.keys in let small = so.1 in omega arith))
              where
                elsewhere : found.0 ≢ place.sender
                elsewhere same =
                    let none = uniform free (suc i) (at.sender (suc i) (subst (λ n. IsSo s u (Registration n (suc i))) same so)) in
                    absurd (omega arith)

    somebody : (a b : Option BitSet) → HasTest place senders a b → HasSomebody s u place.sender (option_map has a) → HasSomebody s u place.sender (option_map has b)
    somebody None None none some = tt
    somebody None (Some w) more some =
        let parts = and_parts (is_held_by_all place.held) (has senders 0) more.0 in
        another w parts.0 parts.1 more.1
    somebody (Some w) None none some = absurd none
    somebody (Some w) (Some x) same some = subst (λ y. HasSomebody s u place.sender (Some (has y))) (sym same) some

-- ---- of an answer that may be none

pub if_none : {X : Type 0} (o : Option X) {P Q : Type 0} → (P → Q) → IfNone o P → IfNone o Q
if_none None f is = f is
if_none (Some x) f is = is
