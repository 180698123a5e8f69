-- The states that a view shows, by their reservation and the owner's registration, one after another.
use Rattle.pr_domain.proofs.Common.{◌≡◌, ℕ, ◌+◌, ◌<◌, ◌≤◌, true, false, ◌||◌, ◌≢◌, ◌⊎◌, List, length, sym, ◌∙◌, subst, inl, inr, arith, false≢true, cases_lt, has_wide, has, BitSet, Command, UnitState, Test, has_at, view_in, Scope, count_of_reservations, number_of, Item, Registration, IsSo, View, Shows, Possibilities, holds_at-get_or, IsPlace, Place, Tally, has_tallied, IsFound, Grows, IsTally, HasBoth, HasOneOf, IsUnder, IsReserved, IsOwners, IsOfScope}
use Rattle.std.proofs.Common.{slice_index_or, ⊎_elim}
use Rattle.std.proofs.lemmas.Bool.{or_left, or_right, or_cases}
use Rattle.pr_views.proofs.lemmas.Rooms.Places.{holds_at_past}
use Rattle.pr_regions.proofs.lemmas.Showing.ShownStates.{is_place}
use Rattle.pr_domain.proofs.lemmas.Tallies.Growth.{grows_as, grows_then, grows_from_none}

-- ---- registrations

-- those of one word, and those of another
pub senders_joined : (v : View) (s : Scope) (c : Command) (tests : List Test) (place : Place) (done more both : BitSet) (old mid new : Tally) → ((m : ℕ) → has both m ≡ (has done m || has more m))
    → Grows v c tests old mid (HasOneOf s place done) → Grows v c tests mid new (HasOneOf s place more) → Grows v c tests old new (HasOneOf s place both)
senders_joined v s c tests place done more both old mid new joined =
    grows_then v c tests old mid new (HasOneOf s place done) (HasOneOf s place more) (HasOneOf s place both)
    (λ u shown one. (one.0, joined one.0 ∙ or_left (has done one.0) (has more one.0) one.1, one.2))
    (λ u shown one. (one.0, joined one.0 ∙ or_right (has done one.0) (has more one.0) one.1, one.2))
    (λ u shown one. ⊎_elim (λ is. inl (one.0, is, one.2)) (λ is. inr (one.0, is, one.2)) (or_cases (has done one.0) (has more one.0) (sym (joined one.0) ∙ one.1)))

-- those of one word, where the other has the same registrations of those that there are
pub senders_same : (s : Scope) (c : Command) (tests : List Test) (v : View) (place : Place) (done senders : BitSet) (old new : Tally)
    → ((r : ℕ) → has done r ≡ true → has senders r ≡ true) → ((r : ℕ) → r ≤ length s.keys → has senders r ≡ true → has done r ≡ true)
    → Grows v c tests old new (HasOneOf s place done) → Grows v c tests old new (HasOneOf s place senders)
senders_same s c tests v place done senders old new asked all =
    grows_as v c tests old new (HasOneOf s place done) (HasOneOf s place senders)
    (λ u shown one. (one.0, asked one.0 one.1, one.2)) (λ u shown one. (one.0, all one.0 one.2.1.1 one.1, one.2))

-- what is at a place of the list
pub has_here : (words : List BitSet) (g r : ℕ) (d : BitSet) → has_at words g r ≡ true → has (slice_index_or words g d) r ≡ true
has_here words g r d is = at (cases_lt g (length words))
  where
    at : (g < length words) ⊎ (length words ≤ g) → has (slice_index_or words g d) r ≡ true
    at (inl small) = sym (holds_at-get_or (λ w. has w r) words g d small) ∙ is
    at (inr past) = absurd (false≢true (sym (holds_at_past (λ w. has w r) words g past) ∙ is))

-- where they are all that are possible, every state under the reservation
pub senders_all : (s : Scope) (c : Command) (tests : List Test) (view : Possibilities) (place : Place) (g : ℕ) (d : BitSet) (old new : Tally) → IsPlace s view place → g ≡ place.sender
    → Grows (view_in s view) c tests old new (HasOneOf s place (slice_index_or view.registrations g d)) → Grows (view_in s view) c tests old new (IsUnder s place)
senders_all s c tests view place g d old new is same =
    grows_as (view_in s view) c tests old new (HasOneOf s place (slice_index_or view.registrations g d)) (IsUnder s place)
    (λ u shown one. one.2.0)
    (λ u shown so.
    let seen = shown.registrations place.sender (subst (λ m. place.sender < m) (sym is.hosts) place.there) in
    (seen.0, has_here view.registrations g seen.0 d (subst (λ h. has_at view.registrations h seen.0 ≡ true) (sym same) seen.1.0.1), (so, seen.1.1)))

pub senders_none : (s : Scope) (c : Command) (tests : List Test) (v : View) (place : Place) (none : BitSet) (t : Tally) → ((m : ℕ) → has none m ≡ false) → Grows v c tests t t (HasOneOf s place none)
senders_none s c tests v place none t nothing = grows_from_none v c tests t (HasOneOf s place none) (λ u shown one. false≢true (sym (nothing one.0) ∙ one.1))

-- one of registrations among which there is no other than this one
pub this_alone : (s : Scope) (place : Place) (registration : ℕ) (alike : BitSet) → ((r : ℕ) → has alike r ≡ true → r ≡ registration) → (u : UnitState) → HasOneOf s place alike u → HasBoth s place registration u
this_alone s place registration alike alone u one = (one.2.0, subst (λ n. IsSo s u (Registration place.sender n)) (alone one.0 one.1) one.2.1)

-- ---- one reservation after another

-- a reservation that the view has not does not stand
pub reservation_skipped : (s : Scope) (c : Command) (tests : List Test) (view : Possibilities) (n : ℕ) (old mid : Tally) → has_wide view.reservations n ≡ false
    → Grows (view_in s view) c tests old mid (IsReserved s n) → Grows (view_in s view) c tests old mid (IsReserved s (n + 1))
reservation_skipped s c tests view n old mid hasnt =
    grows_as (view_in s view) c tests old mid (IsReserved s n) (IsReserved s (n + 1)) (λ u shown below. omega arith) (λ u shown below. let other = none u shown in omega arith)
  where
    none : (u : UnitState) → Shows (view_in s view) u → number_of s.hosts u.registry.held ≢ n
    none u shown so = false≢true (sym hasnt ∙ subst (λ x. has_wide view.reservations x ≡ true) (shown.reservation.1.1 ∙ so) shown.reservation.1.0)

-- ---- all of them

pub tally_of_all : (s : Scope) (hosts own : ℕ) (keys : List ℕ) (c : Command) (tests : List Test) (view : Possibilities) (n : ℕ) (none t : Tally) → IsOfScope s hosts own keys view
    → n ≡ count_of_reservations hosts → ((way : ℕ) (i : Item) → has_tallied none way i ≡ false) → Grows (view_in s view) c tests none t (IsReserved s n) → IsTally (view_in s view) c tests t
tally_of_all s hosts own keys c tests view n none t of all nothing grows = record {
  all = λ u way i shown leaves. grows.all u way i shown (reserved u shown) leaves;
  only = λ way i q has pending. found way i q (grows.only way i q has pending);
}
  where
    reserved : (u : UnitState) → Shows (view_in s view) u → IsReserved s n u
    reserved u shown =
        let small = of.fits.reservations shown.reservation.0 shown.reservation.1.0 in
        let many = subst (λ h. shown.reservation.0 < count_of_reservations h) of.same_hosts small in
        subst (λ m. number_of s.hosts u.registry.held < m) (sym all) (subst (λ x. x < count_of_reservations hosts) shown.reservation.1.1 many)

    found : (way : ℕ) (i : Item) (q : ℕ) → (has_tallied none way i ≡ true) ⊎ IsFound (view_in s view) c tests (IsReserved s n) way i q → IsFound (view_in s view) c tests (λ u. Unit {0}) way i q
    found way i q (inl has) = absurd (false≢true (sym (nothing way i) ∙ has))
    found way i q (inr is) = record { unit = is.unit; shown = is.shown; among = tt; leaves = is.leaves; pending = is.pending }

-- the place of a reservation
pub is_owners : (s : Scope) (hosts own : ℕ) (keys : List ℕ) (view : Possibilities) (x : ℕ) (place : Place) → IsOfScope s hosts own keys view → has_wide view.reservations x ≡ true
    → place.hosts ≡ hosts → place.sender ≡ own → place.reservation ≡ x → IsOwners s keys view place
is_owners s hosts own keys view x place of has is_hosts is_sender is_it = record {
  own = is_sender ∙ sym of.same_own;
  same_keys = of.same_keys;
  is = is_place s view place hosts x of.same_hosts of.fits has is_hosts is_it;
}
