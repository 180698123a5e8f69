-- READ KEYS and READ RESERVATION: which arm takes their data.
use Rattle.pr_domain.proofs.Common.{◌≡◌, ℕ, ◌<◌, ◌≤◌, true, false, ◌||◌, List, length, IfSome, IfNone, ◌==◌, Some, None, All, Any, Option, sym, refl, ap, ◌∙◌, subst, arith, false≢true, and_parts, nat_tests, has, BitSet, Command, State, key_of, good, data_of, UnitState, test_fits, matches, Test, view_in, Scope, Shows, Possibilities, one_registration, IsPlace, IsAt, purpose_of, is_not_admitted, first_test, standing_of, Place, Branch, Reading, Transition, same_reservation, arm_of, IsRight, HasBoth, IsOwners, IsReadAt, MOST_ARMS}
use Rattle.std.proofs.Common.{position}
use Rattle.std.proofs.lemmas.List.Elements.{All-weaker, Contains-get_or}
use Rattle.std.proofs.lemmas.List.Quantifiers.{position-Some}
use Rattle.pr_cdb.specs.declared.command.Command.TheVariants as command
use Rattle.pr_script.specs.declared.script.Test.TheVariants as test
use Rattle.pr_script.specs.Grammar.{is_read_keys, is_read_reservation, has_sense_digit, stands_under}
use Rattle.pr_script.proofs.lemmas.Takes.AlikeReplies.{unread_alike}
use Rattle.pr_script.specs.declared.landing.Class.TheVariants as class
use Rattle.pr_unit.specs.declared.demand.Demand.TheVariants.{Look}
use Rattle.pr_regions.specs.declared.region.Ending.TheVariants as ending
use Rattle.pr_regions.specs.Transitions.{Does, never, tells_nobody}
use Rattle.pr_regions.specs.Readings.{AreReadings, IsProperReading}
use Rattle.pr_regions.specs.Regions.{Ends, Meets, IsInRegion}
use Rattle.pr_regions.proofs.lemmas.Parts.Endings.{same_ends}
use Rattle.pr_regions.specs.Gathering.{IsProper}
use Rattle.pr_domain.specs.inside.Tallies.{way_of, IsRightReading}
use Rattle.pr_domain.specs.inside.Reporting.{IsBlind, takes, AreBlind}
use Rattle.pr_domain.proofs.lemmas.Reporting.MatchingTests.{first_of_class}
use Rattle.pr_regions.proofs.lemmas.Portions.GatheredStates.{number_at}
use Rattle.pr_domain.proofs.lemmas.Tallies.Requests.{only_uniform, sender_is}

-- the way is that of the arm
pub arm_way : (tests : List Test) (u : UnitState) (c : Command) (arm : Option ℕ) (way : ℕ) → length tests ≤ MOST_ARMS → (IfSome arm (λ n. n < MOST_ARMS) → way ≡ way_of arm) → IfNone arm (way ≡ 0)
    → first_test tests (good (data_of u.registry c)) ≡ arm → first_test tests (good (data_of u.registry c)) ≡ arm_of way
arm_way tests u c None way few some none is = is ∙ ap arm_of (sym none)
arm_way tests u c (Some n) way few some none is =
    let found = position-Some (λ t. matches t (good (data_of u.registry c))) tests n test.Good is in
    let small : n < MOST_ARMS = (let e = found.0 in omega arith) in
    is ∙ ap arm_of (sym (some small))

pub reading_right : (s : Scope) (c : Command) (tests : List Test) (view : Possibilities) (place : Place) (r : ℕ) (w : BitSet) (b : Reading) (branch : Branch) (change : Transition) (way : ℕ)
    → IsRightReading s c tests view place r b → ((m : ℕ) → has w m ≡ (m == r)) → branch.region ≡ b.region → branch.ending ≡ ending.Good change
    → Does change None never place.reservation tells_nobody
    → (IfSome b.arm (λ n. n < MOST_ARMS) → way ≡ way_of b.arm) → IfNone b.arm (way ≡ 0) → IsRight s c tests view place w branch way
reading_right s c tests view place r w b branch change way right only region ends does some none = record {
  own = right.own;
  is = right.is;
  uniform = only_uniform r w only;
  proper = subst (λ x. IsProper x) (sym region) right.proper;
  ends = λ u at. subst (λ e. Ends s s.own e u c) (sym ends) (right.looks change does u at.shown (both u at));
  taken = λ u at free. arm_way tests u c b.arm way right.few some none (right.taken u at.shown (both u at, subst (λ x. IsInRegion s place.sender x u) region at.inside));
}
  where
    both : (u : UnitState) → IsAt (view_in s view) place w branch.region u → HasBoth s place r u
    both u at = (at.reservation, sender_is s view place r w branch.region u right.is only at)

pub read_at : (s : Scope) (view : Possibilities) (place : Place) (r : ℕ) (w : BitSet) (b : Reading) (u : UnitState) → IsPlace s view place → ((m : ℕ) → has w m ≡ (m == r))
    → IsAt (view_in s view) place w b.region u → IsReadAt s view place r b u
read_at s view place r w b u is only at = ((at.reservation, sender_is s view place r w b.region u is only at), at.inside)

pub at_read : (s : Scope) (view : Possibilities) (place : Place) (r : ℕ) (w : BitSet) (b : Reading) (u : UnitState) → IsPlace s view place → ((m : ℕ) → has w m ≡ (m == r))
    → Shows (view_in s view) u → IsReadAt s view place r b u → IsAt (view_in s view) place w b.region u
at_read s view place r w b u is only shown read = record {
  shown = shown;
  reservation = read.0.0;
  sender = λ t so. let same = one_registration s u place.sender t r is.fits.scope so read.0.1 in only t ∙ grind (arith, nat_tests);
  inside = read.1;
}

-- ---- what is known of them

-- a command whose purpose is to look, and whose key is accepted
ends_so : (s : Scope) (view : Possibilities) (place : Place) (r : ℕ) (c : Command) → purpose_of s.keys c ≡ Some Look → ((k : Option ℕ) → is_not_admitted k c ≡ false) → place.sender ≡ s.own → IsPlace s view place
    → (change : Transition) → Does change None never place.reservation tells_nobody → (u : UnitState) → Shows (view_in s view) u → HasBoth s place r u → Ends s s.own (ending.Good change) u c
ends_so s view place r c asks accepted own is change does u shown both =
    subst (λ n. Ends s n (ending.Good change) u c) own
    (same_ends s Look place.held place.sender (standing_of Look r) u c s.hosts change tt meets refl refl refl refl refl (subst (λ x. Does change None never x tells_nobody) (number_at s view place is) does))
  where
    meets : Meets s Look place.held place.sender (standing_of Look r) u c
    meets = record {
      scope = is.fits.scope;
      below = subst (λ n. place.sender < n) (sym is.hosts) place.there;
      formed = shown.formed;
      hosts = shown.hosts;
      numbered = λ g below. let seen = shown.registrations g below in (seen.0, seen.1.1);
      held = same_reservation s view place u is shown both.0;
      standing = λ t so. ap (standing_of Look) (one_registration s u place.sender t r is.fits.scope so both.1);
      purpose = asks;
      accepted = accepted (key_of u.registry place.sender);
    }

-- such a command only looks
look_ends : (s : Scope) (view : Possibilities) (place : Place) (r : ℕ) (c : Command) → (is_read_keys c || is_read_reservation c) ≡ true → place.sender ≡ s.own → IsPlace s view place
    → (change : Transition) → Does change None never place.reservation tells_nobody → (u : UnitState) → Shows (view_in s view) u → HasBoth s place r u → Ends s s.own (ending.Good change) u c
look_ends s view place r (command.ReadKeys alloc) reads own is change does u shown both = ends_so s view place r (command.ReadKeys alloc) refl (λ k. refl) own is change does u shown both
look_ends s view place r (command.ReadReservation alloc) reads own is change does u shown both = ends_so s view place r (command.ReadReservation alloc) refl (λ k. refl) own is change does u shown both
look_ends s view place r _ reads own is change does u shown both = absurd (false≢true reads)

pub right_readings : (s : Scope) (keys : List ℕ) (c : Command) (tests : List Test) (view : Possibilities) (place : Place) (r : ℕ) (readings : List Reading) → IsOwners s keys view place
    → (is_read_keys c || is_read_reservation c) ≡ true → length tests ≤ MOST_ARMS → ((hosts : ℕ) → AreReadings keys hosts tests c place.held place.sender r readings)
    → All IsProperReading readings → All (IsRightReading s c tests view place r) readings
right_readings s keys c tests view place r readings owners reads few are proper k d small = record {
  own = owners.own;
  is = owners.is;
  few = few;
  reads = reads;
  proper = proper k d small;
  looks = look_ends s view place r c reads owners.own owners.is;
  taken = λ u shown at.
      (are s.hosts).right s u _ owners.same_keys refl owners.is.fits.scope shown.formed shown.hosts (λ g below. let seen = shown.registrations g below in (seen.0, seen.1.1))
      (same_reservation s view place u owners.is shown at.0.0) at.0.1 (Contains-get_or readings k d small) at.1;
}

pub readings_cover : (s : Scope) (keys : List ℕ) (c : Command) (tests : List Test) (view : Possibilities) (place : Place) (r : ℕ) (readings : List Reading) → IsOwners s keys view place
    → ((hosts : ℕ) → AreReadings keys hosts tests c place.held place.sender r readings)
    → (u : UnitState) → Shows (view_in s view) u → HasBoth s place r u → Any (λ b. IsReadAt s view place r b u) readings
readings_cover s keys c tests view place r readings owners are u shown both =
    let read = (are s.hosts).covered s u owners.same_keys refl owners.is.fits.scope shown.formed shown.hosts (λ g below. let seen = shown.registrations g below in (seen.0, seen.1.1))
    (same_reservation s view place u owners.is shown both.0) both.1 in
    (read.listed.0, read.reading, read.listed.1, read.listed.2, (both, read.inside))

-- ---- the other commands

-- no test looks at the data of a command that returns none of it
blind : (keys : List ℕ) (c : Command) (tests : List Test) → (is_read_keys c || is_read_reservation c) ≡ false → All (λ t. test_fits keys c t ≡ true) tests → AreBlind tests class.Good
blind keys c tests none fit = All-weaker (λ t. test_fits keys c t ≡ true) IsBlind (λ t is. unread_alike c t none (and_parts (stands_under c t) _ (and_parts (has_sense_digit t) _ is).1).0) tests fit

pub arm_taken : (keys : List ℕ) (c : Command) (tests : List Test) (arm : Option ℕ) (way : ℕ) (u : State) → (is_read_keys c || is_read_reservation c) ≡ false → All (λ t. test_fits keys c t ≡ true) tests
    → length tests ≤ MOST_ARMS → arm ≡ position (λ t. takes t class.Good) tests → (IfSome arm (λ n. n < MOST_ARMS) → way ≡ way_of arm) → IfNone arm (way ≡ 0)
    → first_test tests (good (data_of u c)) ≡ arm_of way
arm_taken keys c tests arm way u none fit few is some nothing =
    first_of_class tests class.Good (good (data_of u c)) refl (blind keys c tests none fit) ∙ at arm is some nothing
  where
    at : (arm : Option ℕ) → arm ≡ position (λ t. takes t class.Good) tests → (IfSome arm (λ n. n < MOST_ARMS) → way ≡ way_of arm) → IfNone arm (way ≡ 0) → position (λ t. takes t class.Good) tests ≡ arm_of way
    at None is some nothing = sym is ∙ ap arm_of (sym nothing)
    at (Some n) is some nothing =
        let found = position-Some (λ t. takes t class.Good) tests n test.Good (sym is) in
        let small : n < MOST_ARMS = (let e = found.0 in omega arith) in
        sym is ∙ ap arm_of (sym (some small))
