-- What a clause leads to under one reservation, by how its sender stands to what it asks for.
use Rattle.pr_interference.proofs.Common.{◌≡◌, ℕ, zero, suc, ◌<◌, ◌≤◌, Bool, true, false, not, ◌||◌, List, if◌then◌else◌, Some, None, Option, sym, refl, ap, ◌∙◌, subst, arith, false≢true, and_parts, and_from, has, BitSet, Command, State, key_of, is_registered, IsKey, Held, UnitState, effect, is_action, AreDeclared, names, holds, Clause, has_at, view_in, Scope, Item, Registration, Reservation, IsSo, Shows, IsAt, purpose_of, Changes, Place, Purpose, Branch, Transition, same_reservation, few_keys, Onlooker, purpose_for, StandingLeads, IsWatched, Any, IsLedBy, IsLeftBy, ClauseLeaves, MOST_KEYS}
use Rattle.std.proofs.Common.{is_some}
use Rattle.pr_unit.specs.Conduct.{command_conflicts, command_fault}
use Rattle.pr_unit.specs.Demands.{is_not_admitted}
use Rattle.pr_views.proofs.lemmas.Possibilities.Numbers.{key_there}
use Rattle.pr_regions.specs.declared.region.Ending.{Ending}
use Rattle.pr_regions.specs.declared.region.Ending.TheVariants as ending
use Rattle.pr_regions.specs.declared.purpose.Standing.{Standing}
use Rattle.pr_regions.specs.declared.purpose.Standing.TheVariants.{Unregistered, Named, Other}
use Rattle.pr_regions.specs.Conditions.{holds_as}
use Rattle.pr_regions.specs.Regions.{names as names_key, standing_of, Meets, Ends, AreBranches}
use Rattle.pr_regions.specs.Gathering.{IsUniform}
use Rattle.pr_regions.proofs.lemmas.Conditions.Senders.{holds_by}
use Rattle.pr_interference.specs.inside.Interfering.{IsFree}
use Rattle.pr_interference.specs.inside.Clauses.{refuses_strangers, is_registered_as, may_send, AreSenders}
use Rattle.pr_interference.proofs.lemmas.Clauses.Spellings.{not_refused, strangers_refused, Spells, spells, spells_stranger}

-- ---- who stands so

registered_as : (p : Purpose) (i : ℕ) → is_registered_as (standing_of p (suc i)) ≡ true
registered_as p i = at (names_key p (suc i))
  where
    at : (b : Bool) → is_registered_as (if b then Named else Other) ≡ true
    at true = refl
    at false = refl

-- the sender of a standing: its number, and its key if it is registered
pub record HasKey (u : State) (sender : ℕ) (standing : Standing) : Type 0 where
  pub key : Option ℕ
  pub is : key_of u sender ≡ key
  pub registered : is_registered_as standing ≡ is_some key

pub has_key : (s : Scope) (p : Purpose) (standing : Standing) (sender r : ℕ) (u : UnitState) → IsSo s u (Registration sender r) → standing_of p r ≡ standing → HasKey u.registry sender standing
has_key s p standing sender zero u so stands = record { key = None; is = so.2; registered = ap is_registered_as (sym stands) }
has_key s p standing sender (suc i) u so stands =
    let key = key_there s.keys i so.1 in
    record { key = Some key.0; is = so.2 ∙ key.1; registered = ap is_registered_as (sym stands) ∙ registered_as p i }

registered_by : (u : State) (sender : ℕ) (standing : Standing) → HasKey u sender standing → is_registered u sender ≡ is_registered_as standing
registered_by u sender standing key = ap is_some key.is ∙ sym key.registered

-- senders that stand so have no other standing
pub uniform : (p : Purpose) (standing : Standing) (word : BitSet) → AreSenders p standing word → IsUniform word
uniform p standing word senders none r is = at r (senders.only r is)
  where
    here : Unregistered ≡ standing
    here = senders.only 0 none

    at : (r : ℕ) → standing_of p r ≡ standing → r ≡ 0
    at zero stands = refl
    at (suc i) stands = absurd (false≢true (ap is_registered_as (here ∙ sym stands) ∙ registered_as p i))

-- ---- who may not send

pub none_send : (s : Scope) (o : Onlooker) (place : Place) (clause : Clause) (p : Purpose) (standing : Standing) (u w : UnitState) → IsWatched s o place
    → may_send clause.condition p place.held place.sender standing ≡ false
    → StandingLeads (view_in s o.view) clause place.sender place.reservation p standing u w → ⊥
none_send s o place clause p standing u w is none leads = false≢true (sym none ∙ may)
  where
    leading : IsFree clause place.sender u leads.leads.command
    leading = leads.leads.free

    below : place.sender < s.hosts
    below = subst (λ n. place.sender < n) (sym is.known.hosts) place.there

    key : HasKey u.registry place.sender standing
    key = let seen = leads.leads.shown.registrations place.sender below in has_key s p standing place.sender seen.0 u seen.1.1 (leads.stands seen.0 seen.1.1)

    held : u.registry.held ≡ place.held
    held = same_reservation s o.view place u is.known leads.leads.shown leads.leads.reserved

    holding : holds_as clause.condition place.held place.sender (is_registered_as standing) ≡ true
    holding =
        (λ i. holds_as clause.condition (sym held i) place.sender (sym (registered_by u.registry place.sender standing key) i))
        ∙ sym (holds_by clause.condition u.registry place.sender)
        ∙ (and_parts (names clause.action leads.leads.command) (holds clause.condition u.registry place.sender) leading.permitted).1

    admitted : (b : Bool) → refuses_strangers p ≡ b → (k : Option ℕ) → key_of u.registry place.sender ≡ k → (is_some k || not b) ≡ true
    admitted b is (Some k) known = refl
    admitted false is None known = refl
    admitted true is None known =
        absurd (false≢true (sym (not_refused u.registry place.sender leads.leads.command leading.free) ∙ ap (λ k. is_not_admitted k leads.leads.command) known
        ∙ strangers_refused s.keys leads.leads.command p leads.leads.asked is))

    may : may_send clause.condition p place.held place.sender standing ≡ true
    may = and_from (holds_as clause.condition place.held place.sender (is_registered_as standing)) (is_registered_as standing || not (refuses_strangers p)) holding
        (ap (λ b. b || not (refuses_strangers p)) key.registered ∙ admitted (refuses_strangers p) refl key.key key.is)

-- nobody stands so that the view does not have among those who do
pub none_among : (s : Scope) (o : Onlooker) (place : Place) (clause : Clause) (p : Purpose) (standing : Standing) (senders : BitSet) (u w : UnitState) → IsWatched s o place → AreSenders p standing senders
    → ((r : ℕ) → has_at o.view.registrations place.sender r ≡ true → has senders r ≡ false) → StandingLeads (view_in s o.view) clause place.sender place.reservation p standing u w → ⊥
none_among s o place clause p standing senders u w is are none leads =
    let seen = leads.leads.shown.registrations place.sender (subst (λ n. place.sender < n) (sym is.known.hosts) place.there) in
    let few : seen.0 ≤ MOST_KEYS = (let few = few_keys s.keys is.known.fits.scope.keys in let small = seen.1.1.1 in omega arith) in
    false≢true (sym (none seen.0 seen.1.0.1) ∙ are.all seen.0 few (leads.stands seen.0 seen.1.1))

-- ---- what branches lead to

meets : (s : Scope) (o : Onlooker) (place : Place) (p : Purpose) (standing : Standing) (u : UnitState) (c : Command) → IsWatched s o place
    → Shows (view_in s o.view) u → IsSo s u (Reservation place.reservation) → ((r : ℕ) → IsSo s u (Registration place.sender r) → standing_of p r ≡ standing)
    → purpose_of s.keys c ≡ Some p → is_not_admitted (key_of u.registry place.sender) c ≡ false → Meets s p place.held place.sender standing u c
meets s o place p standing u c is shown reserved stands asked accepted = record {
  scope = is.known.fits.scope;
  below = subst (λ n. place.sender < n) (sym is.known.hosts) place.there;
  formed = shown.formed;
  hosts = shown.hosts;
  numbered = λ g there. let seen = shown.registrations g there in (seen.0, seen.1.1);
  held = same_reservation s o.view place u is.known shown reserved;
  standing = stands;
  purpose = asked;
  accepted = accepted;
}

-- a branch in whose region a command ends GOOD
ended : (s : Scope) (sender : ℕ) (e : Ending) (u : UnitState) (c : Command) → command_conflicts u.registry sender c ≡ false → command_fault u.registry sender c ≡ None → Ends s sender e u c
    → (change : Transition) × (e ≡ ending.Good change) × Changes s sender change u (effect u sender c)
ended s sender ending.Conflict u c free whole ends = absurd (false≢true (sym free ∙ ends))
ended s sender (ending.Fault sense) u c free whole ends = let bad : None ≡ Some sense = sym whole ∙ ends.1 in cc
ended s sender (ending.Good change) u c free whole ends = (change, refl, ends.2)

pub led_by_branches : (s : Scope) (o : Onlooker) (place : Place) (clause : Clause) (p : Purpose) (standing : Standing) (senders : BitSet) (branches : List Branch) (u w : UnitState)
    → IsWatched s o place → AreSenders p standing senders → AreBranches place.hosts p place.held place.sender standing branches
    → StandingLeads (view_in s o.view) clause place.sender place.reservation p standing u w
    → Any (λ b. IsLedBy s o.view place senders b u w) branches
led_by_branches s o place clause p standing senders branches u w is are right leads =
    let c = leads.leads.command in
    let free = leads.leads.free in
    let met = meets s o place p standing u c is leads.leads.shown leads.leads.reserved leads.stands leads.leads.asked (not_refused u.registry place.sender c free.free) in
    let decided = right s u c is.known.hosts met in
    let covered = decided.covered in
    let end = ended s place.sender covered.branch.ending u c free.free free.whole (decided.right covered.branch covered.listed covered.inside) in (
      covered.listed.0,
      covered.branch,
      covered.listed.1,
      covered.listed.2,
      record {
        change = end.0;
        good = end.1;
        at = record {
          shown = leads.leads.shown;
          reservation = leads.leads.reserved;
          sender = λ r so. are.all r (let few = few_keys s.keys is.known.fits.scope.keys in let small = so.1 in omega arith) (leads.stands r so);
          inside = covered.inside;
        };
        changes = subst (λ x. Changes s place.sender end.0 u x) (sym leads.leads.after) end.2;
      },
    )

spelled : (s : Scope) (u : State) (sender : ℕ) (clause : Clause) (p : Purpose) (held : Option Held) (standing : Standing) → AreDeclared s.keys → is_action s.keys clause.action ≡ true
    → ((k : ℕ) → key_of u sender ≡ Some k → IsKey k) → purpose_for s.keys clause.action held ≡ Some p → may_send clause.condition p held sender standing ≡ true
    → (key : Option ℕ) → key_of u sender ≡ key → is_registered_as standing ≡ is_some key → Spells s.keys clause.action key p
spelled s u sender clause p held standing declared fits keys meant may (Some k) is registered = spells s.keys clause.action held k p declared fits (keys k is) meant
spelled s u sender clause p held standing declared fits keys meant may None is registered = spells_stranger s.keys clause.action held p declared fits (admits (refuses_strangers p) refl) meant
  where
    part : (is_registered_as standing || not (refuses_strangers p)) ≡ true
    part = (and_parts (holds_as clause.condition held sender (is_registered_as standing)) (is_registered_as standing || not (refuses_strangers p)) may).1

    admits : (b : Bool) → refuses_strangers p ≡ b → refuses_strangers p ≡ false
    admits false is = is
    admits true is = absurd (false≢true (sym (λ i. registered i || not (is i)) ∙ part))

pub left_by_branches : (s : Scope) (o : Onlooker) (place : Place) (clause : Clause) (p : Purpose) (standing : Standing) (senders : BitSet) (branches : List Branch) (i : Item)
    → IsWatched s o place → AreSenders p standing senders → AreBranches place.hosts p place.held place.sender standing branches
    → is_action s.keys clause.action ≡ true → purpose_for s.keys clause.action place.held ≡ Some p → may_send clause.condition p place.held place.sender standing ≡ true
    → Any (λ b. IsLeftBy s o.view place senders b i) branches → ClauseLeaves (view_in s o.view) clause place.sender i
left_by_branches s o place clause p standing senders branches i is are right fits meant may among = (u, after, record { shown = at.shown; command = spelt.command; free = free; after = refl }, left.changed.is after good.2)
  where
    left : IsLeftBy s o.view place senders among.1 i
    left = among.4

    u : UnitState
    u = left.changed.from

    at : IsAt (view_in s o.view) place senders among.1.region u
    at = left.changed.at

    below : place.sender < s.hosts
    below = subst (λ n. place.sender < n) (sym is.known.hosts) place.there

    stands : (r : ℕ) → IsSo s u (Registration place.sender r) → standing_of p r ≡ standing
    stands r so = are.only r (at.sender r so)

    key : HasKey u.registry place.sender standing
    key = let seen = at.shown.registrations place.sender below in has_key s p standing place.sender seen.0 u seen.1.1 (stands seen.0 seen.1.1)

    held : u.registry.held ≡ place.held
    held = same_reservation s o.view place u is.known at.shown at.reservation

    spelt : Spells s.keys clause.action key.key p
    spelt = spelled s u.registry place.sender clause p place.held standing is.known.fits.scope.keys fits (λ k known. (at.shown.formed.registry.keys place.sender k known).1) meant may key.key key.is key.registered

    holding : holds clause.condition u.registry place.sender ≡ true
    holding =
        holds_by clause.condition u.registry place.sender
        ∙ (λ i. holds_as clause.condition (held i) place.sender (registered_by u.registry place.sender standing key i))
        ∙ (and_parts (holds_as clause.condition place.held place.sender (is_registered_as standing)) (is_registered_as standing || not (refuses_strangers p)) may).0

    met : Meets s p place.held place.sender standing u spelt.command
    met = meets s o place p standing u spelt.command is at.shown at.reservation stands spelt.asked (ap (λ k. is_not_admitted k spelt.command) key.is ∙ spelt.accepted)

    good : Ends s place.sender (ending.Good left.change) u spelt.command
    good = subst (λ e. Ends s place.sender e u spelt.command) left.good ((right s u spelt.command is.known.hosts met).right among.1 (among.0, among.2, among.3) at.inside)

    free : IsFree clause place.sender u spelt.command
    free = record {
      fits = spelt.fits;
      acts = spelt.acts;
      permitted = and_from (names clause.action spelt.command) (holds clause.condition u.registry place.sender) spelt.named holding;
      free = good.0;
      whole = good.1;
    }

    after : UnitState
    after = effect u place.sender spelt.command
