-- What a sender with one of some registrations asks for, and how that ends.
use Rattle.pr_domain.proofs.Common.{◌≡◌, ℕ, zero, suc, ◌<◌, Bool, true, false, List, if◌then◌else◌, get_or, nat_lt, ◌==◌, Some, None, All, Any, Option, option_map, sym, refl, ap, ◌∙◌, subst, arith, false≢true, or_left, nat_tests, has, BitSet, Command, State, key_of, Held, One, command_conflicts, UnitState, Test, view_in, Scope, Registration, IsSo, Shows, Possibilities, one_registration, IsPlace, IsUniform, IsAt, is_not_admitted, standing_of, AreBranches, Place, Branch, Region, same_reservation, IsRight, MOST_REGISTRATIONS}
use Rattle.std.proofs.lemmas.Bool.{lt-ltb}
use Rattle.std.proofs.lemmas.List.Elements.{Contains-get_or}
use Rattle.pr_registry.specs.declared.held.Held.TheVariants.{All as Everybody}
use Rattle.pr_unit.specs.Demands.{demand_of}
use Rattle.pr_unit.specs.Conduct.{conduct}
use Rattle.pr_views.specs.Portions.{HasSomebody}
use Rattle.pr_regions.specs.Purposes.{Purpose}
use Rattle.pr_regions.specs.declared.purpose.Standing.{Standing}
use Rattle.pr_regions.specs.declared.region.Ending.TheVariants as ending
use Rattle.pr_regions.specs.Regions.{Meets, names, filter_of, Ends, IsUntestedOrRegistered, IsProper as IsProperBranch}
use Rattle.pr_domain.specs.inside.Tallies.{HasOneOf, IsAsked, IsRefusedAt}
use Rattle.pr_roles.specs.Keys.{key_at}
use Rattle.pr_domain.specs.inside.TestedCommands.{AreAlike}
use Rattle.pr_domain.specs.declared.tested.TestedCommand.{TestedCommand}
use Rattle.pr_regions.specs.declared.purpose.Standing.TheVariants.{Unregistered, Named, Other}
use Rattle.pr_regions.proofs.lemmas.Portions.GatheredStates.{few_keys}

-- a sender with this registration alone
pub only_uniform : (r : ℕ) (w : BitSet) → ((m : ℕ) → has w m ≡ (m == r)) → IsUniform w
only_uniform r w only none m there =
    let zero_is : 0 ≡ r = (let tells = sym (only 0) ∙ none in grind (arith, nat_tests)) in
    let m_is : m ≡ r = (let tells = sym (only m) ∙ there in grind (arith, nat_tests)) in
    m_is ∙ sym zero_is

-- it is alike to itself
pub alone_alike : (q : TestedCommand) (registration : ℕ) (w : BitSet) → ((m : ℕ) → has w m ≡ (m == registration)) → AreAlike q registration w
alone_alike q registration w only = record {
  itself = only registration ∙ grind (arith, nat_tests);
  refused = λ r among. ap (λ n. is_not_admitted (key_at q.keys.now n) q.command) (same r among);
  stands = λ purpose asks r among. ap (standing_of purpose) (same r among);
  uniform = only_uniform registration w only;
  read = λ reads r among. same r among;
}
  where
    same : (r : ℕ) → has w r ≡ true → r ≡ registration
    same r among = let tells = sym (only r) ∙ among in grind (arith, nat_tests)

-- who stands alike is registered, or nobody is
pub uniform_by : (purpose : Purpose) (registration : ℕ) (w : BitSet) → ((r : ℕ) → has w r ≡ true → standing_of purpose r ≡ standing_of purpose registration) → IsUniform w
uniform_by purpose registration w stands none m there = at m (stands m there ∙ sym (stands 0 none))
  where
    at : (m : ℕ) → standing_of purpose m ≡ Unregistered → m ≡ 0
    at zero is = refl
    at (suc i) is = by (names purpose (suc i)) is
      where
        by : (b : Bool) → (if b then Named else Other) ≡ Unregistered → suc i ≡ 0
        by true is = let bad : Named ≡ Unregistered = is in cc
        by false is = let bad : Other ≡ Unregistered = is in cc

-- the sender's registration in a state where it is among those of the word
pub sender_is : (s : Scope) (view : Possibilities) (place : Place) (r : ℕ) (w : BitSet) (region : Region) (u : UnitState) → IsPlace s view place → ((m : ℕ) → has w m ≡ (m == r))
    → IsAt (view_in s view) place w region u → IsSo s u (Registration place.sender r)
sender_is s view place r w region u is only at =
    let below : place.sender < s.hosts = subst (λ n. place.sender < n) (sym is.hosts) place.there in
    let seen = at.shown.registrations place.sender below in
    let same : seen.0 ≡ r = (let tells = sym (only seen.0) ∙ at.sender seen.0 seen.1.1 in grind (arith, nat_tests)) in
    subst (λ n. IsSo s u (Registration place.sender n)) same seen.1.1

-- the sender has one of the registrations in a state where its registration is among those of the word, and the other way round
pub sender_among : (s : Scope) (view : Possibilities) (place : Place) (w : BitSet) (region : Region) (u : UnitState) → IsPlace s view place → IsAt (view_in s view) place w region u → HasOneOf s place w u
sender_among s view place w region u is at =
    let below : place.sender < s.hosts = subst (λ n. place.sender < n) (sym is.hosts) place.there in
    let seen = at.shown.registrations place.sender below in
    (seen.0, at.sender seen.0 seen.1.1, (at.reservation, seen.1.1))

among_senders : (s : Scope) (view : Possibilities) (place : Place) (w : BitSet) (u : UnitState) → IsPlace s view place → HasOneOf s place w u → (t : ℕ) → IsSo s u (Registration place.sender t) → has w t ≡ true
among_senders s view place w u is one t so = subst (λ n. has w n ≡ true) (one_registration s u place.sender one.0 t is.fits.scope one.2.1 so) one.1

-- the command as the branches see it
meets : (s : Scope) (c : Command) (tests : List Test) (view : Possibilities) (place : Place) (purpose : Purpose) (arm : ℕ) (w : BitSet) (standing : Standing) (u : UnitState) → IsAsked s c tests view place purpose arm w standing
    → Shows (view_in s view) u → HasOneOf s place w u → Meets s purpose place.held place.sender standing u c
meets s c tests view place purpose arm w standing u asked shown one = record {
  scope = asked.is.fits.scope;
  below = subst (λ n. place.sender < n) (sym asked.is.hosts) place.there;
  formed = shown.formed;
  hosts = shown.hosts;
  numbered = λ g below. let seen = shown.registrations g below in (seen.0, seen.1.1);
  held = same_reservation s view place u asked.is shown one.2.0;
  standing = λ t so. asked.stands t (among_senders s view place w u asked.is one t so);
  purpose = asked.asks;
  accepted = subst (λ k. is_not_admitted k c ≡ false) (sym one.2.1.2) (asked.accepted one.0 one.1);
}

pub asked_right : (s : Scope) (c : Command) (tests : List Test) (view : Possibilities) (place : Place) (purpose : Purpose) (arm : ℕ) (w : BitSet) (standing : Standing) (branches : List Branch)
    → IsAsked s c tests view place purpose arm w standing → AreBranches place.hosts purpose place.held place.sender standing branches
    → All IsProperBranch branches → All (λ b. IsRight s c tests view place w b arm) branches
asked_right s c tests view place purpose arm w standing branches asked are proper k d small = record {
  own = asked.own;
  is = asked.is;
  uniform = asked.uniform;
  proper = proper k d small;
  ends = λ u at.
      let one = sender_among s view place w (get_or branches k d).region u asked.is at in
      let decided = are s u c asked.is.hosts (meets s c tests view place purpose arm w standing u asked at.shown one) in
      subst (λ n. Ends s n (get_or branches k d).ending u c) asked.own (decided.right (get_or branches k d) (Contains-get_or branches k d small) at.inside);
  taken = λ u at free. asked.taken u.registry;
}

-- each state with one of these registrations is in the region of one of the branches, and the other way round
pub asked_covers : (s : Scope) (c : Command) (tests : List Test) (view : Possibilities) (place : Place) (purpose : Purpose) (arm : ℕ) (w : BitSet) (standing : Standing) (branches : List Branch)
    → IsAsked s c tests view place purpose arm w standing → AreBranches place.hosts purpose place.held place.sender standing branches
    → (u : UnitState) → Shows (view_in s view) u → HasOneOf s place w u → Any (λ b. IsAt (view_in s view) place w b.region u) branches
asked_covers s c tests view place purpose arm w standing branches asked are u shown one =
    let decided = are s u c asked.is.hosts (meets s c tests view place purpose arm w standing u asked shown one) in
    let covered = decided.covered in
    let at : IsAt (view_in s view) place w covered.branch.region u = record {
      shown = shown;
      reservation = one.2.0;
      sender = λ t so. among_senders s view place w u asked.is one t so;
      inside = covered.inside;
    } in
    (covered.listed.0, covered.branch, covered.listed.1, covered.listed.2, at)

pub asked_back : (s : Scope) (c : Command) (tests : List Test) (view : Possibilities) (place : Place) (purpose : Purpose) (arm : ℕ) (w : BitSet) (standing : Standing) (branches : List Branch)
    → IsAsked s c tests view place purpose arm w standing → (u : UnitState) → Any (λ b. IsAt (view_in s view) place w b.region u) branches → HasOneOf s place w u
asked_back s c tests view place purpose arm w standing branches asked u any = sender_among s view place w any.1.region u asked.is any.4

-- ---- a key that is not accepted

-- it is a conflict
pub refused_conflicts : (u : State) (h : ℕ) (c : Command) → is_not_admitted (key_of u h) c ≡ true → command_conflicts u h c ≡ true
refused_conflicts u h c is = or_left (is_not_admitted (key_of u h) c) (conduct u h (demand_of c)).kept is

-- every state is in the region that leaves anything
pub anywhere : (s : Scope) (view : Possibilities) (place : Place) (w any : BitSet) (region : Region) (u : UnitState) → IsPlace s view place
    → ((n : ℕ) → has any n ≡ nat_lt n MOST_REGISTRATIONS) → region.holder ≡ any → region.others ≡ any → region.somebody ≡ None
    → Shows (view_in s view) u → HasOneOf s place w u → IsAt (view_in s view) place w region u
anywhere s view place w any region u is below holder others none shown one = record {
  shown = shown;
  reservation = one.2.0;
  sender = λ t so. among_senders s view place w u is one t so;
  inside = record {
    registrations = λ g n other so. passes n (let few = few_keys s.keys is.fits.scope.keys in let small = so.1 in omega arith) u.registry.held g;
    somebody = subst (λ o. HasSomebody s u place.sender (option_map has o)) (sym none) tt;
  };
}
  where
    passes : (n : ℕ) → n < MOST_REGISTRATIONS → (v : Option Held) (g : ℕ) → has (filter_of region v g) n ≡ true
    passes n small None g = ap (λ x. has x n) others ∙ below n ∙ lt-ltb n MOST_REGISTRATIONS small
    passes n small (Some (One kind h)) g = pick (h == g)
      where
        pick : (b : Bool) → has (if b then region.holder else region.others) n ≡ true
        pick true = ap (λ x. has x n) holder ∙ below n ∙ lt-ltb n MOST_REGISTRATIONS small
        pick false = ap (λ x. has x n) others ∙ below n ∙ lt-ltb n MOST_REGISTRATIONS small
    passes n small (Some (Everybody kind)) g = ap (λ x. has x n) others ∙ below n ∙ lt-ltb n MOST_REGISTRATIONS small

pub refused_right : (s : Scope) (c : Command) (tests : List Test) (view : Possibilities) (place : Place) (w : BitSet) (b : Branch) (arm : ℕ)
    → IsRefusedAt s c view place w → b.ending ≡ ending.Conflict → b.region.somebody ≡ None → IsRight s c tests view place w b arm
refused_right s c tests view place w b arm refused conflict untested = record {
  own = refused.own;
  is = refused.is;
  uniform = refused.uniform;
  proper = subst IsUntestedOrRegistered (sym untested) tt;
  ends = λ u at. subst (λ e. Ends s s.own e u c) (sym conflict) (conflicts u at);
  taken = λ u at free. absurd (false≢true (sym free ∙ conflicts u at));
}
  where
    conflicts : (u : UnitState) → IsAt (view_in s view) place w b.region u → command_conflicts u.registry s.own c ≡ true
    conflicts u at =
        let one = sender_among s view place w b.region u refused.is at in
        subst (λ n. command_conflicts u.registry n c ≡ true) refused.own
        (refused_conflicts u.registry place.sender c (subst (λ k. is_not_admitted k c ≡ true) (sym one.2.1.2) (refused.refused one.0 one.1)))
