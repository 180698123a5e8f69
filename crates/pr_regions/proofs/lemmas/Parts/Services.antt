-- How the service actions that do not depend on who else is registered end.
use Rattle.pr_regions.proofs.Common.{◌≡◌, ℕ, Bool, true, false, not, ◌&&◌, if◌then◌else◌, Some, None, Option, sym, refl, ap, ◌∙◌, subst, false≢true, Command, Kind, is_held_by_all, is_told_of_loss, is_kind, ReplacesAll, preempt_case, Keys, kind_of, new_reservation, Held, All, illegal, UnitState, Scope, number_of, HasNumber, Meets, HasRoom, Ends, Standing, Transition, Conflict, Fault, Good, Does, AlwaysEnds, never, holds, is_of_registrant, told_if, tells_nobody, tells_of_loss, tells_of_removal}
use Rattle.pr_unit.specs.declared.demand.Demand.TheVariants.{Register, Reserve, Release, Clear, PreemptAll}
use Rattle.pr_cdb.specs.declared.codes.TheConstants.{INVALID_FIELD_IN_PARAMETER_LIST, INVALID_RELEASE_OF_PERSISTENT_RESERVATION}
use Rattle.pr_registry.specs.Registrations.{is_holder_of, is_for_registrants}
use Rattle.pr_registry.specs.Changes.{is_held_as, conflicts_with_reserve, is_released}
use Rattle.pr_registry.specs.Effects.{held_or, with_reservation, after_release}
use Rattle.pr_unit.specs.Conduct.{release_fault}
use Rattle.pr_regions.specs.inside.Parts.{tells_of_clearing}
use Rattle.pr_regions.proofs.lemmas.Purposes.Conduct.{key_named}
use Rattle.pr_regions.proofs.lemmas.Regions.Effects.{still, on_register, on_release, on_clear}
use Rattle.pr_regions.proofs.lemmas.Regions.PreemptCases.{in_case, on_preempt_all}
use Rattle.pr_regions.proofs.lemmas.Parts.Endings.{is_holder-standing, asks, conflict_ends, fault_ends, good_ends, leaves}

-- ---- REGISTER

pub register_good : (hosts j : ℕ) (held : Option Held) (sender : ℕ) (standing : Standing) (change : Transition) → HasNumber (Register j)
    → Does change (Some j) never (number_of hosts held) tells_nobody → HasRoom hosts (Good change) → AlwaysEnds hosts (Register j) held sender standing (Good change)
register_good hosts j held sender standing change has does room = record {
  ends = λ s u c alike m.
      let named = (asks s (Register j) held sender standing u c has m).named in
      let left : number_of hosts held ≡ number_of s.hosts u.registry.held = λ i. number_of (sym alike i) (sym m.held i) in
      good_ends s (Register j) held sender standing u c (Some j) never (number_of s.hosts u.registry.held) tells_nobody change has m refl refl
      (leaves change (Some j) never (number_of hosts held) (number_of s.hosts u.registry.held) tells_nobody left does)
      (on_register s.keys s.hosts sender j (key_named s.keys j) u.registry named.0 named.1);
  fits = room;
}

-- ---- RESERVE

pub reserve_new : (hosts : ℕ) (t : Kind) (held : Option Held) (sender : ℕ) (standing : Standing) (change : Transition) → held ≡ None
    → Does change None never (number_of hosts (Some (new_reservation t sender))) tells_nobody → HasRoom hosts (Good change) → AlwaysEnds hosts (Reserve t) held sender standing (Good change)
reserve_new hosts t held sender standing change free does room = record {
  ends = λ s u c alike m.
      let none : u.registry.held ≡ None = m.held ∙ free in
      let now = number_of s.hosts (held_or u.registry.held (new_reservation t sender)) in
      let left : number_of hosts (Some (new_reservation t sender)) ≡ now = λ i. number_of (sym alike i) (held_or (sym none i) (new_reservation t sender)) in
      good_ends s (Reserve t) held sender standing u c None never now tells_nobody change tt m (ap (λ v. conflicts_with_reserve u.registry sender v t) none) refl
      (leaves change None never (number_of hosts (Some (new_reservation t sender))) now tells_nobody left does)
      (still s.keys s.hosts sender u.registry (with_reservation u.registry sender t) (λ g. refl));
  fits = room;
}

-- what is in the way of a reservation, where one stands
in_the_way : (s : Scope) (t : Kind) (held : Option Held) (v : Held) (sender : ℕ) (standing : Standing) (u : UnitState) (c : Command) → Meets s (Reserve t) held sender standing u c
    → held ≡ Some v → conflicts_with_reserve u.registry sender u.registry.held t ≡ not (holds v sender standing && is_kind (kind_of v) t)
in_the_way s t held v sender standing u c m is =
    ap (λ w. conflicts_with_reserve u.registry sender w t) (m.held ∙ is)
    ∙ ap (λ b. not (b && is_kind (kind_of v) t)) (is_holder-standing s (Reserve t) held v sender standing u c m is)

pub reserve_same : (hosts : ℕ) (t : Kind) (held : Option Held) (v : Held) (sender : ℕ) (standing : Standing) (change : Transition) → held ≡ Some v
    → holds v sender standing ≡ true → is_kind (kind_of v) t ≡ true
    → Does change None never (number_of hosts (Some v)) tells_nobody → HasRoom hosts (Good change) → AlwaysEnds hosts (Reserve t) held sender standing (Good change)
reserve_same hosts t held v sender standing change is holder same does room = record {
  ends = λ s u c alike m.
      let stands : u.registry.held ≡ Some v = m.held ∙ is in
      let now = number_of s.hosts (held_or u.registry.held (new_reservation t sender)) in
      let left : number_of hosts (Some v) ≡ now = λ i. number_of (sym alike i) (held_or (sym stands i) (new_reservation t sender)) in
      good_ends s (Reserve t) held sender standing u c None never now tells_nobody change tt m
      (in_the_way s t held v sender standing u c m is ∙ (λ i. not (holder i && same i))) refl
      (leaves change None never (number_of hosts (Some v)) now tells_nobody left does)
      (still s.keys s.hosts sender u.registry (with_reservation u.registry sender t) (λ g. refl));
  fits = room;
}

pub reserve_conflict : (hosts : ℕ) (t : Kind) (held : Option Held) (v : Held) (sender : ℕ) (standing : Standing) → held ≡ Some v
    → (holds v sender standing && is_kind (kind_of v) t) ≡ false → AlwaysEnds hosts (Reserve t) held sender standing Conflict
reserve_conflict hosts t held v sender standing is other = record {
  ends = λ s u c alike m. conflict_ends s (Reserve t) held sender standing u c tt m (in_the_way s t held v sender standing u c m is ∙ ap not other);
  fits = tt;
}

-- ---- RELEASE

-- whether it ends the reservation that stands
releases : (s : Scope) (t : Kind) (held : Option Held) (v : Held) (sender : ℕ) (standing : Standing) (u : UnitState) (c : Command) → Meets s (Release t) held sender standing u c
    → held ≡ Some v → is_released u.registry sender t ≡ (holds v sender standing && is_kind (kind_of v) t)
releases s t held v sender standing u c m is =
    λ i. is_holder-standing s (Release t) held v sender standing u c m is i && is_held_as ((m.held ∙ is) i) t

release_faults : (s : Scope) (t : Kind) (held : Option Held) (v : Held) (sender : ℕ) (standing : Standing) (u : UnitState) (c : Command) → Meets s (Release t) held sender standing u c
    → held ≡ Some v → release_fault u.registry sender t ≡ (if holds v sender standing && not (is_kind (kind_of v) t) then Some (illegal INVALID_FIELD_IN_PARAMETER_LIST INVALID_RELEASE_OF_PERSISTENT_RESERVATION) else None)
release_faults s t held v sender standing u c m is =
    λ i. if is_holder-standing s (Release t) held v sender standing u c m is i && not (is_held_as ((m.held ∙ is) i) t) then Some (illegal INVALID_FIELD_IN_PARAMETER_LIST INVALID_RELEASE_OF_PERSISTENT_RESERVATION) else None

-- no reservation stands, or the sender does not hold it
release_nothing : (s : Scope) (t : Kind) (held : Option Held) (sender : ℕ) (standing : Standing) (u : UnitState) (c : Command) (hosts : ℕ) (change : Transition)
    → Meets s (Release t) held sender standing u c → s.hosts ≡ hosts → is_released u.registry sender t ≡ false → release_fault u.registry sender t ≡ None
    → Does change None never (number_of hosts held) tells_nobody
    → Ends s sender (Good change) u c
release_nothing s t held sender standing u c hosts change m alike kept whole does =
    let now = number_of s.hosts (after_release u.registry sender t).held in
    let stays : number_of hosts held ≡ now = (λ i. number_of (sym alike i) (sym m.held i)) ∙ ap (λ b. number_of s.hosts (if b then None else u.registry.held)) (sym kept) in
    let tells = λ (b : Bool). tells_of_loss (told_if (b && is_told_of_loss u.registry.held)) in
    good_ends s (Release t) held sender standing u c None never now (tells (is_released u.registry sender t)) change tt m refl whole
    (leaves change None never (number_of hosts held) now (tells (is_released u.registry sender t)) stays
    (subst (λ b. Does change None never (number_of hosts held) (tells b)) (sym kept) does))
    (on_release s.keys s.hosts sender t u.registry)

pub release_none : (hosts : ℕ) (t : Kind) (held : Option Held) (sender : ℕ) (standing : Standing) (change : Transition) → held ≡ None
    → Does change None never (number_of hosts None) tells_nobody → HasRoom hosts (Good change) → AlwaysEnds hosts (Release t) held sender standing (Good change)
release_none hosts t held sender standing change free does room = record {
  ends = λ s u c alike m.
      let none : u.registry.held ≡ None = m.held ∙ free in
      release_nothing s t held sender standing u c hosts change m alike
      (λ i. is_holder_of u.registry.keys (none i) sender && is_held_as (none i) t)
      (λ i. if is_holder_of u.registry.keys (none i) sender && not (is_held_as (none i) t) then Some (illegal INVALID_FIELD_IN_PARAMETER_LIST INVALID_RELEASE_OF_PERSISTENT_RESERVATION) else None)
      (leaves change None never (number_of hosts None) (number_of hosts held) tells_nobody (ap (number_of hosts) (sym free)) does);
  fits = room;
}

pub release_others : (hosts : ℕ) (t : Kind) (held : Option Held) (v : Held) (sender : ℕ) (standing : Standing) (change : Transition) → held ≡ Some v → holds v sender standing ≡ false
    → Does change None never (number_of hosts (Some v)) tells_nobody → HasRoom hosts (Good change) → AlwaysEnds hosts (Release t) held sender standing (Good change)
release_others hosts t held v sender standing change is other does room = record {
  ends = λ s u c alike m.
      release_nothing s t held sender standing u c hosts change m alike
      (releases s t held v sender standing u c m is ∙ ap (λ b. b && is_kind (kind_of v) t) other)
      (release_faults s t held v sender standing u c m is ∙ ap (λ b. if b && not (is_kind (kind_of v) t) then Some (illegal INVALID_FIELD_IN_PARAMETER_LIST INVALID_RELEASE_OF_PERSISTENT_RESERVATION) else None) other)
      (leaves change None never (number_of hosts (Some v)) (number_of hosts held) tells_nobody (ap (number_of hosts) (sym is)) does);
  fits = room;
}

pub release_good : (hosts : ℕ) (t : Kind) (held : Option Held) (v : Held) (sender : ℕ) (standing : Standing) (change : Transition) → held ≡ Some v → holds v sender standing ≡ true → is_kind (kind_of v) t ≡ true
    → Does change None never 0 (tells_of_loss (told_if (is_for_registrants (kind_of v)))) → HasRoom hosts (Good change) → AlwaysEnds hosts (Release t) held sender standing (Good change)
release_good hosts t held v sender standing change is holder same does room = record {
  ends = λ s u c alike m.
      let ended : is_released u.registry sender t ≡ true = releases s t held v sender standing u c m is ∙ (λ i. holder i && same i) in
      let now = number_of s.hosts (after_release u.registry sender t).held in
      let none : 0 ≡ now = ap (λ b. number_of s.hosts (if b then None else u.registry.held)) (sym ended) in
      let tells : (is_released u.registry sender t && is_told_of_loss u.registry.held) ≡ is_for_registrants (kind_of v) = λ i. ended i && is_told_of_loss ((m.held ∙ is) i) in
      good_ends s (Release t) held sender standing u c None never now (tells_of_loss (told_if (is_released u.registry sender t && is_told_of_loss u.registry.held))) change tt m refl
      (release_faults s t held v sender standing u c m is ∙ (λ i. if holder i && not (same i) then Some (illegal INVALID_FIELD_IN_PARAMETER_LIST INVALID_RELEASE_OF_PERSISTENT_RESERVATION) else None))
      (leaves change None never 0 now (tells_of_loss (told_if (is_released u.registry sender t && is_told_of_loss u.registry.held))) none
      (subst (λ b. Does change None never 0 (tells_of_loss (told_if b))) (sym tells) does))
      (on_release s.keys s.hosts sender t u.registry);
  fits = room;
}

-- ---- CLEAR

pub clear_good : (hosts : ℕ) (held : Option Held) (sender : ℕ) (standing : Standing) (change : Transition) → Does change (Some 0) is_of_registrant 0 (tells_of_clearing is_of_registrant) → HasRoom hosts (Good change)
    → AlwaysEnds hosts Clear held sender standing (Good change)
clear_good hosts held sender standing change does room = record {
  ends = λ s u c alike m. good_ends s Clear held sender standing u c (Some 0) is_of_registrant 0 (tells_of_clearing is_of_registrant) change tt m refl refl does (on_clear s.keys s.hosts sender u.registry);
  fits = room;
}

-- ---- PREEMPT of all others

pub preempt_all_fault : (hosts : ℕ) (t : Kind) (held : Option Held) (sender : ℕ) (standing : Standing) → is_held_by_all held ≡ false
    → AlwaysEnds hosts (PreemptAll t) held sender standing (Fault (illegal INVALID_FIELD_IN_PARAMETER_LIST 0))
preempt_all_fault hosts t held sender standing other = record {
  ends = λ s u c alike m. fault_ends s (PreemptAll t) held sender standing u c (illegal INVALID_FIELD_IN_PARAMETER_LIST 0) tt m refl
      (ap (λ v. if not (is_held_by_all v) then Some (illegal INVALID_FIELD_IN_PARAMETER_LIST 0) else None) m.held ∙ ap (λ b. if not b then Some (illegal INVALID_FIELD_IN_PARAMETER_LIST 0) else None) other);
  fits = tt;
}

-- then the reservation is replaced
replaces_all : (keys : Keys) (held : Option Held) → is_held_by_all held ≡ true → preempt_case keys held 0 ≡ ReplacesAll
replaces_all keys (Some (All t)) is = refl
replaces_all keys _ is = absurd (false≢true is)

pub preempt_all_good : (hosts : ℕ) (t : Kind) (held : Option Held) (sender : ℕ) (standing : Standing) (change : Transition) → is_held_by_all held ≡ true
    → Does change None is_of_registrant (number_of hosts (Some (new_reservation t sender))) (tells_of_removal is_of_registrant) → HasRoom hosts (Good change) → AlwaysEnds hosts (PreemptAll t) held sender standing (Good change)
preempt_all_good hosts t held sender standing change is does room = record {
  ends = λ s u c alike m.
      let stands : is_held_by_all u.registry.held ≡ true = ap is_held_by_all m.held ∙ is in
      let left : number_of hosts (Some (new_reservation t sender)) ≡ number_of s.hosts (Some (new_reservation t sender)) = ap (λ n. number_of n (Some (new_reservation t sender))) (sym alike) in
      good_ends s (PreemptAll t) held sender standing u c None is_of_registrant (number_of s.hosts (Some (new_reservation t sender))) (tells_of_removal is_of_registrant) change tt m refl
      (ap (λ b. if not b then Some (illegal INVALID_FIELD_IN_PARAMETER_LIST 0) else None) stands)
      (leaves change None is_of_registrant (number_of hosts (Some (new_reservation t sender))) (number_of s.hosts (Some (new_reservation t sender))) (tells_of_removal is_of_registrant) left does)
      (in_case s.keys s.hosts sender None is_of_registrant (number_of s.hosts (Some (new_reservation t sender))) (tells_of_removal is_of_registrant) u.registry 0 t ReplacesAll
      (replaces_all u.registry.keys u.registry.held stands) (on_preempt_all s.keys s.hosts sender t u.registry));
  fits = room;
}
