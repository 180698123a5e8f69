-- How a command ends in a state that meets what is known, by its purpose.
use Rattle.pr_regions.proofs.Common.{◌≡◌, ℕ, zero, suc, ◌<◌, ◌≤◌, Bool, true, false, not, if◌then◌else◌, Some, None, Option, unwrap_or, sym, refl, ap, ◌∙◌, subst, arith, nat_tests, Command, Sense, no_change, State, is_registered, Held, One, All, UnitState, Scope, number_of, HasNumber, Meets, HasRoom, Ends, Purpose, Standing, Transition, Conflict, Fault, Good, Does, never, is_unregistered, holds, is_of_registrant, MOST_KEYS, Audience, tells_nobody, count_of_reservations}
use Rattle.std.proofs.Math.Bool.{not-not}
use Rattle.pr_registry.specs.declared.change.Change.{Change as Told}
use Rattle.pr_registry.specs.Registrations.{is_holder}
use Rattle.pr_unit.specs.UnitStates.{registry_after, change}
use Rattle.pr_unit.specs.Conduct.{command_conflicts, command_fault}
use Rattle.pr_regions.specs.declared.purpose.Standing.TheVariants.{Named, Other}
use Rattle.pr_regions.specs.Regions.{names, standing_of}
use Rattle.pr_regions.proofs.lemmas.Portions.GatheredStates.{few_keys}
use Rattle.pr_regions.proofs.lemmas.Purposes.Conduct.{conflicts_for, fault_for, after_for, change_for, IsAsked, asked}
use Rattle.pr_regions.proofs.lemmas.Regions.ChangedStates.{Is, Acts, changes}
use Rattle.pr_regions.proofs.lemmas.Regions.Effects.{Becomes, acts, still, is_registered-number}

-- ---- what a state that meets it is like

pub record HasSender (s : Scope) (p : Purpose) (sender : ℕ) (standing : Standing) (u : UnitState) : Type 0 where
  pub number : ℕ
  pub is : Is s.keys u.registry sender number
  pub stands : standing_of p number ≡ standing

pub sender_of : (s : Scope) (p : Purpose) (held : Option Held) (sender : ℕ) (standing : Standing) (u : UnitState) (c : Command)
    → Meets s p held sender standing u c → HasSender s p sender standing u
sender_of s p held sender standing u c m =
    let there = m.numbered sender m.below in
    record { number = there.0; is = record { known = there.1.1; key = there.1.2 }; stands = m.standing there.0 there.1 }

is_unregistered-number : (p : Purpose) (r : ℕ) → is_unregistered (standing_of p r) ≡ not (is_of_registrant r)
is_unregistered-number p zero = refl
is_unregistered-number p (suc i) = at (names p (suc i)) ∙ sym (not_zero i)
  where
    at : (b : Bool) → is_unregistered (if b then Named else Other) ≡ false
    at true = refl
    at false = refl

    not_zero : (i : ℕ) → not (is_of_registrant (suc i)) ≡ false
    not_zero i = grind (arith, nat_tests)

pub registered_or_not : (s : Scope) (p : Purpose) (held : Option Held) (sender : ℕ) (standing : Standing) (u : UnitState) (c : Command)
    → Meets s p held sender standing u c → is_registered u.registry sender ≡ not (is_unregistered standing)
registered_or_not s p held sender standing u c m =
    let it = sender_of s p held sender standing u c m in
    is_registered-number s.keys u.registry sender it.number it.is
    ∙ sym (ap not (sym (ap is_unregistered it.stands) ∙ is_unregistered-number p it.number) ∙ not-not (is_of_registrant it.number))

holds_or_not : (u : State) (v : Held) (sender : ℕ) (standing : Standing) → u.held ≡ Some v → is_registered u sender ≡ not (is_unregistered standing)
    → is_holder u sender ≡ holds v sender standing
holds_or_not u (One t h) sender standing is there = rw is refl
holds_or_not u (All t) sender standing is there = rw is there

pub is_holder-standing : (s : Scope) (p : Purpose) (held : Option Held) (v : Held) (sender : ℕ) (standing : Standing) (u : UnitState) (c : Command)
    → Meets s p held sender standing u c → held ≡ Some v → is_holder u.registry sender ≡ holds v sender standing
is_holder-standing s p held v sender standing u c m is =
    holds_or_not u.registry v sender standing (m.held ∙ is) (registered_or_not s p held sender standing u c m)

-- ---- how it ends

pub asks : (s : Scope) (p : Purpose) (held : Option Held) (sender : ℕ) (standing : Standing) (u : UnitState) (c : Command) → HasNumber p
    → Meets s p held sender standing u c
    → IsAsked s.keys u.registry sender p (command_conflicts u.registry sender c) (command_fault u.registry sender c) (registry_after u.registry sender c) (change u.registry sender c)
asks s p held sender standing u c has m = asked s.keys u.registry sender p c has m.purpose m.accepted

pub conflict_ends : (s : Scope) (p : Purpose) (held : Option Held) (sender : ℕ) (standing : Standing) (u : UnitState) (c : Command) → HasNumber p
    → Meets s p held sender standing u c → conflicts_for s.keys u.registry sender p ≡ true → Ends s sender Conflict u c
conflict_ends s p held sender standing u c has m conflicts = (asks s p held sender standing u c has m).conflicting ∙ conflicts

pub fault_ends : (s : Scope) (p : Purpose) (held : Option Held) (sender : ℕ) (standing : Standing) (u : UnitState) (c : Command) (sense : Sense) → HasNumber p
    → Meets s p held sender standing u c → conflicts_for s.keys u.registry sender p ≡ false → fault_for s.keys u.registry sender p ≡ Some sense → Ends s sender (Fault sense) u c
fault_ends s p held sender standing u c sense has m free faulty =
    let asked = asks s p held sender standing u c has m in (asked.conflicting ∙ free, asked.faulty ∙ faulty)

pub good_ends : (s : Scope) (p : Purpose) (held : Option Held) (sender : ℕ) (standing : Standing) (u : UnitState) (c : Command)
    (to : Option ℕ) (out : ℕ → Bool) (left : ℕ) (tells : Audience) (b : Transition) → HasNumber p
    → Meets s p held sender standing u c → conflicts_for s.keys u.registry sender p ≡ false → fault_for s.keys u.registry sender p ≡ None
    → Does b to out left tells
    → Becomes s.keys s.hosts sender to out left tells u.registry (after_for s.keys u.registry sender p) (change_for s.keys u.registry sender p)
    → Ends s sender (Good b) u c
good_ends s p held sender standing u c to out left tells b has m free whole does becomes =
    let asked = asks s p held sender standing u c has m in
    let known = acts s.keys s.hosts sender to out left tells u.registry (after_for s.keys u.registry sender p) (change_for s.keys u.registry sender p) b (few_keys s.keys m.scope.keys) does becomes in
    let so : Acts s.keys s.hosts sender b u.registry (registry_after u.registry sender c) (change u.registry sender c) =
    subst (λ (v : State). Acts s.keys s.hosts sender b u.registry v (change u.registry sender c)) (sym asked.after)
    (subst (λ (t : Told). Acts s.keys s.hosts sender b u.registry (after_for s.keys u.registry sender p) t) (sym asked.change) known) in
    (asked.conflicting ∙ free, asked.faulty ∙ whole, changes s sender b u (registry_after u.registry sender c) (change u.registry sender c) so)

-- a number that is left, by another name
pub leaves : (b : Transition) (to : Option ℕ) (out : ℕ → Bool) (x y : ℕ) (tells : Audience) → x ≡ y → Does b to out x tells → Does b to out y tells
leaves b to out x y tells same does = record {
  sender = does.sender;
  removed = does.removed;
  reservation = does.reservation ∙ same;
  told = does.told;
}

-- the numbers of a change fit where those that it is to have do
pub has_room : (hosts : ℕ) (b : Transition) (to : Option ℕ) (out : ℕ → Bool) (left : ℕ) (tells : Audience) → Does b to out left tells
    → unwrap_or to 0 ≤ MOST_KEYS → left < count_of_reservations hosts → HasRoom hosts (Good b)
has_room hosts b to out left tells does small below =
    (subst (λ (o : Option ℕ). unwrap_or o 0 ≤ MOST_KEYS) (sym does.sender) small, subst (λ n. n < count_of_reservations hosts) (sym does.reservation) below)

-- the command changes nothing
pub same_ends : (s : Scope) (p : Purpose) (held : Option Held) (sender : ℕ) (standing : Standing) (u : UnitState) (c : Command) (hosts : ℕ) (b : Transition) → HasNumber p
    → Meets s p held sender standing u c → s.hosts ≡ hosts → conflicts_for s.keys u.registry sender p ≡ false → fault_for s.keys u.registry sender p ≡ None
    → after_for s.keys u.registry sender p ≡ u.registry → change_for s.keys u.registry sender p ≡ no_change
    → Does b None never (number_of hosts held) tells_nobody → Ends s sender (Good b) u c
same_ends s p held sender standing u c hosts b has m alike free whole stays tells does =
    let left : number_of hosts held ≡ number_of s.hosts u.registry.held = λ i. number_of (sym alike i) (sym m.held i) in
    let known = still s.keys s.hosts sender u.registry u.registry (λ g. refl) in
    let now = number_of s.hosts u.registry.held in
    let so : Becomes s.keys s.hosts sender None never now tells_nobody u.registry (after_for s.keys u.registry sender p) (change_for s.keys u.registry sender p) =
    subst (λ (v : State). Becomes s.keys s.hosts sender None never now tells_nobody u.registry v (change_for s.keys u.registry sender p)) (sym stays)
    (subst (λ (t : Told). Becomes s.keys s.hosts sender None never now tells_nobody u.registry u.registry t) (sym tells) known) in
    good_ends s p held sender standing u c None never now tells_nobody b has m free whole (leaves b None never (number_of hosts held) now tells_nobody left does) so
