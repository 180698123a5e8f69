-- Who has the key that a PREEMPT names, and what that makes of the command.
use Rattle.pr_regions.proofs.Common.{◌≡◌, ℕ, zero, suc, ◌<◌, ◌≤◌, Bool, true, false, not, ◌≢◌, ◌⊎◌, List, length, get_or, is_some, if◌then◌else◌, ◌==◌, Some, None, Option, sym, refl, ap, ◌∙◌, subst, inl, inr, arith, false≢true, nat_tests, eqb_tells, Command, Kind, is_kind, ReplacesAll, preempt_case, held_by_rest, is_key, Hosts, nobody, Keys, without, hosts_with, is_empty, State, is_registered, key_of, new_reservation, Held, One, All, contains-nobody, get-without, UnitState, Scope, number_of, key_at, Registration, IsSo, HasNumber, Meets, Ends, Standing, Transition, Conflict, Good, Does, only, told_but, lost_if, is_named, eq-eqb, tells_of_removal, tells_of_replacement, is_empty_from_none}
use Rattle.pr_unit.specs.declared.demand.Demand.TheVariants.{Preempt}
use Rattle.std.specs.FinMap as map
use Rattle.std.specs.FinSet as set
use Rattle.std.specs.Ordering.{nat_cmp}
use Rattle.std.specs.List.{All as Each}
use Rattle.std.proofs.lemmas.Option.{slice_get_within, get_or_from_slice_get}
use Rattle.pr_registry.specs.Hosts.{has_no_registrant}
use Rattle.pr_registry.specs.Registrations.{IsKey}
use Rattle.pr_registry.specs.Changes.{ReplacesHolder, RemovesKey}
use Rattle.pr_registry.proofs.lemmas.Sets.{same_hosts, contains-hosts_with, not_empty_from_some}
use Rattle.pr_views.proofs.lemmas.Possibilities.Numbers.{once_of}
use Rattle.pr_regions.specs.declared.purpose.Standing.TheVariants.{Named, Other}
use Rattle.pr_regions.specs.Regions.{standing_of}
use Rattle.pr_regions.proofs.lemmas.Showing.Numbers.{AreDistinct}
use Rattle.pr_regions.proofs.lemmas.Purposes.Conduct.{key_named}
use Rattle.pr_regions.proofs.lemmas.Regions.ChangedStates.{Is}
use Rattle.pr_regions.proofs.lemmas.Regions.Effects.{is_key-number}
use Rattle.pr_regions.proofs.lemmas.Regions.PreemptCases.{in_case, on_preempt_holder, on_preempt_key}
use Rattle.pr_regions.proofs.lemmas.Parts.Endings.{sender_of, asks, conflict_ends, good_ends, leaves}
use Rattle.pr_regions.proofs.lemmas.Parts.Branches.{HasNobody}

-- ---- whether a key is anybody's

pub somebodys : (keys : Keys) (g k : ℕ) → map.get keys g ≡ Some k → has_no_registrant keys k ≡ false
somebodys keys g k has = at (has_no_registrant keys k) refl
  where
    at : (b : Bool) → has_no_registrant keys k ≡ b → b ≡ false
    at false is = refl
    at true is =
        let empty : set.len (hosts_with keys k) ≡ 0 = grind (arith, nat_tests) in
        let none = sym (contains-nobody g) ∙ ap (λ (s : Hosts). set.contains s g) (sym (set.empty_of_len (hosts_with keys k) empty)) in
        let there = none ∙ contains-hosts_with keys k g ∙ ap (λ o. is_key o k) has ∙ eq-eqb k k refl in
        absurd (false≢true there)

pub nobodys : (keys : Keys) (k : ℕ) → ((g : ℕ) → is_key (map.get keys g) k ≡ false) → has_no_registrant keys k ≡ true
nobodys keys k none =
    let empty : hosts_with keys k ≡ nobody = same_hosts (hosts_with keys k) nobody (λ g. contains-hosts_with keys k g ∙ none g ∙ sym (contains-nobody g)) in
    ap (λ (s : Hosts). set.len s == 0) empty ∙ ap (λ n. n == 0) (set.len-empty nat_cmp)

-- ---- what a state that meets it is like

pub record HasKeys (s : Scope) (j : ℕ) (sender : ℕ) (standing : Standing) (u : UnitState) : Type 0 where
  pub once : AreDistinct s.keys
  pub fits : j ≤ length s.keys
  pub named : key_at s.keys j ≡ Some (key_named s.keys j)
  pub nonzero : (key_named s.keys j == 0) ≡ false
  pub own : (r : ℕ) → Is s.keys u.registry sender r → (r == j) ≡ is_named standing
  pub there : is_registered u.registry sender ≡ true

not_zero : (keys : List ℕ) (j k : ℕ) → Each IsKey keys → key_at keys j ≡ Some k → (k == 0) ≡ false
not_zero keys zero k each there = let bad : None ≡ Some k = there in cc
not_zero keys (suc i) k each there =
    let inside = slice_get_within keys i k there in
    let key = each i 0 inside in
    let is : get_or keys i 0 ≡ k = get_or_from_slice_get keys i k 0 there in
    let some : 1 ≤ k = subst (λ n. 1 ≤ n) is key.0 in
    grind (arith, nat_tests)

own_number : (s : Scope) (j : ℕ) (t : Kind) (held : Option Held) (sender : ℕ) (standing : Standing) (u : UnitState) (c : Command) → 1 ≤ j
    → Meets s (Preempt j t) held sender standing u c → (r : ℕ) → Is s.keys u.registry sender r → (r == j) ≡ is_named standing
own_number s j t held sender standing u c some m r is = numbered r some ∙ ap is_named (m.standing r (m.below, is.known, is.key))
  where
    numbered : (r : ℕ) → 1 ≤ j → (r == j) ≡ is_named (standing_of (Preempt j t) r)
    numbered zero some = grind (arith, nat_tests)
    numbered (suc i) some = at (suc i == j)
      where
        at : (b : Bool) → b ≡ is_named (if b then Named else Other)
        at true = refl
        at false = refl

pub keys_of : (s : Scope) (j : ℕ) (t : Kind) (held : Option Held) (sender : ℕ) (standing : Standing) (u : UnitState) (c : Command) → HasNumber (Preempt j t)
    → Meets s (Preempt j t) held sender standing u c → HasKeys s j sender standing u
keys_of s j t held sender standing u c has m =
    let asked = asks s (Preempt j t) held sender standing u c has m in
    record {
      once = once_of s.keys m.scope.keys;
      fits = asked.named.0;
      named = asked.named.1;
      nonzero = not_zero s.keys j (key_named s.keys j) m.scope.keys.each asked.named.1;
      own = own_number s j t held sender standing u c has.0 m;
      there = asked.ready.0;
    }

-- whoever has its number has the key, and nobody else
pub has_key : (s : Scope) (j : ℕ) (sender : ℕ) (standing : Standing) (u : UnitState) (g r : ℕ) → HasKeys s j sender standing u → IsSo s u (Registration g r)
    → is_key (key_of u.registry g) (key_named s.keys j) ≡ only j r
has_key s j sender standing u g r keys so = is_key-number s.keys u.registry g r j (key_named s.keys j) keys.once keys.fits keys.named (record { known = so.1; key = so.2 })

pub key_is : (s : Scope) (j : ℕ) (sender : ℕ) (standing : Standing) (u : UnitState) (g r : ℕ) → HasKeys s j sender standing u → IsSo s u (Registration g r) → only j r ≡ true
    → key_of u.registry g ≡ Some (key_named s.keys j)
key_is s j sender standing u g r keys so is =
    let same : r ≡ j = grind (arith, nat_tests) in so.2 ∙ ap (key_at s.keys) same ∙ keys.named

-- a host has no key, or a registration
pub number_or_none : (s : Scope) (j : ℕ) (t : Kind) (held : Option Held) (sender : ℕ) (standing : Standing) (u : UnitState) (c : Command) → Meets s (Preempt j t) held sender standing u c
    → (g : ℕ) → (key_of u.registry g ≡ None) ⊎ ((r : ℕ) × IsSo s u (Registration g r))
number_or_none s j t held sender standing u c m g = at (key_of u.registry g) refl
  where
    at : (o : Option ℕ) → key_of u.registry g ≡ o → (key_of u.registry g ≡ None) ⊎ ((r : ℕ) × IsSo s u (Registration g r))
    at None is = inl is
    at (Some k) is = inr (m.numbered g (subst (λ n. g < n) m.hosts (m.formed.registry.keys g k is).0))

-- ---- who is left

some_left : (u : State) (g k other : ℕ) → key_of u g ≡ Some other → is_key (key_of u g) k ≡ false → is_empty (without u.keys (hosts_with u.keys k)) ≡ false
some_left u g k other there differs =
    not_empty_from_some (without u.keys (hosts_with u.keys k)) g other
    (get-without u.keys (hosts_with u.keys k) g ∙ ap (λ b. if b then None else map.get u.keys g) (contains-hosts_with u.keys k g ∙ differs) ∙ there)

pub none_left : (u : State) (k : ℕ) → ((g : ℕ) → (key_of u g ≡ None) ⊎ (is_key (key_of u g) k ≡ true)) → is_empty (without u.keys (hosts_with u.keys k)) ≡ true
none_left u k each = is_empty_from_none (without u.keys (hosts_with u.keys k)) (λ g. at g (each g))
  where
    -- who is not removed has none
    free : (b : Bool) (o : Option ℕ) → o ≡ None → (if b then None else o) ≡ None
    free true o is = refl
    free false o is = is

    at : (g : ℕ) → (key_of u g ≡ None) ⊎ (is_key (key_of u g) k ≡ true) → map.get (without u.keys (hosts_with u.keys k)) g ≡ None
    at g (inl none) = get-without u.keys (hosts_with u.keys k) g ∙ free (set.contains (hosts_with u.keys k) g) (map.get u.keys g) none
    at g (inr has) = get-without u.keys (hosts_with u.keys k) g ∙ ap (λ b. if b then None else map.get u.keys g) (contains-hosts_with u.keys k g ∙ has)

pub rest_stays : (rest : Keys) (held : Option Held) → is_empty rest ≡ false → held_by_rest rest held ≡ held
rest_stays rest (Some (All t)) some = ap (λ b. if b then None else Some (All t)) some
rest_stays rest _ some = refl

-- a key that is left by a number
pub number_left : (s : Scope) (j : ℕ) (sender : ℕ) (standing : Standing) (u : UnitState) (g r : ℕ) → HasKeys s j sender standing u → IsSo s u (Registration g r) → is_registered u.registry g ≡ true
    → only j r ≡ false → is_empty (without u.registry.keys (hosts_with u.registry.keys (key_named s.keys j))) ≡ false
number_left s j sender standing u g r keys so there other = at (key_of u.registry g) refl there
  where
    at : (o : Option ℕ) → key_of u.registry g ≡ o → is_some o ≡ true → is_empty (without u.registry.keys (hosts_with u.registry.keys (key_named s.keys j))) ≡ false
    at None is some = absurd (false≢true some)
    at (Some k) is some = some_left u.registry g (key_named s.keys j) k is (has_key s j sender standing u g r keys so ∙ other)

-- a sender with another key stays
pub sender_left : (s : Scope) (j : ℕ) (t : Kind) (held : Option Held) (sender : ℕ) (standing : Standing) (u : UnitState) (c : Command) → Meets s (Preempt j t) held sender standing u c
    → HasKeys s j sender standing u → is_named standing ≡ false → is_empty (without u.registry.keys (hosts_with u.registry.keys (key_named s.keys j))) ≡ false
sender_left s j t held sender standing u c m keys other =
    let it = sender_of s (Preempt j t) held sender standing u c m in
    number_left s j sender standing u sender it.number keys (m.below, it.is.known, it.is.key) keys.there (keys.own it.number it.is ∙ other)

-- ---- which case it is

-- no single holder has the key
abbrev pub IsNotHolders : Keys → Option Held → ℕ → Type 0
IsNotHolders keys (Some (One t h)) k = is_key (map.get keys h) k ≡ false
IsNotHolders keys _ k = Unit {0}

pub removes : (keys : Keys) (held : Option Held) (k : ℕ) → (k == 0) ≡ false → IsNotHolders keys held k → preempt_case keys held k ≡ RemovesKey
removes keys None k nonzero other = refl
removes keys (Some (One t h)) k nonzero other = ap (λ b. if b then ReplacesHolder t else RemovesKey) other
removes keys (Some (All t)) k nonzero other = ap (λ b. if b then ReplacesAll else RemovesKey) nonzero

-- ---- how it ends

-- the key is a single holder's
pub replaced_ends : (s : Scope) (hosts j : ℕ) (t old : Kind) (h : ℕ) (held : Option Held) (sender : ℕ) (standing : Standing) (u : UnitState) (c : Command) (change : Transition) → HasNumber (Preempt j t)
    → Meets s (Preempt j t) held sender standing u c → s.hosts ≡ hosts → held ≡ Some (One old h) → key_of u.registry h ≡ Some (key_named s.keys j)
    → Does change None (only j) (number_of hosts (Some (new_reservation t sender))) (tells_of_replacement (told_but (not (is_kind old t)) j) (only j)) → Ends s sender (Good change) u c
replaced_ends s hosts j t old h held sender standing u c change has m alike is key does =
    let k = key_named s.keys j in
    let keys = keys_of s j t held sender standing u c has m in
    let now = number_of s.hosts (Some (new_reservation t sender)) in
    let tells = tells_of_replacement (told_but (not (is_kind old t)) j) (only j) in
    let case : preempt_case u.registry.keys u.registry.held k ≡ ReplacesHolder old =
    ap (λ v. preempt_case u.registry.keys v k) (m.held ∙ is) ∙ ap (λ b. if b then ReplacesHolder old else RemovesKey) (ap (λ o. is_key o k) key ∙ eq-eqb k k refl) in
    good_ends s (Preempt j t) held sender standing u c None (only j) now tells change has m (somebodys u.registry.keys h k key) refl
    (leaves change None (only j) (number_of hosts (Some (new_reservation t sender))) now tells (ap (λ n. number_of n (Some (new_reservation t sender))) (sym alike)) does)
    (in_case s.keys s.hosts sender None (only j) now tells u.registry k t (ReplacesHolder old) case
    (on_preempt_holder s.keys s.hosts sender j k t old u.registry keys.once keys.fits keys.named))

-- it is another key, which somebody has
pub removed_ends : (s : Scope) (j : ℕ) (t : Kind) (held : Option Held) (sender : ℕ) (standing : Standing) (u : UnitState) (c : Command) (left : ℕ) (g : ℕ) (change : Transition) → HasNumber (Preempt j t)
    → Meets s (Preempt j t) held sender standing u c → IsNotHolders u.registry.keys u.registry.held (key_named s.keys j) → key_of u.registry g ≡ Some (key_named s.keys j)
    → left ≡ number_of s.hosts (held_by_rest (without u.registry.keys (hosts_with u.registry.keys (key_named s.keys j))) u.registry.held)
    → Does change (lost_if (is_named standing)) (only j) left (tells_of_removal (only j)) → Ends s sender (Good change) u c
removed_ends s j t held sender standing u c left g change has m other key leaves_it does =
    let k = key_named s.keys j in
    let keys = keys_of s j t held sender standing u c has m in
    let to = lost_if (is_named standing) in
    let now = number_of s.hosts (held_by_rest (without u.registry.keys (hosts_with u.registry.keys k)) u.registry.held) in
    good_ends s (Preempt j t) held sender standing u c to (only j) now (tells_of_removal (only j)) change has m (somebodys u.registry.keys g k key) refl
    (leaves change to (only j) left now (tells_of_removal (only j)) leaves_it does)
    (in_case s.keys s.hosts sender to (only j) now (tells_of_removal (only j)) u.registry k t RemovesKey (removes u.registry.keys u.registry.held k keys.nonzero other)
    (on_preempt_key s.keys s.hosts sender j k t u.registry (is_named standing) keys.once keys.fits keys.named keys.own))

-- nobody has it
pub nobody_ends : (s : Scope) (j : ℕ) (t : Kind) (held : Option Held) (sender : ℕ) (standing : Standing) (u : UnitState) (c : Command) → HasNumber (Preempt j t)
    → Meets s (Preempt j t) held sender standing u c → is_named standing ≡ false → HasNobody s u sender (only j) → Ends s sender Conflict u c
nobody_ends s j t held sender standing u c has m other nobody =
    conflict_ends s (Preempt j t) held sender standing u c has m (nobodys u.registry.keys (key_named s.keys j) (λ g. at g (number_or_none s j t held sender standing u c m g) (eqb_tells g sender)))
  where
    keys : HasKeys s j sender standing u
    keys = keys_of s j t held sender standing u c has m

    at : (g : ℕ) → (key_of u.registry g ≡ None) ⊎ ((r : ℕ) × IsSo s u (Registration g r)) → (((g == sender) ≡ true) × (g ≡ sender)) ⊎ (((g == sender) ≡ false) × (g ≢ sender))
        → is_key (key_of u.registry g) (key_named s.keys j) ≡ false
    at g (inl none) test = ap (λ o. is_key o (key_named s.keys j)) none
    at g (inr it) (inr apart) = has_key s j sender standing u g it.0 keys it.1 ∙ nobody g it.0 apart.1 it.1
    at g (inr it) (inl same) =
        let so : IsSo s u (Registration sender it.0) = subst (λ h. IsSo s u (Registration h it.0)) same.1 it.1 in
        has_key s j sender standing u g it.0 keys it.1 ∙ keys.own it.0 (record { known = so.1; key = so.2 }) ∙ other
