-- What each service action makes of a registry, registration by registration.
use Rattle.pr_regions.proofs.Common.{◌≡◌, ℕ, zero, suc, ◌≤◌, Bool, true, false, cond, not, ◌&&◌, ◌≢◌, ◌⊎◌, List, length, is_some, if◌then◌else◌, ◌==◌, Some, None, Option, unwrap_or, sym, refl, ap, ◌∙◌, subst, inl, inr, arith, nat_tests, eqb_tells, Kind, no_change, change_on_unregister, is_told_of_loss, is_key, Hosts, nobody, State, is_registered, key_of, contains-nobody, get-without, number_of, key_at, Transition, Does, never, is_of_registrant, told_if, MOST_KEYS, eq-eqb, ne_eqb, Audience, tells_nobody, tells_of_loss, tells_of_removal, holds_alone, BitSet, has, HasThose}
use Rattle.std.specs.FinSet as set
use Rattle.std.specs.FinMap as map
use Rattle.pr_registry.specs.declared.change.Change.{Change as Told}
use Rattle.pr_registry.specs.Hosts.{just}
use Rattle.pr_registry.specs.Registrations.{others, registrants}
use Rattle.pr_registry.specs.Changes.{is_released, change_on_release, change_on_clear}
use Rattle.pr_registry.specs.Effects.{with_registration as register, without_registration, after_release, after_clear}
use Rattle.pr_registry.proofs.lemmas.Sets.{contains-just, contains-remove, contains-hosts_in, get-insert, get-empty}
use Rattle.pr_views.proofs.lemmas.Possibilities.Numbers.{same_registration}
use Rattle.pr_regions.specs.Transitions.{HaveAudience}
use Rattle.pr_regions.specs.inside.Parts.{tells_of_clearing}
use Rattle.pr_regions.proofs.lemmas.Showing.Numbers.{AreDistinct, is_some-key_at}
use Rattle.pr_regions.proofs.lemmas.Regions.ChangedStates.{Is, Acts, AreTold, AreAudience}

-- the registry becomes this, as tests of registrations say
pub record Becomes (keys : List ℕ) (hosts from : ℕ) (to : Option ℕ) (out : ℕ → Bool) (left : ℕ) (tells : Audience) (u v : State) (t : Told) : Type 0 where
  pub sender : (r : ℕ) → Is keys u from r → Is keys v from (unwrap_or to r)
  pub others : (g r : ℕ) → g ≢ from → Is keys u g r → key_of v g ≡ (if out r then None else key_of u g)
  pub reservation : left ≡ number_of hosts v.held
  pub told : AreAudience keys u from t.told_03 t.told_04 t.told_05 tells

pub acts : (keys : List ℕ) (hosts from : ℕ) (to : Option ℕ) (out : ℕ → Bool) (left : ℕ) (tells : Audience) (u v : State) (t : Told) (c : Transition)
    → length keys ≤ MOST_KEYS → Does c to out left tells → Becomes keys hosts from to out left tells u v t → Acts keys hosts from c u v t
acts keys hosts from to out left tells u v t c few does b = record {
  sender = λ r is. subst (λ (o : Option ℕ). Is keys v from (unwrap_or o r)) (sym does.sender) (b.sender r is);
  others = λ g r other is. b.others g r other is ∙ ap (λ x. if x then None else key_of u g) (sym (does.removed r (within r is)));
  reservation = does.reservation ∙ b.reservation;
  told = record {
    told_03 = those c.told_03 b.told.told_03 does.told.told_03;
    told_04 = those c.told_04 b.told.told_04 does.told.told_04;
    told_05 = those c.told_05 b.told.told_05 does.told.told_05;
  };
}
  where
    within : (r : ℕ) {g : ℕ} → Is keys u g r → r ≤ MOST_KEYS
    within r is = let small = is.known in omega arith

    those : {told : Hosts} {passes : ℕ → Bool} (w : BitSet) → AreTold keys u from told passes → HasThose w passes → AreTold keys u from told (has w)
    those w are has_those = record { others = λ g r other is. are.others g r other is ∙ sym (has_those r (within r is)); sender = are.sender }

-- ---- who is told

-- the registrants are the hosts whose registration is not 0
pub is_registered-number : (keys : List ℕ) (u : State) (g r : ℕ) → Is keys u g r → is_registered u g ≡ is_of_registrant r
is_registered-number keys u g r is = ap is_some is.key ∙ is_some-key_at keys r is.known

pub contains-others : (keys : List ℕ) (u : State) (from g r : ℕ) → g ≢ from → Is keys u g r → set.contains (others u from) g ≡ is_of_registrant r
contains-others keys u from g r other is =
    contains-remove (registrants u) from g ∙ ap (λ b. not b && set.contains (registrants u) g) (ne_eqb g from other)
    ∙ contains-hosts_in u.keys g ∙ is_registered-number keys u g r is

pub not_itself : (s : Hosts) (h : ℕ) → set.contains (set.remove s h) h ≡ false
not_itself s h = contains-remove s h h ∙ ap (λ b. not b && set.contains s h) (eq-eqb h h refl)

pub contains-others_itself : (u : State) (from : ℕ) → set.contains (others u from) from ≡ false
contains-others_itself u from = not_itself (registrants u) from

-- the hosts with a key are those whose registration has its number
pub is_key-number : (keys : List ℕ) (u : State) (g r j k : ℕ) → AreDistinct keys → j ≤ length keys → key_at keys j ≡ Some k → Is keys u g r → is_key (key_of u g) k ≡ (r == j)
is_key-number keys u g r j k once fits named is = ap (λ o. is_key o k) is.key ∙ at (eqb_tells r j)
  where
    differs : (o : Option ℕ) → (o ≡ Some k → r ≡ j) → r ≢ j → is_key o k ≡ false
    differs None same other = refl
    differs (Some m) same other = by (eqb_tells m k)
      where
        by : (((m == k) ≡ true) × (m ≡ k)) ⊎ (((m == k) ≡ false) × (m ≢ k)) → (m == k) ≡ false
        by (inl equal) = absurd (other (same (ap Some equal.1)))
        by (inr unequal) = unequal.0

    at : (((r == j) ≡ true) × (r ≡ j)) ⊎ (((r == j) ≡ false) × (r ≢ j)) → is_key (key_at keys r) k ≡ (r == j)
    at (inl same) = ap (λ n. is_key (key_at keys n) k) same.1 ∙ ap (λ o. is_key o k) named ∙ eq-eqb k k refl ∙ sym same.0
    at (inr other) = differs (key_at keys r) (λ there. same_registration keys r j once is.known fits (there ∙ sym named)) other.1 ∙ sym other.0

pub none_told : (keys : List ℕ) (u : State) (from : ℕ) → AreTold keys u from nobody never
none_told keys u from = record { others = λ g r other is. contains-nobody g; sender = contains-nobody from }

nobody_told : (keys : List ℕ) (u : State) (from : ℕ) → AreAudience keys u from nobody nobody nobody tells_nobody
nobody_told keys u from = record { told_03 = none_told keys u from; told_04 = none_told keys u from; told_05 = none_told keys u from }

pub others_told : (keys : List ℕ) (u : State) (from : ℕ) → AreTold keys u from (others u from) is_of_registrant
others_told keys u from = record { others = contains-others keys u from; sender = contains-others_itself u from }

others_told_if : (keys : List ℕ) (u : State) (from : ℕ) (b : Bool) → AreTold keys u from (if b then others u from else nobody) (told_if b)
others_told_if keys u from true = record { others = (others_told keys u from).others; sender = contains-others_itself u from }
others_told_if keys u from false = record { others = λ g r other is. contains-nobody g; sender = contains-nobody from }

told_of_loss : (keys : List ℕ) (u : State) (from : ℕ) (b : Bool) → AreAudience keys u from nobody (if b then others u from else nobody) nobody (tells_of_loss (told_if b))
told_of_loss keys u from b = record { told_03 = none_told keys u from; told_04 = others_told_if keys u from b; told_05 = none_told keys u from }

-- who tells nobody tells these once it tells that reservations were preempted
pub then_of_clearing : (v w_03 w_04 w_05 : BitSet) (those : ℕ → Bool) → HaveAudience w_03 w_04 w_05 tells_nobody → HasThose v those → HaveAudience v w_04 w_05 (tells_of_clearing those)
then_of_clearing v w_03 w_04 w_05 those none tells = record { told_03 = tells; told_04 = none.told_04; told_05 = none.told_05 }

-- and that registrations were
pub then_of_removal : (v w_03 w_04 w_05 : BitSet) (those : ℕ → Bool) → HaveAudience w_03 w_04 w_05 tells_nobody → HasThose v those → HaveAudience w_03 w_04 v (tells_of_removal those)
then_of_removal v w_03 w_04 w_05 those none tells = record { told_03 = none.told_03; told_04 = none.told_04; told_05 = tells }

-- ---- where the registrations stay

pub still : (keys : List ℕ) (hosts from : ℕ) (u v : State) → ((g : ℕ) → key_of v g ≡ key_of u g) → Becomes keys hosts from None never (number_of hosts v.held) tells_nobody u v no_change
still keys hosts from u v same = record {
  sender = λ r is. record { known = is.known; key = same from ∙ is.key };
  others = λ g r other is. same g;
  reservation = refl;
  told = nobody_told keys u from;
}

pub on_release : (keys : List ℕ) (hosts from : ℕ) (t : Kind) (u : State)
    → Becomes keys hosts from None never (number_of hosts (after_release u from t).held) (tells_of_loss (told_if (is_released u from t && is_told_of_loss u.held))) u (after_release u from t) (change_on_release u from t)
on_release keys hosts from t u = record {
  sender = λ r is. record { known = is.known; key = is.key };
  others = λ g r other is. refl;
  reservation = refl;
  told = told_of_loss keys u from (is_released u from t && is_told_of_loss u.held);
}

-- ---- where some change

pub on_register : (keys : List ℕ) (hosts from j k : ℕ) (u : State) → j ≤ length keys → key_at keys j ≡ Some k
    → Becomes keys hosts from (Some j) never (number_of hosts u.held) tells_nobody u (register u from k) no_change
on_register keys hosts from j k u fits named = record {
  sender = λ r is. record { known = fits; key = get-insert u.keys from k from ∙ ap (λ b. cond b (Some k) (map.get u.keys from)) (eq-eqb from from refl) ∙ sym named };
  others = λ g r other is. get-insert u.keys from k g ∙ ap (λ b. cond b (Some k) (map.get u.keys g)) (ne_eqb g from other);
  reservation = refl;
  told = nobody_told keys u from;
}

pub on_clear : (keys : List ℕ) (hosts from : ℕ) (u : State) → Becomes keys hosts from (Some 0) is_of_registrant 0 (tells_of_clearing is_of_registrant) u (after_clear u) (change_on_clear u from)
on_clear keys hosts from u = record {
  sender = λ r is. record { known = omega arith; key = get-empty from };
  others = λ g r other is. get-empty g ∙ none keys g r is;
  reservation = refl;
  told = record { told_03 = others_told keys u from; told_04 = none_told keys u from; told_05 = none_told keys u from };
}
  where
    none : (keys : List ℕ) (g r : ℕ) → Is keys u g r → None ≡ (if is_of_registrant r then None else key_of u g)
    none keys g zero is = sym is.key
    none keys g (suc i) is = ap (λ b. if b then None else key_of u g) (sym (not_zero i))
      where
        not_zero : (i : ℕ) → is_of_registrant (suc i) ≡ true
        not_zero i = grind (arith, nat_tests)

pub on_unregister : (keys : List ℕ) (hosts from : ℕ) (u : State)
    → Becomes keys hosts from (Some 0) never (number_of hosts (without_registration u from).held) (tells_of_loss (told_if (holds_alone u.held from && is_told_of_loss u.held))) u (without_registration u from) (change_on_unregister u from)
on_unregister keys hosts from u = record {
  sender = λ r is. record {
    known = omega arith;
    key = get-without u.keys (just from) from ∙ ap (λ b. if b then None else map.get u.keys from) (contains-just from from ∙ eq-eqb from from refl);
  };
  others = λ g r other is. get-without u.keys (just from) g ∙ ap (λ b. if b then None else map.get u.keys g) (contains-just from g ∙ ne_eqb g from other);
  reservation = refl;
  told = told_of_loss keys u from (holds_alone u.held from && is_told_of_loss u.held);
}
