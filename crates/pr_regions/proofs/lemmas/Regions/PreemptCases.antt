-- What PREEMPT makes of a registry, by its case.
use Rattle.pr_regions.proofs.Common.{◌≡◌, ℕ, ◌≤◌, Bool, true, false, not, ◌&&◌, ◌≢◌, List, length, if◌then◌else◌, ◌==◌, Some, None, Option, unwrap_or, sym, refl, ap, ◌∙◌, subst, arith, Kind, no_change, is_kind, ReplacesAll, preempt_case, held_by_rest, Hosts, nobody, without, hosts_with, State, key_of, new_reservation, contains-nobody, get-without, number_of, key_at, is_of_registrant, told_but, lost_if, ne_eqb, Audience, tells_of_removal, tells_of_replacement}
use Rattle.std.specs.FinSet as set
use Rattle.std.specs.FinMap as map
use Rattle.pr_registry.specs.declared.change.Change.{Change as Told}
use Rattle.pr_registry.specs.Hosts.{hosts_in}
use Rattle.pr_registry.specs.Registrations.{others}
use Rattle.pr_registry.specs.Changes.{Case, ReplacesHolder, RemovesKey, removed_by_preempt, is_new_type, change_on_preempt}
use Rattle.pr_registry.specs.Effects.{next, held_after_preempt, after_preempt}
use Rattle.pr_registry.proofs.lemmas.Sets.{contains-remove, contains-difference, contains-hosts_with}
use Rattle.pr_regions.proofs.lemmas.Showing.Numbers.{AreDistinct}
use Rattle.pr_regions.proofs.lemmas.Regions.ChangedStates.{Is, AreTold}
use Rattle.pr_regions.proofs.lemmas.Regions.Effects.{Becomes, contains-others, contains-others_itself, is_key-number, none_told, not_itself}

-- what it makes of a registry in this case
abbrev pub preempted_as : State → ℕ → ℕ → Kind → Case → State
preempted_as u h k t case =
    let rest = without u.keys (removed_by_preempt u.keys h k case) in
    record u { keys = rest; held = held_after_preempt rest u.held h (Some t) case; generation = next u.generation }

abbrev pub told_as : State → ℕ → ℕ → Kind → Case → Told
told_as u h k t case =
    let removed = removed_by_preempt u.keys h k case in
    record no_change {
      removed = removed;
      told_04 = if is_new_type (Some t) case then set.difference (others u h) removed else nobody;
      told_05 = set.remove removed h;
    }

pub in_case : (keys : List ℕ) (hosts from : ℕ) (to : Option ℕ) (out : ℕ → Bool) (left : ℕ) (tells : Audience) (u : State) (k : ℕ) (t : Kind) (case : Case)
    → preempt_case u.keys u.held k ≡ case → Becomes keys hosts from to out left tells u (preempted_as u from k t case) (told_as u from k t case)
    → Becomes keys hosts from to out left tells u (after_preempt u from k (Some t)) (change_on_preempt u from k (Some t))
in_case keys hosts from to out left tells u k t case is becomes =
    subst (λ (x : Case). Becomes keys hosts from to out left tells u (preempted_as u from k t x) (told_as u from k t x)) (sym is) becomes

-- ---- whom it removes

without_some : (u : State) (removed : Hosts) (g : ℕ) (b : Bool) → set.contains removed g ≡ b → map.get (without u.keys removed) g ≡ (if b then None else key_of u g)
without_some u removed g b is = get-without u.keys removed g ∙ ap (λ x. if x then None else map.get u.keys g) is

removed_but : (s : Hosts) (from g : ℕ) → g ≢ from → set.contains (set.remove s from) g ≡ set.contains s g
removed_but s from g other = contains-remove s from g ∙ ap (λ b. not b && set.contains s g) (ne_eqb g from other)

with_key : (keys : List ℕ) (u : State) (g r j k : ℕ) → AreDistinct keys → j ≤ length keys → key_at keys j ≡ Some k → Is keys u g r → set.contains (hosts_with u.keys k) g ≡ (r == j)
with_key keys u g r j k once fits named is = contains-hosts_with u.keys k g ∙ is_key-number keys u g r j k once fits named is

-- ---- all others

pub on_preempt_all : (keys : List ℕ) (hosts from : ℕ) (t : Kind) (u : State)
    → Becomes keys hosts from None is_of_registrant (number_of hosts (Some (new_reservation t from))) (tells_of_removal is_of_registrant) u (preempted_as u from 0 t ReplacesAll) (told_as u from 0 t ReplacesAll)
on_preempt_all keys hosts from t u = record {
  sender = λ r is. record { known = is.known; key = without_some u (set.remove (hosts_in u.keys) from) from false (not_itself (hosts_in u.keys) from) ∙ is.key };
  others = λ g r other is. without_some u (set.remove (hosts_in u.keys) from) g (is_of_registrant r) (all_but g r other is);
  reservation = refl;
  told = record {
    told_03 = none_told keys u from;
    told_04 = none_told keys u from;
    told_05 = record { others = λ g r other is. removed_but (set.remove (hosts_in u.keys) from) from g other ∙ all_but g r other is; sender = not_itself (set.remove (hosts_in u.keys) from) from };
  };
}
  where
    all_but : (g r : ℕ) → g ≢ from → Is keys u g r → set.contains (set.remove (hosts_in u.keys) from) g ≡ is_of_registrant r
    all_but g r other is = contains-others keys u from g r other is

-- ---- the holder

-- the others with this key
abbrev others_with : State → ℕ → ℕ → Hosts
others_with u k from = set.remove (hosts_with u.keys k) from

contains-others_with : (keys : List ℕ) (u : State) (from g r j k : ℕ) → AreDistinct keys → j ≤ length keys → key_at keys j ≡ Some k → g ≢ from → Is keys u g r
    → set.contains (others_with u k from) g ≡ (r == j)
contains-others_with keys u from g r j k once fits named other is = removed_but (hosts_with u.keys k) from g other ∙ with_key keys u g r j k once fits named is

rest_told : (keys : List ℕ) (u : State) (from j k : ℕ) (b : Bool) → AreDistinct keys → j ≤ length keys → key_at keys j ≡ Some k
    → AreTold keys u from (if b then set.difference (others u from) (others_with u k from) else nobody) (told_but b j)
rest_told keys u from j k true once fits named = record {
  others = λ g r other is.
      contains-difference (others u from) (others_with u k from) g
      ∙ (λ i. contains-others keys u from g r other is i && not (contains-others_with keys u from g r j k once fits named other is i));
  sender = contains-difference (others u from) (others_with u k from) from ∙ ap (λ b. b && not (set.contains (others_with u k from) from)) (contains-others_itself u from);
}
rest_told keys u from j k false once fits named = record { others = λ g r other is. contains-nobody g; sender = contains-nobody from }

pub on_preempt_holder : (keys : List ℕ) (hosts from j k : ℕ) (t held : Kind) (u : State) → AreDistinct keys → j ≤ length keys → key_at keys j ≡ Some k
    → Becomes keys hosts from None (λ r. r == j) (number_of hosts (Some (new_reservation t from))) (tells_of_replacement (told_but (not (is_kind held t)) j) (λ r. r == j))
    u (preempted_as u from k t (ReplacesHolder held)) (told_as u from k t (ReplacesHolder held))
on_preempt_holder keys hosts from j k t held u once fits named = record {
  sender = λ r is. record { known = is.known; key = without_some u (others_with u k from) from false (not_itself (hosts_with u.keys k) from) ∙ is.key };
  others = λ g r other is. without_some u (others_with u k from) g (r == j) (contains-others_with keys u from g r j k once fits named other is);
  reservation = refl;
  told = record {
    told_03 = none_told keys u from;
    told_04 = rest_told keys u from j k (not (is_kind held t)) once fits named;
    told_05 = record { others = λ g r other is. removed_but (others_with u k from) from g other ∙ contains-others_with keys u from g r j k once fits named other is; sender = not_itself (others_with u k from) from };
  };
}

-- ---- any other key

pub on_preempt_key : (keys : List ℕ) (hosts from j k : ℕ) (t : Kind) (u : State) (own : Bool) → AreDistinct keys → j ≤ length keys → key_at keys j ≡ Some k
    → ((r : ℕ) → Is keys u from r → (r == j) ≡ own)
    → Becomes keys hosts from (lost_if own) (λ r. r == j) (number_of hosts (held_by_rest (without u.keys (hosts_with u.keys k)) u.held)) (tells_of_removal (λ r. r == j))
    u (preempted_as u from k t RemovesKey) (told_as u from k t RemovesKey)
on_preempt_key keys hosts from j k t u own once fits named has = record {
  sender = λ r is. sender_left own r is (has r is);
  others = λ g r other is. without_some u (hosts_with u.keys k) g (r == j) (with_key keys u g r j k once fits named is);
  reservation = refl;
  told = record {
    told_03 = none_told keys u from;
    told_04 = none_told keys u from;
    told_05 = record { others = λ g r other is. contains-others_with keys u from g r j k once fits named other is; sender = not_itself (hosts_with u.keys k) from };
  };
}
  where
    sender_left : (own : Bool) (r : ℕ) → Is keys u from r → (r == j) ≡ own → Is keys (preempted_as u from k t RemovesKey) from (unwrap_or (lost_if own) r)
    sender_left true r is same = record { known = omega arith; key = without_some u (hosts_with u.keys k) from true (with_key keys u from r j k once fits named is ∙ same) }
    sender_left false r is other = record { known = is.known; key = without_some u (hosts_with u.keys k) from false (with_key keys u from r j k once fits named is ∙ other) ∙ is.key }
