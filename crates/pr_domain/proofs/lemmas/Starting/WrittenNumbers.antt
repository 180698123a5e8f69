-- The numbers of what a scenario writes of its starts.
use Rattle.pr_domain.proofs.Common.{◌≡◌, ℕ, ◌<◌, ◌≤◌, Bool, true, false, not, ◌&&◌, ◌⊎◌, ◌↔◌, List, map, length, ◌==◌, slice_get, Some, None, Contains, Option, option_map, sym, refl, ap, ◌∙◌, subst, inl, inr, arith, list_all, option_map_or, false≢true, cases_lt, and_parts, same_Some, slice_get_within, has_wide, has, MOST_NEXUSES, codes_of, Held, is_reservation, AreDeclared, Scenario, nexus, scenario_of, has_at, key_at, number_of, count_of_reservations, AreInRange, Possibilities, may_have, has_reservation, AreAlternatives, eq-eqb, eqb-true}
use Rattle.std.proofs.Common.{vec_len}
use Rattle.std.proofs.lemmas.List.Folds.{Any-from_list_any, list_any-from_Any}
use Rattle.std.proofs.lemmas.Option.{slice_get-map, slice_get_past, none-some}
use Rattle.pr_attention.specs.Attentions.{Codes}
use Rattle.pr_sets.specs.Numbers.{Within}
use Rattle.pr_script.specs.Names.{is_name}
use Rattle.pr_roles.specs.declared.parts.Nexus.{Nexus as NexusPart}
use Rattle.pr_roles.specs.declared.parts.Parts.{Parts}
use Rattle.pr_roles.specs.Fitting.{Fits as FitsAll, are_distinct, is_alternative, is_same_alternative, is_role, is_start, is_task, is_nexus, is_same_reservation}
use Rattle.pr_roles.specs.Scenarios.{Nexus, nexus_of}
use Rattle.pr_roles.specs.inside.StoredStarts.{start_of}
use Rattle.pr_roles.proofs.lemmas.Starts.AllowedStarts.{counted, each_nexus}
use Rattle.pr_roles.proofs.lemmas.FirstStarts.Existence.{all_pass, slice_get_contains}
use Rattle.pr_roles.proofs.lemmas.Scenarios.Parts.{count_of_parts}
use Rattle.pr_views.specs.Possibilities.{count_of_attentions}
use Rattle.pr_views.proofs.lemmas.Possibilities.Numbers.{same_held, same_registration, once_of}
use Rattle.pr_regions.specs.Purposes.{number_in}
use Rattle.pr_regions.proofs.lemmas.Purposes.Conduct.{number_named, declared_number}
use Rattle.pr_domain.specs.inside.Beginning.{registration_in, has_alternative, scope_in}
use Rattle.pr_regions.proofs.lemmas.Showing.AlikeViews.{number_below}

-- ---- registrations

pub registration_below : (keys : List ℕ) (key : Option ℕ) → registration_in keys key ≤ length keys
registration_below keys None = omega arith
registration_below keys (Some k) = at (cases_lt 0 (number_in keys k))
  where
    at : (0 < number_in keys k) ⊎ (number_in keys k ≤ 0) → number_in keys k ≤ length keys
    at (inl some) = (number_named keys k (number_in keys k) refl (omega arith)).0
    at (inr none) = omega arith

-- the number of an alternative tells it
pub registration_tells : (keys : List ℕ) (key : Option ℕ) → is_alternative keys key ≡ true → key_at keys (registration_in keys key) ≡ key
registration_tells keys None is = refl
registration_tells keys (Some k) is = (number_named keys k (number_in keys k) refl (declared_number keys k is)).1

pub alternative_tells : (keys : List ℕ) (alternatives : List (Option ℕ)) (r : ℕ) → AreDeclared keys → list_all (is_alternative keys) alternatives ≡ true → r ≤ length keys
    → (has_alternative keys alternatives r ≡ true) ↔ Contains alternatives (key_at keys r)
alternative_tells keys alternatives r declared all small = (λ is. there is, λ contains. number contains)
  where
    test : Option ℕ → Bool
    test key = registration_in keys key == r

    there : has_alternative keys alternatives r ≡ true → Contains alternatives (key_at keys r)
    there is =
        let found = Any-from_list_any test alternatives is in
        let contains : Contains alternatives found.1 = (found.0, found.2, found.3) in
        let tells = registration_tells keys found.1 (all_pass (is_alternative keys) alternatives found.1 all contains) in
        subst (Contains alternatives) (sym tells ∙ ap (key_at keys) (eqb-true (registration_in keys found.1) r found.4)) contains

    number : Contains alternatives (key_at keys r) → has_alternative keys alternatives r ≡ true
    number contains =
        let key = key_at keys r in
        let tells = registration_tells keys key (all_pass (is_alternative keys) alternatives key all contains) in
        let same = same_registration keys (registration_in keys key) r (once_of keys declared) (registration_below keys key) small tells in
        list_any-from_Any test alternatives (contains.0, key, contains.1, contains.2, eq-eqb (registration_in keys key) r same)

alternative_below : (keys : List ℕ) (alternatives : List (Option ℕ)) (r : ℕ) → has_alternative keys alternatives r ≡ true → r ≤ length keys
alternative_below keys alternatives r is =
    let found = Any-from_list_any (λ key. registration_in keys key == r) alternatives is in
    subst (λ n. n ≤ length keys) (eqb-true (registration_in keys found.1) r found.4) (registration_below keys found.1)

pub may_have_below : (keys : List ℕ) (nexuses : List NexusPart) (g r : ℕ) → may_have keys nexuses g r ≡ true → r ≤ length keys
may_have_below keys nexuses g r is = at (slice_get nexuses g) is
  where
    at : (o : Option NexusPart) → option_map_or (λ n. has_alternative keys (start_of n) r) o false ≡ true → r ≤ length keys
    at None has = absurd (false≢true has)
    at (Some n) has = alternative_below keys (start_of n) r has

pub may_have_past : (keys : List ℕ) (nexuses : List NexusPart) (g r : ℕ) → length nexuses ≤ g → may_have keys nexuses g r ≡ false
may_have_past keys nexuses g r past = ap (λ o. option_map_or (λ n. has_alternative keys (start_of n) r) o false) (slice_get_past nexuses g past)

-- what is written of a nexus is what the scenario has of it
pub may_have_at : (keys : List ℕ) (nexuses : List NexusPart) (g r : ℕ) (n : Nexus) → slice_get (map nexus_of nexuses) g ≡ Some n → may_have keys nexuses g r ≡ has_alternative keys n.start r
may_have_at keys nexuses g r n is = at (slice_get nexuses g) (sym (slice_get-map nexus_of nexuses g) ∙ is)
  where
    at : (o : Option NexusPart) → option_map nexus_of o ≡ Some n → option_map_or (λ m. has_alternative keys (start_of m) r) o false ≡ has_alternative keys n.start r
    at None there = absurd (none-some n there)
    at (Some m) there = ap (λ (x : Nexus). has_alternative keys x.start r) (same_Some (nexus_of m) n there)

-- ---- reservations

pub reservation_tells : (hosts : ℕ) (reservations : List (Option Held)) (held : Option Held) → list_all (is_reservation hosts) reservations ≡ true → is_reservation hosts held ≡ true
    → (has_reservation hosts reservations (number_of hosts held) ≡ true) ↔ Contains reservations held
reservation_tells hosts reservations held all fits = (λ is. there is, λ contains. number contains)
  where
    test : Option Held → Bool
    test one = number_of hosts one == number_of hosts held

    there : has_reservation hosts reservations (number_of hosts held) ≡ true → Contains reservations held
    there is =
        let found = Any-from_list_any test reservations is in
        let contains : Contains reservations found.1 = (found.0, found.2, found.3) in
        let also = all_pass (is_reservation hosts) reservations found.1 all contains in
        subst (Contains reservations) (same_held hosts found.1 held also fits (eqb-true (number_of hosts found.1) (number_of hosts held) found.4)) contains

    number : Contains reservations held → has_reservation hosts reservations (number_of hosts held) ≡ true
    number contains =
        list_any-from_Any test reservations (contains.0, held, contains.1, contains.2, eq-eqb (number_of hosts held) (number_of hosts held) refl)

pub reservation_in_range : (hosts : ℕ) (reservations : List (Option Held)) (x : ℕ) → list_all (is_reservation hosts) reservations ≡ true → has_reservation hosts reservations x ≡ true
    → x < count_of_reservations hosts
reservation_in_range hosts reservations x all is =
    let found = Any-from_list_any (λ held. number_of hosts held == x) reservations is in
    let fits = all_pass (is_reservation hosts) reservations found.1 all (found.0, found.2, found.3) in
    subst (λ n. n < count_of_reservations hosts) (eqb-true (number_of hosts found.1) x found.4) (number_below hosts found.1 fits)

-- ---- what fitting says

pub few_nexuses : (p : Parts) → FitsAll (scenario_of p) → (1 ≤ length p.nexuses.items) × (length p.nexuses.items ≤ MOST_NEXUSES)
few_nexuses p fits = subst (λ n. (1 ≤ n) × (n ≤ MOST_NEXUSES)) (count_of_parts p) (counted (scenario_of p) fits)

pub reservations_fit : (s : Scenario) → FitsAll s → list_all (is_reservation (length s.nexuses)) s.reservations ≡ true
reservations_fit s fits =
    let parts = and_parts (not (length s.reservations == 0)) _ fits.reservations in
    (and_parts (list_all (is_reservation (length s.nexuses)) s.reservations) (are_distinct is_same_reservation s.reservations) parts.1).0

pub reservations_at : (p : Parts) → FitsAll (scenario_of p) → list_all (is_reservation (length p.nexuses.items)) p.reservations.items ≡ true
unfolding scenario_of
reservations_at p fits = subst (λ n. list_all (is_reservation n) p.reservations.items ≡ true) (count_of_parts p) (reservations_fit (scenario_of p) fits)

pub start_fits : (s : Scenario) (g : ℕ) (n : Nexus) → FitsAll s → nexus s g ≡ Some n → list_all (is_alternative s.keys) n.start ≡ true
start_fits s g n fits is =
    let keys = s.keys in
    let ns = s.nexuses in
    let one = all_pass (is_nexus keys) ns n (each_nexus s fits) (slice_get_contains ns g n is) in
    let named = (and_parts (is_name n.name) (is_role keys n.role && (is_start keys n.start && is_task keys n.task)) one).1 in
    let roled = (and_parts (is_role keys n.role) (is_start keys n.start && is_task keys n.task) named).1 in
    let started = (and_parts (is_start keys n.start) (is_task keys n.task) roled).0 in
    let some = (and_parts (not (length n.start == 0)) (list_all (is_alternative keys) n.start && are_distinct is_same_alternative n.start) started).1 in
    (and_parts (list_all (is_alternative keys) n.start) (are_distinct is_same_alternative n.start) some).0

-- ---- the written alternatives

-- the possibilities are made of what is written in the parts
pub record AreWritten (hosts own : ℕ) (parts : Parts) (p : Possibilities) : Type 0 where
  pub nexus : NexusPart
  pub there : slice_get parts.nexuses.items own ≡ Some nexus
  pub registrations : (g r : ℕ) → has_at p.registrations g r ≡ may_have parts.keys.items parts.nexuses.items g r
  pub reservations : (x : ℕ) → has_wide p.reservations x ≡ has_reservation hosts parts.reservations.items x
  pub few : (q : ℕ) → has p.pending q ≡ true → q < count_of_attentions
  pub pending : (q : ℕ) → q < count_of_attentions → (has p.pending q ≡ true) ↔ Within (codes_of q) nexus.pending

through : {A : Type 0} (a b : Bool) → a ≡ b → (b ≡ true) ↔ A → (a ≡ true) ↔ A
through a b same tells = (λ is. tells.0 (sym same ∙ is), λ x. same ∙ tells.1 x)

pub are_alternatives : (hosts own : ℕ) (parts : Parts) (p : Possibilities) → FitsAll (scenario_of parts) → length parts.nexuses.items ≡ hosts → AreWritten hosts own parts p
    → AreAlternatives (scenario_of parts) (scope_in own hosts parts) p
unfolding scenario_of
are_alternatives hosts own parts p fits many are = record {
  hosts = sym many ∙ sym (count_of_parts parts);
  there = λ g n is. subst (λ m. g < m) (count_of_parts parts ∙ many) (within g n is);
  registrations = λ g r n is small.
      through (has_at p.registrations g r) (has_alternative keys n.start r) (are.registrations g r ∙ may_have_at keys parts.nexuses.items g r n is)
      (alternative_tells keys n.start r fits.keys (start_fits (scenario_of parts) g n fits is) small);
  reservations = λ held ok.
      through (has_wide p.reservations (number_of hosts held)) (has_reservation hosts parts.reservations.items (number_of hosts held)) (are.reservations (number_of hosts held))
      (reservation_tells hosts parts.reservations.items held (subst (λ m. list_all (is_reservation m) parts.reservations.items ≡ true) many (reservations_at parts fits)) ok);
  pending = λ q n small is. subst (λ (codes : Codes). (has p.pending q ≡ true) ↔ Within (codes_of q) codes) (ap (λ (m : Nexus). m.pending) (one n is)) (are.pending q small);
}
  where
    keys : List ℕ
    keys = parts.keys.items

    within : (g : ℕ) (n : Nexus) → nexus (scenario_of parts) g ≡ Some n → g < length (scenario_of parts).nexuses
    within g n is = slice_get_within (map nexus_of parts.nexuses.items) g n is

    one : (n : Nexus) → nexus (scenario_of parts) own ≡ Some n → nexus_of are.nexus ≡ n
    one n is =
        same_Some (nexus_of are.nexus) n (ap (option_map nexus_of) (sym are.there) ∙ sym (slice_get-map nexus_of parts.nexuses.items own) ∙ is)

pub written_in_range : (hosts own : ℕ) (parts : Parts) (p : Possibilities) → FitsAll (scenario_of parts) → length parts.nexuses.items ≡ hosts → AreWritten hosts own parts p
    → AreInRange hosts parts.keys.items p
unfolding scenario_of
written_in_range hosts own parts p fits many are = record {
  registrations = λ g r small is. may_have_below parts.keys.items parts.nexuses.items g r (sym (are.registrations g r) ∙ is);
  reservations = λ x is.
      reservation_in_range hosts parts.reservations.items x (subst (λ m. list_all (is_reservation m) parts.reservations.items ≡ true) many (reservations_at parts fits))
      (sym (are.reservations x) ∙ is);
  pending = are.few;
}

pub written_past : (hosts own : ℕ) (parts : Parts) (p : Possibilities) → length parts.nexuses.items ≡ hosts → AreWritten hosts own parts p → (g r : ℕ) → hosts ≤ g → has_at p.registrations g r ≡ false
written_past hosts own parts p many are g r past = are.registrations g r ∙ may_have_past parts.keys.items parts.nexuses.items g r (omega arith)

-- so many nexuses are there, in the parts and in the scenario that they are
pub record AreCounted (scenario parts : Parts) (count : ℕ) : Type 0 where
  pub items : length parts.nexuses.items ≡ count
  pub nexuses : count ≡ length (scenario_of scenario).nexuses
  pub few : (1 ≤ count) × (count ≤ MOST_NEXUSES)

pub are_counted : (scenario parts : Parts) (count : ℕ) → parts ≡ scenario → FitsAll (scenario_of scenario) → count ≡ vec_len parts.nexuses → AreCounted scenario parts count
are_counted scenario parts count same fits is = record {
  items = items;
  nexuses = sym items ∙ ap (λ (p : Parts). length p.nexuses.items) same ∙ sym (count_of_parts scenario);
  few = subst (λ n. (1 ≤ n) × (n ≤ MOST_NEXUSES)) (ap (λ (p : Parts). length p.nexuses.items) (sym same) ∙ items) (few_nexuses scenario fits);
}
  where
    items : length parts.nexuses.items ≡ count
    items = let known = parts.nexuses.ok.0 in omega arith
