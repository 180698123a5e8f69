-- The first start is allowed, and where some state is allowed there is a first start.
use Rattle.pr_roles.proofs.Common.{◌≡◌, ℕ, zero, suc, ◌<◌, ◌≤◌, Bool, true, false, cond, not, ◌⊎◌, List, [], ◌∷◌, map, length, is_some, nat_lt, nat_le, ◌==◌, slice_get, slice_index_or, Some, None, Contains, Option, option_map, bytes_eq, sym, refl, ap, ◌∙◌, subst, inl, inr, arith, list_all, false≢true, and_parts, nat_tests, none-some, slice_get-map, slice_get_within, IsKey, Held, One, All, UnitState, quiet_unit, keys_under, first_under, are_distinct, Nexus, Scenario, nexus_of, start_of, length-map, Parts, nexus, scenario_of, Fits}
use Rattle.std.specs.FinMap as finmap
use Rattle.std.specs.List.{All as Each}
use Rattle.std.proofs.Common.{lit≤, ◌^◌, if◌then◌else◌, IfSome, IsSome}
use Rattle.std.proofs.Math.Nat.{eq-or-lt_of_le}
use Rattle.std.proofs.lemmas.Bool.{ltb-true, not-true}
use Rattle.pr_cdb.specs.declared.codes.TheConstants.{MOST_NEXUSES}
use Rattle.pr_roles.specs.declared.limits.TheConstants.{MOST_DECLARED_1, MOST_DECLARED_2}
use Rattle.pr_registry.specs.Hosts.{Keys}
use Rattle.pr_registry.specs.Registrations.{State, HasHolder, is_all, key_of, IsWellFormed}
use Rattle.pr_registry.specs.Tables.{table_keys, state_from}
use Rattle.pr_registry.proofs.lemmas.Sets.{is_empty_from_none}
use Rattle.pr_registry.proofs.lemmas.Tables.{get-table_keys, get-table_keys_in, not_empty-table_keys}
use Rattle.pr_unit.proofs.lemmas.Attentions.Pairs.{contains-none}
use Rattle.pr_script.specs.Names.{is_name}
use Rattle.pr_roles.specs.declared.parts.Nexus.{Nexus as NexusPart}
use Rattle.pr_roles.specs.Fitting.{most_declared, is_reservation, is_nexus, is_role, is_start, is_task, is_alternative, is_same_reservation}
use Rattle.pr_roles.specs.Starts.{IsAllowedStart, CanStart}
use Rattle.pr_roles.specs.FirstStarts.{starts, first_state}
use Rattle.pr_roles.proofs.lemmas.Fitting.DistinctLists.{length_of_parts}
use Rattle.pr_roles.proofs.lemmas.FirstStarts.Existence.{chosen_length, chosen_at, AreOffered, all_pass, declared_key, slice_get_contains}
use Rattle.pr_roles.proofs.lemmas.FirstStarts.Reservations.{Made, Holding, made, first, found_first, found_alone, found_all}

-- ---- what fitting says

-- what a text may declare has a place in a unit
pub most_fits : (version : ℕ) → most_declared version ≤ MOST_NEXUSES
most_fits version = at (version == 1)
  where
    at : (first : Bool) → (if first then MOST_DECLARED_1 else MOST_DECLARED_2) ≤ MOST_NEXUSES
    at true = lit≤ tt
    at false = lit≤ tt

-- at least one nexus, and no more than a unit has room for
pub counted : (s : Scenario) → Fits s → (1 ≤ length s.nexuses) × (length s.nexuses ≤ MOST_NEXUSES)
counted s fits =
    let parts = and_parts (not (length s.nexuses == 0)) _ fits.nexuses in
    let few = (and_parts (nat_le (length s.nexuses) (most_declared s.version)) _ parts.1).0 in
    (grind (arith, nat_tests, parts.0), grind (arith, nat_tests, few, most_fits s.version))

pub each_nexus : (s : Scenario) → Fits s → list_all (is_nexus s.keys) s.nexuses ≡ true
each_nexus s fits =
    let parts = and_parts (not (length s.nexuses == 0)) _ fits.nexuses in
    let more = and_parts (nat_le (length s.nexuses) (most_declared s.version)) _ parts.1 in
    (and_parts (are_distinct bytes_eq (map (λ n. n.name) s.nexuses)) (list_all (is_nexus s.keys) s.nexuses) more.1).1

start_part : (keys : List ℕ) (n : Nexus) → is_nexus keys n ≡ true → is_start keys n.start ≡ true
start_part keys n fits =
    let parts = and_parts (is_name n.name) _ fits in
    let more = and_parts (is_role keys n.role) _ parts.1 in
    (and_parts (is_start keys n.start) (is_task keys n.task) more.1).0

offered_in : (keys : List ℕ) (ns : List Nexus) → list_all (is_nexus keys) ns ≡ true → AreOffered (map (λ n. n.start) ns)
unfolding AreOffered
offered_in keys [] fit = tt
offered_in keys (n ∷ ns) fit =
    let parts = and_parts (is_nexus keys n) (list_all (is_nexus keys) ns) fit in
    ((and_parts (not (length n.start == 0)) _ (start_part keys n parts.0)).0, offered_in keys ns parts.1)

pub offered : (s : Scenario) → Fits s → AreOffered (starts s)
offered s fits = offered_in s.keys s.nexuses (each_nexus s fits)

-- every alternative of every nexus is free or a key
alternative_key : (keys : List ℕ) (ns : List Nexus) (h : ℕ) (n : Nexus) (k : ℕ) → Each IsKey keys → list_all (is_nexus keys) ns ≡ true
    → slice_get ns h ≡ Some n → Contains n.start (Some k) → IsKey k
alternative_key keys ns h n k each fit there key =
    let fits = all_pass (is_nexus keys) ns n fit (slice_get_contains ns h n there) in
    let alternatives = (and_parts (list_all (is_alternative keys) n.start) _ (and_parts (not (length n.start == 0)) _ (start_part keys n fits)).1).0 in
    declared_key keys k each (all_pass (is_alternative keys) n.start (Some k) alternatives key)

-- ---- the first start is well formed

-- a table has a key for a nexus within it alone, and that is the one in its place
at_place : (keys : List (Option ℕ)) (h k : ℕ) → finmap.get (table_keys (length keys) keys) h ≡ Some k
    → (h < length keys) × (slice_index_or keys h None ≡ Some k)
at_place keys h k is = by (nat_lt h (length keys)) refl (sym (get-table_keys (length keys) keys h) ∙ is)
  where
    by : (b : Bool) → nat_lt h (length keys) ≡ b → cond b (slice_index_or keys h None) None ≡ Some k → (h < length keys) × (slice_index_or keys h None ≡ Some k)
    by true within there = (ltb-true h (length keys) within, there)
    by false past there = absurd (none-some k there)

-- the alternatives of a nexus that is there
alternatives_at : (s : Scenario) (h : ℕ) (n : Nexus) → nexus s h ≡ Some n → slice_get (starts s) h ≡ Some n.start
alternatives_at s h n there = slice_get-map (λ n. n.start) s.nexuses h ∙ ap (option_map (λ n. n.start)) there

pub some_nexus : (s : Scenario) (h : ℕ) → h < length s.nexuses → (n : Nexus) × (nexus s h ≡ Some n)
some_nexus s h within = at s.nexuses h within
  where
    at : (ns : List Nexus) (h : ℕ) → h < length ns → (n : Nexus) × (slice_get ns h ≡ Some n)
    at [] h within = absurd (omega (arith, within))
    at (n ∷ ns) zero within = (n, refl)
    at (n ∷ ns) (suc h) within = at ns h (omega (arith, within))

starts_length : (s : Scenario) → length (starts s) ≡ length s.nexuses
starts_length s = length-map s.nexuses (λ n. n.start)

holds_in : (keys : List (Option ℕ)) (held : Option Held) (hosts : ℕ) → is_reservation hosts held ≡ true → Holding keys held → HasHolder (table_keys (length keys) keys) held
unfolding Holding
holds_in keys None hosts fits holding = tt
holds_in keys (Some (One t h)) hosts fits holding =
    (not-true (is_all t) (and_parts (not (is_all t)) _ fits).0, ap is_some (get-table_keys_in (length keys) keys h holding.0) ∙ holding.1)
holds_in keys (Some (All t)) hosts fits holding =
    (fits, not_empty-table_keys (length keys) keys holding.0 holding.1 holding.2)

pub first_formed : (s : Scenario) (held : Option Held) (keys : List (Option ℕ)) → Fits s → s.generation < 2 ^ 32
    → Made (starts s) keys held → is_reservation (length s.nexuses) held ≡ true → IsWellFormed (state_from keys held s.generation)
first_formed s held keys fits generation made fit =
    let long = chosen_length (starts s) keys made.chosen ∙ starts_length s in
    let few = counted s fits in
    record {
      hosts = (omega (arith, long, few.0), omega (arith, long, few.1));
      keys = λ h k is.
          let place = at_place keys h k is in
          let n = some_nexus s h (omega (arith, long, place.0)) in
          let chosen = chosen_at (starts s) keys h n.0.start made.chosen (alternatives_at s h n.0 n.1) in
          (place.0, alternative_key s.keys s.nexuses h n.0 k fits.keys.each (each_nexus s fits) n.1 (subst (Contains n.0.start) place.1 chosen));
      held = holds_in keys held (length s.nexuses) fit made.holding;
      generation = generation;
    }

each_reservation : (s : Scenario) (held : Option Held) → Fits s → Contains s.reservations held → is_reservation (length s.nexuses) held ≡ true
each_reservation s held fits there =
    let parts = and_parts (not (length s.reservations == 0)) _ fits.reservations in
    all_pass (is_reservation (length s.nexuses)) s.reservations held
    (and_parts (list_all (is_reservation (length s.nexuses)) s.reservations) (are_distinct is_same_reservation s.reservations) parts.1).0 there

-- ---- the first start is allowed

pub first_allowed : (s : Scenario) (held : Option Held) (keys : List (Option ℕ)) → Fits s → s.generation < 2 ^ 32
    → first_under (starts s) s.reservations ≡ Some (held, keys)
    → IsWellFormed (state_from keys held s.generation) × IsAllowedStart s (quiet_unit (state_from keys held s.generation))
first_allowed s held keys fits generation is =
    let f = first (starts s) s.reservations held keys is in
    let m = made (starts s) held keys (offered s fits) f.under in
    let formed = first_formed s held keys fits generation m (each_reservation s held fits f.there) in
    let long = chosen_length (starts s) keys m.chosen ∙ starts_length s in (
      formed,
      record {
        formed = record { registry = formed; pending = λ h code pending. absurd (false≢true (sym (contains-none (h, code)) ∙ pending)) };
        hosts = long;
        registrations = λ h n there.
            let within = slice_get_within s.nexuses h n there in
            let at = get-table_keys_in (length keys) keys h (omega (arith, long, within)) in
            subst (Contains n.start) (sym at) (chosen_at (starts s) keys h n.start m.chosen (alternatives_at s h n there));
        reservation = f.there;
        pending = λ h code n there pending. absurd (false≢true (sym (contains-none (h, code)) ∙ pending));
      },
    )

-- ---- where some state is allowed there is a first start

-- some host below n has a key, or none has
find_key : (keys : Keys) (n : ℕ) → ((h : ℕ) × (k : ℕ) × (finmap.get keys h ≡ Some k)) ⊎ ((h : ℕ) → h < n → finmap.get keys h ≡ None)
find_key keys zero = inr (λ h within. absurd (omega (arith, within)))
find_key keys (suc n) = by (finmap.get keys n) refl (find_key keys n)
  where
    by : (o : Option ℕ) → finmap.get keys n ≡ o → ((h : ℕ) × (k : ℕ) × (finmap.get keys h ≡ Some k)) ⊎ ((h : ℕ) → h < n → finmap.get keys h ≡ None)
        → ((h : ℕ) × (k : ℕ) × (finmap.get keys h ≡ Some k)) ⊎ ((h : ℕ) → h < suc n → finmap.get keys h ≡ None)
    by (Some k) is before = inl (n, k, is)
    by None is (inl found) = inl found
    by None is (inr none) = inr (λ h within. last h within (eq-or-lt_of_le (omega (arith, within))))
      where
        last : (h : ℕ) → h < suc n → (h ≡ n) ⊎ (h < n) → finmap.get keys h ≡ None
        last h within (inr before) = none h before
        last h within (inl same) = ap (finmap.get keys) same ∙ is

-- what is registered in an allowed state is among the alternatives of its nexus
offered_key : (s : Scenario) (u : UnitState) (h k : ℕ) → IsAllowedStart s u → key_of u.registry h ≡ Some k
    → (n : Nexus) × (slice_get (starts s) h ≡ Some n.start) × Contains n.start (Some k)
offered_key s u h k allowed is =
    let within : h < length s.nexuses = omega (arith, (allowed.formed.registry.keys h k is).0, allowed.hosts) in
    let n = some_nexus s h within in
    (n.0, alternatives_at s h n.0 n.1, subst (Contains n.0.start) is (allowed.registrations h n.0 n.1))

some_key : (o : Option ℕ) → is_some o ≡ true → (k : ℕ) × (o ≡ Some k)
some_key None some = absurd (false≢true some)
some_key (Some k) some = (k, refl)

-- an allowed state's reservation has registrations under it
pub found_under : (s : Scenario) (u : UnitState) (held : Option Held) → IsAllowedStart s u → HasHolder u.registry.keys held
    → is_some (keys_under (starts s) held) ≡ true
found_under s u None allowed holder = refl
found_under s u (Some (One t h)) allowed holder =
    let k = some_key (key_of u.registry h) holder.1 in
    let there = offered_key s u h k.0 allowed k.1 in
    found_alone (starts s) t h k.0 there.0.start there.1 there.2
found_under s u (Some (All t)) allowed holder = by (find_key u.registry.keys (length s.nexuses))
  where
    by : ((h : ℕ) × (k : ℕ) × (key_of u.registry h ≡ Some k)) ⊎ ((h : ℕ) → h < length s.nexuses → key_of u.registry h ≡ None)
        → is_some (keys_under (starts s) (Some (All t))) ≡ true
    by (inl found) =
        let there = offered_key s u found.0 found.1 allowed found.2 in
        found_all (starts s) t found.0 found.1 there.0.start there.1 there.2
    by (inr none) =
        let empty = is_empty_from_none u.registry.keys (λ q. nobody q (key_of u.registry q) refl) in
        absurd (false≢true (sym holder.1 ∙ empty))
      where
        nobody : (q : ℕ) (o : Option ℕ) → key_of u.registry q ≡ o → key_of u.registry q ≡ None
        nobody q None is = is
        nobody q (Some k) is = none q (omega (arith, (allowed.formed.registry.keys q k is).0, allowed.hosts))

pub start_found : (s : Scenario) → CanStart s → is_some (first_under (starts s) s.reservations) ≡ true
start_found s can =
    let u = can.unit in
    found_first (starts s) s.reservations u.registry.held can.allowed.reservation (found_under s u u.registry.held can.allowed can.allowed.formed.registry.held)

-- ---- over the parts

starts_of : (ns : List NexusPart) → map (λ n. n.start) (map nexus_of ns) ≡ map start_of ns
starts_of [] = refl
starts_of (n ∷ ns) = ap (λ l. n.start.alternatives.items ∷ l) (starts_of ns)

pub starts_of_parts : (p : Parts) → starts (scenario_of p) ≡ map start_of p.nexuses.items
unfolding scenario_of
starts_of_parts p = starts_of p.nexuses.items

pub few_parts : (p : Parts) → Fits (scenario_of p) → length p.nexuses.items ≤ MOST_NEXUSES
unfolding scenario_of
few_parts p fits = omega (arith, (counted (scenario_of p) fits).1, length_of_parts p.nexuses.items)

-- what is found among the parts is what is found in the scenario
pub found_in_parts : (p : Parts) (ns : List NexusPart) (vs : List (Option Held)) → ns ≡ p.nexuses.items → vs ≡ p.reservations.items
    → first_under (map start_of ns) vs ≡ first_under (starts (scenario_of p)) (scenario_of p).reservations
unfolding scenario_of
found_in_parts p ns vs same those =
    ap (λ ns. first_under (map start_of ns) vs) same
    ∙ (ap (first_under (map start_of p.nexuses.items)) those
    ∙ ap (λ all. first_under all p.reservations.items) (sym (starts_of_parts p)))

-- nothing is found: no state is allowed
pub none_allowed : (s : Scenario) → first_under (starts s) s.reservations ≡ None → CanStart s → ⊥
none_allowed s none can = false≢true (sym (ap is_some none) ∙ start_found s can)

-- something is found: this is the registry
pub registry_found : (s : Scenario) (held : Option Held) (keys : List (Option ℕ)) (o : Option State)
    → first_under (starts s) s.reservations ≡ Some (held, keys)
    → IfSome o (λ r. r ≡ state_from keys held s.generation) → IsSome o
    → option_map (λ r. quiet_unit r) o ≡ first_state s
registry_found s held keys None is value some = absurd (false≢true some)
registry_found s held keys (Some r) is value some =
    ap (λ r. Some (quiet_unit r)) value ∙ sym (ap (option_map (λ first. quiet_unit (state_from first.1 first.0 s.generation))) is)

pub registry_allowed : (s : Scenario) (held : Option Held) (keys : List (Option ℕ)) (o : Option State)
    → IsAllowedStart s (quiet_unit (state_from keys held s.generation)) → IfSome o (λ r. r ≡ state_from keys held s.generation)
    → IfSome o (λ r. IsAllowedStart s (quiet_unit r))
registry_allowed s held keys None allowed value = tt
registry_allowed s held keys (Some r) allowed value = subst (λ r. IsAllowedStart s (quiet_unit r)) (sym value) allowed
