-- Where there is a first start, and which reservation it takes.
use Rattle.pr_roles.proofs.Common.{◌≡◌, ℕ, zero, suc, ◌≤◌, true, List, [], ◌∷◌, is_some, slice_get, Some, None, Option, option_map, sym, refl, ap, ◌∙◌, arith, false≢true, none-some, same_Some, Held, quiet_unit, Starts, keys_under, first_under, Scenario, Fits}
use Rattle.std.specs.Option.{option_or}
use Rattle.std.proofs.Common.{lit<}
use Rattle.pr_registry.specs.Tables.{state_from}
use Rattle.pr_roles.specs.Starts.{CanStart}
use Rattle.pr_roles.specs.FirstStarts.{starts}
use Rattle.pr_roles.specs.Laws.{StartsAreFound, FirstStartsAreEarliest}
use Rattle.pr_roles.proofs.lemmas.Starts.AllowedStarts.{first_allowed, found_under, start_found}

-- ---- where there is one

-- the scenario at generation 0: neither what fits nor what is allowed looks at it
at_zero : Scenario → Scenario
at_zero s = record s { generation = 0 }

can_start : (s : Scenario) → Fits s → (o : Option (Option Held × List (Option ℕ))) → first_under (starts s) s.reservations ≡ o → is_some o ≡ true → CanStart s
unfolding at_zero
can_start s fits None is some = absurd (false≢true some)
can_start s fits (Some first) is some =
    let kept : Fits (at_zero s) = record { version = fits.version; dated = fits.dated; resets = fits.resets; order = fits.order; keys = fits.keys; reservations = fits.reservations; nexuses = fits.nexuses } in
    let allowed = (first_allowed (at_zero s) first.0 first.1 kept (lit< tt) is).1 in
    record {
      unit = quiet_unit (state_from first.1 first.0 0);
      allowed = record {
        formed = allowed.formed;
        hosts = allowed.hosts;
        registrations = allowed.registrations;
        reservation = allowed.reservation;
        pending = allowed.pending;
      };
    }

pub starts_are_found : StartsAreFound
starts_are_found s fits = (can_start s fits (first_under (starts s) s.reservations) refl, start_found s)

-- ---- which reservation it takes

Before : List (Option Held) → Option Held → ℕ → Type 0
Before vs held i = (j : ℕ) × (j ≤ i) × (slice_get vs j ≡ Some held)

-- no reservation under which there are registrations is written before the first one
earliest : (all : Starts) (vs : List (Option Held)) (held : Option Held) (keys : List (Option ℕ)) (v : Option Held) (i : ℕ)
    → first_under all vs ≡ Some (held, keys) → is_some (keys_under all v) ≡ true → slice_get vs i ≡ Some v → Before vs held i
unfolding Before
earliest all [] held keys v i is found there = absurd (none-some v there)
earliest all (w ∷ vs) held keys v i is found there = at (keys_under all w) refl is i there (λ k later written. earliest all vs held keys v k later found written)
  where
    at : (o : Option (List (Option ℕ))) → keys_under all w ≡ o → option_or (option_map (λ ks. (w, ks)) o) (first_under all vs) ≡ Some (held, keys)
        → (i : ℕ) → slice_get (w ∷ vs) i ≡ Some v
        → ((k : ℕ) → first_under all vs ≡ Some (held, keys) → slice_get vs k ≡ Some v → Before vs held k)
        → Before (w ∷ vs) held i
    at (Some ks) under is i there later = (0, omega arith, ap Some (ap (λ p. p.0) (same_Some (w, ks) (held, keys) is)))
    at None under is zero there later =
        absurd (false≢true (sym (ap is_some under) ∙ (ap (λ x. is_some (keys_under all x)) (same_Some w v there) ∙ found)))
    at None under is (suc i) there later =
        let more = later i is there in
        (suc more.0, omega (arith, more.1), more.2)

pub first_starts_are_earliest : FirstStartsAreEarliest
unfolding Before
first_starts_are_earliest s first u i is allowed there = at (first_under (starts s) s.reservations) refl is
  where
    at : (o : Option (Option Held × List (Option ℕ))) → first_under (starts s) s.reservations ≡ o
        → option_map (λ f. quiet_unit (state_from f.1 f.0 s.generation)) o ≡ Some first → Before s.reservations first.registry.held i
    at None none is = absurd (none-some _ is)
    at (Some f) found is =
        let held : f.0 ≡ first.registry.held = ap (λ v. v.registry.held) (same_Some _ _ is) in
        let before = earliest (starts s) s.reservations f.0 f.1 u.registry.held i found (found_under s u u.registry.held allowed allowed.formed.registry.held) there in
        (before.0, before.1, before.2 ∙ ap Some held)
