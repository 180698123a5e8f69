-- That a start is allowed.
use Rattle.pr_witness.proofs.Common.{◌≡◌, ℕ, ◌<◌, length, Option, Some, None, refl, sym, ◌∙◌, subst, arith, map, slice_get, length-map, same_Some, slice_get_within, UnitState, Parts, scenario_of, IsAllowedStart, MayStartBelow}
use Rattle.std.proofs.Common.{◌≤◌, true}
use Rattle.std.specs.Prelude.{option_map}
use Rattle.std.specs.FinSet as set
use Rattle.std.specs.List.{Contains}
use Rattle.std.proofs.lemmas.Option.{none-some, slice_get-map}
use Rattle.pr_registry.specs.Registrations.{key_of}
use Rattle.pr_unit.specs.UnitStates.{IsWellFormed}
use Rattle.pr_roles.specs.declared.parts.Nexus.{Nexus as NexusPart}
use Rattle.pr_roles.specs.Scenarios.{Nexus, nexus_of}
use Rattle.pr_witness.specs.inside.Starting.{MayStart}

-- ---- nexuses

record Found (p : Parts) (u : UnitState) (h : ℕ) (n : Nexus) : Type 0 where
  pub part : NexusPart
  pub is : nexus_of part ≡ n
  pub may : MayStart part u h

found_nexus : (p : Parts) (u : UnitState) (top h : ℕ) (n : Nexus) → length p.nexuses.items ≤ top → MayStartBelow p.nexuses.items u top → slice_get (map nexus_of p.nexuses.items) h ≡ Some n → Found p u h n
found_nexus p u top h n all below at = by (slice_get p.nexuses.items h) refl (sym (slice_get-map nexus_of p.nexuses.items h) ∙ at)
  where
    by : (o : Option NexusPart) → slice_get p.nexuses.items h ≡ o → option_map nexus_of o ≡ Some n → Found p u h n
    by None is same = absurd (none-some n same)
    by (Some m) is same =
        let there : h < length p.nexuses.items = slice_get_within p.nexuses.items h m is in
        record { part = m; is = same_Some _ _ same; may = below h (omega arith) m is }

pub allowed : (p : Parts) (u : UnitState) → IsWellFormed u → u.registry.hosts ≡ length p.nexuses.items → Contains p.reservations.items u.registry.held
    → MayStartBelow p.nexuses.items u u.registry.hosts → IsAllowedStart (scenario_of p) u
unfolding scenario_of
allowed p u formed hosts held below = record {
  formed = formed;
  hosts = hosts ∙ sym (length-map p.nexuses.items nexus_of);
  registrations = λ h n at. let found = found_nexus p u u.registry.hosts h n (omega (arith, hosts)) below at in subst (λ (x : Nexus). Contains x.start (key_of u.registry h)) found.is found.may.registration;
  reservation = held;
  pending = λ h code n at has. let found = found_nexus p u u.registry.hosts h n (omega (arith, hosts)) below at in subst (λ (x : Nexus). set.contains x.pending code ≡ true) found.is (found.may.pending code has);
}
