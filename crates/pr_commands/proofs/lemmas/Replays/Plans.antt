-- What is planned is the trace of the text's scheduled run.
use Rattle.pr_commands.proofs.Common.{map, option_map, option_and_then, IfSome, refl, sym, ap, ◌∙◌, subst, arith, Parts, scenario_of, IsWrittenAs, names_in, steps_of}
use Rattle.std.specs.Prelude.{◌≡◌, ℕ, ◌≤◌, ◌==◌, ◌||◌, Bool, true, false, nat_lt, List, [], ◌∷◌, length, Option, Some, None, Ok, Err}
use Rattle.std.proofs.lemmas.Bool.{false≢true}
use Rattle.std.proofs.lemmas.List.{length-map}
use Rattle.std.proofs.lemmas.Bool.Decides.{nat_tests}
use Rattle.std.proofs.lemmas.Option.{none-some, same_Some}
use Rattle.pr_roles.specs.declared.step.Step.{Step}
use Rattle.pr_roles.proofs.lemmas.Fitting.DistinctLists.{length_of_parts}
use Rattle.pr_world.specs.declared.replaying.Replayed.{Replayed}
use Rattle.pr_world.specs.Replays.{IsReplayed}
use Rattle.pr_commands.proofs.lemmas.Replays.Traces.{replays_are_traced}
use Rattle.pr_commands.specs.declared.fault.Fault.TheVariants as fault
use Rattle.pr_commands.specs.Steps.{step_in, has_wrong_count}
use Rattle.pr_commands.specs.Replays.{IsTraceOf, IsUsageFault}
use Rattle.pr_commands.specs.inside.PlannedReplays.{planned_text, is_refused, IsPlanned}

pub version_of_scenario : (p : Parts) → p.version ≡ (scenario_of p).version
unfolding scenario_of
version_of_scenario p = refl

pub nexuses_in : (p : Parts) → length (scenario_of p).nexuses ≡ length p.nexuses.items
unfolding scenario_of
nexuses_in p = length_of_parts p.nexuses.items

-- there are as many steps as words
pub named_length : (version : ℕ) (ns words : List (List ℕ)) (steps : List Step) → steps_of version ns words ≡ Some steps → length steps ≡ length words
named_length version ns [] steps is = ap length (sym (same_Some _ _ is))
named_length version ns (w ∷ ws) steps is = first (step_in version ns w) is (named_length version ns ws)
  where
    rest : (h : Step) (o : Option (List Step)) → option_map (λ hs. h ∷ hs) o ≡ Some steps → ((hs : List Step) → o ≡ Some hs → length hs ≡ length ws) → length steps ≡ length (w ∷ ws)
    rest h None is later = absurd (none-some steps is)
    rest h (Some hs) is later = omega (arith, ap length (same_Some _ _ is), later hs refl)

    first : (o : Option Step) → option_and_then (λ h. option_map (λ hs. h ∷ hs) (steps_of version ns ws)) o ≡ Some steps
        → ((hs : List Step) → steps_of version ns ws ≡ Some hs → length hs ≡ length ws) → length steps ≡ length (w ∷ ws)
    first None is later = absurd (none-some steps is)
    first (Some h) is later = rest h (steps_of version ns ws) is later

planned_trace : (steps : List (List ℕ)) (text : List ℕ) (p : Parts) (r : Replayed) (turns : List Step) → IsWrittenAs text (scenario_of p)
    → steps_of (scenario_of p).version (names_in (scenario_of p)) steps ≡ Some turns → IsReplayed (scenario_of p) turns r
    → IsTraceOf steps text (planned_text (record { scenario = p; replayed = r })) (is_refused (record { scenario = p; replayed = r }))
planned_trace steps text p r turns written named is = record {
  scenario = scenario_of p;
  read = written;
  turns = turns;
  named = named;
  last = is.last;
  reached = record { start = is.start; first = is.first; allowed = is.allowed; scheduled = is.run; events = is.events; run = is.reached };
  trace_is = replays_are_traced (scenario_of p) is.last r is.outcome;
  refused_is = is.outcome.trapped;
}

pub planned : (steps : List (List ℕ)) (known : Option (List ℕ)) (p : Parts) (r : Replayed) (turns : List Step) → has_wrong_count steps ≡ false
    → IfSome known (λ text. IsWrittenAs text (scenario_of p)) → steps_of (scenario_of p).version (names_in (scenario_of p)) steps ≡ Some turns → IsReplayed (scenario_of p) turns r
    → IsPlanned steps known (Ok (record { scenario = p; replayed = r }))
planned steps known p r turns counted read named is = record {
  plans = at known read;
  counted = λ wrong. absurd (false≢true (sym counted ∙ wrong));
}
  where
    at : (known : Option (List ℕ)) → IfSome known (λ text. IsWrittenAs text (scenario_of p))
        → IfSome known (λ text. IsTraceOf steps text (planned_text (record { scenario = p; replayed = r })) (is_refused (record { scenario = p; replayed = r })))
    at None read = tt
    at (Some text) read = planned_trace steps text p r turns read named is

-- a step is no name of the scenario
pub unnamed : (steps : List (List ℕ)) (known : Option (List ℕ)) (p : Parts) → has_wrong_count steps ≡ false
    → IfSome known (λ text. IsWrittenAs text (scenario_of p)) → steps_of (scenario_of p).version (names_in (scenario_of p)) steps ≡ None
    → IsPlanned steps known (Err fault.Usage)
unnamed steps known p counted read none = record { plans = at known read; counted = λ wrong. refl }
  where
    at : (known : Option (List ℕ)) → IfSome known (λ text. IsWrittenAs text (scenario_of p)) → IfSome known (λ text. IsUsageFault steps text (has_wrong_count steps))
    at None read = tt
    at (Some text) read = subst (IsUsageFault steps text) (sym counted) (scenario_of p, read, none)

-- so many steps are too few or too many
pub wrong_count : {X : Type 0} (f : X → List ℕ) (xs : List X) → has_wrong_count (map f xs) ≡ (length xs == 0 || nat_lt 4096 (length xs))
wrong_count f xs = rw (length-map xs f) refl

-- as many as one, or more, and not too many
pub few_steps : (steps : List (List ℕ)) → has_wrong_count steps ≡ false → length steps ≤ 4096
few_steps steps counted = at (length steps == 0) (nat_lt 4096 (length steps)) refl counted
  where
    at : (a b : Bool) → nat_lt 4096 (length steps) ≡ b → (a || b) ≡ false → length steps ≤ 4096
    at true b is none = let bad : true ≡ false = none in cc
    at false b is none = grind (arith, nat_tests)
