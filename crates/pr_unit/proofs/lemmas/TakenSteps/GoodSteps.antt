-- The steps that end GOOD: such a step of a command other than REQUEST SENSE has the command's effect, and
-- where nothing is in its way there is one.
use Rattle.pr_unit.proofs.Common.{◌≡◌, ℕ, Bool, true, false, if◌then◌else◌, None, Option, sym, refl, ◌∙◌, subst, false≢true, Command, Sense, Plain, power_on, command_fault, good, data_of, last_decision, decision, StepBy, ends_good, UnitState, is_pending, is_any_pending, effect, Decision, PowerOn, Conflicting, Attention, Done, AtFault, command_conflicts}
use Rattle.std.proofs.lemmas.Bool.{or_parts}
use Rattle.pr_unit.specs.Laws.{TakesEffect, GoodStepsTakeEffect, FreeCommandsEndGood}
use Rattle.pr_unit.proofs.lemmas.TakenSteps.Determinism.{good_by_decision}
use Rattle.pr_unit.proofs.lemmas.Steps.WellFormedSteps.{done_is_free}

pub good_effect : GoodStepsTakeEffect
good_effect u h c r v step good looks = by_decision (decision u h (Plain c)) refl step (sym (good_by_decision u h (Plain c) r v step) ∙ good)
  where
    refused : false ≡ true → TakesEffect u h c r v
    refused is = absurd (false≢true is)

    by_decision : (l : Decision) → decision u h (Plain c) ≡ l → StepBy l u h (Plain c) r v → ends_good l (Plain c) ≡ true → TakesEffect u h c r v
    by_decision Conflicting is step ends = refused ends
    by_decision (AtFault sense) is step ends = refused ends
    by_decision Done is step ends =
        let parts = done_is_free u h (Plain c) is in
        record { free = parts.0; whole = parts.1; reply = step.0; after = step.1 }
    by_decision _ is step ends = refused (sym looks ∙ ends)

pub free_is_done : (u : UnitState) (h : ℕ) (c : Command) → is_any_pending u h ≡ false → command_conflicts u.registry h c ≡ false → command_fault u.registry h c ≡ None → decision u h (Plain c) ≡ Done
free_is_done u h c none free whole =
    at (is_pending u h power_on) (command_conflicts u.registry h c) (is_any_pending u h) (command_fault u.registry h c) (or_parts (is_pending u h power_on) _ none).0 free none whole
  where
    at : (a b any : Bool) (f : Option Sense) → a ≡ false → b ≡ false → any ≡ false → f ≡ None
        → (if a then PowerOn else (if b then Conflicting else (if any then Attention else last_decision f))) ≡ Done
    at a b any f p q r s = rw (p, q, r, s) refl

pub good_step : FreeCommandsEndGood
good_step u h c none free whole =
    subst (λ l. StepBy l u h (Plain c) (good (data_of u.registry c)) (effect u h c)) (sym (free_is_done u h c none free whole)) (refl, refl)
