-- A step leaves a well formed state well formed, and keeps the number of hosts.
use Rattle.pr_unit.proofs.Common.{◌≡◌, ℕ, ◌<◌, Bool, true, false, not, ◌&&◌, if◌then◌else◌, ◌==◌, Some, None, Option, sym, refl, ap, ◌∙◌, subst, and_parts, Reply, Sense, Request, Plain, Faulty, power_on, last_decision, decision, StepBy, Step, UnitState, is_pending, is_any_pending, IsWellFormed, effect, after_report, Decision, PowerOn, Conflicting, Attention, Done, AtFault, conflicts, fault}
use Rattle.std.specs.Prelude.{Ok}
use Rattle.std.specs.FinSet as set
use Rattle.pr_cdb.specs.Ranges.{FitsWhereRead}
use Rattle.pr_unit.specs.TakenSteps.{TakenStep}
use Rattle.pr_unit.specs.Follows.{IsFollowed}
use Rattle.pr_unit.proofs.lemmas.Attentions.Pairs.{contains-remove-pair}
use Rattle.pr_unit.proofs.lemmas.UnitStates.Effects.{effects_are_well_formed, hosts-after}

-- where nothing else decides, there is neither conflict nor fault
done_parts : (a b c : Bool) (f : Option Sense) → (if a then PowerOn else (if b then Conflicting else (if c then Attention else last_decision f))) ≡ Done → (b ≡ false) × (f ≡ None)
done_parts true b c f is = let bad : PowerOn ≡ Done = is in cc
done_parts false true c f is = let bad : Conflicting ≡ Done = is in cc
done_parts false false true f is = let bad : Attention ≡ Done = is in cc
done_parts false false false None is = (refl, refl)
done_parts false false false (Some sense) is = let bad : AtFault sense ≡ Done = is in cc

pub done_is_free : (u : UnitState) (h : ℕ) (q : Request) → decision u h q ≡ Done → (conflicts u.registry h q ≡ false) × (fault u.registry h q ≡ None)
done_is_free u h q is = done_parts (is_pending u h power_on) (conflicts u.registry h q) (is_any_pending u h) (fault u.registry h q) is

pub well_formed-reported : (u : UnitState) (h code : ℕ) → IsWellFormed u → IsWellFormed (after_report u h code)
well_formed-reported u h code w = record {
  registry = w.registry;
  pending = λ q x is. w.pending q x (and_parts (not (q == h && x == code)) (set.contains u.pending (q, x)) (sym (contains-remove-pair u.pending (h, code) (q, x)) ∙ is)).1;
}

pub well_formed-step : (u : UnitState) (h : ℕ) (q : Request) (r : Reply) (v : UnitState) → IsWellFormed u → h < u.registry.hosts → FitsWhereRead (Ok q) → Step u h q r v → IsWellFormed v
well_formed-step u h q r v w there fits step = by_decision (decision u h q) refl step
  where
    by_request : (q : Request) → FitsWhereRead (Ok q) → decision u h q ≡ Done → StepBy Done u h q r v → IsWellFormed v
    by_request (Plain c) fits is step =
        let parts = done_is_free u h (Plain c) is in
        subst IsWellFormed (sym step.1) (effects_are_well_formed u h c w there fits parts.0 parts.1)
    by_request (Faulty sense) fits is step = absurd step

    by_decision : (l : Decision) → decision u h q ≡ l → StepBy l u h q r v → IsWellFormed v
    by_decision PowerOn is step = subst IsWellFormed (sym step.1) (well_formed-reported u h power_on w)
    by_decision Attention is step = subst IsWellFormed (sym step.after) (well_formed-reported u h step.code w)
    by_decision Done is step = by_request q fits is step
    by_decision _ is step = subst IsWellFormed (sym step.1) w

-- so does the step that the unit takes, whoever sends
pub well_formed-taken : {u : UnitState} {h : ℕ} {q : Request} {r : Reply} {v : UnitState} → TakenStep u h q r v → IsWellFormed u → FitsWhereRead (Ok q) → h < u.registry.hosts → IsWellFormed v
well_formed-taken {u} {h} {q} {r} {v} taken w fits there = well_formed-step u h q r v w there fits taken.step

pub well_formed-followed : (u : UnitState) (h : ℕ) (q : Request) (r : Reply) (follows : Bool) (v : UnitState) → IsWellFormed u → h < u.registry.hosts → FitsWhereRead (Ok q)
    → IsFollowed u h q r follows v → IsWellFormed v
well_formed-followed u h q r true v w there fits step = well_formed-step u h q r v w there fits step
well_formed-followed u h q r false v w there fits same = subst IsWellFormed (sym same.0) w

pub hosts-step : (u : UnitState) (h : ℕ) (q : Request) (r : Reply) (v : UnitState) → Step u h q r v → v.registry.hosts ≡ u.registry.hosts
hosts-step u h q r v step = by_decision (decision u h q) step
  where
    same : (w : UnitState) → v ≡ w → v.registry.hosts ≡ w.registry.hosts
    same w is = ap (λ (x : UnitState). x.registry.hosts) is

    by_request : (q : Request) → StepBy Done u h q r v → v.registry.hosts ≡ u.registry.hosts
    by_request (Plain c) step = same (effect u h c) step.1 ∙ hosts-after u.registry h c
    by_request (Faulty sense) step = absurd step

    by_decision : (l : Decision) → StepBy l u h q r v → v.registry.hosts ≡ u.registry.hosts
    by_decision PowerOn step = same (after_report u h power_on) step.1
    by_decision Attention step = same (after_report u h step.code) step.after
    by_decision Done step = by_request q step
    by_decision _ step = same u step.1
