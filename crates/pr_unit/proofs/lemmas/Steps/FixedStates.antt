-- The state after a step is fixed by the reply.
use Rattle.pr_unit.proofs.Common.{◌≡◌, ℕ, Bool, true, false, if◌then◌else◌, Some, None, Option, sym, ap, ◌∙◌, arith, Reply, Sense, Request, Plain, Faulty, power_on, good, check, report, is_request_sense, conflicts, fault, StepBy, Step, last_decision, UnitState, is_pending, is_any_pending, after_report}
use Rattle.std.proofs.Common.{get_or}
use Rattle.pr_cdb.specs.declared.codes.TheConstants.{UNIT_ATTENTION}
use Rattle.pr_cdb.specs.ReplyData.{sense_bytes}
use Rattle.pr_unit.specs.Attentions.{attention_sense}
use Rattle.pr_unit.specs.Steps.{Reports, IsDone}

-- two codes with one sense are one
one_code : (c d : ℕ) → attention_sense c ≡ attention_sense d → c ≡ d
one_code c d same =
    let high = ap (λ s. s.asc) same in
    let low = ap (λ s. s.ascq) same in
    omega arith

-- the sense data of an attention shows its sense
one_sense : (c d : ℕ) → sense_bytes (attention_sense c) ≡ sense_bytes (attention_sense d) → attention_sense c ≡ attention_sense d
unfolding sense_bytes
one_sense c d same =
    λ i. record { key = UNIT_ATTENTION; asc = get_or (same i) 12 0; ascq = get_or (same i) 13 0 }

one_reported : (b : Bool) (c d : ℕ) → (if b then good (sense_bytes (attention_sense c)) else check (attention_sense c)) ≡ (if b then good (sense_bytes (attention_sense d)) else check (attention_sense d))
    → c ≡ d
one_reported true c d same = one_code c d (one_sense c d (ap (λ r. r.bytes.items) same))
one_reported false c d same = let sense : Some (attention_sense c) ≡ Some (attention_sense d) = ap (λ r. r.sense) same in one_code c d cc

-- a report shows the code that it reports
pub one_report : (q : Request) (c d : ℕ) → report q c ≡ report q d → c ≡ d
one_report q c d same = one_reported (is_request_sense q) c d same

done_fixed : (u : UnitState) (h : ℕ) (q : Request) (r : Reply) (v w : UnitState) → IsDone u h q r v → IsDone u h q r w → v ≡ w
done_fixed u h (Plain c) r v w one other = one.1 ∙ sym other.1
done_fixed u h (Faulty sense) r v w one other = absurd one

-- what holds in both cases
in_both : {A : Type 0} (P : A → Type 0) (b : Bool) (x y : A) → P x → P y → P (if b then x else y)
in_both P true x y one other = one
in_both P false x y one other = other

pub reported_fixed : (u : UnitState) (h : ℕ) (q : Request) (r : Reply) (v w : UnitState) → Reports u h q r v → Reports u h q r w → v ≡ w
reported_fixed u h q r v w one other =
    one.after ∙ (ap (after_report u h) (one_report q one.code other.code (sym one.reply ∙ other.reply)) ∙ sym other.after)

by_fault : (f : Option Sense) (u : UnitState) (h : ℕ) (q : Request) (r : Reply) (v w : UnitState) → StepBy (last_decision f) u h q r v → StepBy (last_decision f) u h q r w → v ≡ w
by_fault None u h q r v w one other = done_fixed u h q r v w one other
by_fault (Some sense) u h q r v w one other = one.1 ∙ sym other.1

pub step_fixed : (u : UnitState) (h : ℕ) (q : Request) (r : Reply) (v w : UnitState) → Step u h q r v → Step u h q r w → v ≡ w
step_fixed u h q r v w =
    in_both (λ l. StepBy l u h q r v → StepBy l u h q r w → v ≡ w) (is_pending u h power_on) _ _
    (λ one other. one.1 ∙ sym other.1)
    (in_both (λ l. StepBy l u h q r v → StepBy l u h q r w → v ≡ w) (conflicts u.registry h q) _ _
    (λ one other. one.1 ∙ sym other.1)
    (in_both (λ l. StepBy l u h q r v → StepBy l u h q r w → v ≡ w) (is_any_pending u h) _ _
    (λ one other. reported_fixed u h q r v w one other)
    (λ one other. by_fault (fault u.registry h q) u h q r v w one other)))
