-- Whether a request ends GOOD is fixed by the state, the host and the request.
use Rattle.pr_unit.proofs.Common.{◌≡◌, ℕ, Bool, true, false, if◌then◌else◌, sym, refl, ap, ◌∙◌, Reply, Request, Plain, Faulty, power_on, good, check, report, decision, StepBy, Step, ends_good, UnitState, Decision, PowerOn, Attention, Done, is_request_sense}
use Rattle.pr_cdb.specs.ReplyData.{sense_bytes}
use Rattle.pr_unit.specs.Attentions.{attention_sense}
use Rattle.pr_unit.specs.Replies.{is_good}
use Rattle.pr_unit.specs.Steps.{IsDone}
use Rattle.pr_unit.specs.Laws.{GoodIsFixed}

-- every report of an attention ends alike
good-report : (q : Request) (code : ℕ) → is_good (report q code) ≡ is_request_sense q
good-report q code = at (is_request_sense q)
  where
    at : (b : Bool) → is_good (if b then good (sense_bytes (attention_sense code)) else check (attention_sense code)) ≡ b
    at true = refl
    at false = refl

done : (u : UnitState) (h : ℕ) (q : Request) (r : Reply) (v : UnitState) → IsDone u h q r v → is_good r ≡ true
done u h (Plain c) r v step = ap is_good step.0
done u h (Faulty sense) r v step = absurd step

by_decision : (l : Decision) (u : UnitState) (h : ℕ) (q : Request) (r : Reply) (v : UnitState) → StepBy l u h q r v → is_good r ≡ ends_good l q
by_decision PowerOn u h q r v step = ap is_good step.0 ∙ good-report q power_on
by_decision Attention u h q r v step = ap is_good step.reply ∙ good-report q step.code
by_decision Done u h q r v step = done u h q r v step
by_decision _ u h q r v step = ap is_good step.0

pub good_by_decision : (u : UnitState) (h : ℕ) (q : Request) (r : Reply) (v : UnitState) → Step u h q r v → is_good r ≡ ends_good (decision u h q) q
good_by_decision u h q r v step = by_decision (decision u h q) u h q r v step

pub good_is_fixed : GoodIsFixed
good_is_fixed u h q r s v w one other = good_by_decision u h q r v one ∙ sym (good_by_decision u h q s w other)
