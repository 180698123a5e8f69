-- The unit by itself answers neither BUSY nor TASK SET FULL.
use Rattle.pr_unit.proofs.Common.{◌≡◌, ℕ, Bool, true, false, if◌then◌else◌, refl, Reply, Request, Faulty, power_on, good, check, report, decision, StepBy, UnitState, Decision, PowerOn, Attention, Done, is_request_sense}
use Rattle.pr_cdb.specs.ReplyData.{sense_bytes}
use Rattle.pr_cdb.specs.Statuses.{is_busy_status, is_full_status}
use Rattle.pr_unit.specs.Attentions.{attention_sense}
use Rattle.pr_unit.specs.Laws.{StepsAreNeverBusy}

abbrev IsOwn : Reply → Type 0
IsOwn r = (is_busy_status r.status ≡ false) × (is_full_status r.status ≡ false)

own_by : (r s : Reply) → r ≡ s → IsOwn s → IsOwn r
own_by r s is own = rw is own

reported : (q : Request) (code : ℕ) → IsOwn (report q code)
reported q code = at (is_request_sense q)
  where
    at : (b : Bool) → IsOwn (if b then good (sense_bytes (attention_sense code)) else check (attention_sense code))
    at true = (refl, refl)
    at false = (refl, refl)

by_decision : (l : Decision) (u : UnitState) (h : ℕ) (q : Request) (r : Reply) (v : UnitState) → StepBy l u h q r v → IsOwn r
by_decision PowerOn u h q r v step = own_by r _ step.0 (reported q power_on)
by_decision Attention u h q r v step = own_by r _ step.reply (reported q step.code)
by_decision Done u h (Faulty sense) r v step = absurd step
by_decision _ u h _ r v step = own_by r _ step.0 (refl, refl)

pub steps_are_never_busy : StepsAreNeverBusy
steps_are_never_busy u h q r v step = by_decision (decision u h q) u h q r v step
