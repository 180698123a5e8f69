-- Agrees with SAM-5, 'Status precedence'; docs/MODEL.md, 'The order in which a request is answered'.
-- What the logical unit may answer to a request, and the state that it is in then.
use Rattle.std.specs.Prelude.{◌≡◌, ℕ, false, true, IsTrue, if◌then◌else◌, Option, Some, None}
use Rattle.pr_cdb.specs.declared.reply.Sense.{Sense}
use Rattle.pr_cdb.specs.declared.reply.Reply.{Reply}
use Rattle.pr_cdb.specs.declared.wire.Request.{Request}
use Rattle.pr_cdb.specs.declared.wire.Request.TheVariants.{Plain, Faulty}
use Rattle.pr_unit.specs.declared.decision.Decision.{Decision}
use Rattle.pr_unit.specs.declared.decision.Decision.TheVariants.{PowerOn, Conflicting, Attention, AtFault, Done}
use Rattle.pr_unit.specs.Attentions.{power_on}
use Rattle.pr_unit.specs.UnitStates.{UnitState, is_pending, is_any_pending, effect, after_report}
use Rattle.pr_unit.specs.Conduct.{conflicts, fault}
use Rattle.pr_unit.specs.Replies.{good, check, conflict, report, data_of}

-- what decides how a request ends: a fault of its own, or nothing
abbrev pub last_decision : Option Sense → Decision
last_decision None = Done
last_decision (Some sense) = AtFault sense

-- The first that applies decides. That the first three come in this order is the standard's (SAM-5, 'Status
-- precedence'); that a fault of the request comes after them is our own choice.
abbrev pub decision : UnitState → ℕ → Request → Decision
decision u h q =
    if is_pending u h power_on then PowerOn else (
    if conflicts u.registry h q then Conflicting else (
    if is_any_pending u h then Attention else
    last_decision (fault u.registry h q)))

-- GOOD, with the command's data and its effect. Bytes at fault do not come here.
abbrev pub IsDone : UnitState → ℕ → Request → Reply → UnitState → Type 0
IsDone u h (Plain c) r u' = (r ≡ good (data_of u.registry c)) × (u' ≡ effect u h c)
IsDone u h (Faulty sense) r u' = ⊥

-- some attention that is pending is reported, and it alone is pending no more
pub record Reports (u : UnitState) (h : ℕ) (q : Request) (r : Reply) (u' : UnitState) : Type 0 where
  pub code : ℕ
  pub pending : IsTrue (is_pending u h code)
  pub reply : r ≡ report q code
  pub after : u' ≡ after_report u h code

abbrev pub StepBy : Decision → UnitState → ℕ → Request → Reply → UnitState → Type 0
StepBy PowerOn u h q r u' = (r ≡ report q power_on) × (u' ≡ after_report u h power_on)
StepBy Conflicting u h q r u' = (r ≡ conflict) × (u' ≡ u)
StepBy Attention u h q r u' = Reports u h q r u'
StepBy (AtFault sense) u h q r u' = (r ≡ check sense) × (u' ≡ u)
StepBy Done u h q r u' = IsDone u h q r u'

-- In state u, the request q of host h may be answered with r, and then the state is u'.
abbrev pub Step : UnitState → ℕ → Request → Reply → UnitState → Type 0
Step u h q r u' = StepBy (decision u h q) u h q r u'

-- Some disks report an attention though the request conflicts. A power on comes before both.
pub record ReportsEarly (u : UnitState) (h : ℕ) (q : Request) (r : Reply) (u' : UnitState) : Type 0 where
  pub calm : is_pending u h power_on ≡ false
  pub kept : conflicts u.registry h q ≡ true
  pub reports : Reports u h q r u'
