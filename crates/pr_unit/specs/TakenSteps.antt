-- Agrees with SAM-5, 'Status precedence'; docs/MODEL.md, 'The order in which a request is answered'.
-- Which of the steps that a logical unit may take this one takes.
use Rattle.std.specs.Prelude.{◌≡◌, ℕ, ◌≤◌, Bool, true, false, IsTrue, Result, Ok, Err}
use Rattle.pr_cdb.specs.declared.reply.Reply.{Reply}
use Rattle.pr_cdb.specs.declared.wire.Request.{Request}
use Rattle.pr_cdb.specs.declared.wire.Bad.{Bad}
use Rattle.pr_unit.specs.declared.decision.Decision.{Decision}
use Rattle.pr_unit.specs.declared.decision.Decision.TheVariants.{PowerOn, Conflicting, Attention, AtFault, Done}
use Rattle.pr_unit.specs.UnitStates.{UnitState, is_pending}
use Rattle.pr_unit.specs.Replies.{report, is_request_sense}
use Rattle.pr_unit.specs.Steps.{decision, Step}

-- whether a request that is decided so ends GOOD
abbrev pub ends_good : Decision → Request → Bool
ends_good PowerOn q = is_request_sense q
ends_good Conflicting q = false
ends_good Attention q = is_request_sense q
ends_good (AtFault sense) q = false
ends_good Done q = true

-- of the attentions that are pending, the reply reports the lowest
pub record ReportsLowest (u : UnitState) (h : ℕ) (q : Request) (r : Reply) : Type 0 where
  pub code : ℕ
  pub pending : IsTrue (is_pending u h code)
  pub reply : r ≡ report q code
  pub least : (other : ℕ) → is_pending u h other ≡ true → code ≤ other

abbrev pub LowestBy : Decision → UnitState → ℕ → Request → Reply → Type 0
LowestBy PowerOn u h q r = Unit {0}
LowestBy Conflicting u h q r = Unit {0}
LowestBy Attention u h q r = ReportsLowest u h q r
LowestBy (AtFault sense) u h q r = Unit {0}
LowestBy Done u h q r = Unit {0}

-- The step that this unit takes: where it may choose, it reports the lowest code.
pub record TakenStep (u : UnitState) (h : ℕ) (q : Request) (r : Reply) (u' : UnitState) : Type 0 where
  pub step : Step u h q r u'
  pub lowest : LowestBy (decision u h q) u h q r

-- In state u, this unit answers the bytes of a command of host h so, and then the state is u'. Bytes that
-- are no request change nothing.
abbrev pub Executes : UnitState → ℕ → Result Request Bad → Result Reply Bad → UnitState → Type 0
Executes u h (Ok q) (Ok r) u' = TakenStep u h q r u'
Executes u h (Err bad) (Err b) u' = (b ≡ bad) × (u' ≡ u)
Executes u h (Ok q) (Err bad) u' = ⊥
Executes u h (Err bad) (Ok r) u' = ⊥
