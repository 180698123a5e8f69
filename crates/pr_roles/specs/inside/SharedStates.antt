-- Of the states to which an answer may lead, that in which most is pending.
use Rattle.std.specs.Prelude.{ℕ, Bool}
use Rattle.pr_cdb.specs.declared.reply.Reply.{Reply}
use Rattle.pr_cdb.specs.declared.wire.Request.{Request}
use Rattle.pr_unit.specs.UnitStates.{UnitState}
use Rattle.pr_unit.specs.inside.SharedStates.{IsAtMost}
use Rattle.pr_roles.specs.declared.how.How.{How}
use Rattle.pr_roles.specs.SharedAnswers.{AnswersOn}

-- It is answered so, and whatever state that leads to has no more pending for h.
pub record AnswersMost (shared : Bool) (k : How) (u : UnitState) (h : ℕ) (q : Request) (r : Reply) (v : UnitState) : Type 0 where
  pub answer : AnswersOn shared k u h q r v
  pub most : (w : UnitState) → AnswersOn shared k u h q r w → IsAtMost shared v h w
