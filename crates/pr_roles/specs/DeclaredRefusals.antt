-- Agrees with docs/MODEL.md, 'Worlds, events and runs'.
-- How a command was answered, and which of BUSY and TASK SET FULL a host or guest may meet at all, however often.
use Rattle.std.specs.Prelude.{ℕ, Bool, true, ◌==◌, not, IsTrue, Option, Some, None, is_none}
use Rattle.pr_cdb.specs.declared.reply.Reply.{Reply}
use Rattle.pr_cdb.specs.declared.reply.Status.{Status}
use Rattle.pr_cdb.specs.declared.reply.Status.TheVariants as status
use Rattle.pr_cdb.specs.declared.wire.Request.{Request}
use Rattle.pr_unit.specs.UnitStates.{UnitState}
use Rattle.pr_roles.specs.declared.how.How.{How}
use Rattle.pr_roles.specs.declared.how.How.TheVariants as how
use Rattle.pr_roles.specs.declared.how.Refusals.{Refusals}
use Rattle.pr_roles.specs.Answers.{Answers, most_refusals}
use Rattle.pr_roles.specs.Scenarios.{Scenario}

-- how a command was answered, which its status tells
abbrev pub how_of : Status → How
how_of status.Good = how.Plain
how_of status.CheckCondition = how.Plain
how_of status.Conflict = how.Plain
how_of status.Busy = how.Busy
how_of status.TaskFull = how.Full

-- the status of a refusal; the answers of the unit have others
abbrev pub status_of : How → Option Status
status_of how.Plain = None
status_of how.Early = None
status_of how.Busy = Some status.Busy
status_of how.Full = Some status.TaskFull

-- the unit answers, and does not refuse
abbrev pub is_served : How → Bool
is_served how = is_none (status_of how)

-- a command may be answered so, where these refusals may be met
abbrev pub is_among : Refusals → How → Bool
is_among d how.Plain = true
is_among d how.Early = d.early
is_among d how.Busy = d.busy
is_among d how.Full = d.full

-- some answer of the unit, or one of these refusals
pub record Answered (d : Refusals) (u : UnitState) (h : ℕ) (q : Request) (r : Reply) (v : UnitState) : Type 0 where
  pub how : How
  pub declared : IsTrue (is_among d how)
  pub answer : Answers how u h q r v

-- a host or guest of the scenario may meet a refusal that is declared for it at all
abbrev pub refusals_of : Scenario → ℕ → Refusals
refusals_of s h = record { busy = not (most_refusals s h how.Busy == 0); full = not (most_refusals s h how.Full == 0); early = s.early }
