-- Agrees with docs/MODEL.md, 'Worlds, events and runs'.
-- How a command may be answered: by a step of the unit, or by BUSY or TASK SET FULL, in which the unit has no part.
use Rattle.std.specs.Prelude.{◌≡◌, ℕ, Bool, true, false, ◌==◌, ◌&&◌, ◌||◌, nat_lt, List}
use Rattle.std.specs.List.{count_by}
use Rattle.std.specs.Option.{option_map_or}
use Rattle.pr_cdb.specs.declared.reply.Reply.{Reply}
use Rattle.pr_cdb.specs.declared.reply.Status.TheVariants.{Busy, TaskFull}
use Rattle.pr_cdb.specs.declared.wire.Request.{Request}
use Rattle.pr_cdb.specs.Statuses.{is_busy_status, is_full_status}
use Rattle.pr_unit.specs.UnitStates.{UnitState}
use Rattle.pr_unit.specs.Replies.{refused_with}
use Rattle.pr_unit.specs.Steps.{Step, ReportsEarly}
use Rattle.pr_roles.specs.declared.how.How.{How}
use Rattle.pr_roles.specs.declared.how.How.TheVariants as how
use Rattle.pr_roles.specs.declared.item.Item.{Item}
use Rattle.pr_roles.specs.declared.item.Item.TheVariants.{Sent, Reset}
use Rattle.pr_roles.specs.Scenarios.{Scenario, Nexus, nexus}

-- the unit may answer so
abbrev pub is_answer : Scenario → How → Bool
is_answer s how.Plain = true
is_answer s how.Early = s.early
is_answer s how.Busy = false
is_answer s how.Full = false

-- The request q of host h, answered so: with reply r, and then the state is v. A refusal leaves the unit as it is.
abbrev pub Answers : How → UnitState → ℕ → Request → Reply → UnitState → Type 0
Answers how.Plain u h q r v = Step u h q r v
Answers how.Early u h q r v = ReportsEarly u h q r v
Answers how.Busy u h q r v = (r ≡ refused_with Busy) × (v ≡ u)
Answers how.Full u h q r v = (r ≡ refused_with TaskFull) × (v ≡ u)

-- the most refusals of this kind that are declared for a nexus
abbrev pub most_of : How → Nexus → ℕ
most_of how.Plain n = 0
most_of how.Early n = 0
most_of how.Busy n = n.busy
most_of how.Full n = n.full

-- the same for h, by its number
abbrev pub most_refusals : Scenario → ℕ → How → ℕ
most_refusals s h how = option_map_or (most_of how) (nexus s h) 0

abbrev pub is_refusal : How → Reply → Bool
is_refusal how.Plain r = false
is_refusal how.Early r = false
is_refusal how.Busy r = is_busy_status r.status
is_refusal how.Full r = is_full_status r.status

-- a command of h that was refused so
abbrev pub is_refused : ℕ → How → Item → Bool
is_refused h how (Sent e) = e.host == h && is_refusal how e.reply
is_refused h how Reset = false

-- how many commands of h were refused so
abbrev pub refusals_by : List Item → ℕ → How → ℕ
refusals_by history h how = count_by (is_refused h how) history

-- h may still be answered so: by the unit in each order that the scenario has, and refused no more often than is declared
abbrev pub may_come : Scenario → List Item → ℕ → How → Bool
may_come s history h how = is_answer s how || nat_lt (refusals_by history h how) (most_refusals s h how)
