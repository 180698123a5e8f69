-- Agrees with docs/VIEWS.md, 'What becomes of a view'.
-- What a host's own command may come to.
use Rattle.std.specs.Prelude.{◌≡◌, List}
use Rattle.std.specs.List.{Contains}
use Rattle.pr_cdb.specs.declared.command.Command.{Command}
use Rattle.pr_cdb.specs.declared.reply.Reply.{Reply}
use Rattle.pr_cdb.specs.declared.wire.Request.TheVariants.{Plain}
use Rattle.pr_unit.specs.UnitStates.{UnitState}
use Rattle.pr_script.specs.declared.script.Test.{Test}
use Rattle.pr_script.specs.declared.landing.Landing.{Landing}
use Rattle.pr_roles.specs.declared.how.Refusals.{Refusals}
use Rattle.pr_roles.specs.DeclaredRefusals.{Answered}
use Rattle.pr_views.specs.Possibilities.{Item, IsSo}
use Rattle.pr_views.specs.Views.{View, IsPossible, Shows}
use Rattle.pr_domain.specs.Landings.{IsLanding}

-- From a shown state the owner's command, which may meet these refusals, ends with this landing, and this is so after it.
pub record Lands (v : View) (d : Refusals) (c : Command) (tests : List Test) (l : Landing) (i : Item) : Type 0 where
  pub from : UnitState
  pub shown : Shows v from
  pub reply : Reply
  pub after : UnitState
  pub answer : Answered d from v.scope.own (Plain c) reply after
  pub landing : IsLanding tests reply l
  pub is : IsSo v.scope after i

-- a landing with the view of the states that it leaves
abbrev pub Outcome : Type 0
Outcome = Landing × View

-- some outcome has the landing of the reply, and its view shows the state after it
pub record IsExpected (outcomes : List Outcome) (tests : List Test) (r : Reply) (u : UnitState) : Type 0 where
  pub outcome : Outcome
  pub listed : Contains outcomes outcome
  pub landing : IsLanding tests r outcome.0
  pub shown : Shows outcome.1 u

-- The outcomes cover each answer to the command from a shown state, and have nothing more: each landing and each
-- possibility of its view come from some such answer.
pub record AreOutcomes (v : View) (d : Refusals) (c : Command) (tests : List Test) (outcomes : List Outcome) : Type 0 where
  pub cover : (u : UnitState) (r : Reply) (w : UnitState) → Shows v u → Answered d u v.scope.own (Plain c) r w → IsExpected outcomes tests r w
  pub only : (o : Outcome) (i : Item) → Contains outcomes o → IsPossible o.1 i → Lands v d c tests o.0 i
  pub come : (o : Outcome) → Contains outcomes o → (i : Item) × IsPossible o.1 i
  pub once : (l : Landing) (w x : View) → Contains outcomes (l, w) → Contains outcomes (l, x) → w ≡ x
