-- Agrees with docs/VIEWS.md, 'What becomes of a view'.
-- That a role permits a host's command wherever the command ends GOOD, and that somewhere it does not.
use Rattle.std.specs.Prelude.{◌≡◌, true, false, IsTrue, List}
use Rattle.pr_cdb.specs.declared.command.Command.{Command}
use Rattle.pr_cdb.specs.declared.reply.Reply.{Reply}
use Rattle.pr_cdb.specs.declared.wire.Request.TheVariants.{Plain}
use Rattle.pr_unit.specs.UnitStates.{UnitState}
use Rattle.pr_unit.specs.Replies.{is_good}
use Rattle.pr_unit.specs.Steps.{Step}
use Rattle.pr_roles.specs.declared.role.Clause.{Clause}
use Rattle.pr_roles.specs.Permits.{command_permitted}
use Rattle.pr_views.specs.Views.{View, Shows}

-- in each shown state in which the owner's command ends GOOD, the role permits it
abbrev pub IsPermittedIn : View → List Clause → Command → Type 0
IsPermittedIn v role c =
    (u : UnitState) (r : Reply) (w : UnitState) → Shows v u → Step u v.scope.own (Plain c) r w → is_good r ≡ true
    → IsTrue (command_permitted role u.registry v.scope.own c)

-- in some shown state the owner's command ends GOOD, and the role does not permit it
pub record IsRefusedIn (v : View) (role : List Clause) (c : Command) : Type 0 where
  pub from : UnitState
  pub shown : Shows v from
  pub reply : Reply
  pub after : UnitState
  pub step : Step from v.scope.own (Plain c) reply after
  pub good : is_good reply ≡ true
  pub refused : command_permitted role from.registry v.scope.own c ≡ false
