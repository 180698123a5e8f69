-- From one place of a table to the next.
use Rattle.std.specs.Prelude.{◌≡◌, ◌<◌, ◌≤◌, Some}
use Rattle.pr_cdb.specs.declared.reply.Reply.{Reply}
use Rattle.pr_script.specs.Scripts.{Configuration, work, settled_form}
use Rattle.pr_script.specs.Takes.{take}
use Rattle.pr_script.specs.Programs.{deepest}

-- What is still to do became something else by unfoldings.
pub record Leads (old new : Configuration) : Type 0 where
  pub settles : settled_form new ≡ settled_form old
  pub less : work new < work old
  pub room : deepest new ≤ deepest old

-- With this reply the script goes on from what is still to do, new, once that has settled; of which no more
-- repeats are to be open at once than of the old.
pub record TakesBody (old : Configuration) (reply : Reply) (new : Configuration) : Type 0 where
  pub taken : take old reply ≡ Some (settled_form new)
  pub room : deepest new ≤ deepest old
