-- Agrees with docs/MODEL.md, 'Scripts'.
-- Laws of the language.
use Rattle.std.specs.Prelude.{◌≡◌, ◌≤◌, ℕ, true, IsTrue, List, is_some}
use Rattle.pr_cdb.specs.declared.reply.Reply.{Reply}
use Rattle.pr_script.specs.declared.limits.TheConstants.{MOST_OPEN}
use Rattle.pr_script.specs.Scripts.{Stmts, Configuration, becomes, settled_form, standing_of_items, first_configuration}
use Rattle.pr_script.specs.Costs.{cost_of_all, commands_sent}
use Rattle.pr_script.specs.Depths.{depth_of_all}
use Rattle.pr_script.specs.Grammar.{script_fits}

-- What is settled stays: it becomes nothing else. And it stands: it is ready to send, or stopped.
abbrev pub Settles : Type 0
Settles = (l : Configuration) → (becomes (settled_form l) ≡ settled_form l) × (is_some (standing_of_items (settled_form l)) ≡ true)

-- Whatever the replies are, and however many, a script sends at most as many commands as it costs.
abbrev pub CostBoundsSends : Type 0
CostBoundsSends = (b : Stmts) (rs : List Reply) → commands_sent rs (first_configuration b) ≤ cost_of_all b

-- A script that may stand in a text has no more repeats open at once than it may.
abbrev pub FittingIsShallow : Type 0
FittingIsShallow = (keys : List ℕ) (b : Stmts) → IsTrue (script_fits keys b) → depth_of_all b ≤ MOST_OPEN
