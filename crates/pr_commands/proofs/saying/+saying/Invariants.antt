-- What the statements or arms before this one say.
use Rattle.std.proofs.Common.{◌≡◌, Some, take}
use Rattle.pr_script.specs.Trees.{statements_in}
use Rattle.pr_script.specs.inside.ArmLists.{arms_in}
use Rattle.pr_explore.specs.Together.{exit_in}
use Rattle.pr_commands.specs.Sayings.{all_say, arms_say}
use Rattle.pr_commands.proofs.saying.+saying.Given as goal

abbrev pub invariant-all_say-loop-statement : goal.invariant-all_say-loop-statement
invariant-all_say-loop-statement l = l.say ≡ all_say (exit_in (Some l.end)) (statements_in (take l.statement-index l.statement-items))

abbrev pub invariant-arms_say-loop-arm : goal.invariant-arms_say-loop-arm
invariant-arms_say-loop-arm l = l.say ≡ arms_say (exit_in (Some l.end)) (arms_in (take l.arm-index l.arms))
