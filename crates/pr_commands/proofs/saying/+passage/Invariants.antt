-- Where the statements or arms before this one go on.
use Rattle.std.proofs.Common.{◌≡◌, take}
use Rattle.pr_script.specs.Trees.{statements_in}
use Rattle.pr_script.specs.inside.ArmLists.{arms_in}
use Rattle.pr_commands.specs.Sayings.{all_leave, all_pass, arms_leave, arms_pass}
use Rattle.pr_commands.proofs.saying.+passage.Given as goal

abbrev pub invariant-passage_of-loop-statement : goal.invariant-passage_of-loop-statement
invariant-passage_of-loop-statement l =
    (l.passage.passes ≡ all_pass (statements_in (take l.statement-index l.statement-items)))
    × (l.passage.leaves ≡ all_leave (statements_in (take l.statement-index l.statement-items)))

abbrev pub invariant-passage_of_arms-loop-arm : goal.invariant-passage_of_arms-loop-arm
invariant-passage_of_arms-loop-arm l =
    (l.passage.passes ≡ arms_pass (arms_in (take l.arm-index l.arms)))
    × (l.passage.leaves ≡ arms_leave (arms_in (take l.arm-index l.arms)))
