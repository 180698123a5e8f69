-- Whether the statements or arms before this one are of the version.
use Rattle.pr_script.proofs.Common.{◌≡◌, take, statements_in, are_arms_of, arms_in}
use Rattle.pr_script.specs.Versions.{is_script_of}
use Rattle.pr_script.proofs.versions.+dating.Given as goal

abbrev pub invariant-is_script_of-loop-statement : goal.invariant-is_script_of-loop-statement
invariant-is_script_of-loop-statement l = l.are ≡ is_script_of l.version (statements_in (take l.statement-index l.statement-items))

abbrev pub invariant-are_arms_of-loop-arm : goal.invariant-are_arms_of-loop-arm
invariant-are_arms_of-loop-arm l = l.are ≡ are_arms_of l.version (arms_in (take l.arm-index l.arms))
