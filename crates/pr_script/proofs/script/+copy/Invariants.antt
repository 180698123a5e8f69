-- What was copied so far is equal.
use Rattle.pr_script.proofs.Common.{◌≡◌, take, statements_in, arms_in}
use Rattle.pr_script.proofs.script.+copy.Given as goal

abbrev pub invariant-Script::copy-loop-statement : goal.invariant-Script::copy-loop-statement
invariant-Script::copy-loop-statement l = statements_in l.statements.items ≡ statements_in (take l.statement-index l.statement-items)

abbrev pub invariant-copied_arms-loop-arm : goal.invariant-copied_arms-loop-arm
invariant-copied_arms-loop-arm l = arms_in l.copies.items ≡ arms_in (take l.arm-index l.arms)
