-- The statements, or arms, before this one are the same.
use Rattle.pr_script.proofs.Common.{◌≡◌, take, statements_in, arms_in}
use Rattle.pr_script.proofs.script.+same.Given as goal

abbrev pub invariant-Script::same-loop-i : goal.invariant-Script::same-loop-i
invariant-Script::same-loop-i l = statements_in (take l.i l.self.statements.items) ≡ statements_in (take l.i l.other.statements.items)

abbrev pub invariant-same_arms-loop-i : goal.invariant-same_arms-loop-i
invariant-same_arms-loop-i l = arms_in (take l.i l.arms) ≡ arms_in (take l.i l.others)
