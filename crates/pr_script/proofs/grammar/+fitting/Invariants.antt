-- Whether the statements or arms before this one fit.
use Rattle.pr_script.proofs.Common.{◌≡◌, take, statements_fit, arms_fit, statements_in, arms_in}
use Rattle.pr_script.proofs.grammar.+fitting.Given as goal

abbrev pub invariant-statements_fit-loop-statement : goal.invariant-statements_fit-loop-statement
invariant-statements_fit-loop-statement l =
    l.fit ≡ statements_fit l.keys l.repeated l.sent (statements_in (take l.statement-index l.statement-items))

abbrev pub invariant-arms_fit-loop-arm : goal.invariant-arms_fit-loop-arm
invariant-arms_fit-loop-arm l = l.fit ≡ arms_fit l.keys l.repeated l.sent l.command (arms_in (take l.arm-index l.arms))
