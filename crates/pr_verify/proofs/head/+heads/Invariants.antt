-- What comes first of the statements left comes first of all.
use Rattle.pr_verify.proofs.Common.{◌≡◌, drop, statements_in, head_of_all}
use Rattle.pr_verify.proofs.head.+heads.Given as goal

abbrev pub invariant-head_in-loop-statement : goal.invariant-head_in-loop-statement
invariant-head_in-loop-statement l =
    head_of_all (statements_in (drop l.statement-index l.statements)) ≡ head_of_all (statements_in l.statements)
