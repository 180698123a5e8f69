use Rattle.pr_verify.proofs.others.is_one_of.Given as goal

abbrev pub invariant-loop-other : goal.invariant-loop-other
invariant-loop-other l = Unit {0}
