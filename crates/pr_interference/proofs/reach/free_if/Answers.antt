use Rattle.pr_interference.proofs.reach.free_if.Goals as goal

pub returns-then-is : goal.returns-then-is
returns-then-is c is = c.only.ensures 0
