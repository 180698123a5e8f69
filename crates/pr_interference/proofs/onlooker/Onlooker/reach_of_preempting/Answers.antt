use Rattle.pr_interference.proofs.Common.{◌∙◌, has_wide}
use Rattle.std.proofs.lemmas.Bool.{or_right}
use Rattle.pr_interference.proofs.onlooker.Onlooker.reach_of_preempting.Goals as goal

pub returns-clause-ended : goal.returns-clause-ended
returns-clause-ended c any mine go = c.or.ensures 0 ∙ or_right (has_wide c.new_if.result 0) (has_wide c.unreserved_if-ended.result 0) (c.unreserved_if-ended.ensures (c.may_end.ensures any mine go))
