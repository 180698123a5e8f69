use Rattle.pr_domain.proofs.lemmas.Starting.CodeSubsets.{AreWithin}
use Rattle.pr_domain.proofs.starting.sets_within.Given as goal

abbrev pub invariant-loop-attentions : goal.invariant-loop-attentions
invariant-loop-attentions l = AreWithin l.attentions l.written l.sets
