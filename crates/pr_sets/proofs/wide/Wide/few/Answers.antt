use Rattle.pr_sets.proofs.Common.{arith}
use Rattle.pr_sets.proofs.lemmas.Wides.{fits_few}
use Rattle.pr_sets.proofs.wide.Wide.few.Goals as goal

pub overflow_cast-result : goal.overflow_cast-result
overflow_cast-result c = omega (arith, fits_few c.args.self.bits c.requires)
