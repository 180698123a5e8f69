use Rattle.pr_lines.proofs.Common.{length}
use Rattle.pr_lines.proofs.lemmas.WordTerms.NumberRoom.{hex_some}
use Rattle.pr_lines.proofs.terms.hexadecimal.Goals as goal

pub returns-clause-below : goal.returns-clause-below
returns-clause-below c = hex_some c.number.result (length c.args.word.now) c.args.most c.number.ensures.below c.if-word-most.false
