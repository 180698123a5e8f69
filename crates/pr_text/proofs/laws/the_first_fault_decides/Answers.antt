use Rattle.pr_text.proofs.lemmas.Laws.WrittenTexts.{first_fault_decides}
use Rattle.pr_text.proofs.laws.the_first_fault_decides.Goals as goal

pub returns : goal.returns
returns c = first_fault_decides
