use Rattle.pr_text.proofs.lemmas.Laws.WrittenTexts.{earlier_texts_share_no_path}
use Rattle.pr_text.proofs.laws.earlier_texts_share_no_path.Goals as goal

pub returns : goal.returns
returns c = earlier_texts_share_no_path
