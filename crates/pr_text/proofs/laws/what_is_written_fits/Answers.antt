use Rattle.pr_text.proofs.lemmas.Laws.WrittenTexts.{what_is_written_fits}
use Rattle.pr_text.proofs.laws.what_is_written_fits.Goals as goal

pub returns : goal.returns
returns c = what_is_written_fits
