use Rattle.pr_cdb.proofs.lemmas.FieldRanges.{reads_fit}
use Rattle.pr_cdb.proofs.reading.reads_in_range.Goals as goal

pub returns : goal.returns
returns c = reads_fit
