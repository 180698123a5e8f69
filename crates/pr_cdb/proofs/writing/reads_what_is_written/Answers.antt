use Rattle.pr_cdb.proofs.lemmas.CommandRoundTrip.{written_is_read}
use Rattle.pr_cdb.proofs.writing.reads_what_is_written.Goals as goal

pub returns : goal.returns
returns c = written_is_read
