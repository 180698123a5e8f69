use Rattle.std.proofs.Common.{ap, ◌∙◌}
use Rattle.pr_cdb.specs.ReadBack.{sense_in}
use Rattle.pr_cdb.proofs.lemmas.ReplyRoundTrip.{sense_in-sense_bytes}
use Rattle.pr_cdb.proofs.sense_data.encode_sense.Goals as goal

pub returns-clause-read_again : goal.returns-clause-read_again
returns-clause-read_again c = λ small. ap sense_in c.sense_written.ensures ∙ sense_in-sense_bytes c.args.sense.now small
