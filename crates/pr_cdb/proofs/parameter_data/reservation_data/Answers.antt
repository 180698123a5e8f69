use Rattle.std.proofs.Common.{ap, ◌∙◌}
use Rattle.pr_cdb.specs.ReplyData.{holder_in}
use Rattle.pr_cdb.proofs.lemmas.ReplyRoundTrip.{holder_in-reservation_bytes}
use Rattle.pr_cdb.proofs.parameter_data.reservation_data.Goals as goal

pub returns-clause-read_again : goal.returns-clause-read_again
returns-clause-read_again c =
    ap holder_in c.reservation_written.ensures.bytes ∙ holder_in-reservation_bytes c.args.generation c.args.held c.reservation_written.ensures.fits
