use Rattle.std.proofs.Common.{ap, ◌∙◌}
use Rattle.pr_cdb.specs.Requests.{request_of_wire}
use Rattle.pr_cdb.specs.Spelling.{laid_out, spelling}
use Rattle.pr_cdb.proofs.lemmas.CommandRoundTrip.{written_is_read}
use Rattle.pr_cdb.proofs.writing.encode.Goals as goal

pub returns-clause-read_again : goal.returns-clause-read_again
unfolding spelling
returns-clause-read_again c =
    ap request_of_wire c.laid_out.ensures.bytes ∙ ap (λ layout. request_of_wire (laid_out layout)) c.layout.ensures.layout ∙ written_is_read c.args.command.now c.layout.ensures.fits
