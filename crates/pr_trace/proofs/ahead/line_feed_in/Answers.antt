use Rattle.memchr.specs.Find.{is_byte}
use Rattle.pr_trace.proofs.lemmas.LinesAhead.FirstBytes.{first_is_position}
use Rattle.pr_trace.proofs.ahead.line_feed_in.Goals as goal

pub returns : goal.returns
returns c = first_is_position (is_byte 10) c.args.bytes.now c.memchr.result c.memchr.ensures
