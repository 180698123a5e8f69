use Rattle.pr_verify.proofs.Common.{length, refl, slice_get_read}
use Rattle.pr_verify.proofs.answers.Questions.place_of.Goals as goal

pub returns-then-are_same : goal.returns-then-are_same
returns-then-are_same c = (
  c.index-known-number.result,
  slice_get_read c.args.known.now (length c.args.known.now) c.loop-number.number c.index-known-number.result refl c.loop-number-test.true c.index-known-number.is,
  c.are_same.ensures c.if-are_same.true,
)
