use Rattle.std.proofs.lemmas.List.{take_more}
use Rattle.pr_witness.proofs.lemmas.FollowedHistories.{followed_whole}
use Rattle.pr_witness.proofs.certifying.admits_all.Goals as goal

pub loop-index-preserved : goal.loop-index-preserved
loop-index-preserved c = record {
  acts = c.if-not-admits.ensures.acts;
  followed = λ u first. followed_whole _ u _ _ c.loop-index.auditor c.admits.new.self _ (rw (← c.index-items-index.is) at (take_more c.args.items.now c.loop-index.index c.index-items-index.result c.loop-index-test.true))
      (c.loop-index.invariant.followed u first) c.if-not-admits.ensures.tried c.if-not-admits.ensures.acts;
}
