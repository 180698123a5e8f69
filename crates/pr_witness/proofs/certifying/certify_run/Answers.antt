use Rattle.pr_witness.proofs.Common.{refl}
use Rattle.pr_witness.proofs.lemmas.FollowedHistories.{run_from}
use Rattle.pr_witness.proofs.certifying.certify_run.Goals as goal

pub returns : goal.returns
returns c =
    run_from _ _ c.args.start _ c.args.history.items _ c.in_ok-auditor.auditor c.admits_all.new.auditor (c.if-not-is_allowed_start.ensures refl) c.in_ok-auditor.ensures.world c.copy.ensures
    c.in_ok-auditor.ensures.acts c.deref.ensures.value (c.if-not-admits_all.ensures.followed refl) c.in_ok-run.ensures
