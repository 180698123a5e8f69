use Rattle.pr_domain.proofs.Common.{◌≡◌, ◌+◌, suc, arith, slice_get, sym, ap, ◌∙◌, landing_at}
use Rattle.pr_domain.proofs.lemmas.Tallies.EndingWays.{adds_good, at_arm}
use Rattle.pr_domain.proofs.reporting.Sending.add_good.Goals.{then-arm-eq0, else-arm-eq0}
use Rattle.pr_domain.proofs.reporting.Sending.add_good.Goals as goal

pub returns-clause-more : goal.returns-clause-more
returns-clause-more c tally =
    let q = c.args.self.now in
    let way : suc (suc (suc c.args.arm)) ≡ 3 + c.args.arm = omega arith in
    let landing : c.if-arm-eq0.landing ≡ landing_at c.args.arm = elim c.if-arm-eq0.branch [
      | then-arm-eq0 w ↦ w.landing-is ∙ ap landing_at (sym w.if-arm-eq0.true)
      | else-arm-eq0 w ↦ w.landing-is ∙ at_arm c.args.arm w.if-arm-eq0.false
    ] in
    adds_good q tally c.if-arm-eq0.landing c.way.result c.quiet.result c.args.arm (ap (slice_get q.tally.now.ways) way ∙ c.way.ensures) c.quiet.ensures landing c.args.outcomes.now.items c.add.new.outcomes.items c.in_ok-add.ensures.more
