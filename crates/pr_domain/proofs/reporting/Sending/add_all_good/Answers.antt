use Rattle.pr_domain.proofs.Common.{ℕ, ◌+◌, ◌<◌, ◌⊎◌, arith, EndsGood, Landing, Item, LandsGood, view_of_sending, LandsOf, scope_of_sending}
use Rattle.std.proofs.Common.{⊎_elim}
use Rattle.pr_domain.proofs.lemmas.Reporting.OutcomeLists.{more_by, more_then}
use Rattle.pr_domain.proofs.lemmas.Tallies.EndingWays.{good_all}
use Rattle.pr_regions.proofs.lemmas.Keeping.Additions.{below_or_last}
use Rattle.pr_domain.proofs.reporting.Sending.add_all_good.Goals as goal

pub loop-arm-preserved : goal.loop-arm-preserved
loop-arm-preserved c =
    let q = c.args.self.now in
    let n = c.loop-arm.arm in
    let Now = LandsGood (view_of_sending q) q.asked.command q.asked.tests.now in
    let Before : ℕ → Landing → Item → Type 0 = λ bound l i. (arm : ℕ) × (arm < bound) × Now arm l i in
    record {
      kept = c.in_ok-add_good.ensures.kept;
      more = λ tally.
          more_by (scope_of_sending q) c.args.outcomes.now.items c.add_good.new.outcomes.items (λ l i. Before n l i ⊎ Now n l i) (Before (n + 1))
          (λ l i. (⊎_elim (λ lands. (lands.0, (let small = lands.1 in omega arith), lands.2)) (λ lands. (n, omega arith, lands)), below_or_last (λ arm. Now arm l i) n))
          (more_then (scope_of_sending q) c.args.outcomes.now.items c.loop-arm.outcomes.items c.add_good.new.outcomes.items (Before n) (Now n) (c.loop-arm.invariant.more tally) (c.in_ok-add_good.ensures.more tally));
    }

pub returns-clause-more : goal.returns-clause-more
returns-clause-more c tally =
    let q = c.args.self.now in
    more_by (scope_of_sending q) c.args.outcomes.now.items c.loop-arm.outcomes.items _ (LandsOf q EndsGood)
    (good_all (view_of_sending q) q.asked.command q.asked.tests.now c.loop-arm.arm q.asked.few (omega arith)) (c.loop-arm.invariant.more tally)
