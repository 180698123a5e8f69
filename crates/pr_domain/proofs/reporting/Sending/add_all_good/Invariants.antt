use Rattle.pr_domain.proofs.Common.{ℕ, ◌<◌, AreKept, LandsGood, view_of_sending}
use Rattle.pr_domain.specs.inside.Sendings.{AddsThis}
use Rattle.pr_domain.proofs.reporting.Sending.add_all_good.Given as goal

-- the arms before this one are added
abbrev pub invariant-loop-arm : goal.invariant-loop-arm
invariant-loop-arm l = record {
  kept : AreKept l.outcomes.items;
  more : AddsThis l.self (λ t i. (arm : ℕ) × (arm < l.arm) × LandsGood (view_of_sending l.self) l.self.asked.command l.self.asked.tests.now arm t i) l.fn.outcomes.items l.outcomes.items;
}
