use Rattle.pr_verify.proofs.Common.{◌≢◌, AllWithin}
use Rattle.pr_verify.proofs.lacking.view_at.Given as goal

abbrev pub invariant-loop-at : goal.invariant-loop-at
invariant-loop-at l = AllWithin (λ e. e.0 ≢ l.line) l.at-items 0 l.at-index
