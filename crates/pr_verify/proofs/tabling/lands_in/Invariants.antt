use Rattle.pr_verify.proofs.Common.{◌≢◌, AllWithin}
use Rattle.pr_verify.proofs.tabling.lands_in.Given as goal

-- none before this one
abbrev pub invariant-loop-other : goal.invariant-loop-other
invariant-loop-other l = AllWithin (λ x. x.0 ≢ l.landing) l.outcomes 0 l.other-index
