use Rattle.pr_domain.proofs.Common.{take, AllZip, HasWords}
use Rattle.pr_domain.proofs.outcome.as_views.Given as goal

-- the views of the outcomes before this one
abbrev pub invariant-loop-landing : goal.invariant-loop-landing
invariant-loop-landing g l = AllZip (HasWords l.view) (take l.landing-index l.found) l.views.items
