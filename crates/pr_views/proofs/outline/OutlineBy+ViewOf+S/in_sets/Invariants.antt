use Rattle.pr_views.proofs.Common.{◌≡◌, take}
use Rattle.pr_views.specs.Tables.{views_of}
use Rattle.pr_views.proofs.outline.OutlineBy+ViewOf+S.in_sets.Given as goal

abbrev pub invariant-loop-line : goal.invariant-loop-line
invariant-loop-line g l = views_of l.self.host l.views.items ≡ views_of l.self.host (take l.line-index l.line-items)
