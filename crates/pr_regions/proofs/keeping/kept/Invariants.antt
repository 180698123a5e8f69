use Rattle.pr_regions.proofs.Common.{◌≡◌, Scope, view_in, Adds, IsShownBelow, IsShownSo}
use Rattle.pr_views.specs.Views.{Fits}
use Rattle.pr_regions.proofs.keeping.kept.Given as goal

abbrev pub invariant-loop-reservation : goal.invariant-loop-reservation
invariant-loop-reservation l = (s : Scope) → s.hosts ≡ l.hosts → Fits (view_in s l.view)
    → Adds s l.initial.kept l.kept (λ _ u. IsShownBelow l.reservation (view_in s l.view) u) (IsShownSo (view_in s l.view))
