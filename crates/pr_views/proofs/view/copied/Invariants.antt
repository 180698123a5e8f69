use Rattle.pr_views.proofs.Common.{◌≡◌, take}
use Rattle.pr_views.proofs.view.copied.Given as goal

abbrev pub invariant-loop-key : goal.invariant-loop-key
invariant-loop-key l = l.all.items ≡ take l.key-index l.keys
