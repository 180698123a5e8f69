use Rattle.pr_interference.proofs.Common.{◌≡◌, ℕ, ◌<◌, ◌+◌, true, has, has_wide}
use Rattle.pr_interference.proofs.holders.alone.Given as goal

abbrev pub invariant-loop-holder : goal.invariant-loop-holder
invariant-loop-holder l = (h : ℕ) → h < l.holder → has_wide l.possible (l.first + h) ≡ true → has l.holders h ≡ true
