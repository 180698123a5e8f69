use Rattle.pr_audit.proofs.Common.{◌≡◌, map, range_with_len, commands_by}
use Rattle.pr_audit.proofs.counting.counts_of.Given as goal

-- how many of each before this one
abbrev pub invariant-loop-host : goal.invariant-loop-host
invariant-loop-host l = l.counts.items ≡ map (λ h. commands_by l.history h) (range_with_len 0 l.host)
