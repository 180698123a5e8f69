use Rattle.pr_commands.proofs.Common.{◌≡◌, map, range_with_len, commands_by}
use Rattle.arrayvec.specs.ArrayVec.{array_vec_len}
use Rattle.pr_commands.proofs.runs.counts_of.Given as goal

-- how many of each before this one
abbrev pub invariant-loop-host : goal.invariant-loop-host
invariant-loop-host l =
    (l.counts.items ≡ map (λ h. commands_by l.history h) (range_with_len 0 l.host)) × (array_vec_len l.counts ≡ l.host)
