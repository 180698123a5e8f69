use Rattle.pr_witness.proofs.Common.{MayStartBelow}
use Rattle.pr_witness.proofs.allowed.may_start_each.Given as goal

-- so may those before this one
abbrev pub invariant-loop-host : goal.invariant-loop-host
invariant-loop-host l = MayStartBelow l.nexuses l.unit l.host
