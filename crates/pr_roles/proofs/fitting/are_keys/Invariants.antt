use Rattle.pr_roles.proofs.Common.{ℕ, ◌<◌, IsKey}
use Rattle.std.proofs.Common.{get_or}
use Rattle.pr_roles.proofs.fitting.are_keys.Given as goal

abbrev pub invariant-loop-key : goal.invariant-loop-key
invariant-loop-key l = (k d : ℕ) → k < l.key-index → IsKey (get_or l.keys k d)
