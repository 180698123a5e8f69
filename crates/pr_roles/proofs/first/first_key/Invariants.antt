use Rattle.pr_roles.proofs.Common.{◌≡◌, first_key}
use Rattle.std.proofs.Common.{drop}
use Rattle.pr_roles.proofs.first.first_key.Given as goal

-- none of the alternatives before this one is a key
abbrev pub invariant-loop-key : goal.invariant-loop-key
invariant-loop-key l = first_key l.key-items ≡ first_key (drop l.key-index l.key-items)
