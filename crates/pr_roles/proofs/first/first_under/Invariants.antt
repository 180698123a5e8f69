use Rattle.pr_roles.proofs.Common.{◌≡◌, map, first_under, start_of}
use Rattle.std.proofs.Common.{drop}
use Rattle.pr_roles.proofs.first.first_under.Given as goal

-- none of the reservations before this one can be well formed
abbrev pub invariant-loop-held : goal.invariant-loop-held
invariant-loop-held l =
    first_under (map start_of l.nexuses) l.reservations ≡ first_under (map start_of l.nexuses) (drop l.held-index l.reservations)
