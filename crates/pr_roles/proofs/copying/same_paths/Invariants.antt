use Rattle.pr_roles.proofs.Common.{◌≡◌, map, take}
use Rattle.pr_roles.proofs.copying.same_paths.Given as goal

-- those before this one are equal
abbrev pub invariant-loop-i : goal.invariant-loop-i
invariant-loop-i l = map (λ n. n.shared) (take l.i l.nexuses) ≡ map (λ n. n.shared) (take l.i l.others)
