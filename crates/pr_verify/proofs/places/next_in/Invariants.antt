-- The lines so far and those of the arms left are all of them.
use Rattle.pr_verify.proofs.Common.{◌≡◌, ◌++◌, map, drop, arms_in, next_of}
use Rattle.pr_verify.proofs.places.next_in.Given as goal

abbrev pub invariant-loop-arm : goal.invariant-loop-arm
invariant-loop-arm l =
    map (λ lines. lines.items) l.next.items ++ next_of (arms_in (drop l.arm-index l.arms)) l.after l.broken
    ≡ next_of (arms_in l.arms) l.after l.broken
