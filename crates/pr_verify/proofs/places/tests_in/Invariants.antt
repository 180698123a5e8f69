-- The tests so far and those of the arms left are all of them.
use Rattle.pr_verify.proofs.Common.{◌≡◌, ◌++◌, drop, arms_in, tests_of}
use Rattle.pr_verify.proofs.places.tests_in.Given as goal

abbrev pub invariant-loop-arm : goal.invariant-loop-arm
invariant-loop-arm l = l.tests.items ++ tests_of (arms_in (drop l.arm-index l.arms)) ≡ tests_of (arms_in l.arms)
