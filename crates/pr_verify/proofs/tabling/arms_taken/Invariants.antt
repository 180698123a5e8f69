use Rattle.pr_verify.proofs.Common.{◌<◌, map, Contains, AllPairs, Arm}
use Rattle.pr_verify.proofs.lemmas.Tabling.Rows.{AreBefore}
use Rattle.pr_verify.proofs.tabling.arms_taken.Given as goal

abbrev pub invariant-loop-arm : goal.invariant-loop-arm
invariant-loop-arm l = record {
  each : AreBefore (λ n. n) (λ n. Contains (map (λ o. o.0) l.outcomes) (Arm n)) l.arm l.arms.items;
  rise : AllPairs (λ m n. m < n) l.arms.items;
}
