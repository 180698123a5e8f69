use Rattle.pr_verify.proofs.Common.{◌<◌, map, Contains, AllPairs, NoArm, class_number}
use Rattle.std.proofs.Common.{◌-◌}
use Rattle.pr_verify.proofs.lemmas.Tabling.Rows.{AreBefore}
use Rattle.pr_verify.proofs.tabling.unarmed.Given as goal

abbrev pub invariant-loop-class : goal.invariant-loop-class
invariant-loop-class l = record {
  each : AreBefore class_number (λ class. Contains (map (λ o. o.0) l.outcomes) (NoArm class)) l.from l.classes.items;
  rise : AllPairs (λ c d. class_number c < class_number d) l.classes.items;
}

-- a number has 32 bits
abbrev pub decreases-loop-class : goal.decreases-loop-class
decreases-loop-class l = 4294967296 - l.from
