-- A list of arms, as the arms that it has.
use Rattle.std.specs.Prelude.{List, [], ◌∷◌}
use Rattle.pr_script.specs.declared.script.Arm.{Arm}
use Rattle.pr_script.specs.Scripts.{Arms, no_arm, arm}
use Rattle.pr_script.specs.Trees.{script_of}

abbrev pub arms_in : List Arm → Arms
arms_in [] = no_arm
arms_in (a ∷ rest) = arm a.test (script_of a.body) (arms_in rest)
