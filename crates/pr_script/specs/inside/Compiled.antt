-- What a table is after statements were laid into it.
use Rattle.std.specs.Prelude.{◌≡◌, ℕ, ◌≤◌, List, length}
use Rattle.pr_script.specs.declared.rows.Instruction.{Instruction}
use Rattle.pr_script.specs.declared.rows.Operation.{Operation}
use Rattle.pr_script.specs.declared.rows.ArmTarget.{ArmTarget}
use Rattle.pr_script.specs.Scripts.{Stmt, Stmts, Arms}
use Rattle.pr_script.specs.Programs.{place}
use Rattle.pr_script.specs.inside.Program.{concatenation, arms_at, step_at, meanings, AreJumps, IsStep, IsTable}

-- A longer table, in which what was to do from each place on still is.
pub record Grows (old new : List Instruction) : Type 0 where
  pub table : IsTable new
  pub longer : length old ≤ length new
  pub keeps : (k : ℕ) → k ≤ length old → place (meanings new) k ≡ place (meanings old) k

-- The statements are to do from the first place on, and then what is from the place next on.
pub record IsCompiled (old new : List Instruction) (b : Stmts) (next first : ℕ) : Type 0 where
  pub grows : Grows old new
  pub within : first ≤ length new
  pub meaning : place (meanings new) first ≡ concatenation b (place (meanings old) next)

-- The step does the statement, where what is to do from the place next on follows it.
pub record IsStepCompiled (old new : List Instruction) (s : Stmt) (next : ℕ) (step : Operation) : Type 0 where
  pub grows : Grows old new
  pub within : IsStep (meanings new) (length new) next step
  pub meaning : step_at (meanings new) next step ≡ s

-- The jumps have the arms' tests and lead to their bodies.
pub record AreArmsCompiled (old new : List Instruction) (a : Arms) (next : ℕ) (jumps : List ArmTarget) : Type 0 where
  pub grows : Grows old new
  pub within : AreJumps (meanings new) (length new) next jumps
  pub meaning : arms_at (meanings new) next jumps ≡ a
