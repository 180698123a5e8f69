-- Agrees with docs/FORMATS.md, 'Statements'.
-- The lines of a script, and the statements that are written as them.
use Rattle.std.specs.Prelude.{ℕ, List, [], ◌∷◌, ◌++◌}
use Rattle.pr_cdb.specs.declared.command.Command.{Command}
use Rattle.pr_script.specs.declared.script.Test.{Test}
use Rattle.pr_script.specs.Scripts.{Stmt, Stmts, Arms, sends, repeats, breaks, stops, none, more, no_arm, arm}

-- A line between a script's first and its last. A send has the number of its line.
pub data ScriptLine : Type 0 where
  send_at : ℕ → Command → ScriptLine
  arm_on : Test → ScriptLine
  block_done : ScriptLine
  repeat_of : ℕ → ScriptLine
  break_out : ScriptLine
  stop_with : List ℕ → ScriptLine

-- what statements are written as
abbrev mutual
  pub statement_lines : Stmt → List ScriptLine
  statement_lines (sends line command arms) = send_at line command ∷ (arms_lines arms ++ block_done ∷ [])
  statement_lines (repeats count body) = repeat_of count ∷ (body_lines body ++ block_done ∷ [])
  statement_lines breaks = break_out ∷ []
  statement_lines (stops word) = stop_with word ∷ []

  pub body_lines : Stmts → List ScriptLine
  body_lines none = []
  body_lines (more s rest) = statement_lines s ++ body_lines rest

  pub arms_lines : Arms → List ScriptLine
  arms_lines no_arm = []
  arms_lines (arm test body rest) = arm_on test ∷ (body_lines body ++ arms_lines rest)
