-- Agrees with docs/MODEL.md, 'Scripts'.
-- A script's tree of values, as the statements that it has.
use Rattle.std.specs.Prelude.{List, [], ◌∷◌}
use Rattle.pr_script.specs.declared.script.Script.{Script}
use Rattle.pr_script.specs.declared.script.Statement.{Statement, Send', Repeat', Break, Stop, Row_of-Statement, end_of-Statement, more_of-Statement, Row_of-Arm, end_of-Arm, more_of-Arm}
use Rattle.pr_script.specs.Scripts.{Stmt, Stmts, Arms, sends, repeats, breaks, stops, none, more, no_arm, arm}

abbrev mutual
  pub statement_of : Statement → Stmt
  statement_of (Send' line command shape arms) = sends line command (arms_of arms)
  statement_of (Repeat' count shape body) = repeats count (statements_of body)
  statement_of Break = breaks
  statement_of (Stop word) = stops word.bytes

  -- the statements of a row, as the field of another statement has them
  pub statements_of : {n : _} → Row_of-Statement n → Stmts
  statements_of end_of-Statement = none
  statements_of (more_of-Statement s rest) = more (statement_of s) (statements_of rest)

  pub arms_of : {n : _} → Row_of-Arm n → Arms
  arms_of end_of-Arm = no_arm
  arms_of (more_of-Arm test shape body rest) = arm test (statements_of body) (arms_of rest)

abbrev pub statements_in : List Statement → Stmts
statements_in [] = none
statements_in (s ∷ rest) = more (statement_of s) (statements_in rest)

abbrev pub script_of : Script → Stmts
script_of script = statements_in script.statements.items
