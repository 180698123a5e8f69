-- Agrees with docs/MODEL.md, 'Which scripts may be written'.
-- How deep a script nests.
use Rattle.std.specs.Prelude.{ℕ, ◌+◌, max}
use Rattle.pr_script.specs.Scripts.{Stmt, Stmts, Arms, sends, repeats, breaks, stops, none, more, no_arm, arm}

-- ---- the most repeats that are open at once

abbrev mutual
  pub depth_of : Stmt → ℕ
  depth_of (sends n c a) = depth_of_arms a
  depth_of (repeats n b) = 1 + depth_of_all b
  depth_of breaks = 0
  depth_of (stops w) = 0

  pub depth_of_all : Stmts → ℕ
  depth_of_all none = 0
  depth_of_all (more s ss) = max (depth_of s) (depth_of_all ss)

  pub depth_of_arms : Arms → ℕ
  depth_of_arms no_arm = 0
  depth_of_arms (arm test body rest) = max (depth_of_all body) (depth_of_arms rest)
