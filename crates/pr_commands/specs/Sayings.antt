-- Agrees with docs/FORMATS.md, 'Ends'.
-- Which ends a script may come to by what is written in it: the words of its stops, `end` where it may run past its last statement,
-- and the lines of its sends, at which it may be trapped.
use Rattle.std.specs.Prelude.{ℕ, Bool, true, false, ◌==◌, ◌&&◌, ◌||◌, List, Option, Some, None, bytes_eq, codes}
use Rattle.pr_script.specs.Scripts.{Stmt, Stmts, Arms, sends, repeats, breaks, stops, none, more, no_arm, arm}
use Rattle.pr_roles.specs.Scenarios.{Task, Scripted, Planned}
use Rattle.pr_explore.specs.Exits.{Exit, ExitsTrapped, ExitsWith, GoesOn}

abbrev pub is_word : List ℕ → Exit → Bool
is_word word (ExitsWith other) = bytes_eq word other
is_word word (ExitsTrapped line) = false
is_word word GoesOn = false

abbrev pub is_line : ℕ → Exit → Bool
is_line line (ExitsWith word) = false
is_line line (ExitsTrapped other) = line == other
is_line line GoesOn = false

-- one of its stops has the word, or one of its sends the line
abbrev mutual
  pub says : Exit → Stmt → Bool
  says x (sends line command arms) = is_line line x || arms_say x arms
  says x (repeats count body) = all_say x body
  says x breaks = false
  says x (stops word) = is_word word x

  pub all_say : Exit → Stmts → Bool
  all_say x none = false
  all_say x (more s rest) = says x s || all_say x rest

  pub arms_say : Exit → Arms → Bool
  arms_say x no_arm = false
  arms_say x (arm test body rest) = all_say x body || arms_say x rest

-- `passes`: it may come to what stands behind it. `leaves`: it may come to a break that leaves the repeat in which it stands.
abbrev mutual
  pub passes : Stmt → Bool
  passes (sends line command arms) = arms_pass arms
  passes (repeats count body) = all_pass body || all_leave body
  passes breaks = false
  passes (stops word) = false

  pub all_pass : Stmts → Bool
  all_pass none = true
  all_pass (more s rest) = passes s && all_pass rest

  pub arms_pass : Arms → Bool
  arms_pass no_arm = false
  arms_pass (arm test body rest) = all_pass body || arms_pass rest

  pub leaves : Stmt → Bool
  leaves (sends line command arms) = arms_leave arms
  leaves (repeats count body) = false
  leaves breaks = true
  leaves (stops word) = false

  pub all_leave : Stmts → Bool
  all_leave none = false
  all_leave (more s rest) = leaves s || (passes s && all_leave rest)

  pub arms_leave : Arms → Bool
  arms_leave no_arm = false
  arms_leave (arm test body rest) = all_leave body || arms_leave rest

abbrev pub script_says : Exit → Stmts → Bool
script_says x script = all_say x script || (is_word (codes "end") x && all_pass script)

-- the nexus has a script that may come to this end
abbrev pub may_end_so : Exit → Option Task → Bool
may_end_so x None = false
may_end_so x (Some (Scripted script budget)) = script_says x script
may_end_so x (Some (Planned commands)) = false
