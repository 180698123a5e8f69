-- Agrees with docs/FORMATS.md, 'Versions'.
-- Which version of texts a script needs: that of its arms.
use Rattle.std.specs.Prelude.{ℕ, Bool, true, ◌&&◌, nat_le}
use Rattle.pr_script.specs.declared.script.Test.{Test}
use Rattle.pr_script.specs.declared.script.Test.TheVariants as test
use Rattle.pr_script.specs.Scripts.{Stmt, Stmts, Arms, sends, repeats, breaks, stops, none, more, no_arm, arm}

-- the version from which on there is an arm with this test
abbrev pub since : Test → ℕ
since test.Good = 1
since (test.GoodHas key) = 1
since (test.GoodHeld key) = 1
since test.GoodUnheld = 1
since test.Conflict = 1
since test.Busy = 2
since test.Full = 2
since test.Attention = 1
since (test.Sense sense) = 1

-- each arm is one that this version has
abbrev mutual
  pub is_statement_of : ℕ → Stmt → Bool
  is_statement_of version (sends n c a) = are_arms_of version a
  is_statement_of version (repeats n b) = is_script_of version b
  is_statement_of version breaks = true
  is_statement_of version (stops w) = true

  pub is_script_of : ℕ → Stmts → Bool
  is_script_of version none = true
  is_script_of version (more s rest) = is_statement_of version s && is_script_of version rest

  pub are_arms_of : ℕ → Arms → Bool
  are_arms_of version no_arm = true
  are_arms_of version (arm t body rest) = (nat_le (since t) version && is_script_of version body) && are_arms_of version rest
