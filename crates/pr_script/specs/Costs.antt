-- Agrees with docs/MODEL.md, 'Cost'.
-- How many commands a script sends: at most its cost.
use Rattle.std.specs.Prelude.{ℕ, ◌+◌, ◌*◌, List, [], ◌∷◌, Option, Some, None, max}
use Rattle.pr_cdb.specs.declared.reply.Reply.{Reply}
use Rattle.pr_script.specs.Scripts.{Stmt, Stmts, Arms, sends, repeats, breaks, stops, none, more, no_arm, arm, statement, mark, Configuration}
use Rattle.pr_script.specs.Takes.{take}

-- A list of statements costs the sum of them: a send 1 and the most that one of its arms costs, a repeat its
-- body as often as it is run, and a break or a stop nothing.
abbrev mutual
  pub cost_of : Stmt → ℕ
  cost_of (sends n c a) = 1 + greatest a
  cost_of (repeats n b) = n * cost_of_all b
  cost_of breaks = 0
  cost_of (stops w) = 0

  pub cost_of_all : Stmts → ℕ
  cost_of_all none = 0
  cost_of_all (more s ss) = cost_of s + cost_of_all ss

  pub greatest : Arms → ℕ
  greatest no_arm = 0
  greatest (arm test body rest) = max (cost_of_all body) (greatest rest)

-- the commands that are sent on one reply: one where a send comes first
abbrev pub commands : Configuration → ℕ
commands [] = 0
commands (mark ∷ l) = 0
commands ((statement (sends n c a)) ∷ l) = 1
commands ((statement (repeats n b)) ∷ l) = 0
commands ((statement breaks) ∷ l) = 0
commands ((statement (stops w)) ∷ l) = 0

abbrev pub count_in : (Configuration → ℕ) → Option Configuration → ℕ
count_in count None = 0
count_in count (Some l) = count l

-- How many commands are sent as these replies come, one after another, until no arm matches or the script
-- is stopped.
abbrev pub commands_sent : List Reply → Configuration → ℕ
commands_sent [] l = 0
commands_sent (r ∷ rs) l = commands l + count_in (commands_sent rs) (take l r)
