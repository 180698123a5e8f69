-- Agrees with docs/FORMATS.md, 'Limits'.
-- The limits of scripts, which definitions cite by their names.
use Rattle.std.specs.Prelude.{◌≡◌}
use Rattle.pr_script.specs.declared.grammar.TheConstants.{WRITTEN_LENGTH}
use Rattle.pr_script.specs.declared.limits.TheConstants.{MOST_STATEMENTS, MOST_ARMS, MOST_OPEN, MOST_TURNS, MOST_LETTERS, MOST_BUDGET}

pub record LimitsAgree : Type 0 where
  pub most_statements : MOST_STATEMENTS ≡ 512
  pub most_arms : MOST_ARMS ≡ 16
  pub most_open : MOST_OPEN ≡ 8
  pub most_turns : MOST_TURNS ≡ 1000
  pub most_letters : MOST_LETTERS ≡ 16
  pub most_budget : MOST_BUDGET ≡ 4096
  pub written_length : WRITTEN_LENGTH ≡ 8192
