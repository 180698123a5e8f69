-- Agrees with docs/FORMATS.md, 'Limits'.
-- The limits of a scenario's parts, which definitions cite by their names.
use Rattle.std.specs.Prelude.{◌≡◌}
use Rattle.pr_roles.specs.declared.limits.TheConstants.{MOST_DECLARED_1, MOST_DECLARED_2, MOST_KEYS, MOST_CLAUSES, MOST_PLANNED, MOST_REFUSALS, MOST_RESETS}

pub record LimitsAgree : Type 0 where
  pub most_declared : (MOST_DECLARED_1 ≡ 8) × (MOST_DECLARED_2 ≡ 16)
  pub most_keys : MOST_KEYS ≡ 12
  pub most_clauses : MOST_CLAUSES ≡ 32
  pub most_planned : MOST_PLANNED ≡ 256
  pub most_refusals : MOST_REFUSALS ≡ 1000
  pub most_resets : MOST_RESETS ≡ 1000
