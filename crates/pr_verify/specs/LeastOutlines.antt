-- Agrees with docs/VERDICTS.md, 'What a refusal promises'.
-- The least that a host has to reckon with: what each of its sound outlines has.
use Rattle.std.specs.Prelude.{◌≡◌, ℕ, Option, Some, None}
use Rattle.pr_script.specs.Scripts.{Stmts}
use Rattle.pr_roles.specs.Scenarios.{Scenario}
use Rattle.pr_views.specs.Views.{View, Within}
use Rattle.pr_views.specs.Tables.{Outline}
use Rattle.pr_verify.specs.Outlines.{view_at, IsSound}

-- there is a view, and what is possible in the first is possible in it
abbrev pub IsWithinIn : View → Option View → Type 0
IsWithinIn w None = ⊥
IsWithinIn w (Some v) = Within w v

-- so it is at each line
abbrev pub IsNoMore : Outline → Outline → Type 0
IsNoMore o x = (line : ℕ) (v : View) → view_at o.views line ≡ Some v → IsWithinIn v (view_at x.views line)

-- The outline is sound, and whatever is possible at one of its sends is possible there in every sound outline of its host.
pub record IsLeastSound (s : Scenario) (script : Stmts) (o : Outline) : Type 0 where
  pub sound : IsSound s script o
  pub least : (x : Outline) → x.host ≡ o.host → IsSound s script x → IsNoMore o x
