-- What steps add to possibilities.
use Rattle.std.specs.Prelude.{ℕ, ◌<◌, ◌⊎◌}
use Rattle.pr_unit.specs.UnitStates.{UnitState}
use Rattle.pr_views.specs.declared.possibilities.Possibilities.{Possibilities}
use Rattle.pr_views.specs.Possibilities.{Scope, Item, Registration, Attentions, IsSo}
use Rattle.pr_views.specs.Views.{IsPossible}
use Rattle.pr_views.specs.Portions.{view_in}

-- what is so in the state is possible, and each of its parts has a number
pub record Allows (s : Scope) (p : Possibilities) (u : UnitState) : Type 0 where
  pub items : (i : Item) → IsSo s u i → IsPossible (view_in s p) i
  pub numbered : (g : ℕ) → g < s.hosts → (r : ℕ) × IsSo s u (Registration g r)
  pub pending : (q : ℕ) × IsSo s u (Attentions q)

-- The new possibilities are the old ones and those of the states that are led to: what is so there is possible, and
-- whatever else is possible is left.
pub record Adds (s : Scope) (old new : Possibilities) (leads : UnitState → UnitState → Type 0) (leaves : Item → Type 0) : Type 0 where
  pub kept : (i : Item) → IsPossible (view_in s old) i → IsPossible (view_in s new) i
  pub all : (u w : UnitState) → leads u w → Allows s new w
  pub only : (i : Item) → IsPossible (view_in s new) i → IsPossible (view_in s old) i ⊎ leaves i
