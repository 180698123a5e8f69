-- States in which no more is pending.
use Rattle.std.specs.Prelude.{◌≡◌, ℕ, Bool, true, false}
use Rattle.pr_unit.specs.Laws.{IsQuiet}
use Rattle.pr_unit.specs.UnitStates.{UnitState}

-- w is v, or, where the path of h is shared, v with no more pending for h
abbrev pub IsAtMost : Bool → UnitState → ℕ → UnitState → Type 0
IsAtMost true v h w = IsQuiet v h w
IsAtMost false v h w = w ≡ v
