-- What is left of a guest's plan.
use Rattle.std.specs.Prelude.{◌≡◌, List, [], ◌∷◌, Option, MatchOption}
use Rattle.pr_cdb.specs.declared.command.Command.{Command}

-- the next of these commands, which leaves those; none where none is left
abbrev pub IsNext : List Command → Option Command → List Command → Type 0
IsNext planned next left = MatchOption next ((planned ≡ []) × (left ≡ [])) (λ command. planned ≡ command ∷ left)
