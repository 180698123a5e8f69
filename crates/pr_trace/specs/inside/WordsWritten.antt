-- What a call wrote, where that is words.
use Rattle.std.specs.Prelude.{ℕ, List, Result}
use Rattle.std.specs.Borrow.{MutBor}
use Rattle.std.specs.declared.io.Write as Write
use denote.Triple.Both.{Both}
use Rattle.pr_output.specs.PrintedLines.{joined_by_spaces}
use Rattle.pr_output.specs.Written.{Writes}

module _ {A E : Type 0} (ghosts : Write.Ghosts A) (writer : Both (MutBor A) (MutBor A)) where
  -- each after a space
  abbrev pub WritesWords : List (List ℕ) → Result (Unit {0}) E → Type 0
  WritesWords words result = Writes ghosts writer (joined_by_spaces words) result
