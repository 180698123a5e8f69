-- What a call wrote, where that is words.
use Rattle.std.specs.Prelude.{ℕ, List, Result}
use Rattle.std.specs.Borrow.{MutBor}
use Rattle.std.specs.declared.io.Write as Write
use denote.Triple.Both.{Both}
use Rattle.pr_report.specs.Verdicts.{refused_line}
use Rattle.pr_output.specs.Written.{Writes}

module _ {A E : Type 0} (ghosts : Write.Ghosts A) (writer : Both (MutBor A) (MutBor A)) where
  -- those of the line of a refusal behind its first one
  abbrev pub WritesRefusal : List (List ℕ) → Result (Unit {0}) E → Type 0
  WritesRefusal words result = Writes ghosts writer (refused_line words) result
