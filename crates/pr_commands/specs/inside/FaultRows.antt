-- The words for a fault of a text.
use Rattle.std.specs.Prelude.{ℕ, List, [], ◌∷◌, codes}
use Rattle.std.specs.Fmt.{decimal}
use Rattle.pr_commands.specs.declared.fault.FaultRow.{FaultRow}
use Rattle.pr_commands.specs.declared.fault.FaultRow.TheVariants.{Whole, Line, Limit, Memory}
use Rattle.pr_commands.specs.FaultText.{at_line, of_whole, which_word}

-- the first word tells which text
abbrev pub row_words : List ℕ → FaultRow → List (List ℕ)
row_words text (Whole number name) = of_whole text number.now name.now
row_words text (Line number name at) = at_line text number.now name.now at
row_words text (Limit number name limit at) = text ∷ number.now ∷ name.now ∷ which_word limit ∷ codes "line" ∷ decimal at ∷ []
row_words text Memory = codes "memory" ∷ []
