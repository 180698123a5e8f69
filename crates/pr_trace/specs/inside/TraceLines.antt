-- The text of a line of a trace, as the code tells its lines apart.
use Rattle.std.specs.Prelude.{List, ℕ, ◌++◌, codes}
use Rattle.pr_trace.specs.declared.trace.TraceLine.{TraceLine}
use Rattle.pr_trace.specs.declared.trace.TraceLine.TheVariants.{First, Item, Unit as UnitLine, End}
use Rattle.pr_audit.specs.Ends.{ending_of}
use Rattle.pr_trace.specs.TraceText.{first_line, item_line, unit_line, ending_line}

abbrev pub line_text : List (List ℕ) → TraceLine → List ℕ
line_text names (First version) = first_line version ++ codes "\n"
line_text names (Item index item) = item_line index names item.now
line_text names (UnitLine unit) = unit_line names unit.now
line_text names (End name end sent) = ending_line name.now (ending_of end) sent
