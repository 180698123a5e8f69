use Rattle.pr_lines.proofs.Common.{sym, refl, ◌∙◌}
use Rattle.std.proofs.lemmas.List.{take_rest}
use Rattle.pr_lines.proofs.lemmas.TextLines.Cuts.{lines_first, lines_last}
use Rattle.pr_lines.proofs.cutting.next_line.Goals as goal

pub returns-clause-lines : goal.returns-clause-lines
returns-clause-lines c = rw (c.without_carriage_return.ensures, take_rest) (lines_first c.args.text.now c.in-Some.end (sym c.line_feed_in.ensures ∙ c.in-Some.is))

pub returns-else-is_empty-clause-lines : goal.returns-else-is_empty-clause-lines
returns-else-is_empty-clause-lines c =
    rw (lines_last c.args.text.now (sym c.line_feed_in.ensures ∙ c.in_default.is), ← c.is_empty.ensures, c.if-is_empty.false) refl
