use Rattle.pr_text.proofs.Common.{sym, ◌∙◌, declared_by}
use Rattle.pr_lines.specs.LineValues.{line_of_value}
use Rattle.pr_text.proofs.lemmas.LineFaults.Order.{in_version}
use Rattle.pr_text.proofs.builder.Builder.with_item.Goals as goal

pub returns : goal.returns
returns c =
    rw (in_version c.args.line (line_of_value c.args.item) (declared_by c.args.self) (sym c.is_before.ensures ∙ c.if-is_before.false))
    c.with_standing.ensures
