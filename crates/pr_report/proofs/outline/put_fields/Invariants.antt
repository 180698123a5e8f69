use Rattle.pr_report.proofs.Common.{drop, flat_map, joined_by_spaces, Wrote}
use Rattle.pr_report.specs.ScenarioWords.{field_words}
use Rattle.pr_report.proofs.outline.put_fields.Given as goal

abbrev pub invariant-loop-field : goal.invariant-loop-field
invariant-loop-field g l =
    let each = field_words l.kind l.rk l.sark in
    Wrote (g.W.Write.contents l.fn.writer) (g.W.Write.contents l.writer)
    (joined_by_spaces (flat_map each l.fields)) (joined_by_spaces (flat_map each (drop l.field-index l.fields)))
