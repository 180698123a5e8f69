use Rattle.pr_report.proofs.Common.{drop, flat_map, Wrote}
use Rattle.pr_report.specs.OutlineText.{unarmed_line}
use Rattle.pr_report.proofs.outline.put_unarmed.Given as goal

abbrev pub invariant-loop-class : goal.invariant-loop-class
invariant-loop-class g l =
    Wrote (g.W.Write.contents l.fn.writer) (g.W.Write.contents l.writer) (flat_map unarmed_line l.classes) (flat_map unarmed_line (drop l.class-index l.classes))
