use Rattle.pr_report.proofs.lemmas.OutlineText.Sends.{outlines_of_parts}
use Rattle.pr_report.proofs.outline.write_outlines.Goals as goal

pub returns : goal.returns
returns g c = outlines_of_parts _ _ _ _ _ _ _ c.parts.ensures.value c.deref.ensures.value c.put_tables.ensures
