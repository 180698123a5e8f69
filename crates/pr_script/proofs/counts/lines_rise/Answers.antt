-- What does not fall rises.
use Rattle.pr_script.proofs.Common.{is_some, ap, ◌∙◌, lines_of_all, script_of}
use Rattle.pr_script.proofs.lemmas.Versions.Statements.{risen}
use Rattle.pr_script.proofs.counts.lines_rise.Goals as goal

pub returns : goal.returns
returns c = c.is_some.ensures ∙ (ap is_some c.last_line.ensures ∙ risen 0 (lines_of_all (script_of c.args.script.now)))
