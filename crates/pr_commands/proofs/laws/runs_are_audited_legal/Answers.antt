use Rattle.pr_commands.proofs.lemmas.AuditedTraces.Legality.{runs_are_audited_legal}
use Rattle.pr_commands.proofs.laws.runs_are_audited_legal.Goals as goal

pub returns : goal.returns
returns c = runs_are_audited_legal
