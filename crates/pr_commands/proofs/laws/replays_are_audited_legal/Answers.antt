use Rattle.pr_commands.proofs.lemmas.AuditedTraces.Legality.{replays_are_audited_legal}
use Rattle.pr_commands.proofs.laws.replays_are_audited_legal.Goals as goal

pub returns : goal.returns
returns c = replays_are_audited_legal
