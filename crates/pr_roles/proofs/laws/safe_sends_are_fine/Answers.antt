use Rattle.pr_roles.proofs.lemmas.SafeRuns.NextEvents.{safe_sends_are_fine}
use Rattle.pr_roles.proofs.laws.safe_sends_are_fine.Goals as goal

pub returns : goal.returns
returns c = safe_sends_are_fine
