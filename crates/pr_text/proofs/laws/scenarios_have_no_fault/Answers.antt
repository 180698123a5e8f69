use Rattle.pr_text.proofs.lemmas.ScenarioRoundTrip.WholeLines.{said}
use Rattle.pr_text.proofs.laws.scenarios_have_no_fault.Goals as goal

pub returns : goal.returns
returns c = said
