use Rattle.pr_text.proofs.lemmas.ScenarioRoundTrip.Uniqueness.{written_once}
use Rattle.pr_text.proofs.laws.texts_are_written_once.Goals as goal

pub returns : goal.returns
returns c = written_once
