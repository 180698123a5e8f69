use Rattle.pr_text.proofs.lemmas.ScriptRoundTrip.Lines.{reread}
use Rattle.pr_text.proofs.laws.scripts_have_no_fault.Goals as goal

pub returns : goal.returns
returns c = reread
