-- The repeat that is left names places of the table.
use Rattle.pr_script.proofs.Common.{subst, AreLoops}
use Rattle.pr_script.proofs.lemmas.Program.OpenRepeats.{opens_less}
use Rattle.pr_script.proofs.advance.exit_loop.Goals as goal

pub returns-in-Some-clause-within : goal.returns-in-Some-clause-within
returns-in-Some-clause-within c = λ top old.
    let places = opens_less top _ _ (subst (AreLoops top) c.in-Some.ensures.items old) in (places.2, places.0)
