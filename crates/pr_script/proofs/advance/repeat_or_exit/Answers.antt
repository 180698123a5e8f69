-- The repeat that is opened names places of the table.
use Rattle.pr_script.proofs.Common.{sym, subst, AreLoops}
use Rattle.pr_script.proofs.lemmas.Program.OpenRepeats.{opens_more}
use Rattle.pr_script.proofs.advance.repeat_or_exit.Goals as goal

pub returns-clause-within : goal.returns-clause-within
returns-clause-within c = λ top body next old.
    (body, subst (AreLoops top) (sym c.push.ensures.items) (opens_more top _ _ old body next))
