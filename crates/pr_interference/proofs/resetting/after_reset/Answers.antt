use Rattle.pr_interference.proofs.Common.{refl}
use Rattle.pr_interference.proofs.lemmas.Marks.Resets.{is_after_reset}
use Rattle.pr_interference.proofs.resetting.after_reset.Goals as goal

pub returns : goal.returns
returns c s hosts fits =
    is_after_reset s c.args.view.now c.kept-left.result _ fits.scope.own (c.kept-left.ensures s hosts fits) refl refl c.attentions_with-left.ensures
