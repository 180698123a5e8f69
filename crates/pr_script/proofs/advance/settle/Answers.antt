-- Where advancing ends, what is still to do rests.
use Rattle.pr_script.proofs.Common.{sym, ap, ◌∙◌, configuration, meanings}
use Rattle.pr_script.proofs.lemmas.Next.Settlement.{settled-rest}
use Rattle.pr_script.proofs.advance.settle.Goals as goal

pub returns-clause-reached : goal.returns-clause-reached
returns-clause-reached c =
    ap (λ opens. configuration (meanings c.args.rows.now) c.loop-to.at opens.items) c.in_default.ensures.same
    ∙ sym (settled-rest _ c.in_default.ensures.rests)
    ∙ c.loop-to.invariant.settles
