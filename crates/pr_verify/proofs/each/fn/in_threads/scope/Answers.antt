use Rattle.pr_verify.proofs.Common.{sym, ◌∙◌, subst, scenario_of, IsAnswerBefore}
use Rattle.pr_verify.proofs.each.fn.in_threads.scope.Goals as goal

pub returns : goal.returns
returns g c =
    let s = scenario_of c.captures.scenario.now in
    subst (λ n. IsAnswerBefore s n c.join_all.result) (sym c.make_rest-checks.result.ok.0 ∙ (c.make_rest-checks.ensures.all ∙ c.begin_all-begun.ensures.all)) (c.join_all.ensures s c.make_rest-checks.ensures.each)
