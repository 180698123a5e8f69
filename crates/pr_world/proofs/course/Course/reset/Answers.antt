use Rattle.pr_world.proofs.Common.{sym, ap, ◌∙◌, scenario_of, may_reset}
use Rattle.pr_world.proofs.lemmas.Participations.Resets.{reached_reset, reached_unreset, schedule_reset}
use Rattle.pr_world.proofs.course.Course.reset.Goals as goal

pub returns-then-not-may_reset-clause-reached : goal.returns-then-not-may_reset-clause-reached
returns-then-not-may_reset-clause-reached c =
    let over = ap (may_reset (scenario_of c.args.scenario.now)) (sym c.deref.ensures.value) ∙ (sym c.may_reset.ensures ∙ c.if-not-may_reset.true) in
    reached_unreset _ _ over

pub returns-clause-reached : goal.returns-clause-reached
returns-clause-reached c =
    let may = ap (may_reset (scenario_of c.args.scenario.now)) (sym c.deref.ensures.value) ∙ (sym c.may_reset.ensures ∙ c.if-not-may_reset.false) in
    reached_reset _ _ _ may (schedule_reset _ _ _ _ _ c.reset.ensures c.push_reserved.ensures.items)
