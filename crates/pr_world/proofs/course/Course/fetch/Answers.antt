use Rattle.pr_world.proofs.Common.{refl, sym, ◌∙◌, scenario_of}
use Rattle.std.proofs.lemmas.Bool.{and_left, and_right}
use Rattle.pr_attention.specs.Attentions.{code_of}
use Rattle.pr_unit.specs.UnitStates.{is_any_pending}
use Rattle.pr_world.proofs.lemmas.Participations.Fetches.{fetch_passed, lowest_of, none_pending, reached_fetched, reached_unfetched}
use Rattle.pr_world.proofs.course.Course.fetch.Goals as goal

pub returns-then-not-is_shared-clause-reached : goal.returns-then-not-is_shared-clause-reached
returns-then-not-is_shared-clause-reached c =
    let s = scenario_of c.args.scenario.now in
    let alone = sym c.is_shared.ensures ∙ c.if-not-is_shared.true in
    reached_unfetched s _ c.args.host (and_left (s.shared c.args.host) (is_any_pending c.args.self.now.unit c.args.host) alone)

pub returns-in-Some-clause-reached : goal.returns-in-Some-clause-reached
returns-in-Some-clause-reached c =
    let s = scenario_of c.args.scenario.now in
    let u = c.args.self.now.unit in
    let shares = sym c.is_shared.ensures ∙ c.if-not-is_shared.false in
    let lowest = lowest_of u c.args.host (code_of c.in-Some.attention) _ c.pending.ensures.value c.in-Some.ensures.some in
    reached_fetched s u _ _ _ c.args.host (code_of c.in-Some.attention) shares c.pending.ensures.well_formed lowest c.fetch.ensures c.requires.there

pub returns-in_default-clause-turn : goal.returns-in_default-clause-turn
returns-in_default-clause-turn c =
    let s = scenario_of c.args.scenario.now in
    let u = c.args.self.now.unit in
    let none = none_pending u c.args.host _ c.pending.ensures.value (c.in_default.ensures.none.0 refl) in
    fetch_passed s _ c.args.host (and_right (s.shared c.args.host) (is_any_pending u c.args.host) none)

pub returns-in_default-clause-reached : goal.returns-in_default-clause-reached
returns-in_default-clause-reached c =
    let s = scenario_of c.args.scenario.now in
    let u = c.args.self.now.unit in
    let none = none_pending u c.args.host _ c.pending.ensures.value (c.in_default.ensures.none.0 refl) in
    reached_unfetched s _ c.args.host (and_right (s.shared c.args.host) (is_any_pending u c.args.host) none)
