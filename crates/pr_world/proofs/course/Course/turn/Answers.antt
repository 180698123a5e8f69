use Rattle.pr_world.proofs.Common.{Some, sym, ap, ◌∙◌, how_now, scenario_of}
use Rattle.std.proofs.Common.{rules}
use Rattle.pr_world.proofs.lemmas.Turns.Schedules.{turn_made, doing_at, sends_entry, nothing_added, entry_added, trapped_here}
use Rattle.pr_audit.proofs.lemmas.Auditing.Parts.{nexus_within}
use Rattle.pr_world.proofs.lemmas.Replays.Runs.{reached_more}
use Rattle.pr_world.proofs.course.Course.turn.Goals as goal

pub index-requires : goal.index-requires
index-requires c = nexus_within _ _ _ _ c.requires.there c.parts.ensures.value c.from-index.ensures

-- room is asked for only where the turn sends
pub push_reserved-requires : goal.push_reserved-requires
push_reserved-requires c =
    c.requires.room (sym (doing_at _ c.args.how _ _ _ _ c.args.self.now.history.items _ _ _ _ _ c.requires.stands c.requires.there c.parts.ensures.value c.from-index.ensures c.index.ensures c.index_mut.ensures.value (c.how_now-now.ensures ∙ ap (λ es. how_now (scenario_of c.args.scenario.now) es c.args.host c.args.how) c.deref.ensures.value) c.act-act.ensures.does)
    ∙ sends_entry _ _ c.in-Some.ensures)

pub returns-in-Some : goal.returns-in-Some
returns-in-Some c =
    let made =
    turn_made _ c.args.how _ _ _ _ _ _ _ _ _ _ _ _ _ c.requires.stands c.requires.there c.parts.ensures.value c.from-index.ensures c.index.ensures c.index_mut.ensures.value (c.how_now-now.ensures ∙ ap (λ es. how_now (scenario_of c.args.scenario.now) es c.args.host c.args.how) c.deref.ensures.value) c.act-act.ensures.acts c.act-act.ensures.hosts
    (entry_added _ _ _ _ c.push_reserved.ensures.items (ap Some c.copy.ensures ∙ c.in-Some.ensures))
    in
    record {
      does = doing_at _ c.args.how _ _ _ _ c.args.self.now.history.items _ _ _ _ _ c.requires.stands c.requires.there c.parts.ensures.value c.from-index.ensures c.index.ensures c.index_mut.ensures.value (c.how_now-now.ensures ∙ ap (λ es. how_now (scenario_of c.args.scenario.now) es c.args.host c.args.how) c.deref.ensures.value) c.act-act.ensures.does;
      trapped = λ is. trapped_here _ _ _ c.args.self.now.history.items _ _ _ c.requires.stands c.requires.there c.from-index.ensures c.index_mut.ensures.value (c.act-act.ensures.trapped is);
      turn = made.turn;
      happens = made.happens;
      reached = λ steps. reached_more _ steps _ _ _ _ _ made.turn made.happens;
      stands = made.stands;
      length = search rules;
      room = search rules;
    }

pub returns-in_default : goal.returns-in_default
returns-in_default c =
    let made =
    turn_made _ c.args.how _ _ _ _ _ _ c.args.self.now.history.items _ _ _ _ _ _ c.requires.stands c.requires.there c.parts.ensures.value c.from-index.ensures c.index.ensures c.index_mut.ensures.value (c.how_now-now.ensures ∙ ap (λ es. how_now (scenario_of c.args.scenario.now) es c.args.host c.args.how) c.deref.ensures.value) c.act-act.ensures.acts
    c.act-act.ensures.hosts (nothing_added c.args.self.now.history.items _ c.in_default.ensures)
    in
    record {
      does = doing_at _ c.args.how _ _ _ _ c.args.self.now.history.items _ _ _ _ _ c.requires.stands c.requires.there c.parts.ensures.value c.from-index.ensures c.index.ensures c.index_mut.ensures.value (c.how_now-now.ensures ∙ ap (λ es. how_now (scenario_of c.args.scenario.now) es c.args.host c.args.how) c.deref.ensures.value) c.act-act.ensures.does;
      trapped = λ is. trapped_here _ _ _ c.args.self.now.history.items _ _ _ c.requires.stands c.requires.there c.from-index.ensures c.index_mut.ensures.value (c.act-act.ensures.trapped is);
      turn = made.turn;
      happens = made.happens;
      reached = λ steps. reached_more _ steps _ _ _ _ _ made.turn made.happens;
      stands = made.stands;
      length = search rules;
      room = search rules;
    }
