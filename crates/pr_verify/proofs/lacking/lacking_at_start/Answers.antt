use Rattle.pr_verify.proofs.Common.{◌<◌, sym, subst, scenario_of, view_of, outline_of}
use Rattle.pr_verify.proofs.lemmas.Reviewing.Starts.{kept_fits, AreScoped, scope_same, scoped, alike, lacks_start}
use Rattle.pr_verify.proofs.lacking.lacking_at_start.Goals as goal

pub first_lacking-requires : goal.first_lacking-requires
first_lacking-requires c =
    let start = c.in_ok-start in
    alike (scenario_of c.args.asked.now.scenario.now) c.args.asked.now.outline.now start.start c.args.asked.now.made start.ensures.keys start.ensures.hosts

pub returns : goal.returns
returns c script same =
    let start = c.in_ok-start in
    let s = scenario_of c.args.asked.now.scenario.now in
    let o = outline_of c.args.asked.now.outline.now in
    let own = c.args.asked.now.outline.now.host in
    let scope = scope_same s own start.start start.ensures.keys start.ensures.hosts in
    lacks_start s script o (view_of own start.start) c.args.lines.now c.first_lacking.result start.ensures.start
    (kept_fits start.start own (subst (λ n. own < n) (sym start.ensures.hosts) c.args.asked.now.declared)) c.requires.starts
    (subst (AreScoped o) (sym scope) (scoped s c.args.asked.now.outline.now c.args.asked.now.made)) same c.first_lacking.ensures
