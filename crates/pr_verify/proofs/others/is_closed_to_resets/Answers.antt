use Rattle.pr_verify.proofs.Common.{◌<◌, ◌≢◌, sym, ap, ◌∙◌, subst, false≢true, scenario_of, view_of}
use Rattle.pr_roles.specs.declared.parts.Parts.{Parts}
use Rattle.pr_interference.proofs.lemmas.Interference.Nexuses.{no_resets, resets_declared}
use Rattle.pr_verify.proofs.lemmas.Known.Questions.{own_there}
use Rattle.pr_verify.proofs.lemmas.Reviewing.Starts.{kept_fits, any_own, scope_alike}
use Rattle.pr_verify.proofs.lemmas.Least.Disturbances.{closed_reset, open_by_reset}
use Rattle.pr_verify.proofs.others.is_closed_to_resets.Goals as goal

pub returns-then-parts-eq0-clause-closed : goal.returns-then-parts-eq0-clause-closed
returns-then-parts-eq0-clause-closed c is declared =
    let none = ap (λ (p : Parts). p.resets) (sym c.parts.ensures.value) ∙ c.if-parts-eq0.true in
    absurd (false≢true (sym (no_resets c.args.asked.now.scenario.now none) ∙ declared))

pub returns-clause-closed : goal.returns-clause-closed
returns-clause-closed c is =
    let own = c.args.asked.now.outline.now.host in
    let view = c.args.view.now in
    let left = c.in_ok-left.left in
    closed_reset (scenario_of c.args.asked.now.scenario.now) (view_of own view) (view_of own left) (scope_alike own view left c.in_ok-left.ensures.alike)
    (c.in_ok-left.ensures.reset own (own_there c.args.asked.now view c.requires.1)) (c.within.ensures.0 is own)

pub returns-clause-open : goal.returns-clause-open
returns-clause-open c denied =
    let own = c.args.asked.now.outline.now.host in
    let view = c.args.view.now in
    let left = c.in_ok-left.left in
    let small = own_there c.args.asked.now view c.requires.1 in
    let some : c.args.asked.now.scenario.now.resets ≢ 0 = λ none. c.if-parts-eq0.false (ap (λ (p : Parts). p.resets) c.parts.ensures.value ∙ none) in
    open_by_reset (scenario_of c.args.asked.now.scenario.now) (view_of own view) (view_of own left) (scope_alike own view left c.in_ok-left.ensures.alike)
    (kept_fits left own (subst (λ n. own < n) c.in_ok-left.ensures.alike.hosts small)) (resets_declared c.args.asked.now.scenario.now some)
    (c.in_ok-left.ensures.reset own small) (λ within. false≢true (sym denied ∙ c.within.ensures.1 (any_own left view own within)))
