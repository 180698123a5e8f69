use Rattle.pr_verify.proofs.Common.{◌≡◌, ◌<◌, true, ◌≢◌, length, sym, ◌∙◌, subst, arith, rules, false≢true, below_more, UnitState, role, scenario_of, view_of, Shows, IsDone}
use Rattle.pr_roles.specs.Fitting.{is_role}
use Rattle.pr_roles.proofs.lemmas.Scenarios.Nexuses.{role_read, role_fits}
use Rattle.pr_verify.proofs.lemmas.Known.Questions.{own_there}
use Rattle.pr_verify.proofs.lemmas.Reviewing.Starts.{kept_fits, any_own, scope_alike}
use Rattle.pr_verify.proofs.lemmas.Least.Disturbances.{kept_by, open_by}
use Rattle.pr_verify.proofs.others.is_closed_to_others.Goals.{then-other-own+in_ok-left+else-not-within, else-other-own}
use Rattle.pr_verify.proofs.others.is_closed_to_others.Goals as goal

pub nexus_in-requires : goal.nexus_in-requires
nexus_in-requires c = let same = c.requires.1 in let small = c.loop-other-test.true in omega arith

pub interfere-requires : goal.interfere-requires
interfere-requires c = (
  search rules,
  (
    own_there c.args.asked.now c.args.view.now c.requires.1,
    (
      c.loop-other-test.true,
      (
        λ same. c.if-other-own.true (sym same),
        subst (λ keys. is_role keys c.nexus_in.result.now.role.clauses.items ≡ true) (sym c.requires.0)
            (role_fits (scenario_of c.args.asked.now.scenario.now) c.loop-other.other c.nexus_in.result.now c.nexus_in.ensures.nexus c.nexus_in.ensures.fits),
      ),
    ),
  ),
)

pub returns-then-not-within-clause-open : goal.returns-then-not-within-clause-open
returns-then-not-within-clause-open c denied =
    let own = c.args.asked.now.outline.now.host in
    let left = c.in_ok-left.left in
    let view = c.args.view.now in
    let there : c.loop-other.other < length (scenario_of c.args.asked.now.scenario.now).nexuses = (let same = c.requires.1 in let small = c.loop-other-test.true in omega arith) in
    open_by (scenario_of c.args.asked.now.scenario.now) (view_of own view) c.loop-other.other c.nexus_in.result.now.role.clauses.items (view_of own left) (scope_alike own view left c.in_ok-left.ensures.alike)
    (kept_fits left own (subst (λ n. own < n) c.in_ok-left.ensures.alike.hosts (own_there c.args.asked.now c.args.view.now c.requires.1))) there c.if-other-own.true
    (role_read (scenario_of c.args.asked.now.scenario.now) c.loop-other.other c.nexus_in.result.now c.nexus_in.ensures.nexus)
    c.in_ok-left.ensures.interference (λ within. false≢true (sym c.if-not-within.true ∙ c.within.ensures.1 (any_own left view own within)))

pub loop-other-preserved : goal.loop-other-preserved
loop-other-preserved c =
    let s = scenario_of c.args.asked.now.scenario.now in
    let own = c.args.asked.now.outline.now.host in
    let view = c.args.view.now in
    let v = view_of own view in
    let n = c.loop-other.other in
    below_more (λ g. g ≢ own → (u after : UnitState) → Shows v u → IsDone (role s g) g u after → Shows v after) n c.loop-other.invariant
    (elim c.if-other-own.branch [
      | then-other-own+in_ok-left+else-not-within w ↦ λ another.
          kept_by s v n w.nexus_in.result.now.role.clauses.items (view_of own w.in_ok-left.left) (scope_alike own view w.in_ok-left.left w.in_ok-left.ensures.alike)
          (role_read s n w.nexus_in.result.now w.nexus_in.ensures.nexus) w.in_ok-left.ensures.interference (w.within.ensures.0 w.if-not-within.false own)
      | else-other-own w ↦ λ another. absurd (another w.if-other-own.false)
    ])

pub returns-clause-closed : goal.returns-clause-closed
returns-clause-closed c is h small = c.loop-other.invariant h (omega arith)
