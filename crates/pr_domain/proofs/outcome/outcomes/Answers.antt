use Rattle.pr_domain.proofs.Common.{map, refl, subst, rules, view_in, scope_of, view_of, AllZip, HasWords}
use Rattle.pr_domain.proofs.lemmas.Reporting.FoundWords.{same_outcomes, found_of_view, all_alike}
use Rattle.pr_domain.proofs.lemmas.Outcomes.Coverage.{all_in_range, are_outcomes}
use Rattle.pr_domain.proofs.outcome.outcomes.Goals as goal

pub as_views-requires : goal.as_views-requires
as_views-requires g c =
    let view = c.args.view.now in
    let known = c.possibilities-known.result in
    let found = c.in_ok-found.found.items in
    let total =
    found_of_view c.args.host view c.args.refusals c.args.command.now c.args.tests.now known c.tally-tally.result found c.deref-keys.result.now c.deref-keys.ensures.0 c.requires.host
    c.possibilities-known.ensures.past c.possibilities-known.ensures.range c.tally-tally.ensures c.in_ok-found.ensures.outcomes in (
      search rules,
      rw c.deref.ensures.value (all_in_range (view_in (scope_of c.args.host view) known) c.args.refusals c.args.command.now c.args.tests.now found c.requires.written c.in_range.ensures c.requires.host total),
    )

pub returns-clause-outcomes : goal.returns-clause-outcomes
returns-clause-outcomes g c =
    let view = c.args.view.now in
    let known = c.possibilities-known.result in
    let found = c.in_ok-found.found.items in
    let total =
    found_of_view c.args.host view c.args.refusals c.args.command.now c.args.tests.now known c.tally-tally.result found c.deref-keys.result.now c.deref-keys.ensures.0 c.requires.host
    c.possibilities-known.ensures.past c.possibilities-known.ensures.range c.tally-tally.ensures c.in_ok-found.ensures.outcomes in
    same_outcomes (view_in (scope_of c.args.host view) known) (view_of c.args.host view) c.args.refusals c.args.command.now c.args.tests.now (map (λ o. (o.0, view_of c.args.host o.1)) c.in_ok-outcomes.outcomes.items) refl
    (λ i. (c.possibilities-known.ensures.same c.args.host i).0) (λ i. (c.possibilities-known.ensures.same c.args.host i).1)
    (are_outcomes c.args.host view known c.args.refusals c.args.command.now c.args.tests.now c.requires.written c.in_range.ensures c.requires.host
    found c.in_ok-found.ensures.kept total c.in_ok-outcomes.outcomes.items (subst (λ xs. AllZip (HasWords view) xs c.in_ok-outcomes.outcomes.items) c.deref.ensures.value c.in_ok-outcomes.ensures))

pub returns-clause-alike : goal.returns-clause-alike
returns-clause-alike g c = all_alike c.args.view.now c.deref.result.now c.in_ok-outcomes.outcomes.items c.in_ok-outcomes.ensures
