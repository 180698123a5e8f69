use Rattle.pr_domain.proofs.Common.{◌≡◌, ◌<◌, sym, ap, ◌∙◌, subst, arith, rules, AreDeclared, scenario_of, view_in, scope_of, view_of, AreInRange}
use Rattle.pr_roles.specs.declared.parts.Parts.{Parts}
use Rattle.pr_roles.specs.Fitting.{Fits}
use Rattle.pr_roles.proofs.lemmas.Scenarios.Parts.{keys_are, keys_of_parts}
use Rattle.pr_domain.specs.Starting.{IsOfStart}
use Rattle.pr_domain.specs.inside.Beginning.{scope_in}
use Rattle.pr_domain.proofs.lemmas.Starting.AllowedStarts.{start_same}
use Rattle.pr_regions.proofs.lemmas.Showing.AlikeViews.{same_views, if_ok}
use Rattle.pr_domain.proofs.lemmas.Starting.WrittenNumbers.{AreCounted, are_counted}
use Rattle.pr_domain.proofs.starting.of_start.Given as given
use Rattle.pr_domain.proofs.starting.of_start.Goals as goal

counted : (g : given.Over) (c : goal.After-len-hosts g) → AreCounted c.args.scenario.now c.parts-parts.result.now c.len-hosts.result
counted g c = are_counted c.args.scenario.now c.parts-parts.result.now c.len-hosts.result c.parts-parts.ensures.value c.parts-parts.ensures.fits c.len-hosts.ensures

pub overflow_cast-hosts : goal.overflow_cast-hosts
overflow_cast-hosts g c = let few = (counted g c).few.1 in omega arith

pub invariant_of-owner-clause-there : goal.invariant_of-owner-clause-there
invariant_of-owner-clause-there g c = subst (λ n. c.args.own < n) (sym (counted g c).nexuses) c.requires.own

pub of-requires : goal.of-requires
of-requires g c =
    let parts = c.parts-parts.result.now in
    let fits = subst (λ p. Fits (scenario_of p)) (sym c.parts-parts.ensures.value) c.parts-parts.ensures.fits in (
      search rules,
      (
        (are_counted c.args.scenario.now parts c.len-hosts.result c.parts-parts.ensures.value c.parts-parts.ensures.fits c.len-hosts.ensures).few,
        (
          subst AreDeclared (sym c.deref.ensures.value) (keys_of_parts parts fits),
          subst (λ keys. AreInRange c.len-hosts.result keys c.starts-words.result) (sym c.deref.ensures.value) c.starts-words.ensures.range,
        ),
      ),
    )

pub returns-clause-keys : goal.returns-clause-keys
returns-clause-keys g c =
    if_ok c.of.result (λ v keys hosts same. keys ∙ c.deref.ensures.value ∙ ap (λ (p : Parts). p.keys.items) c.parts-parts.ensures.value ∙ sym (keys_are c.args.scenario.now))
    c.of.ensures.keys c.of.ensures.hosts c.of.ensures.same

pub returns-clause-hosts : goal.returns-clause-hosts
returns-clause-hosts g c =
    let parts = c.parts-parts.result.now in
    let counted = are_counted c.args.scenario.now parts c.len-hosts.result c.parts-parts.ensures.value c.parts-parts.ensures.fits c.len-hosts.ensures in
    if_ok c.of.result (λ v keys hosts same. hosts ∙ counted.nexuses) c.of.ensures.keys c.of.ensures.hosts c.of.ensures.same

pub returns-clause-start : goal.returns-clause-start
returns-clause-start g c =
    let parts = c.parts-parts.result.now in
    let words = c.starts-words.result in
    let s = scope_in c.args.own c.len-hosts.result parts in
    let start = subst (λ p. IsOfStart (scenario_of p) (view_in s words)) c.parts-parts.ensures.value c.starts-words.ensures.start in
    if_ok c.of.result (λ v keys hosts same.
    let scope : scope_of c.args.own v ≡ s = λ i. record { own = c.args.own; hosts = hosts i; keys = (keys ∙ c.deref.ensures.value) i } in
    start_same (scenario_of c.args.scenario.now) (view_in s words) (view_of c.args.own v) (same_views c.args.own v s words scope (same c.args.own)) start)
    c.of.ensures.keys c.of.ensures.hosts c.of.ensures.same
