use Rattle.pr_domain.proofs.Common.{sym, refl, scenario_of, view_in}
use Rattle.pr_roles.proofs.lemmas.Scenarios.Parts.{keys_are}
use Rattle.pr_domain.specs.inside.Beginning.{scope_in}
use Rattle.pr_domain.proofs.lemmas.Starting.AllowedStarts.{kept_of_start, kept_in_range}
use Rattle.pr_domain.proofs.starting.Owner.starts.Goals as goal

pub returns-clause-range : goal.returns-clause-range
returns-clause-range c =
    let s = scope_in c.args.self.now.own c.args.self.now.hosts c.args.self.now.parts.now in
    kept_in_range s (view_in s c.alternatives.result) c.kept.result refl (c.kept.ensures s refl c.alternatives.ensures.fits)

pub returns-clause-start : goal.returns-clause-start
returns-clause-start c =
    let parts = c.args.self.now.parts.now in
    let s = scope_in c.args.self.now.own c.args.self.now.hosts parts in
    kept_of_start (scenario_of parts) s c.alternatives.result c.kept.result c.args.self.now.fits (sym (keys_are parts)) c.args.self.now.there c.alternatives.ensures.alternatives (c.kept.ensures s refl c.alternatives.ensures.fits)
