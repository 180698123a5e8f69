use Rattle.pr_views.proofs.Common.{◌≡◌, subst}
use Rattle.std.specs.Prelude.{IfOk}
use Rattle.pr_views.proofs.lemmas.Views.Values.{same_if_made}
use Rattle.pr_views.proofs.view.ViewOf.in_sets.Goals as goal

pub returns-clause-same : goal.returns-clause-same
returns-clause-same g c =
    same_if_made c.args.self.now c.possibilities.result c.of.result c.possibilities.ensures.same
    (subst (λ keys. IfOk c.of.result (λ w. w.keys.items ≡ keys)) c.deref.ensures.0 c.of.ensures.keys) c.of.ensures.hosts c.of.ensures.same
