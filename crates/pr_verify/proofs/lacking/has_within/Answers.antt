use Rattle.pr_verify.proofs.Common.{rules, AreAlike}
use Rattle.pr_verify.proofs.lemmas.LeastOutlines.MissingViews.{of_entry}
use Rattle.pr_verify.proofs.lacking.has_within.Goals as goal

pub within-requires : goal.within-requires
within-requires c =
    let known = of_entry (λ v. AreAlike c.args.known.now v) c.args.outline.now.views.items c.in-Some.view.now c.requires c.in-Some.ensures.listed in
    (search rules, known)
