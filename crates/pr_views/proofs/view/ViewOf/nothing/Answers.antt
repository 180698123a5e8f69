use Rattle.pr_views.proofs.lemmas.Views.Values.{contains_no, nothing_possible}
use Rattle.pr_views.proofs.view.ViewOf.nothing.Goals as goal

pub returns-clause-none : goal.returns-clause-none
returns-clause-none g c own =
    nothing_possible (record { scope = record { own = own; hosts = c.args.hosts; keys = c.args.keys.now }; registrations = _; reservations = _; pending = _ })
    (λ h n small. c.empty_sets.ensures.members h n) (contains_no _ c.none.ensures.members) (contains_no _ c.none-2.ensures.members)
