use Rattle.pr_domain.proofs.Common.{◌≤◌, length, sym, subst, MOST_KEYS}
use Rattle.pr_roles.proofs.lemmas.Scenarios.Parts.{few_of_parts}
use Rattle.pr_domain.proofs.starting.Owner.registration_in.Goals as goal

pub number_in-requires : goal.number_in-requires
number_in-requires c = subst (λ keys. length keys ≤ MOST_KEYS) (sym c.deref.ensures.value) (few_of_parts c.args.self.now.parts.now c.args.self.now.fits)
