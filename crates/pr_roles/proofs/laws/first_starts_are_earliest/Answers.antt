use Rattle.pr_roles.proofs.lemmas.Starts.Reservations
use Rattle.pr_roles.proofs.laws.first_starts_are_earliest.Goals as goal

pub returns : goal.returns
returns c = Reservations.first_starts_are_earliest
