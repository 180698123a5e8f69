use Rattle.pr_roles.proofs.lemmas.Starts.Reservations
use Rattle.pr_roles.proofs.laws.starts_are_found.Goals as goal

pub returns : goal.returns
returns c = Reservations.starts_are_found
