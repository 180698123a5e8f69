use Rattle.pr_unit.proofs.Common.{refl, unit_of}
use Rattle.pr_unit.proofs.lemmas.Attentions.Resets.{well_formed-told}
use Rattle.pr_unit.proofs.unit.Unit.reset.Goals as goal

-- whichever attention is told
pub invariant_of-self : goal.invariant_of-self
invariant_of-self c = well_formed-told (unit_of c.self.inside.registry c.self.inside.pending) _ _ _ c.tell_all.ensures c.hosts.ensures.value refl c.self.invariant
