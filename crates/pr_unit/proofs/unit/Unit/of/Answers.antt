use Rattle.pr_unit.proofs.Common.{sym, ap, ◌∙◌, false≢true}
use Rattle.std.specs.FinSet as set
use Rattle.pr_unit.proofs.lemmas.Attentions.Pairs.{contains-none}
use Rattle.pr_unit.proofs.unit.Unit.of.Goals as goal

pub invariant_of-result : goal.invariant_of-result
invariant_of-result c = record {
  registry = c.hosts.ensures.well_formed;
  pending = λ h code is. absurd (false≢true (sym (ap (λ s. set.contains s (h, code)) c.nothing_pending.ensures ∙ contains-none (h, code)) ∙ is));
}
