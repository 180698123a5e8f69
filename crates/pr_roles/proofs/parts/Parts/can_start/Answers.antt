use Rattle.pr_roles.proofs.Common.{sym, ◌∙◌}
use Rattle.pr_roles.proofs.parts.Parts.can_start.Goals as goal

pub returns : goal.returns
returns c = (
  λ is. c.first_registry.ensures.exactly.0 (sym c.is_some.ensures ∙ is),
  λ can. c.is_some.ensures ∙ c.first_registry.ensures.exactly.1 can,
)
