-- Which nexuses of a scenario are scripted.
use Rattle.pr_verify.proofs.Common.{◌≡◌, ℕ, ◌<◌, length, slice_get, Some, None, Option, Vec, Global, refl, ap, ◌∙◌, subst, option_map_or, slice_get_within, Command, task, Scenario, task_of, IsScripted}
use Rattle.pr_roles.specs.declared.parts.Nexus.{Nexus as NexusPart}
use Rattle.pr_roles.specs.declared.parts.Task.TheVariants as part
use Rattle.pr_roles.specs.Scenarios.{nexus_of, Nexus, nexus}
use Rattle.pr_roles.proofs.lemmas.Scenarios.Nexuses.{task_read}

-- a host that is scripted is there
pub scripted_there : (s : Scenario) (h : ℕ) → IsScripted (task s h) → h < length s.nexuses
scripted_there s h scripted = at (slice_get s.nexuses h) refl scripted
  where
    at : (o : Option Nexus) → slice_get s.nexuses h ≡ o → IsScripted (option_map_or (λ (n : Nexus). Some n.task) o None) → h < length s.nexuses
    at None is none = absurd none
    at (Some n) is some = slice_get_within s.nexuses h n is

pub planned_not : (s : Scenario) (h : ℕ) (n : NexusPart) → nexus s h ≡ Some (nexus_of n) → (commands : Vec Command Global) → n.task ≡ part.Planned commands → IsScripted (task s h) → ⊥
planned_not s h n is commands same scripted = subst IsScripted (task_read s h n is ∙ ap (λ t. Some (task_of t)) same) scripted
