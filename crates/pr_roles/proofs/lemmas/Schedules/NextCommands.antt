-- What comes next of a nexus, by what is known of it, and what its turn comes to.
use Rattle.pr_roles.proofs.Common.{◌≡◌, ℕ, ◌&&◌, List, [], Some, None, Option, sym, refl, ap, ◌∙◌, none-some, Scenario, slice_get, option_map_or, Command, How, Task, task}
use Rattle.std.proofs.Common.{slice_set, unwrap_or}
use Rattle.std.proofs.lemmas.List.{set-get_or}
use Rattle.std.proofs.lemmas.Option.{unwrap_or-slice_get}
use Rattle.pr_script.specs.Scripts.{Standing}
use Rattle.pr_roles.specs.Scenarios.{role}
use Rattle.pr_roles.specs.Worlds.{control, standing_of, is_guest_task}
use Rattle.pr_roles.specs.Schedules.{Schedule, plan, next_by, next_of, is_passed_over, passes_over, TurnAs, sends, passes, rests}

pub schedule_same : (x y : Schedule) → y.world ≡ x.world → y.plans ≡ x.plans → y ≡ x
schedule_same x y world plans i = record { world = world i; plans = plans i }

-- the plans stay where what is left of one is all that it had
pub plans_same : (plans : List (List Command)) (h : ℕ) → slice_set plans h (option_map_or (λ p. p) (slice_get plans h) []) ≡ plans
plans_same plans h =
    ap (slice_set plans h) (by (slice_get plans h) ∙ unwrap_or-slice_get plans h []) ∙ set-get_or plans h []
  where
    by : (o : Option (List Command)) → option_map_or (λ p. p) o [] ≡ unwrap_or o []
    by None = refl
    by (Some p) = refl

module _ (s : Scenario) (x : Schedule) (h : ℕ) where
  pub next_is : (t : Option Task) (o : Option Standing) (p : List Command) → task s h ≡ t → standing_of (control x.world h) ≡ o → plan x h ≡ p → next_of s x h ≡ next_by t o p
  next_is t o p its_task stands left i = next_by (its_task i) (stands i) (left i)

  pub passes_by : (how : How) (c : Command) (t : Option Task) → task s h ≡ t → passes_over s x h how c ≡ (is_guest_task t && is_passed_over how (role s h) x.world.unit h c)
  passes_by how c t is = ap (λ t. is_guest_task t && is_passed_over how (role s h) x.world.unit h c) is

  pub nothing_next : (how : How) (y : Schedule) → next_of s x h ≡ None → TurnAs s x h how y → y ≡ x
  nothing_next how y none (rests nothing same) = same
  nothing_next how y none (sends line c left comes free sent plans) = absurd (none-some _ (sym none ∙ comes))
  nothing_next how y none (passes line c left comes held after) = absurd (none-some _ (sym none ∙ comes))
