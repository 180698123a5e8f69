-- Invariants, one for each scripted host, make a scenario safe.
use Rattle.pr_verify.proofs.Common.{◌≡◌, ℕ, false, List, Some, Option, ap, UnitState, Configuration, IsSafe, Task, Scripted, task, Scenario, World, control, world_from}
use Rattle.pr_roles.specs.declared.item.Item.{Item}
use Rattle.pr_roles.specs.Worlds.{is_trapped}
use Rattle.pr_roles.specs.Safety.{KeepsBudgetBy}
use Rattle.pr_verify.proofs.lemmas.Laws.HostInvariants.{HaveInvariants}
use Rattle.pr_verify.proofs.lemmas.Laws.Events.{IsKeptBy, kept_at_start, role_kept, run_kept}

-- a script on its course isn't trapped, and is within its budget
on_course_is_fine : (s : Scenario) (Holds : ℕ → Configuration → List Item → UnitState → Type 0) (w : World) (h : ℕ) (t : Option Task) → IsKeptBy t s Holds w h → (is_trapped (control w h) ≡ false) × KeepsBudgetBy t w h
on_course_is_fine s Holds w h (Some (Scripted script budget)) x = (ap is_trapped x.going, x.within)
on_course_is_fine s Holds w h _ free = (ap is_trapped free, tt)

pub invariants_make_safe : (s : Scenario) (Holds : ℕ → Configuration → List Item → UnitState → Type 0) → HaveInvariants s Holds → IsSafe s
unfolding IsSafe
invariants_make_safe s Holds have u allowed es w run h =
    let kept = run_kept s Holds (world_from s u) es w run (kept_at_start s Holds u have allowed) in
    let fine = on_course_is_fine s Holds w h (task s h) (kept h) in
    (fine.0, fine.1, role_kept s Holds w h kept)
