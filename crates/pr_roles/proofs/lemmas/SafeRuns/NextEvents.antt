-- A run and one event more.
use Rattle.pr_roles.proofs.Common.{[], ◌∷◌, refl, subst, world_from, ◌++◌, Host, Run}
unfoldable use Rattle.pr_roles.specs.Safety.{IsSafe}
use Rattle.pr_roles.specs.SafeRuns.{RunsGoOn, SafeSendsAreFine}

pub runs_go_on : RunsGoOn
runs_go_on s w v x [] e run happens = subst (λ u. Run s u (e ∷ []) x) run (x, happens, refl)
runs_go_on s w v x (f ∷ fs) e run happens = (run.0, run.1, runs_go_on s run.0 v x fs e run.2 happens)

pub safe_sends_are_fine : SafeSendsAreFine
unfolding IsSafe
safe_sends_are_fine s u es w h how v safe allowed run sends =
    let after = safe u allowed (es ++ Host h how ∷ []) v (runs_go_on s (world_from s u) w v es (Host h how) run sends) h in
    record { arm = after.0; budget = after.1; role = (safe u allowed es w run h).2 how v sends }
