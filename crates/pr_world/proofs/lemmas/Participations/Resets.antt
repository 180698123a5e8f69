-- What a reset comes to.
use Rattle.pr_world.proofs.Common.{◌≡◌, true, false, List, [], ◌∷◌, ◌++◌, if◌then◌else◌, sym, ap, ◌∙◌, UnitState, Scenario, Schedule, UnitReset, may_reset, Item, Reset, Step, IsReached, Participation, schedule_by}
use Rattle.pr_unit.specs.UnitStates.{reset}
use Rattle.pr_roles.specs.declared.step.Step.TheVariants as step
use Rattle.pr_roles.specs.Worlds.{after_reset}
use Rattle.pr_roles.specs.Schedules.{ResetTurn}
use Rattle.pr_audit.proofs.lemmas.Auditing.Histories.{run_then}
use Rattle.pr_world.proofs.lemmas.Replays.Runs.{reached_by}

-- the schedule after a reset
abbrev pub with_reset : Schedule → Schedule
with_reset x = record x { world = after_reset x.world }

pub reset_made : (s : Scenario) (x y : Schedule) → may_reset s x.world.history ≡ true → y ≡ with_reset x → ResetTurn s x y
reset_made s x y may is = is ∙ ap (λ b. if b then with_reset x else x) (sym may)

pub reset_passed : (s : Scenario) (x y : Schedule) → may_reset s x.world.history ≡ false → y ≡ x → ResetTurn s x y
reset_passed s x y over is = is ∙ ap (λ b. if b then with_reset x else x) (sym over)

pub schedule_reset : (u v : UnitState) (xs : List Participation) (es fs : List Item) → v ≡ reset u → fs ≡ es ++ Reset ∷ [] → schedule_by v xs fs ≡ with_reset (schedule_by u xs es)
schedule_reset u v xs es fs unit added i = schedule_by (unit i) xs (added i)

pub reached_reset : (s : Scenario) (x y : Schedule) → may_reset s x.world.history ≡ true → y ≡ with_reset x → (steps : List Step) → IsReached s steps x → IsReached s (steps ++ step.Reset ∷ []) y
reached_reset s x y may is steps reached =
    reached_by s steps x y step.Reset (reset_made s x y may is) reached (reached.events ++ UnitReset ∷ [])
    (run_then s _ x.world y.world reached.events UnitReset reached.run (record { room = may; world = ap (λ z. z.world) is }))

pub reached_unreset : (s : Scenario) (x : Schedule) → may_reset s x.world.history ≡ false → (steps : List Step) → IsReached s steps x → IsReached s (steps ++ step.Reset ∷ []) x
reached_unreset s x over steps reached = reached_by s steps x x step.Reset (reset_passed s x x over (λ i. x)) reached reached.events reached.run
