-- How nexuses stand at the end of a followed history.
use Rattle.pr_witness.proofs.Common.{◌≡◌, ℕ, ◌+◌, ◌<◌, List, [], ◌∷◌, ◌++◌, length, take, Option, Some, None, refl, sym, ap, ◌∙◌, subst, arith, map, slice_get, length-map, same_Some, slice_get_within, Parts, Scenario, scenario_of, World, ActFor}
use Rattle.std.proofs.Common.{zero, suc, ◌≤◌, take_all, add-one}
use Rattle.std.specs.Prelude.{option_map}
use Rattle.std.specs.Option.{option_map_or}
use Rattle.std.proofs.lemmas.Option.{get_or_from_slice_get, none-some, slice_get-map}
use Rattle.pr_cdb.specs.declared.command.Command.{Command}
use Rattle.pr_script.specs.Scripts.{Standing, ready, stopped, standing_of_items}
use Rattle.pr_roles.specs.declared.parts.Nexus.{Nexus as NexusPart}
use Rattle.pr_roles.specs.Fitting.{Fits}
use Rattle.pr_roles.specs.Scenarios.{Nexus, Task, Planned, Scripted, nexus, nexus_of, task, task_of}
use Rattle.pr_roles.specs.Schedules.{plan_of}
use Rattle.pr_roles.specs.Worlds.{Control, Going, Trapped, Free, control}
use Rattle.pr_audit.specs.inside.Auditing.{IsShort}
use Rattle.pr_audit.specs.Ends.{Ending, ending, ending_by, endings, stops, waits, traps, leaves}
use Rattle.pr_audit.proofs.lemmas.Auditing.Parts.{short_part}
use Rattle.pr_witness.proofs.lemmas.FollowedHistories.{control_there}

-- only a trapped script ends so
pub trapped_from : (c : Control) (line : ℕ) → ending c [] ≡ Some (traps line) → c ≡ Trapped line
trapped_from (Going l) line is = by (standing_of_items l) is
  where
    by : (o : Option Standing) → ending_by o ≡ Some (traps line) → Going l ≡ Trapped line
    by None same = let bad : None ≡ Some (traps line) = same in cc
    by (Some (ready at command)) same = let bad : Some (waits at) ≡ Some (traps line) = same in cc
    by (Some (stopped word)) same = let bad : Some (stops word) ≡ Some (traps line) = same in cc
trapped_from (Trapped at) line is = let both : Some (traps at) ≡ Some (traps line) = is in let same : at ≡ line = cc in ap Trapped same
trapped_from Free line is = let bad : Some (leaves 0) ≡ Some (traps line) = is in cc

-- the end of one nexus more
endings_take : (ks : List Control) (plans : List (List Command)) (i : ℕ) (plan : List Command) → i < length ks → slice_get plans i ≡ Some plan
    → take (i + 1) (endings ks plans) ≡ take i (endings ks plans) ++ ending (option_map_or (λ c. c) (slice_get ks i) Free) plan ∷ []
endings_take [] plans i plan there is = absurd (omega arith)
endings_take (k ∷ ks) [] i plan there is = let bad : None ≡ Some plan = is in cc
endings_take (k ∷ ks) (p ∷ ps) zero plan there is = let both : Some p ≡ Some plan = is in let same : p ≡ plan = cc in ap (λ q. ending k q ∷ []) same
endings_take (k ∷ ks) (p ∷ ps) (suc i) plan there is =
    rw add-one (ap (λ es. ending k p ∷ es) (sym (rw add-one refl) ∙ endings_take ks ps i plan (omega arith) is))

-- what it is of each nexus
abbrev pub all_endings : Scenario → World → List (Option Ending)
all_endings s w = endings w.controls (map (λ n. plan_of n.task) s.nexuses)

pub endings_more : (s : Scenario) (w : World) (i : ℕ) (n : NexusPart) → ActFor s w → i < length s.nexuses → nexus s i ≡ Some (nexus_of n)
    → take (i + 1) (all_endings s w) ≡ take i (all_endings s w) ++ ending (control w i) (plan_of (task_of n.task)) ∷ []
endings_more s w i n acts there is =
    endings_take w.controls _ i (plan_of (task_of n.task)) (control_there s w i acts there) (slice_get-map (λ m. plan_of m.task) s.nexuses i ∙ ap (option_map (λ m. plan_of m.task)) is)

-- no plan is long
short_plan : (t : Task) → IsShort t → length (plan_of t) < 4294967296
short_plan (Scripted script budget) short = omega arith
short_plan (Planned commands) short = let few : length commands ≤ 256 = short in omega (arith, few)

pub plan_short : (p : Parts) (h : ℕ) (n : NexusPart) → Fits (scenario_of p) → nexus (scenario_of p) h ≡ Some (nexus_of n) → length (plan_of (task_of n.task)) < 4294967296
unfolding scenario_of
plan_short p h n fits is = by (slice_get p.nexuses.items h) refl (sym (slice_get-map nexus_of p.nexuses.items h) ∙ is)
  where
    by : (o : Option NexusPart) → slice_get p.nexuses.items h ≡ o → option_map nexus_of o ≡ Some (nexus_of n) → length (plan_of (task_of n.task)) < 4294967296
    by None at same = absurd (none-some _ same)
    by (Some m) at same =
        let one : IsShort (task_of m.task) = subst (λ (x : NexusPart). IsShort (task_of x.task)) (get_or_from_slice_get p.nexuses.items h m m at) (short_part p h m fits (slice_get_within p.nexuses.items h m at)) in
        let two : task_of m.task ≡ task_of n.task = ap (λ (x : Nexus). x.task) (same_Some _ _ same) in
        short_plan (task_of n.task) (subst (λ (t : Task). IsShort t) two one)

length-endings : (ks : List Control) (plans : List (List Command)) → length (endings ks plans) ≤ length plans
length-endings [] plans = omega arith
length-endings (k ∷ ks) [] = omega arith
length-endings (k ∷ ks) (plan ∷ plans) = let rest = length-endings ks plans in omega (arith, rest)

pub endings_over : (s : Scenario) (w : World) (i : ℕ) → length s.nexuses ≤ i → take i (all_endings s w) ≡ all_endings s w
endings_over s w i past =
    let few = length-endings w.controls (map (λ n. plan_of n.task) s.nexuses) in
    let plans : length (map (λ (n : Nexus). plan_of n.task) s.nexuses) ≡ length s.nexuses = length-map s.nexuses (λ n. plan_of n.task) in
    take_all i _ (omega (arith, few, plans, past))
