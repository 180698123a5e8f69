-- A scheduled run has a control and a plan for each nexus, and adds an item at each step at most. Of a safe scenario it has no more
-- items than a trace of its version.
use Rattle.pr_commands.proofs.Common.{◌≡◌, ℕ, ◌+◌, ◌<◌, ◌≤◌, Bool, true, false, List, [], ◌∷◌, length, Some, None, refl, ap, ◌∙◌, arith, replicate, Scenario, task, commands_by}
use Rattle.std.proofs.Common.{get_or, inl, inr}
use Rattle.std.specs.Prelude.{◌*◌, ◌==◌, ◌&&◌, ◌⊎◌, if◌then◌else◌, not, nat_le, nat_lt}
use Rattle.std.proofs.lemmas.Bool.{and_parts, or_cases}
use Rattle.std.proofs.lemmas.Bool.Decides.{nat_tests}
use Rattle.std.proofs.lemmas.List.{get_or-replicate, length-append, length-map, length-set}
use Rattle.std.proofs.lemmas.List.Folds.{sum_by-replicate}
use Rattle.std.proofs.lemmas.Option.{slice_get_past}
use Rattle.std.specs.Option.{option_map_or}
use Rattle.pr_cdb.specs.Spelling.{spelling}
use Rattle.pr_unit.specs.UnitStates.{is_any_pending}
use Rattle.pr_roles.specs.declared.how.How.{How}
use Rattle.pr_roles.specs.declared.item.Item.TheVariants.{Sent, Reset}
use Rattle.pr_roles.specs.declared.step.Step.{Step}
use Rattle.pr_roles.specs.declared.step.Step.TheVariants as step
use Rattle.pr_roles.specs.declared.limits.TheConstants.{MOST_RESETS}
use Rattle.pr_roles.specs.Fitting.{Fits, are_resets, most_declared}
use Rattle.pr_roles.specs.Safety.{IsSafe}
use Rattle.pr_roles.specs.Schedules.{Schedule, TurnAs, Advances, FetchIf, ScheduledRun, how_now, plan_of, schedule_from}
use Rattle.pr_roles.specs.Schedules as turn
use Rattle.pr_roles.specs.Worlds.{World, after_reset, control_of, entry_of, may_reset, resets_in, world_from}
use Rattle.pr_roles.proofs.lemmas.Worlds.Resets.{run_within}
use Rattle.pr_trace.specs.Versions.{most_items}
use Rattle.pr_world.specs.Courses.{IsReached}
use Rattle.pr_world.specs.Rooms.{room_by}
use Rattle.pr_world.proofs.lemmas.Courses.Counts.{all_have_room}
use Rattle.pr_world.proofs.lemmas.Workings.Room.{sent_within}
use Rattle.pr_commands.proofs.lemmas.Runs.Outcomes.{short_rooms}

-- ---- step by step

-- there are as many controls and as many plans, and so many items more at most
pub record IsLonger (x y : Schedule) (more : ℕ) : Type 0 where
  pub controls : length y.world.controls ≡ length x.world.controls
  pub plans : length y.plans ≡ length x.plans
  pub items : length y.world.history ≤ length x.world.history + more

as_it_was : (x y : Schedule) (more : ℕ) → y ≡ x → IsLonger x y more
as_it_was x y more same = record {
  controls = ap (λ z. length z.world.controls) same;
  plans = ap (λ z. length z.plans) same;
  items = omega (arith, ap (λ z. length z.world.history) same);
}

turn_longer : (so : How) (s : Scenario) (x y : Schedule) (h : ℕ) → TurnAs s x h so y → IsLonger x y 1
turn_longer so s x y h (turn.sends line c left comes free sent plans) = record {
  controls = ap (λ (w : World). length w.controls) sent.world ∙ length-set x.world.controls h _;
  plans = ap length plans ∙ length-set x.plans h left;
  items = omega (arith, ap (λ (w : World). length w.history) sent.world, length-append x.world.history (Sent (entry_of h (spelling c) sent.reply) ∷ []));
}
turn_longer so s x y h (turn.passes line c left comes held after) = record {
  controls = ap (λ (z : Schedule). length z.world.controls) after;
  plans = ap (λ (z : Schedule). length z.plans) after ∙ length-set x.plans h left;
  items = omega (arith, ap (λ (z : Schedule). length z.world.history) after);
}
turn_longer so s x y h (turn.rests none same) = as_it_was x y 1 same

reset_longer : (x y : Schedule) (b : Bool) → y ≡ (if b then record x { world = after_reset x.world } else x) → IsLonger x y 1
reset_longer x y false same = as_it_was x y 1 same
reset_longer x y true reset = record {
  controls = ap (λ (z : Schedule). length z.world.controls) reset;
  plans = ap (λ (z : Schedule). length z.plans) reset;
  items = omega (arith, ap (λ (z : Schedule). length z.world.history) reset, length-append x.world.history (Reset ∷ []));
}

fetch_longer : (x y : Schedule) (h : ℕ) (b : Bool) → FetchIf b x h y → IsLonger x y 1
fetch_longer x y h false same = as_it_was x y 1 same
fetch_longer x y h true fetched = record {
  controls = ap (λ (z : Schedule). length z.world.controls) fetched.schedule;
  plans = ap (λ (z : Schedule). length z.plans) fetched.schedule;
  items = omega (arith, ap (λ (z : Schedule). length z.world.history) fetched.schedule);
}

step_longer : (s : Scenario) (x y : Schedule) (next : Step) → Advances s x next y → IsLonger x y 1
step_longer s x y (step.Of h wanted) advances = turn_longer (how_now s x.world.history h wanted) s x y h advances
step_longer s x y step.Reset advances = reset_longer x y (may_reset s x.world.history) advances
step_longer s x y (step.Fetched h) advances = fetch_longer x y h (s.shared h && is_any_pending x.world.unit h) advances

pub run_longer : (s : Scenario) (x y : Schedule) (steps : List Step) → ScheduledRun s x steps y → IsLonger x y (length steps)
run_longer s x y [] run = as_it_was x y 0 run
run_longer s x y (next ∷ steps) run =
    let first = step_longer s x run.0 next run.1 in
    let rest = run_longer s run.0 y steps run.2 in
    record { controls = rest.controls ∙ first.controls; plans = rest.plans ∙ first.plans; items = omega (arith, first.items, rest.items) }

-- ---- from the first start

-- there is one of each for each nexus, and no more items than steps
pub record HasEach (s : Scenario) (y : Schedule) (steps : List Step) : Type 0 where
  pub controls : length y.world.controls ≡ length s.nexuses
  pub plans : length y.plans ≡ length s.nexuses
  pub items : length y.world.history ≤ length steps

pub reached_has_each : (s : Scenario) (steps : List Step) (y : Schedule) → IsReached s steps y → HasEach s y steps
reached_has_each s steps y reached =
    let longer = run_longer s (schedule_from s reached.start) y steps reached.scheduled in
    record {
      controls = longer.controls ∙ length-map s.nexuses (λ n. control_of n.task);
      plans = longer.plans ∙ length-map s.nexuses (λ n. plan_of n.task);
      items = omega (arith, longer.items);
    }

-- ---- the items of a version

-- a replay's
pub steps_fit : (version n : ℕ) → n ≤ 4096 → n ≤ most_items version
steps_fit version n few = at (version == 1)
  where
    at : (b : Bool) → n ≤ (if b then 32768 else 66536)
    at true = omega (arith, few)
    at false = omega (arith, few)

-- version 1 has no resets, and later ones no more than 1,000
few_resets : (version n : ℕ) → are_resets version n ≡ true → n ≤ (if version == 1 then 0 else 1000)
few_resets version n fit = at (version == 1) refl (or_cases (n == 0) (nat_le 2 version && nat_le n MOST_RESETS) fit)
  where
    at : (b : Bool) → (version == 1) ≡ b → ((n == 0) ≡ true) ⊎ ((nat_le 2 version && nat_le n MOST_RESETS) ≡ true) → n ≤ (if b then 0 else 1000)
    at true one (inl none) = grind (arith, nat_tests)
    at true one (inr later) =
        let two = (and_parts (nat_le 2 version) (nat_le n MOST_RESETS) later).0 in
        grind (arith, nat_tests)
    at false other (inl none) = grind (arith, nat_tests)
    at false other (inr later) =
        let few = (and_parts (nat_le 2 version) (nat_le n MOST_RESETS) later).1 in
        grind (arith, nat_tests)

few_nexuses : (s : Scenario) → Fits s → length s.nexuses ≤ most_declared s.version
few_nexuses s fits =
    let few = (and_parts (nat_le (length s.nexuses) (most_declared s.version)) _ (and_parts (not (length s.nexuses == 0)) _ fits.nexuses).1).0 in
    grind (arith, nat_tests, few)

all_fit : (version nexuses resets items : ℕ) → nexuses ≤ most_declared version → resets ≤ (if version == 1 then 0 else 1000) → items ≤ nexuses * 4096 + resets → items ≤ most_items version
all_fit version nexuses resets items = at (version == 1)
  where
    at : (b : Bool) → nexuses ≤ (if b then 8 else 16) → resets ≤ (if b then 0 else 1000) → items ≤ nexuses * 4096 + resets → items ≤ (if b then 32768 else 66536)
    at true few none each = omega (arith, few, none, each)
    at false few some each = omega (arith, few, some, each)

-- each nexus has room for 4,096 commands, and one that isn't there for none
one_fits : (s : Scenario) (h n : ℕ) → Fits s → n ≤ room_by (task s h) → n ≤ get_or (replicate (length s.nexuses) 4096) h 0
one_fits s h n fits few = at (nat_lt h (length s.nexuses)) refl
  where
    at : (b : Bool) → nat_lt h (length s.nexuses) ≡ b → n ≤ get_or (replicate (length s.nexuses) 4096) h 0
    at true is =
        let there : h < length s.nexuses = grind (arith, nat_tests) in
        omega (arith, few, short_rooms s h fits, get_or-replicate {A = ℕ} (length s.nexuses) h 4096 0 there)
    at false is =
        let past : length s.nexuses ≤ h = grind (arith, nat_tests) in
        let none : task s h ≡ None = ap (λ o. option_map_or (λ n. Some n.task) o None) (slice_get_past s.nexuses h past) in
        omega (arith, few, ap room_by none)

-- a run's, of a safe scenario
pub run_fits : (s : Scenario) (steps : List Step) (y : Schedule) → Fits s → IsSafe s → IsReached s steps y → length y.world.history ≤ most_items s.version
run_fits s steps y fits safe reached =
    let each = all_have_room (replicate (length s.nexuses) 4096) y.world.history (λ h. one_fits s h (commands_by y.world.history h) fits (sent_within s steps y safe reached h)) in
    let resets : resets_in y.world.history ≤ s.resets = run_within s (world_from s reached.start) reached.events y.world reached.run (omega arith) in
    all_fit s.version (length s.nexuses) s.resets (length y.world.history) (few_nexuses s fits) (few_resets s.version s.resets fits.resets)
    (omega (arith, each, resets, sum_by-replicate {X = ℕ} (λ x. x) (length s.nexuses) 4096))
