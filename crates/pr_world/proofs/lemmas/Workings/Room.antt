-- What is sent along a scheduled run is within the room for it.
use Rattle.pr_world.proofs.Common.{◌≡◌, ℕ, suc, ◌+◌, ◌<◌, ◌≤◌, Bool, true, false, List, [], ◌∷◌, ◌++◌, map, length, get_or, if◌then◌else◌, nat_lt, slice_get, slice_set, Some, None, Option, option_map, sym, refl, ap, ◌∙◌, subst, arith, option_map_or, nat_tests, get_or_past, slice_get-map, spelling, Command, Plain, UnitState, Stmts, ready, how_now, IsSafe, Task, Scripted, Planned, Nexus, task, Scenario, nexus, Schedule, plan, next_of, TurnAs, standing_of, World, control, entry_of, Host, may_reset, world_from, commands_by, Entry, How, Item, Sent, Reset, Step, IsReached, does}
use Rattle.std.proofs.Common.{◌≢◌, ◌==◌, ◌&&◌, inl, inr, ◌⊎◌, length-set, unwrap_or}
use Rattle.std.proofs.lemmas.List.{get_or-set_same, get_or-set_other}
use Rattle.std.proofs.lemmas.Option.{none-some, same_Some, unwrap_or-slice_get}
use Rattle.pr_unit.proofs.lemmas.Steps.Existence.{every_request_has_a_step}
use Rattle.pr_unit.specs.UnitStates.{is_any_pending}
use Rattle.pr_roles.specs.declared.how.How.TheVariants as how
use Rattle.pr_roles.specs.declared.step.Step.TheVariants as step
use Rattle.pr_roles.specs.Worlds.{HostSends, after, after_reset, resets_in}
use Rattle.pr_roles.specs.Safety.{KeepsBudgetBy}
use Rattle.pr_roles.specs.Schedules.{Advances, FetchIf, ScheduledRun, plan_of, schedule_from}
use Rattle.pr_roles.specs.Schedules as turn
use Rattle.pr_roles.proofs.lemmas.Schedules.NextCommands.{next_is}
use Rattle.pr_roles.proofs.lemmas.Worlds.Resets.{run_within}
use Rattle.pr_world.specs.inside.Turns.{sends as sending}
use Rattle.pr_world.specs.Rooms.{room_of, room_by}
use Rattle.pr_world.specs.inside.Workings.{rooms}
use Rattle.pr_world.proofs.lemmas.Courses.Counts.{sent-push, sent_other, sent_own, all_have_room, one_has_room}
use Rattle.pr_world.proofs.lemmas.Turns.Nexuses.{HasItsTask, HostIsReady, GuestIsReady, means}
use Rattle.pr_audit.proofs.lemmas.Auditing.Histories.{run_then}

-- ---- guests keep to their plans

-- what a guest sent and has still to send is within its plan, and one that is not there has neither
abbrev pub KeepsPlanBy : Option Task → ℕ → Type 0
KeepsPlanBy None n = n ≤ 0
KeepsPlanBy (Some (Scripted script budget)) n = Unit {0}
KeepsPlanBy (Some (Planned commands)) n = n ≤ length commands

abbrev pub used : Schedule → ℕ → ℕ
used x g = commands_by x.world.history g + length (plan x g)

pub KeepsPlans : Scenario → Schedule → Type 0
KeepsPlans s x = (g : ℕ) → KeepsPlanBy (task s g) (used x g)

-- less of it is within it too
less_kept : (t : Option Task) (m n : ℕ) → m ≤ n → KeepsPlanBy t n → KeepsPlanBy t m
less_kept (Some (Scripted script budget)) m n less kept = tt
less_kept _ m n less kept = omega arith

-- what is left of a plan, in a list of plans
abbrev pub plan_in : List (List Command) → ℕ → List Command
plan_in plans g = option_map_or (λ p. p) (slice_get plans g) []

plan_is : (plans : List (List Command)) (g : ℕ) → plan_in plans g ≡ get_or plans g []
plan_is plans g = by (slice_get plans g) ∙ unwrap_or-slice_get plans g []
  where
    by : (o : Option (List Command)) → option_map_or (λ p. p) o [] ≡ unwrap_or o []
    by None = refl
    by (Some p) = refl

plan_other : (plans : List (List Command)) (h g : ℕ) (left : List Command) → g ≢ h → plan_in (slice_set plans h left) g ≡ plan_in plans g
plan_other plans h g left other = plan_is (slice_set plans h left) g ∙ (get_or-set_other plans h g left [] other ∙ sym (plan_is plans g))

-- after a turn of h no more is left of its plan than this
plan_own : (plans : List (List Command)) (h : ℕ) (left : List Command) → length (plan_in (slice_set plans h left) h) ≤ length left
plan_own plans h left = at (nat_lt h (length plans)) refl
  where
    at : (b : Bool) → nat_lt h (length plans) ≡ b → length (plan_in (slice_set plans h left) h) ≤ length left
    at true is =
        let there : h < length plans = grind (arith, nat_tests) in
        omega (arith, ap length (plan_is (slice_set plans h left) h ∙ get_or-set_same plans h left [] there))
    at false is =
        let past : length (slice_set plans h left) ≤ h = grind (arith, nat_tests, length-set plans h left) in
        omega (arith, ap length (plan_is (slice_set plans h left) h ∙ get_or_past (slice_set plans h left) h [] past))

-- ---- turns

-- the history is the one before, or a command of h comes to it
abbrev pub Grows : List Item → ℕ → List Item → Type 0
Grows es h fs = (fs ≡ es) ⊎ ((e : Entry) × (e.host ≡ h) × (fs ≡ es ++ Sent e ∷ []))

-- of another as many were sent, and of h at most one more
grown_other : (es fs : List Item) (h g : ℕ) → g ≢ h → Grows es h fs → commands_by fs g ≡ commands_by es g
grown_other es fs h g other (inl same) = ap (λ xs. commands_by xs g) same
grown_other es fs h g other (inr (e, own, added)) =
    let away : e.host ≢ g = λ is. other (sym is ∙ own) in
    ap (λ xs. commands_by xs g) added ∙ sent_other es e g away

grown_own : (es fs : List Item) (h : ℕ) → Grows es h fs → commands_by fs h ≤ commands_by es h + 1
grown_own es fs h (inl same) = omega (arith, ap (λ xs. commands_by xs h) same)
grown_own es fs h (inr (e, own, added)) = omega (arith, ap (λ xs. commands_by xs h) added, sent_own es e h own)

-- Who is not h keeps to its plan, as long as only h sends and only the plan of h changes.
others_kept : (s : Scenario) (x y : Schedule) (h : ℕ) → Grows x.world.history h y.world.history → ((g : ℕ) → g ≢ h → plan y g ≡ plan x g)
    → KeepsPlanBy (task s h) (used y h) → KeepsPlans s x → KeepsPlans s y
unfolding KeepsPlans
others_kept s x y h grows plans own kept g = at (g == h) refl
  where
    at : (b : Bool) → (g == h) ≡ b → KeepsPlanBy (task s g) (used y g)
    at true is = let same : h ≡ g = grind (arith, nat_tests) in subst (λ k. KeepsPlanBy (task s k) (used y k)) same own
    at false is =
        let other : g ≢ h = grind (arith, nat_tests) in
        less_kept (task s g) (used y g) (used x g) (omega (arith, grown_other x.world.history y.world.history h g other grows, ap length (plans g other))) (kept g)

-- a guest's next command is taken from its plan
next_shortens : (s : Scenario) (x : Schedule) (h line : ℕ) (c : Command) (left commands : List Command) → next_of s x h ≡ Some (line, c, left) → task s h ≡ Some (Planned commands) → length (plan x h) ≡ length left + 1
next_shortens s x h line c left commands comes is = at (plan x h) refl
  where
    at : (p : List Command) → plan x h ≡ p → length (plan x h) ≡ length left + 1
    at [] has = absurd (none-some _ (sym (next_is s x h _ _ _ is refl has) ∙ comes))
    at (d ∷ ds) has =
        let one = same_Some {A = ℕ × Command × List Command} (0, d, ds) (line, c, left) (sym (next_is s x h _ _ _ is refl has) ∙ comes) in
        omega (arith, ap length has, ap {B = ℕ} (λ n. length n.2) one)

-- where the next command of h is sent or passed over, h keeps to its plan
next_kept : (s : Scenario) (x y : Schedule) (h line : ℕ) (c : Command) (left : List Command) → next_of s x h ≡ Some (line, c, left) → Grows x.world.history h y.world.history → y.plans ≡ slice_set x.plans h left
    → KeepsPlans s x → KeepsPlans s y
unfolding KeepsPlans
next_kept s x y h line c left comes grows plans kept =
    others_kept s x y h grows (λ g other. ap (λ ps. plan_in ps g) plans ∙ plan_other x.plans h g left other) (own (task s h) refl (kept h)) kept
  where
    own : (t : Option Task) → task s h ≡ t → KeepsPlanBy t (used x h) → KeepsPlanBy t (used y h)
    own None is few = absurd (none-some _ (sym (next_is s x h _ _ _ is refl refl) ∙ comes))
    own (Some (Scripted script budget)) is few = tt
    own (Some (Planned commands)) is few =
        let mine : length (plan y h) ≤ length left = subst (λ ps. length (plan_in ps h) ≤ length left) (sym plans) (plan_own x.plans h left) in
        omega (arith, few, mine, grown_own x.world.history y.world.history h grows, next_shortens s x h line c left commands comes is)

turn_kept : (so : How) (s : Scenario) (x y : Schedule) (h : ℕ) → TurnAs s x h so y → KeepsPlans s x → KeepsPlans s y
turn_kept so s x y h (turn.sends line c left comes free sent plans) kept = next_kept s x y h line c left comes (inr (entry_of h (spelling c) sent.reply, refl, ap (λ w. w.history) sent.world)) plans kept
turn_kept so s x y h (turn.passes line c left comes held after) kept = next_kept s x y h line c left comes (inl (ap (λ z. z.world.history) after)) (ap (λ z. z.plans) after) kept
turn_kept so s x y h (turn.rests none same) kept = subst (KeepsPlans s) (sym same) kept

-- a reset counts for nobody, and takes nothing from a plan
reset_kept : (s : Scenario) (x y : Schedule) (b : Bool) → y ≡ (if b then record x { world = after_reset x.world } else x) → KeepsPlans s x → KeepsPlans s y
unfolding KeepsPlans
reset_kept s x y true turn kept g =
    less_kept (task s g) (used y g) (used x g) (omega (arith, ap (λ z. used z g) turn, sent-push x.world.history Reset g)) (kept g)
reset_kept s x y false turn kept g = subst (λ z. KeepsPlanBy (task s g) (used z g)) (sym turn) (kept g)

-- a fetch likewise
fetch_kept : (s : Scenario) (x y : Schedule) (h : ℕ) (b : Bool) → FetchIf b x h y → KeepsPlans s x → KeepsPlans s y
unfolding KeepsPlans
fetch_kept s x y h true turn kept = subst (KeepsPlans s) (sym turn.schedule) kept
fetch_kept s x y h false turn kept = subst (KeepsPlans s) (sym turn) kept

-- ---- scheduled runs

kept_at_first : (s : Scenario) (u : UnitState) → KeepsPlans s (schedule_from s u)
unfolding KeepsPlans
kept_at_first s u g = by (nexus s g) refl
  where
    begins : (o : Option Nexus) → nexus s g ≡ o → plan (schedule_from s u) g ≡ option_map_or (λ p. p) (option_map (λ n. plan_of n.task) o) []
    begins o is = ap (λ q. option_map_or (λ p. p) q []) (slice_get-map (λ n. plan_of n.task) s.nexuses g ∙ ap (option_map (λ n. plan_of n.task)) is)

    first : (t : Task) → KeepsPlanBy (Some t) (length (plan_of t))
    first (Scripted script budget) = tt
    first (Planned commands) = omega arith

    by : (o : Option Nexus) → nexus s g ≡ o → KeepsPlanBy (task s g) (used (schedule_from s u) g)
    by None is =
        subst (λ o. KeepsPlanBy (option_map_or (λ n. Some n.task) o None) (used (schedule_from s u) g)) (sym is)
        (omega (arith, ap length (begins None is)))
    by (Some n) is =
        subst (λ o. KeepsPlanBy (option_map_or (λ n. Some n.task) o None) (used (schedule_from s u) g)) (sym is)
        (less_kept (Some n.task) (used (schedule_from s u) g) (length (plan_of n.task)) (omega (arith, ap length (begins (Some n) is))) (first n.task))

step_kept : (s : Scenario) (x y : Schedule) (next : Step) → Advances s x next y → KeepsPlans s x → KeepsPlans s y
step_kept s x y (step.Of h wanted) turn kept = turn_kept (how_now s x.world.history h wanted) s x y h turn kept
step_kept s x y step.Reset turn kept = reset_kept s x y (may_reset s x.world.history) turn kept
step_kept s x y (step.Fetched h) turn kept = fetch_kept s x y h (s.shared h && is_any_pending x.world.unit h) turn kept

run_kept : (s : Scenario) (x y : Schedule) (steps : List Step) → ScheduledRun s x steps y → KeepsPlans s x → KeepsPlans s y
run_kept s x y [] run kept = subst (KeepsPlans s) (sym run) kept
run_kept s x y (next ∷ steps) run kept = run_kept s run.0 y steps run.2 (step_kept s x run.0 next run.1 kept)

pub reached_keeps_plans : (s : Scenario) (steps : List Step) (y : Schedule) → IsReached s steps y → KeepsPlans s y
reached_keeps_plans s steps y reached = run_kept s (schedule_from s reached.start) y steps reached.scheduled (kept_at_first s reached.start)

-- ---- hosts keep to their budgets

-- the command that h is ready to send may be its next event
next_sends : (s : Scenario) (w : World) (h at : ℕ) (c : Command) → standing_of (control w h) ≡ Some (ready at c) → (v : World) × HostSends s w h how.Plain v × (commands_by v.history h ≡ commands_by w.history h + 1)
next_sends s w h at c is =
    let answered = every_request_has_a_step w.unit h (Plain c) in (
      after w h at (spelling c) answered.reply answered.after,
      record {
        room = refl;
        line = at;
        command = c;
        ready = is;
        reply = answered.reply;
        unit = answered.after;
        answer = answered.step;
        world = refl;
      },
      sent_own w.history (entry_of h (spelling c) answered.reply) h refl,
    )

-- so of a safe scenario it is within the budget
pub ready_has_room : (s : Scenario) (steps : List Step) (y : Schedule) (h at : ℕ) (c : Command) (script : Stmts) (budget : ℕ) → IsSafe s → IsReached s steps y
    → task s h ≡ Some (Scripted script budget) → standing_of (control y.world h) ≡ Some (ready at c) → commands_by y.world.history h < budget
unfolding IsSafe
ready_has_room s steps y h at c script budget safe reached is stands =
    let next = next_sends s y.world h at c stands in
    let run = run_then s (world_from s reached.start) y.world next.0 reached.events (Host h how.Plain) reached.run next.1 in
    let kept : KeepsBudgetBy (task s h) next.0 h = (safe reached.start reached.allowed (reached.events ++ Host h how.Plain ∷ []) next.0 run h).1 in
    let few : commands_by next.0.history h ≤ budget = subst (λ t. KeepsBudgetBy t next.0 h) is kept in
    omega (arith, few, next.2)

-- In a scheduled run of a safe scenario nobody sends more than there is room for.
pub sent_within : (s : Scenario) (steps : List Step) (y : Schedule) → IsSafe s → IsReached s steps y → (h : ℕ) → commands_by y.world.history h ≤ room_by (task s h)
unfolding IsSafe KeepsPlans
sent_within s steps y safe reached h = by (task s h) (reached_keeps_plans s steps y reached h) (safe reached.start reached.allowed reached.events y.world reached.run h).1
  where
    by : (t : Option Task) → KeepsPlanBy t (used y h) → KeepsBudgetBy t y.world h → commands_by y.world.history h ≤ room_by t
    by (Some (Scripted script most)) plans budget = budget
    by _ plans budget = omega (arith, plans)

-- The unit is reset no more often than the scenario has it.
resets_within : (s : Scenario) (steps : List Step) (y : Schedule) → IsReached s steps y → resets_in y.world.history ≤ s.resets
resets_within s steps y reached = run_within s (world_from s reached.start) reached.events y.world reached.run (omega arith)

-- The room of each, in the order of their numbers.
pub room_at : (s : Scenario) (h : ℕ) → get_or (map (λ n. room_of n.task) s.nexuses) h 0 ≡ room_by (task s h)
room_at s h = at s.nexuses h
  where
    at : (ns : List Nexus) (h : ℕ) → get_or (map (λ n. room_of n.task) ns) h 0 ≡ room_by (option_map_or (λ n. Some n.task) (slice_get ns h) None)
    at (n ∷ ns) (suc h) = at ns h
    at _ _ = refl

pub next_has_room : (s : Scenario) (steps : List Step) (y : Schedule) (h : ℕ) → IsSafe s → IsReached s steps y → commands_by y.world.history h < room_by (task s h) → length y.world.history < rooms s
next_has_room s steps y h safe reached less =
    let few = one_has_room (map (λ n. room_of n.task) s.nexuses) y.world.history h (λ g. omega (arith, room_at s g, sent_within s steps y safe reached g)) (omega (arith, room_at s h, less)) in
    omega (arith, few, resets_within s steps y reached)

-- a reset that may come finds room
pub reset_has_room : (s : Scenario) (steps : List Step) (y : Schedule) → IsSafe s → IsReached s steps y → may_reset s y.world.history ≡ true → length y.world.history < rooms s
reset_has_room s steps y safe reached may =
    let few = all_have_room (map (λ n. room_of n.task) s.nexuses) y.world.history (λ h. omega (arith, room_at s h, sent_within s steps y safe reached h)) in
    let left : resets_in y.world.history < s.resets = grind (arith, nat_tests) in
    omega (arith, few, left)

-- ---- a turn that sends finds room

guest_has_room : (s : Scenario) (steps : List Step) (y : Schedule) (h : ℕ) (commands : List Command) (c : Command) (cs : List Command) → IsReached s steps y
    → task s h ≡ Some (Planned commands) → plan y h ≡ c ∷ cs → commands_by y.world.history h < length commands
unfolding KeepsPlans
guest_has_room s steps y h commands c cs reached is next =
    let few : used y h ≤ length commands = subst (λ t. KeepsPlanBy t (used y h)) is (reached_keeps_plans s steps y reached h) in
    omega (arith, few, ap length next)

ready_below_room : (so : How) (s : Scenario) (steps : List Step) (y : Schedule) (h : ℕ) → IsSafe s → IsReached s steps y → HostIsReady s y h ⊎ GuestIsReady so s y h false
    → commands_by y.world.history h < room_by (task s h)
ready_below_room so s steps y h safe reached (inl host) =
    subst (λ t. commands_by y.world.history h < room_by t) (sym host.host.is)
    (ready_has_room s steps y h host.line host.command host.host.script host.host.budget safe reached host.host.is host.host.stands)
ready_below_room so s steps y h safe reached (inr guest) =
    subst (λ t. commands_by y.world.history h < room_by t) (sym guest.guest.is)
    (guest_has_room s steps y h guest.guest.commands guest.command guest.left reached guest.guest.is guest.guest.has)

pub turn_has_room : (wanted : How) (s : Scenario) (steps : List Step) (y : Schedule) (h : ℕ) → IsSafe s → IsReached s steps y → HasItsTask s y h → does s y h wanted ≡ sending
    → length y.world.history < rooms s
turn_has_room wanted s steps y h safe reached has does_so =
    next_has_room s steps y h safe reached (ready_below_room (how_now s y.world.history h wanted) s steps y h safe reached (means wanted s y h sending has (sym does_so)))
