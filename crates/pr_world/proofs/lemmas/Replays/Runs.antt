-- Turns and resets one after another, and what they come to.
use Rattle.pr_world.proofs.Common.{◌≡◌, ℕ, ◌+◌, ◌<◌, ◌≤◌, List, [], ◌∷◌, ◌++◌, map, length, get_or, take, Some, None, Ok, vec_len, vec_capacity, Option, sym, refl, ap, ◌∙◌, subst, arith, range_with_len, length-map, Scenario, Schedule, Turn, Event, world_from, commands_by, Entry, How, Item, Step, IsReached, ending_of, ending, Course, Participant, participation_of, HappensBy, StandsFor, schedule_of}
use Rattle.std.proofs.Common.{Result, Err, IfOk}
use Rattle.std.specs.declared.alloc.AllocError.{AllocError}
use Rattle.std.proofs.lemmas.List.{take_all, take_more}
use Rattle.pr_roles.specs.Worlds.{Run}
use Rattle.pr_roles.specs.Schedules.{Advances, ScheduledRun}
use Rattle.pr_roles.specs.declared.how.How.TheVariants as how
use Rattle.pr_roles.specs.declared.step.Step.TheVariants as step
use Rattle.pr_audit.proofs.lemmas.Auditing.Histories.{run_then}
use Rattle.pr_world.specs.declared.replaying.Replayed.{Replayed}
use Rattle.pr_audit.specs.Ends.{endings}
use Rattle.pr_world.proofs.lemmas.Replays.Traps.{trapped_ends}
use Rattle.pr_world.specs.Replays.{IsEndOf, IsReplayed, plain_steps}

-- ---- one step more

pub scheduled_then : (s : Scenario) (x y z : Schedule) (steps : List Step) (next : Step) → ScheduledRun s x steps y → Advances s y next z → ScheduledRun s x (steps ++ next ∷ []) z
scheduled_then s x y z [] next run advances = (z, subst (λ w. Advances s w next z) run advances, refl)
scheduled_then s x y z (first ∷ steps) next run advances = (run.0, run.1, scheduled_then s run.0 y z steps next run.2 advances)

-- a step, and the events so far with it
pub reached_by : (s : Scenario) (steps : List Step) (x y : Schedule) (next : Step) → Advances s x next y → (reached : IsReached s steps x) (events : List Event) → Run s (world_from s reached.start) events y.world
    → IsReached s (steps ++ next ∷ []) y
reached_by s steps x y next advances reached events run = record {
  start = reached.start;
  first = reached.first;
  allowed = reached.allowed;
  scheduled = scheduled_then s _ _ _ steps next reached.scheduled advances;
  events = events;
  run = run;
}

-- a turn is one event, or changes nothing of the world
pub reached_more : (s : Scenario) (steps : List Step) (x y : Schedule) (h : ℕ) (wanted : How) (o : Option Entry) → Turn s x h wanted y → HappensBy s h o x.world y.world → IsReached s steps x
    → IsReached s (steps ++ step.Of h wanted ∷ []) y
reached_more s steps x y h wanted None turn same reached = reached_by s steps x y (step.Of h wanted) turn reached reached.events (subst (λ w. Run s (world_from s reached.start) reached.events w) (sym same) reached.run)
reached_more s steps x y h wanted (Some e) turn one reached =
    reached_by s steps x y (step.Of h wanted) turn reached (reached.events ++ one.event ∷ []) (run_then s _ _ _ reached.events one.event reached.run one.happens)

-- the steps before step i have led here, with room for one item more at each step
pub record IsRunning (s : Scenario) (steps : List Step) (i : ℕ) (c : Course) : Type 0 where
  pub reached : IsReached s (take i steps) (schedule_of c)
  pub stands : StandsFor s c.unit (map participation_of c.participants.items)
  pub room : vec_capacity c.history ≡ length steps
  pub few : vec_len c.history ≤ i

pub running_more : (s : Scenario) (steps : List Step) (i : ℕ) (or next : Step) (c d : Course) → i < length steps → IsRunning s steps i c
    → next ≡ get_or steps i or → ((before : List Step) → IsReached s before (schedule_of c) → IsReached s (before ++ next ∷ []) (schedule_of d))
    → StandsFor s d.unit (map participation_of d.participants.items)
    → vec_capacity d.history ≡ vec_capacity c.history → vec_len d.history ≤ vec_len c.history + 1 → IsRunning s steps (i + 1) d
running_more s steps i or next c d there running read more stands room few = record {
  reached = subst (λ zs. IsReached s zs (schedule_of d)) (sym (take_more steps i or there ∙ ap (λ z. take i steps ++ z ∷ []) (sym read))) (more (take i steps) running.reached);
  stands = stands;
  room = room ∙ running.room;
  few = let before : vec_len c.history ≤ i = running.few in omega arith;
}

pub replayed : (s : Scenario) (steps : List Step) (i : ℕ) (c : Course) (r : Result Replayed AllocError) → IsRunning s steps i c → length steps ≤ i
    → IfOk r (IsEndOf (schedule_of c)) → IfOk r (IsReplayed s steps)
replayed s steps i c (Ok r) running done outcome =
    let here : IsReached s steps (schedule_of c) = subst (λ zs. IsReached s zs (schedule_of c)) (take_all i steps done) running.reached in
    record {
      start = here.start;
      first = here.first;
      allowed = here.allowed;
      last = schedule_of c;
      run = here.scheduled;
      outcome = outcome;
      events = here.events;
      reached = here.run;
    }
replayed s steps i c (Err e) running done outcome = outcome

-- ---- turns that the unit answers

pub plain_replayed : (s : Scenario) (hosts : List ℕ) (i : ℕ) (c : Course) (r : Result Replayed AllocError) → IsRunning s (plain_steps hosts) i c → length hosts ≤ i
    → IfOk r (IsEndOf (schedule_of c)) → IfOk r (IsReplayed s (plain_steps hosts))
plain_replayed s hosts i c r running done outcome = replayed s (plain_steps hosts) i c r running (rw (length-map hosts (λ host. step.Of host how.Plain)) done) outcome

-- ---- how they stand

pub endings_of : (ps : List Participant) → endings (map (λ x. x.control) (map participation_of ps)) (map (λ x. x.plan) (map participation_of ps)) ≡ map (λ p. ending (participation_of p).control (participation_of p).plan) ps
endings_of [] = refl
endings_of (p ∷ ps) = ap (λ es. ending (participation_of p).control (participation_of p).plan ∷ es) (endings_of ps)

pub outcome_of : (c : Course) (r : Replayed) (ps : List Participant) (es : List Item) (n : ℕ) → ps ≡ c.participants.items → es ≡ c.history.items → n ≡ vec_len c.participants
    → r.history.items ≡ c.history.items → r.unit ≡ c.unit → map (λ e. Some (ending_of e)) r.ends.items ≡ map (λ p. ending (participation_of p).control (participation_of p).plan) ps
    → r.counts.items ≡ map (λ h. commands_by es h) (range_with_len 0 n) → IsEndOf (schedule_of c) r
outcome_of c r ps es n participants sends len history unit ends counts = record {
  history = history;
  unit = unit;
  ends = ends ∙ (ap (map (λ p. ending (participation_of p).control (participation_of p).plan)) participants ∙ sym (endings_of c.participants.items));
  counts =
      let all = len ∙ (c.participants.ok.0 ∙ sym (length-map (map participation_of c.participants.items) (λ x. x.plan) ∙ length-map c.participants.items participation_of)) in
      counts ∙ (ap (λ gs. map (λ h. commands_by gs h) (range_with_len 0 n)) sends ∙ ap (λ k. map (λ h. commands_by c.history.items h) (range_with_len 0 k)) all);
  trapped = trapped_ends c.participants.items r.ends.items (ends ∙ ap (map (λ p. ending (participation_of p).control (participation_of p).plan)) participants);
}
