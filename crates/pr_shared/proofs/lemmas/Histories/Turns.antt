-- What a turn under the lock says of the entry that it answers, and of who takes it.
use Rattle.std.proofs.Common.{◌≡◌, ℕ, zero, suc, Bool, true, List, [], ◌∷◌, length, length-append, Option, Some, None, refl, sym, ap, ◌∙◌, subst, arith}
use Rattle.std.specs.Prelude.{slice_set, option_map}
use Rattle.std.specs.List.{slice_get}
use Rattle.std.specs.Option.{option_map_or}
use Rattle.std.proofs.lemmas.Bool.{false≢true, and_parts}
use Rattle.std.proofs.lemmas.Option.{slice_get-map}
use Rattle.pr_cdb.specs.declared.command.Command.{Command}
use Rattle.pr_roles.specs.declared.how.How.{How}
use Rattle.pr_roles.specs.declared.step.Step.{Step}
use Rattle.pr_roles.specs.Schedules.{how_now, Schedule, Turn as IsTurn, TurnAs}
use Rattle.pr_roles.specs.Safety.{IsSafe}
use Rattle.pr_roles.specs.Scenarios.{Scenario, Nexus, Task, Scripted, Planned}
use Rattle.pr_roles.specs.Schedules as taken
use Rattle.pr_roles.specs.Worlds.{is_guest, is_guest_task}
use Rattle.pr_world.specs.declared.turn.Turn.{Turn}
use Rattle.pr_world.specs.declared.turn.Turn.TheVariants as turn
use Rattle.pr_world.specs.Courses.{IsOneEvent, IsReached}
use Rattle.pr_audit.specs.Auditors.{is_planned}
use Rattle.pr_world.specs.StepAnswers.{IfSent, IfHeld, PassesOver}
use Rattle.pr_shared.specs.Guests.{guests_of}
use Rattle.pr_shared.specs.Histories.{EndsLegally}

-- what was sent ends the history that the turn leads to
pub sent_legally : (guests : List Bool) (s t : Scenario) (h : ℕ) (x y : Schedule) (r : Turn) → guests_of s ≡ guests → t ≡ s → IsSafe t → (steps : List Step) × IsReached t steps y
    → IfSent r (λ e. IsOneEvent s h e x.world y.world) → IfSent r (EndsLegally guests)
sent_legally guests s t h x y (turn.Sent e) guests_are same safe reached one = record {
  scenario = t;
  guests_are = ap guests_of same ∙ guests_are;
  safe = safe;
  start = reached.1.start;
  first = reached.1.first;
  before = x.world.history;
  legal = (reached.1.events, y.world, reached.1.run, one.added);
}
sent_legally guests s t h x y (turn.Stopped word) guests_are same safe reached one = tt
sent_legally guests s t h x y turn.Held guests_are same safe reached one = tt

-- where a command is taken from a plan, the plans are others
changes_plans : (plans : List (List Command)) (h : ℕ) (c : Command) (left : List Command) → option_map_or (λ p. p) (slice_get plans h) [] ≡ c ∷ left → slice_set plans h left ≡ plans → ⊥
changes_plans [] h c left next same = let bad : [] ≡ c ∷ left = next in cc
changes_plans (p ∷ ps) zero c left next same =
    let here : left ≡ p = cc (same) in
    let long : length left ≡ length (c ∷ left) = ap length (here ∙ next) in
    absurd (omega (arith, long))
changes_plans (p ∷ ps) (suc h) c left next same = changes_plans ps h c left next (cc (same))

passes_plans : (s : Scenario) (x y : Schedule) (h : ℕ) → PassesOver s x h y → y.plans ≡ x.plans → ⊥
passes_plans s x y h passes same = changes_plans x.plans h passes.command passes.left passes.next (sym (ap (λ z. z.plans) passes.after) ∙ same)

guest_by : (s : Scenario) (h : ℕ) → is_guest s h ≡ true → slice_get (guests_of s) h ≡ Some true
guest_by s h is = slice_get-map (λ n. is_planned n.task) s.nexuses h ∙ by (slice_get s.nexuses h) is
  where
    of_task : (t : Task) → is_guest_task (Some t) ≡ true → Some (is_planned t) ≡ Some true
    of_task (Planned commands) guest = refl
    of_task (Scripted script budget) guest = absurd (false≢true guest)

    by : (o : Option Nexus) → is_guest_task (option_map_or (λ n. Some n.task) o None) ≡ true → option_map (λ n. is_planned n.task) o ≡ Some true
    by None guest = absurd (false≢true guest)
    by (Some n) guest = of_task n.task guest

held_by : (so : How) (s : Scenario) (x y : Schedule) (h : ℕ) → TurnAs s x h so y → PassesOver s x h y → slice_get (guests_of s) h ≡ Some true
held_by so s x y h (taken.passes line c left comes held after) passes = guest_by s h (and_parts (is_guest s h) _ held).0
held_by so s x y h (taken.rests none same) passes = absurd (passes_plans s x y h passes (ap (λ z. z.plans) same))
held_by so s x y h (taken.sends line c left comes free sent plans) passes =
    let more = ap (λ w. length w.history) sent.world in
    absurd (omega (arith, more, ap (λ z. length z.world.history) passes.after, length-append x.world.history))

-- just a guest passes over a command
pub held_guest : (wanted : How) (guests : List Bool) (s : Scenario) (x y : Schedule) (h : ℕ) (r : Turn) → guests_of s ≡ guests → IsTurn s x h wanted y → IfHeld r (PassesOver s x h y)
    → IfHeld r (slice_get guests h ≡ Some true)
held_guest wanted guests s x y h (turn.Sent e) guests_are turned passes = tt
held_guest wanted guests s x y h (turn.Stopped word) guests_are turned passes = tt
held_guest wanted guests s x y h turn.Held guests_are turned passes = subst (λ gs. slice_get gs h ≡ Some true) guests_are (held_by (how_now s x.world.history h wanted) s x y h turned passes)
