-- What a step answers is what its turn did.
use Rattle.pr_world.proofs.Common.{◌≡◌, ℕ, ◌<◌, true, List, [], ◌∷◌, ◌++◌, map, length, IsTrue, vec_len, vec_capacity, sym, ap, ◌∙◌, subst, arith, false≢true, IsSafe, Scenario, scenario_of, control, may_reset, is_trapped, How, Parts, Step, IsReached, Course, participation_of, HappensBy, StandsFor, schedule_of, does}
use Rattle.std.specs.Prelude.{codes}
use Rattle.arrayvec.specs.ArrayString.{ArrayString}
use Rattle.pr_roles.specs.Schedules.{Turn as IsTurn}
use Rattle.pr_world.specs.declared.act.Act.{Act}
use Rattle.pr_world.specs.declared.act.Act.TheVariants as act
use Rattle.pr_world.specs.declared.turn.Turn.{Turn}
use Rattle.pr_world.specs.declared.turn.Turn.TheVariants as turn
use Rattle.pr_world.specs.StepAnswers.{IfStopped, IfHeld, IsStopped, PassesOver}
use Rattle.pr_world.specs.inside.Turns.{entry_in, sends, stops, is_done, passes, doing_of}
use Rattle.pr_world.specs.inside.Workings.{IsAtWork}
use Rattle.pr_world.proofs.lemmas.Workings.Room.{reset_has_room, turn_has_room}
use Rattle.pr_world.proofs.lemmas.Turns.Nexuses.{HasItsTask, has_its_task, means, stopped_is, stopped_rests, done_is, done_rests, passed_over}

its_task_at : (s : Scenario) (c : Course) (h : ℕ) → IsAtWork s c → h < length s.nexuses → HasItsTask s (schedule_of c) h
its_task_at s c h at_work there = has_its_task s c.unit (map participation_of c.participants.items) c.history.items h at_work.stands there

-- ---- before the turn, or a reset

pub step_has_room : (wanted : How) (p q : Parts) (c : Course) (h : ℕ) → q ≡ p → IsSafe (scenario_of p) → IsAtWork (scenario_of p) c → h < length (scenario_of p).nexuses
    → does (scenario_of q) (schedule_of c) h wanted ≡ sends → vec_len c.history < vec_capacity c.history
step_has_room wanted p q c h same safe at_work there does_so =
    let s = scenario_of p in
    let here : does s (schedule_of c) h wanted ≡ sends = subst (λ r. does (scenario_of r) (schedule_of c) h wanted ≡ sends) same does_so in
    let less = turn_has_room wanted s at_work.steps (schedule_of c) h safe at_work.reached (its_task_at s c h at_work there) here in
    omega (arith, c.history.ok.0, at_work.room, less)

pub reset_finds_room : (p q : Parts) (c : Course) → q ≡ p → IsSafe (scenario_of p) → IsAtWork (scenario_of p) c → may_reset (scenario_of q) c.history.items ≡ true
    → vec_len c.history < vec_capacity c.history
reset_finds_room p q c same safe at_work may =
    let here : may_reset (scenario_of p) c.history.items ≡ true = subst (λ r. may_reset (scenario_of r) c.history.items ≡ true) same may in
    let less = reset_has_room (scenario_of p) at_work.steps (schedule_of c) safe at_work.reached here in
    omega (arith, c.history.ok.0, at_work.room, less)

pub never_trapped : (s : Scenario) (c : Course) (h : ℕ) → IsSafe s → IsAtWork s c → IsTrue (is_trapped (control (schedule_of c).world h)) → ⊥
unfolding IsSafe
never_trapped s c h safe at_work trapped =
    let free = (safe at_work.reached.start at_work.reached.allowed at_work.reached.events (schedule_of c).world at_work.reached.run h).0 in
    false≢true (sym free ∙ trapped)

-- ---- after it

-- what is known of the turn that led from one course to the other
pub record IsTurned (s : Scenario) (c : Course) (h : ℕ) (wanted : How) (a : Act) (d : Course) : Type 0 where
  pub has : HasItsTask s (schedule_of c) h
  pub does_so : doing_of a ≡ does s (schedule_of c) h wanted
  pub turn : IsTurn s (schedule_of c) h wanted (schedule_of d)
  pub happens : HappensBy s h (entry_in a) (schedule_of c).world (schedule_of d).world

pub is_turned : (wanted : How) (p q : Parts) (c d : Course) (h : ℕ) (a : Act) → q ≡ p → IsAtWork (scenario_of p) c → h < length (scenario_of p).nexuses
    → doing_of a ≡ does (scenario_of q) (schedule_of c) h wanted → IsTurn (scenario_of q) (schedule_of c) h wanted (schedule_of d)
    → HappensBy (scenario_of q) h (entry_in a) (schedule_of c).world (schedule_of d).world → IsTurned (scenario_of p) c h wanted a d
is_turned wanted p q c d h a same at_work there does_so turn happens = record {
  has = its_task_at (scenario_of p) c h at_work there;
  does_so = subst (λ r. doing_of a ≡ does (scenario_of r) (schedule_of c) h wanted) same does_so;
  turn = subst (λ r. IsTurn (scenario_of r) (schedule_of c) h wanted (schedule_of d)) same turn;
  happens = subst (λ r. HappensBy (scenario_of r) h (entry_in a) (schedule_of c).world (schedule_of d).world) same happens;
}

pub still_at_work : (p q : Parts) (c d : Course) (next : Step) → q ≡ p → IsAtWork (scenario_of p) c
    → ((steps : List Step) → IsReached (scenario_of q) steps (schedule_of c) → IsReached (scenario_of q) (steps ++ next ∷ []) (schedule_of d))
    → StandsFor (scenario_of q) d.unit (map participation_of d.participants.items) → vec_capacity d.history ≡ vec_capacity c.history → IsAtWork (scenario_of p) d
still_at_work p q c d next same at_work more stands room = record {
  steps = at_work.steps ++ next ∷ [];
  reached = subst (λ r. (steps : List Step) → IsReached (scenario_of r) steps (schedule_of c) → IsReached (scenario_of r) (steps ++ next ∷ []) (schedule_of d)) same more at_work.steps at_work.reached;
  stands = subst (λ r. StandsFor (scenario_of r) d.unit (map participation_of d.participants.items)) same stands;
  room = room ∙ at_work.room;
}

-- ---- what it did

pub said_stopped : (wanted : How) (s : Scenario) (c d : Course) (h : ℕ) (a : Act) (r : Turn) (word : ArrayString) → IsTurned s c h wanted a d → a ≡ act.Stopped word → r ≡ turn.Stopped word
    → IfStopped r (λ w. IsStopped s (schedule_of c) h w) × IfStopped r (λ w. schedule_of d ≡ schedule_of c)
said_stopped wanted s c d h a r word turned is said =
    let host = means wanted s (schedule_of c) h (stops word.bytes) turned.has (sym (ap doing_of is) ∙ turned.does_so) in
    subst (λ r. IfStopped r (λ w. IsStopped s (schedule_of c) h w) × IfStopped r (λ w. schedule_of d ≡ schedule_of c)) (sym said)
    (stopped_is s (schedule_of c) h word.bytes host, stopped_rests wanted s (schedule_of c) (schedule_of d) h word.bytes host turned.turn)

pub said_done : (wanted : How) (s : Scenario) (c d : Course) (h : ℕ) (a : Act) (r : Turn) (word : ArrayString) → IsTurned s c h wanted a d → a ≡ act.Finished → r ≡ turn.Stopped word → word.bytes ≡ codes "end"
    → IfStopped r (λ w. IsStopped s (schedule_of c) h w) × IfStopped r (λ w. schedule_of d ≡ schedule_of c)
said_done wanted s c d h a r word turned is said named =
    let guest = means wanted s (schedule_of c) h is_done turned.has (sym (ap doing_of is) ∙ turned.does_so) in
    subst (λ r. IfStopped r (λ w. IsStopped s (schedule_of c) h w) × IfStopped r (λ w. schedule_of d ≡ schedule_of c)) (sym said)
    (subst (IsStopped s (schedule_of c) h) (sym named) (done_is s (schedule_of c) h guest), done_rests wanted s (schedule_of c) (schedule_of d) h guest turned.turn)

pub said_held : (wanted : How) (s : Scenario) (c d : Course) (h : ℕ) (a : Act) (r : Turn) → IsTurned s c h wanted a d → a ≡ act.Held → r ≡ turn.Held
    → IfHeld r (PassesOver s (schedule_of c) h (schedule_of d))
said_held wanted s c d h a r turned is said =
    let guest = means wanted s (schedule_of c) h passes turned.has (sym (ap doing_of is) ∙ turned.does_so) in
    subst (λ r. IfHeld r (PassesOver s (schedule_of c) h (schedule_of d))) (sym said) (passed_over wanted s (schedule_of c) (schedule_of d) h guest turned.turn)
