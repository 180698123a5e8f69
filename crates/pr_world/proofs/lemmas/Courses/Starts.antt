-- A scenario at its first start.
use Rattle.pr_world.proofs.Common.{◌≡◌, List, [], ◌∷◌, map, Some, sym, refl, ap, ◌∙◌, UnitState, Nexus, Scenario, control_of, Item, is_free, is_planned, IsReached, Participation, schedule_by, StandsFor}
use Rattle.pr_roles.specs.Starts.{IsAllowedStart}
use Rattle.pr_roles.specs.FirstStarts.{first_state}
use Rattle.pr_roles.specs.Schedules.{plan_of}
use Rattle.pr_audit.proofs.lemmas.Auditors.Admissions.{free_from}
use Rattle.pr_world.specs.inside.Participations.{participation_from}

-- ---- each at its beginning

controls_from : (ns : List Nexus) → map (λ x. x.control) (map (λ n. participation_from n.task) ns) ≡ map (λ n. control_of n.task) ns
controls_from [] = refl
controls_from (n ∷ ns) = ap (λ ks. control_of n.task ∷ ks) (controls_from ns)

plans_from : (ns : List Nexus) → map (λ x. x.plan) (map (λ n. participation_from n.task) ns) ≡ map (λ n. plan_of n.task) ns
plans_from [] = refl
plans_from (n ∷ ns) = ap (λ ps. plan_of n.task ∷ ps) (plans_from ns)

tasks_from : (ns : List Nexus) → map (λ x. is_free x.control) (map (λ n. participation_from n.task) ns) ≡ map (λ n. is_planned n.task) ns
tasks_from [] = refl
tasks_from (n ∷ ns) = λ i. free_from n.task i ∷ tasks_from ns i

pub begun : (s : Scenario) (u : UnitState) (xs : List Participation) (es : List Item) → Some u ≡ first_state s → IsAllowedStart s u → xs ≡ map (λ n. participation_from n.task) s.nexuses → es ≡ []
    → IsReached s [] (schedule_by u xs es)
begun s u xs es first allowed participations none =
    let controls = ap (map (λ x. x.control)) participations ∙ controls_from s.nexuses in
    let plans = ap (map (λ x. x.plan)) participations ∙ plans_from s.nexuses in
    record {
      start = u;
      first = sym first;
      allowed = allowed;
      scheduled = λ i. record { world = record { unit = u; controls = controls i; history = none i }; plans = plans i };
      events = [];
      run = λ i. record { unit = u; controls = controls i; history = none i };
    }

pub stands_at_first : (s : Scenario) (u : UnitState) (xs : List Participation) → IsAllowedStart s u → xs ≡ map (λ n. participation_from n.task) s.nexuses → StandsFor s u xs
stands_at_first s u xs allowed participations = record {
  hosts = allowed.hosts;
  tasks = ap (map (λ x. is_free x.control)) participations ∙ tasks_from s.nexuses;
}
