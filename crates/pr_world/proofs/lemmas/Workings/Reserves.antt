-- The room that is reserved is enough, and there are so many places.
use Rattle.pr_world.proofs.Common.{◌≡◌, ℕ, ◌+◌, ◌≤◌, true, List, [], ◌∷◌, map, length, vec_len, vec_capacity, refl, ap, ◌∙◌, subst, arith, list_all, nat_tests, Task, Scripted, Planned, Nexus, Scenario, nexus_of, scenario_of, Parts, IsReached, Course, participation_of, StandsFor, schedule_of}
use Rattle.std.proofs.Common.{◌*◌, nat_le, sum}
use Rattle.std.proofs.lemmas.Bool.{and_parts}
use Rattle.std.proofs.lemmas.List.Sums.{sum_by-cons}
use Rattle.pr_script.specs.Grammar.{script_fits}
use Rattle.pr_script.specs.Names.{is_name}
use Rattle.pr_roles.specs.declared.parts.Nexus.{Nexus as NexusPart}
use Rattle.pr_roles.specs.Scenarios.{task_of}
use Rattle.pr_roles.specs.Fitting.{Fits, is_nexus, is_role, is_start, is_task}
use Rattle.pr_roles.proofs.lemmas.Starts.AllowedStarts.{counted, each_nexus}
use Rattle.pr_world.specs.Rooms.{room_of}
use Rattle.pr_world.specs.inside.Workings.{commands_of, rooms, IsAtWork}

room_of_task : (keys : List ℕ) (t : Task) → is_task keys t ≡ true → room_of t ≤ 4096
room_of_task keys (Scripted script budget) fits =
    let limits = (and_parts (script_fits keys script) _ fits).1 in
    let most : nat_le budget 4096 ≡ true = (and_parts (nat_le 1 budget) (nat_le budget 4096) limits).1 in
    grind (arith, nat_tests)
room_of_task keys (Planned commands) fits =
    let most : nat_le (length commands) 256 ≡ true = (and_parts (nat_le (length commands) 256) _ fits).0 in
    grind (arith, nat_tests)

pub room_of_nexus : (keys : List ℕ) (n : Nexus) → is_nexus keys n ≡ true → room_of n.task ≤ 4096
room_of_nexus keys n fits =
    room_of_task keys n.task (and_parts (is_start keys n.start) _ (and_parts (is_role keys n.role) _ (and_parts (is_name n.name) _ fits).1).1).1

rooms_in : (keys : List ℕ) (ns : List Nexus) → list_all (is_nexus keys) ns ≡ true → sum (map (λ n. room_of n.task) ns) ≤ length ns * 4096
rooms_in keys [] fit = omega arith
rooms_in keys (n ∷ ns) fit =
    let parts = and_parts (is_nexus keys n) (list_all (is_nexus keys) ns) fit in
    omega (arith, sum_by-cons (λ x. x) (room_of n.task) (map (λ m. room_of m.task) ns), room_of_nexus keys n parts.0, rooms_in keys ns parts.1)

few_rooms : (s : Scenario) → Fits s → commands_of s ≤ 65536
few_rooms s fits = omega (arith, (counted s fits).1, rooms_in s.keys s.nexuses (each_nexus s fits))

rooms_of_parts : (ns : List NexusPart) → map (λ n. room_of (task_of n.task)) ns ≡ map (λ n. room_of n.task) (map nexus_of ns)
rooms_of_parts [] = refl
rooms_of_parts (n ∷ ns) = ap (λ rs. room_of (task_of n.task) ∷ rs) (rooms_of_parts ns)

pub rooms_are : (p q : Parts) (ns : List NexusPart) → q ≡ p → ns ≡ q.nexuses.items → sum (map (λ n. room_of (task_of n.task)) ns) ≡ commands_of (scenario_of p)
unfolding scenario_of
rooms_are p q ns same items =
    ap (λ ms. sum (map (λ n. room_of (task_of n.task)) ms)) (items ∙ ap (λ r. r.nexuses.items) same) ∙ ap sum (rooms_of_parts p.nexuses.items)

pub rooms_are_few : (p q : Parts) (ns : List NexusPart) → Fits (scenario_of p) → q ≡ p → ns ≡ q.nexuses.items → sum (map (λ n. room_of (task_of n.task)) ns) ≤ 65536
unfolding scenario_of
rooms_are_few p q ns fits same items =
    let few : commands_of (scenario_of p) ≤ 65536 = few_rooms (scenario_of p) fits in
    omega (arith, few, rooms_are p q ns same items)

-- the room that is reserved, of the parts
pub reserved : (p q : Parts) (ns : List NexusPart) (n : ℕ) → q ≡ p → ns ≡ q.nexuses.items → n ≡ sum (map (λ m. room_of (task_of m.task)) ns) → n + q.resets ≡ rooms (scenario_of p)
unfolding scenario_of
reserved p q ns n same items counted = ap (λ m. m + q.resets) (counted ∙ rooms_are p q ns same items) ∙ ap (λ r. commands_of (scenario_of p) + r.resets) same

pub at_work_at_first : (p q : Parts) (c : Course) (room : ℕ) → q ≡ p → room ≡ rooms (scenario_of p) → IsReached (scenario_of q) [] (schedule_of c)
    → StandsFor (scenario_of q) c.unit (map participation_of c.participants.items) → (vec_len c.history ≡ 0) × (vec_capacity c.history ≡ room) → IsAtWork (scenario_of p) c
at_work_at_first p q c room same enough reached stands reserved = record {
  steps = [];
  reached = subst (λ r. IsReached (scenario_of r) [] (schedule_of c)) same reached;
  stands = subst (λ r. StandsFor (scenario_of r) c.unit (map participation_of c.participants.items)) same stands;
  room = reserved.1 ∙ enough;
}
