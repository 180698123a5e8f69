-- What the nexuses of a scenario that fits are, as they are kept.
use Rattle.std.proofs.Common.{◌≡◌, ℕ, zero, suc, ◌+◌, ◌<◌, ◌≤◌, true, Bool, List, [], ◌∷◌, length, refl, sym, ap, ◌∙◌, subst, get_or, arith}
use Rattle.std.specs.Prelude.{map, vec_len}
use Rattle.std.specs.List.{All, list_all}
use Rattle.std.proofs.lemmas.Bool.{and_parts}
use Rattle.std.proofs.lemmas.List.{length-map}
use Rattle.pr_cdb.specs.declared.codes.TheConstants.{MOST_NEXUSES}
use Rattle.pr_roles.specs.declared.parts.Nexus.{Nexus as NexusPart}
use Rattle.pr_roles.specs.declared.parts.Parts.{Parts}
use Rattle.pr_roles.specs.Fitting.{Fits, is_nexus}
use Rattle.pr_roles.proofs.lemmas.Starts.AllowedStarts.{each_nexus, few_parts}
use Rattle.pr_roles.specs.Scenarios.{nexus_of, scenario_of, task_of}
use Rattle.pr_audit.specs.Auditors.{is_planned}
use Rattle.pr_world.specs.Rooms.{room_of}
use Rattle.pr_world.proofs.lemmas.Workings.Reserves.{room_of_nexus}
use Rattle.pr_shared.specs.Guests.{guests_of}

short_each : (keys : List ℕ) (ns : List NexusPart) (i : ℕ) (d : NexusPart) → list_all (is_nexus keys) (map nexus_of ns) ≡ true → i < length ns → room_of (task_of (get_or ns i d).task) ≤ 4096
short_each keys [] i d all there = absurd (omega arith)
short_each keys (n ∷ ns) zero d all there = room_of_nexus keys (nexus_of n) (and_parts (is_nexus keys (nexus_of n)) _ all).0
short_each keys (n ∷ ns) (suc i) d all there = short_each keys ns i d (and_parts (is_nexus keys (nexus_of n)) _ all).1 (omega arith)

whole : (p q : Parts) (ns : List NexusPart) → q ≡ p → ns ≡ q.nexuses.items → ns ≡ p.nexuses.items
whole p q ns same items = items ∙ ap (λ r. r.nexuses.items) same

-- ---- there are at most as many as a unit knows, and none has room for more than 4,096

pub few_nexuses : (p q : Parts) (ns : List NexusPart) → Fits (scenario_of p) → q ≡ p → ns ≡ q.nexuses.items → length ns ≤ MOST_NEXUSES
unfolding scenario_of
few_nexuses p q ns fits same items =
    omega (arith, few_parts p fits, ap length (whole p q ns same items))

pub short_nexuses : (p q : Parts) (ns : List NexusPart) → Fits (scenario_of p) → q ≡ p → ns ≡ q.nexuses.items → All (λ n. room_of (task_of n.task) ≤ 4096) ns
unfolding scenario_of
short_nexuses p q ns fits same items =
    subst (All (λ n. room_of (task_of n.task) ≤ 4096)) (sym (whole p q ns same items))
    (λ i d there. short_each p.keys.items p.nexuses.items i d (each_nexus (scenario_of p) fits) there)

-- ---- as many as guests are told of

pub known_nexuses : (p q : Parts) (ns : List NexusPart) (guests : List Bool) → guests_of (scenario_of p) ≡ guests → q ≡ p → ns ≡ q.nexuses.items → length ns ≡ length guests
unfolding scenario_of
known_nexuses p q ns guests are same items =
    ap length (whole p q ns same items) ∙ (sym (length-map (map nexus_of p.nexuses.items) (λ n. is_planned n.task) ∙ length-map p.nexuses.items nexus_of) ∙ ap length are)

pub number_of_guests : (p q : Parts) (n : ℕ) (guests : List Bool) → guests_of (scenario_of p) ≡ guests → q ≡ p → n ≡ vec_len q.nexuses → n ≡ length guests
number_of_guests p q n guests are same is = is ∙ (q.nexuses.ok.0 ∙ known_nexuses p q q.nexuses.items guests are same refl)

pub rooms_of_parts : (ns : List NexusPart) → map (λ n. room_of (task_of n.task) + 1) ns ≡ map (λ n. room_of n.task + 1) (map nexus_of ns)
rooms_of_parts [] = refl
rooms_of_parts (n ∷ ns) = ap (λ rs. (room_of (task_of n.task) + 1) ∷ rs) (rooms_of_parts ns)

pub rooms_are : (p q : Parts) (ns : List NexusPart) → q ≡ p → ns ≡ q.nexuses.items → map (λ n. room_of (task_of n.task) + 1) ns ≡ map (λ n. room_of n.task + 1) (scenario_of p).nexuses
unfolding scenario_of
rooms_are p q ns same items = ap (map (λ n. room_of (task_of n.task) + 1)) (whole p q ns same items) ∙ rooms_of_parts p.nexuses.items

-- the parts of an equal scenario have as many
pub number_of_nexuses : (p q r : Parts) (n : ℕ) → scenario_of p ≡ scenario_of q → r ≡ q → n ≡ vec_len r.nexuses → n ≡ length (scenario_of p).nexuses
unfolding scenario_of
number_of_nexuses p q r n equal same is =
    is ∙ (r.nexuses.ok.0 ∙ (ap (λ x. length x.nexuses.items) same ∙ (sym (length-map q.nexuses.items nexus_of) ∙ sym (ap (λ s. length s.nexuses) equal))))
