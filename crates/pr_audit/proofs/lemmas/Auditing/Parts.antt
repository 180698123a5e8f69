-- The nexuses of a scenario by its parts.
use Rattle.pr_audit.proofs.Common.{◌≡◌, ℕ, zero, suc, ◌<◌, true, false, List, [], ◌∷◌, map, length, get_or, Some, vec_len, option_map, sym, ap, ◌∙◌, subst, arith, list_all, option_map_or, nat_tests, length-map, slice_get-map, slice_get-get_or, Task, Scripted, Planned, Nexus, role, nexus, nexus_of, scenario_of, Parts}
use Rattle.std.proofs.Common.{nat_le, slice_index_or}
use Rattle.std.proofs.lemmas.List.{get_or-map}
use Rattle.std.proofs.lemmas.Bool.{and_parts}
use Rattle.pr_script.proofs.lemmas.Depths.FittingScripts.{shallow}
use Rattle.pr_script.specs.Names.{is_name}
use Rattle.pr_roles.specs.declared.parts.Nexus.{Nexus as NexusPart}
use Rattle.pr_roles.specs.Fitting.{Fits, is_nexus, is_role, is_start, is_task}
use Rattle.pr_roles.specs.Scenarios.{task_of}
use Rattle.pr_roles.proofs.lemmas.Scenarios.Nexuses.{nexus_at}
pub use Rattle.pr_roles.proofs.lemmas.Scenarios.Parts.{count_of_parts}
use Rattle.pr_roles.proofs.lemmas.Starts.AllowedStarts.{each_nexus}
use Rattle.pr_audit.specs.inside.Auditing.{IsShort}

-- ---- there is a part for each

pub nexus_within : (p q : Parts) (h i : ℕ) → h < length (scenario_of p).nexuses → q ≡ p → i ≡ h → i < vec_len q.nexuses
nexus_within p q h i there same at =
    let parts = count_of_parts p in
    let items = ap (λ r. length r.nexuses.items) same in
    let len = q.nexuses.ok.0 in
    omega arith

-- the part at this place is that of the nexus
pub named : (p q : Parts) (h i : ℕ) (n : NexusPart) → h < length (scenario_of p).nexuses → q ≡ p → i ≡ h → n ≡ slice_index_or q.nexuses.items i n → nexus (scenario_of p) h ≡ Some (nexus_of n)
named p q h i n there same at read =
    let small : h < length p.nexuses.items = let count = count_of_parts p in omega arith in
    let here = read ∙ (ap (λ (r : Parts). slice_index_or r.nexuses.items i n) same ∙ ap (λ j. slice_index_or p.nexuses.items j n) at) in
    nexus_at p h n small ∙ ap (λ (m : NexusPart). Some (nexus_of m)) (sym here)

-- the role of the nexus at this place
pub role_at : (p : Parts) (h : ℕ) (n : NexusPart) → h < length (scenario_of p).nexuses → n ≡ get_or p.nexuses.items h n → n.role.clauses.items ≡ role (scenario_of p) h
unfolding scenario_of
role_at p h n there is =
    let among : h < length p.nexuses.items = rw (← length-map p.nexuses.items nexus_of) there in
    sym (ap (λ o. option_map_or (λ m. m.role) o []) (slice_get-map nexus_of p.nexuses.items h ∙ ap (option_map nexus_of) (slice_get-get_or p.nexuses.items h n among ∙ ap Some (sym is))))

-- whether its path is shared
pub path_at : (p : Parts) (h : ℕ) (n : NexusPart) → h < length (scenario_of p).nexuses → n ≡ get_or p.nexuses.items h n → n.shared ≡ (scenario_of p).shared h
unfolding scenario_of
path_at p h n there is =
    let among : h < length p.nexuses.items = rw (← length-map p.nexuses.items nexus_of) there in
    ap (λ (m : NexusPart). m.shared) is ∙ sym (get_or-map (λ m. m.shared) p.nexuses.items h n false among)

-- ---- what fits is short

short_task : (keys : List ℕ) (t : Task) → is_task keys t ≡ true → IsShort t
short_task keys (Scripted script budget) is = shallow keys script (and_parts _ _ is).0
short_task keys (Planned commands) is = let fits : nat_le (length commands) 256 ≡ true = (and_parts _ _ is).0 in grind (arith, nat_tests)

short_nexus : (keys : List ℕ) (n : Nexus) → is_nexus keys n ≡ true → IsShort n.task
short_nexus keys n is = short_task keys n.task (and_parts (is_start keys n.start) _ (and_parts (is_role keys n.role) _ (and_parts (is_name n.name) _ is).1).1).1

short_each : (keys : List ℕ) (ns : List NexusPart) (i : ℕ) (d : NexusPart) → list_all (is_nexus keys) (map nexus_of ns) ≡ true → i < length ns → IsShort (task_of (get_or ns i d).task)
short_each keys [] i d all there = absurd (omega arith)
short_each keys (n ∷ ns) zero d all there = short_nexus keys (nexus_of n) (and_parts _ _ all).0
short_each keys (n ∷ ns) (suc i) d all there = short_each keys ns i d (and_parts _ _ all).1 (omega arith)

pub short_part : (p : Parts) (i : ℕ) (d : NexusPart) → Fits (scenario_of p) → i < length p.nexuses.items → IsShort (task_of (get_or p.nexuses.items i d).task)
unfolding scenario_of
short_part p i d fits there = short_each p.keys.items p.nexuses.items i d (each_nexus (scenario_of p) fits) there

pub short_at : (p q : Parts) (ns : List NexusPart) (i : ℕ) (n : NexusPart) → Fits (scenario_of p) → q ≡ p → ns ≡ q.nexuses.items → i < length ns → n ≡ get_or ns i n → IsShort (task_of n.task)
short_at p q ns i n fits same items there is =
    let whole : ns ≡ p.nexuses.items = items ∙ ap (λ r. r.nexuses.items) same in
    let there : i < length p.nexuses.items = rw (← whole) there in
    subst (λ m. IsShort (task_of m.task)) (sym (is ∙ ap (λ xs. get_or xs i n) whole)) (short_part p i n fits there)
