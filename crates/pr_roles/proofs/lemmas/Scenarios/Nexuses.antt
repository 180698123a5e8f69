-- The nexuses of a scenario, and those of its parts.
use Rattle.pr_roles.proofs.Common.{◌≡◌, ℕ, ◌<◌, ◌≤◌, true, ◌&&◌, List, [], length, nat_lt, nat_le, slice_get, slice_index_or, Some, None, Option, option_map, sym, refl, ap, ◌∙◌, subst, arith, and_parts, nat_tests, slice_get-map, slice_get_within, Nexus, Scenario, nexus_of, option_map_or, Parts, nexus, task, scenario_of, Fits}
use Rattle.std.proofs.Common.{get_or}
use Rattle.std.proofs.lemmas.Bool.{leb-true}
use Rattle.std.proofs.lemmas.List.Sums.{AllPass-from_list_all}
use Rattle.std.proofs.lemmas.Option.{slice_get-get_or, slice_get_past, slice_get_read, get_or_from_slice_get}
use Rattle.pr_script.specs.Grammar.{script_fits}
use Rattle.pr_script.specs.Names.{is_name}
use Rattle.pr_script.specs.Trees.{script_of}
use Rattle.pr_script.specs.declared.script.Script.{Script}
use Rattle.pr_roles.specs.declared.parts.Nexus.{Nexus as NexusPart}
use Rattle.pr_roles.specs.declared.parts.Task.TheVariants as part
use Rattle.pr_roles.specs.Scenarios.{Scripted, role, task_of}
use Rattle.pr_roles.specs.Fitting.{is_role, is_start, is_task, is_nexus}
use Rattle.pr_roles.proofs.lemmas.Starts.AllowedStarts.{each_nexus}

-- each has a role and a task that fit
pub nexus_fits : (s : Scenario) (k : ℕ) (n : Nexus) → Fits s → nexus s k ≡ Some n → (is_role s.keys n.role ≡ true) × (is_task s.keys n.task ≡ true)
nexus_fits s k n fits there =
    let ns = s.nexuses in
    let one = subst (λ m. is_nexus s.keys m ≡ true) (get_or_from_slice_get ns k n n there) (AllPass-from_list_all (is_nexus s.keys) ns (each_nexus s fits) k n (slice_get_within ns k n there)) in
    let parts = (and_parts (is_name n.name) (is_role s.keys n.role && (is_start s.keys n.start && is_task s.keys n.task)) one).1 in
    let role = and_parts (is_role s.keys n.role) (is_start s.keys n.start && is_task s.keys n.task) parts in
    (role.0, (and_parts (is_start s.keys n.start) (is_task s.keys n.task) role.1).1)

-- ---- of parts

pub nexus_at : (p : Parts) (k : ℕ) (d : NexusPart) → k < length p.nexuses.items → nexus (scenario_of p) k ≡ Some (nexus_of (slice_index_or p.nexuses.items k d))
unfolding scenario_of
nexus_at p k d small = slice_get-map nexus_of p.nexuses.items k ∙ ap (option_map nexus_of) (slice_get-get_or p.nexuses.items k d small)

-- the same, of one that was read from the list
pub nexus_read : (p : Parts) (ns : List NexusPart) (i : ℕ) (n : NexusPart) → ns ≡ p.nexuses.items → n ≡ get_or ns i n → i < length ns → nexus (scenario_of p) i ≡ Some (nexus_of n)
unfolding scenario_of
nexus_read p ns i n are is below =
    slice_get-map nexus_of p.nexuses.items i ∙ ap (λ xs. option_map nexus_of (slice_get xs i)) (sym are) ∙ ap (option_map nexus_of) (slice_get_read ns (length ns) i n refl below is)

pub nexus_found : (p : Parts) (ns : List NexusPart) (i j : ℕ) (n : NexusPart) → ns ≡ p.nexuses.items → true ≡ nat_lt i (length ns) → n ≡ get_or ns i n → i ≡ j → nexus (scenario_of p) j ≡ Some (nexus_of n)
nexus_found p ns i j n are within is same =
    subst (λ k. nexus (scenario_of p) k ≡ Some (nexus_of n)) same (nexus_read p ns i n are is (grind (arith, nat_tests, within)))

-- one that is not there has no task
pub task_past : (s : Scenario) (i : ℕ) → length s.nexuses ≤ i → task s i ≡ None
task_past s i past = ap (λ (o : Option Nexus). option_map_or (λ m. Some m.task) o None) (slice_get_past s.nexuses i past)

-- the clauses of a part are those of the role
pub role_at : (p : Parts) (k : ℕ) (d : NexusPart) → k < length p.nexuses.items → (slice_index_or p.nexuses.items k d).role.clauses.items ≡ role (scenario_of p) k
role_at p k d small = sym (ap (λ o. option_map_or (λ n. n.role) o []) (nexus_at p k d small))

-- ---- of one that is kept

module _ (s : Scenario) (h : ℕ) (n : NexusPart) (is : nexus s h ≡ Some (nexus_of n)) where
  -- its role

  pub role_read : n.role.clauses.items ≡ role s h
  role_read = sym (ap (λ (o : Option Nexus). option_map_or (λ m. m.role) o []) is)

  pub role_fits : Fits s → is_role s.keys n.role.clauses.items ≡ true
  role_fits fits = (nexus_fits s h (nexus_of n) fits is).0

  -- its task

  pub task_read : task s h ≡ Some (task_of n.task)
  task_read = ap (λ (o : Option Nexus). option_map_or (λ m. Some m.task) o None) is

  pub scripted_task : (script : Script) (budget : ℕ) → n.task ≡ part.Scripted script budget → task s h ≡ Some (Scripted (script_of script) budget)
  scripted_task script budget same = task_read ∙ ap (λ t. Some (task_of t)) same

  pub scripted_fits : (script : Script) (budget : ℕ) → n.task ≡ part.Scripted script budget → Fits s → (script_fits s.keys (script_of script) ≡ true) × (budget ≤ 4096)
  scripted_fits script budget same fits =
      let of = subst (λ t. is_task s.keys (task_of t) ≡ true) same (nexus_fits s h (nexus_of n) fits is).1 in
      let both = and_parts (script_fits s.keys (script_of script)) (nat_le 1 budget && nat_le budget 4096) of in
      (both.0, leb-true budget 4096 (and_parts (nat_le 1 budget) (nat_le budget 4096) both.1).1)
