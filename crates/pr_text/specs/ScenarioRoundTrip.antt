-- Agrees with docs/FORMATS.md, 'The lines of a scenario'.
-- The lines that a scenario is written as, and what the reader makes of them.
use Rattle.std.specs.Prelude.{◌≡◌, ℕ, suc, nat_lt, List, [], ◌∷◌, ◌++◌, map, filter, Option, Some, None, Ok, Bool, true, false, not, ◌&&◌, ◌==◌, if◌then◌else◌}
use Rattle.std.specs.FinSet as set
use Rattle.std.specs.List.{All, flat_map, slice_get}
use Rattle.std.specs.Option.{option_map_or}
use Rattle.pr_registry.specs.declared.held.Held.{Held}
use Rattle.pr_registry.specs.declared.held.Held.TheVariants.{One, All as Everybody}
use Rattle.pr_attention.specs.declared.attention.Attention.{Attention}
use Rattle.pr_attention.specs.Attentions.{Codes, code_of, each_attention}
use Rattle.pr_attention.specs.CodeSets.{AreAttentions}
use Rattle.pr_roles.specs.Scenarios.{Scenario, Nexus, Task, Scripted, Planned}
use Rattle.pr_roles.specs.Starts.{CanStart}
use Rattle.pr_roles.specs.Worlds.{is_guest_task}
use Rattle.pr_roles.specs.Fitting.{Fits}
use Rattle.pr_lines.specs.declared.item.RefusalKind.{RefusalKind}
use Rattle.pr_lines.specs.declared.item.RefusalKind.TheVariants as refusal
use Rattle.pr_lines.specs.CommandWords.{without_keys}
use Rattle.pr_lines.specs.ScenarioLines.{StartReservation, nobody, single, everybody, ScenarioLine, fence_line, keys_line, nexus_line, start_line, pending_line, refusals_line, reservation_line, generation_line, resets_line, alone_line, order_line, role_line, script_line, plan_line, end_line, command_line, declares}
use Rattle.pr_text.specs.ScriptLines.{body_lines}
use Rattle.pr_text.specs.ScriptRoundTrip.{Line, line, script_said, all_said}
use Rattle.pr_text.specs.Declarations.{Declared, nothing}
use Rattle.pr_text.specs.Reading.{IsDeclaredBy}
use Rattle.pr_text.specs.Texts.{end_placed}

-- ---- a nexus, with this number on each line but those of sends, which have their own

-- a host has a script, a guest a plan
abbrev pub task_line : List ℕ → Task → ScenarioLine
task_line name (Scripted script budget) = declares (nexus_line false name)
task_line name (Planned commands) = declares (nexus_line true name)

abbrev pub attentions_in : Codes → List Attention
attentions_in codes = filter (λ a. set.contains codes (code_of a)) each_attention

-- where nothing is pending, nothing is written
abbrev pub pending_said : ℕ → List ℕ → List Attention → List Line
pending_said n name [] = []
pending_said n name (x ∷ xs) = line n (declares (pending_line name (x ∷ xs))) ∷ []

-- where a refusal may not come, nothing is written
abbrev pub refusals_said : ℕ → List ℕ → RefusalKind → ℕ → List Line
refusals_said n name r count = if count == 0 then [] else line n (declares (refusals_line r name count)) ∷ []

-- the lines of a task, the last of them included
abbrev pub task_said : ℕ → List ℕ → Task → List Line
task_said n name (Scripted script budget) = line n (declares (script_line name budget)) ∷ (script_said n (body_lines script) ++ line n end_line ∷ [])
task_said n name (Planned commands) = line n (declares (plan_line name)) ∷ (map (λ c. line n (command_line (without_keys c))) commands ++ line n end_line ∷ [])

-- a host's or guest's start, what is pending for it, how often it may be refused, its role and its task
abbrev pub details_said : ℕ → Nexus → List Line
details_said n x =
    line n (declares (start_line x.name x.start))
    ∷ (pending_said n x.name (attentions_in x.pending)
    ++ (refusals_said n x.name refusal.Busy x.busy
    ++ (refusals_said n x.name refusal.Full x.full
    ++ (map (λ c. line n (declares (role_line x.name c))) x.role ++ task_said n x.name x.task))))

-- ---- the whole

-- where no key is declared, nothing is written
abbrev pub keys_said : ℕ → List ℕ → List Line
keys_said n [] = []
keys_said n (k ∷ ks) = line n (declares (keys_line (k ∷ ks))) ∷ []

-- where the unit may not be reset, nothing is written
abbrev pub resets_said : ℕ → ℕ → List Line
resets_said n count = if count == 0 then [] else line n (declares (resets_line count)) ∷ []

-- a reservation, whose single holder is named
abbrev pub wanted_by : List Nexus → Option Held → StartReservation
wanted_by nexuses None = nobody
wanted_by nexuses (Some (One kind h)) = single kind (option_map_or (λ x. x.name) (slice_get nexuses h) [])
wanted_by nexuses (Some (Everybody kind)) = everybody kind

abbrev pub is_host : Nexus → Bool
is_host x = not (is_guest_task (Some x.task))

-- where it is not said that nobody else sends on a path, nothing is written
abbrev pub alone_said : ℕ → List ℕ → Bool → List Line
alone_said n name is_said = if is_said then line n (declares (alone_line (name ∷ []))) ∷ [] else []

-- the hosts of which that is said, by their numbers
abbrev pub all_alone_said : ℕ → (ℕ → Bool) → List Nexus → List Line
all_alone_said n is_said [] = []
all_alone_said n is_said (x ∷ xs) = alone_said n x.name (is_host x && is_said 0) ++ all_alone_said n (λ h. is_said (suc h)) xs

-- where it is not said that the disk looks at the reservation first, nothing is written
abbrev pub order_said : ℕ → Bool → List Line
order_said n is_said = if is_said then line n (declares order_line) ∷ [] else []

-- from version 3 on a line says of a host that nobody shares its path, and of the disk that it looks at the reservation first
abbrev pub says_alone : Scenario → ℕ → Bool
says_alone s h = nat_lt 2 s.version && not (s.shared h)

abbrev pub says_order : Scenario → Bool
says_order s = nat_lt 2 s.version && not s.early

abbrev pub lines_said : ℕ → Scenario → List Line
lines_said n s =
    line n (fence_line s.version)
    ∷ (keys_said n s.keys
    ++ (map (λ x. line n (task_line x.name x.task)) s.nexuses
    ++ (line n (declares (generation_line s.generation))
    ∷ (resets_said n s.resets
    ++ (line n (declares (reservation_line (map (wanted_by s.nexuses) s.reservations)))
    ∷ (flat_map (details_said n) s.nexuses ++ (all_alone_said n (says_alone s) s.nexuses ++ order_said n (says_order s))))))))

-- What is declared is whole where the last line has this number, and the scenario is just that.
pub record IsWhole (number : ℕ) (d : Declared) (s : Scenario) : Type 0 where
  pub faultless : end_placed number d ≡ Ok d
  pub kept : IsDeclaredBy d s

-- the lines have no fault, and what they declare is just this scenario
pub record IsSaid (n : ℕ) (s : Scenario) : Type 0 where
  pub declared : Declared
  pub faultless : all_said (lines_said n s) nothing ≡ Ok declared
  pub whole : IsWhole n declared s

-- Only hosts share their paths, and from version 3 on.
abbrev pub HostsShare : Scenario → Type 0
HostsShare s = (h : ℕ) → s.shared h ≡ true → (nat_lt 2 s.version && option_map_or is_host (slice_get s.nexuses h) false) ≡ true

-- The lines of a scenario have no fault, if its parts fit, some state is allowed to start from, only hosts share their paths, and
-- what may be pending are attentions.
abbrev pub ScenariosHaveNoFault : Type 0
ScenariosHaveNoFault = (n : ℕ) (s : Scenario) → Fits s → CanStart s → HostsShare s → All (λ x. AreAttentions x.pending) s.nexuses → IsSaid n s
