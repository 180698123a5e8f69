-- Agrees with docs/MODEL.md, 'Which parts make a scenario'; docs/FORMATS.md, 'Limits'.
-- Which parts make a scenario: the limits, and the conditions of its text.
use Rattle.std.specs.Prelude.{ℕ, Bool, true, false, if◌then◌else◌, ◌==◌, ◌&&◌, ◌||◌, not, nat_lt, nat_le, IsTrue, List, [], ◌∷◌, Option, Some, None, length, map, bytes_eq}
use Rattle.std.specs.List.{All, list_any, list_all}
use Rattle.pr_registry.specs.declared.held.Held.{Held}
use Rattle.pr_registry.specs.declared.held.Held.TheVariants.{One, All as Everybody}
use Rattle.pr_registry.specs.Registrations.{IsKey, is_all}
use Rattle.pr_registry.specs.Changes.{is_kind}
use Rattle.pr_script.specs.declared.limits.TheConstants.{MOST_BUDGET}
use Rattle.pr_script.specs.Names.{is_name}
use Rattle.pr_script.specs.Grammar.{is_declared, is_written_key, is_written, script_fits}
use Rattle.pr_script.specs.Versions.{is_script_of}
use Rattle.pr_roles.specs.declared.limits.TheConstants.{MOST_DECLARED_1, MOST_DECLARED_2, MOST_KEYS, MOST_CLAUSES, MOST_PLANNED, MOST_REFUSALS, MOST_RESETS}
use Rattle.pr_roles.specs.declared.role.Action.{Action}
use Rattle.pr_roles.specs.declared.role.Action.TheVariants as action
use Rattle.pr_roles.specs.declared.role.Clause.{Clause}
use Rattle.pr_roles.specs.Scenarios.{Scenario, Nexus, Task, Scripted, Planned}

-- no two are equal
abbrev pub are_distinct : {X : Type 0} → (X → X → Bool) → List X → Bool
are_distinct same [] = true
are_distinct same (x ∷ xs) = not (list_any (λ y. same y x) xs) && are_distinct same xs

-- ---- the parts of a nexus

-- a key that a clause names is declared, and a PREEMPT's may be zero
abbrev pub is_action : List ℕ → Action → Bool
is_action keys (action.Register key) = is_declared keys key
is_action keys action.Unregister = true
is_action keys (action.Reserve kind) = true
is_action keys action.Release = true
is_action keys action.Clear = true
is_action keys (action.Preempt key kind) = is_written_key keys key
is_action keys action.Read = true
is_action keys action.Write = true

abbrev pub is_role : List ℕ → List Clause → Bool
is_role keys clauses = nat_le (length clauses) MOST_CLAUSES && list_all (λ clause. is_action keys clause.action) clauses

-- free, or a declared key
abbrev pub is_alternative : List ℕ → Option ℕ → Bool
is_alternative keys None = true
is_alternative keys (Some key) = is_declared keys key

abbrev pub is_same_alternative : Option ℕ → Option ℕ → Bool
is_same_alternative None None = true
is_same_alternative None (Some k) = false
is_same_alternative (Some j) None = false
is_same_alternative (Some j) (Some k) = j == k

abbrev pub is_start : List ℕ → List (Option ℕ) → Bool
is_start keys alternatives =
    not (length alternatives == 0) && (list_all (is_alternative keys) alternatives && are_distinct is_same_alternative alternatives)

abbrev pub is_task : List ℕ → Task → Bool
is_task keys (Scripted script budget) = script_fits keys script && (nat_le 1 budget && nat_le budget MOST_BUDGET)
is_task keys (Planned commands) = nat_le (length commands) MOST_PLANNED && list_all (is_written keys) commands

abbrev pub is_nexus : List ℕ → Nexus → Bool
is_nexus keys n = is_name n.name && (is_role keys n.role && (is_start keys n.start && is_task keys n.task))

-- ---- the reservations

-- none, or one whose type belongs to its holders; a single holder is one of so many nexuses
abbrev pub is_reservation : ℕ → Option Held → Bool
is_reservation hosts None = true
is_reservation hosts (Some (One kind h)) = not (is_all kind) && nat_lt h hosts
is_reservation hosts (Some (Everybody kind)) = is_all kind

abbrev pub is_same_reservation : Option Held → Option Held → Bool
is_same_reservation None None = true
is_same_reservation None (Some held) = false
is_same_reservation (Some held) None = false
is_same_reservation (Some (One s g)) (Some (One t h)) = is_kind s t && g == h
is_same_reservation (Some (One s g)) (Some (Everybody t)) = false
is_same_reservation (Some (Everybody s)) (Some (One t h)) = false
is_same_reservation (Some (Everybody s)) (Some (Everybody t)) = is_kind s t

abbrev pub are_reservations : ℕ → List (Option Held) → Bool
are_reservations hosts vs = not (length vs == 0) && (list_all (is_reservation hosts) vs && are_distinct is_same_reservation vs)

-- ---- the whole

-- not too many keys, none of them zero, each declared once
pub record AreDeclared (keys : List ℕ) : Type 0 where
  pub each : All IsKey keys
  pub once : IsTrue (nat_le (length keys) MOST_KEYS && are_distinct (λ j k. j == k) keys)

-- hosts and guests together, by the version of the text
abbrev pub most_declared : ℕ → ℕ
most_declared version = if version == 1 then MOST_DECLARED_1 else MOST_DECLARED_2

-- one nexus at least, and not too many, each with a name of its own
abbrev pub are_nexuses : ℕ → List ℕ → List Nexus → Bool
are_nexuses version keys nexuses =
    not (length nexuses == 0) && (nat_le (length nexuses) (most_declared version)
    && (are_distinct bytes_eq (map (λ n. n.name) nexuses) && list_all (is_nexus keys) nexuses))

-- a version of texts
abbrev pub is_version : ℕ → Bool
is_version version = version == 1 || (version == 2 || version == 3)

-- no refusals in version 1, and else not too many
abbrev pub is_count : ℕ → ℕ → Bool
is_count version n = n == 0 || (nat_le 2 version && nat_le n MOST_REFUSALS)

-- no resets in version 1, and else not too many
abbrev pub are_resets : ℕ → ℕ → Bool
are_resets version n = n == 0 || (nat_le 2 version && nat_le n MOST_RESETS)

-- in versions 1 and 2 the disk looks at the reservation first
abbrev pub is_order : ℕ → Bool → Bool
is_order version early = not early || nat_lt 2 version

-- no arm that came with a later version
abbrev pub is_task_of : ℕ → Task → Bool
is_task_of version (Scripted script budget) = is_script_of version script
is_task_of version (Planned commands) = true

-- what this version of texts has
abbrev pub are_of : ℕ → List Nexus → Bool
are_of version nexuses = list_all (λ n. is_count version n.busy && (is_count version n.full && is_task_of version n.task)) nexuses

-- The parts can be those of a text of their version: each limit is kept, and each key that is written is declared.
pub record Fits (s : Scenario) : Type 0 where
  pub version : IsTrue (is_version s.version)
  pub dated : IsTrue (are_of s.version s.nexuses)
  pub resets : IsTrue (are_resets s.version s.resets)
  pub order : IsTrue (is_order s.version s.early)
  pub keys : AreDeclared s.keys
  pub reservations : IsTrue (are_reservations (length s.nexuses) s.reservations)
  pub nexuses : IsTrue (are_nexuses s.version s.keys s.nexuses)
