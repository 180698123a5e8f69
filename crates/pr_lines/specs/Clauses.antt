-- Agrees with docs/FORMATS.md, 'The lines of a scenario'; docs/FORMATS.md, 'Statements'.
-- The clauses of roles, and the arms of sends.
use Rattle.std.specs.Prelude.{ℕ, if◌then◌else◌, List, [], ◌∷◌, map, codes, bytes_eq, Option, Some, None, option_map}
use Rattle.pr_script.specs.declared.script.Test.{Test}
use Rattle.pr_script.specs.declared.script.Test.TheVariants as test
use Rattle.pr_roles.specs.declared.role.Action.{Action}
use Rattle.pr_roles.specs.declared.role.Action.TheVariants as action
use Rattle.pr_roles.specs.declared.role.Condition.{Condition}
use Rattle.pr_roles.specs.declared.role.Clause.{Clause}
use Rattle.pr_lines.specs.declared.clauses.TheConstants.{BARE_ACTIONS, CONDITIONS}
use Rattle.pr_script.specs.Chain.{◌>>=◌}
use Rattle.pr_lines.specs.Lookups.{lookup}
use Rattle.pr_lines.specs.TextLines.{only, if_alone}
use Rattle.pr_lines.specs.WordTerms.{key_or_zero, key_of, kind_of, sense_of}

-- ---- clauses

-- the action with the term that the first of these words is, and the words behind it
abbrev pub acting_on : {A : Type 0} → (A → Action) → (List ℕ → Option A) → List (List ℕ) → Option (Action × List (List ℕ))
acting_on acts f [] = None
acting_on acts f (w ∷ ws) = option_map (λ term. (acts term, ws)) (f w)

abbrev pub preempt_of : List (List ℕ) → Option (Action × List (List ℕ))
preempt_of [] = None
preempt_of (w ∷ ws) = key_or_zero w >>= λ key. acting_on (λ kind. action.Preempt key kind) kind_of ws

-- the action that a word names, with its key and type among the words behind it
unfoldable pub action_named : List ℕ → List (List ℕ) → Option (Action × List (List ℕ))
action_named word ws =
    if bytes_eq word (codes "register") then acting_on (λ key. action.Register key) key_of ws else (
    if bytes_eq word (codes "reserve") then acting_on (λ kind. action.Reserve kind) kind_of ws else (
    if bytes_eq word (codes "preempt") then preempt_of ws else
    option_map (λ a. (a, ws)) (lookup (map (λ row. (row.0.now, row.1)) BARE_ACTIONS) word)))

abbrev pub action_in : List (List ℕ) → Option (Action × List (List ℕ))
action_in [] = None
action_in (w ∷ ws) = action_named w ws

-- nothing, or `if` and a condition
abbrev pub condition_in : List (List ℕ) → Option (Option Condition)
condition_in [] = Some None
condition_in (w ∷ ws) =
    if bytes_eq w (codes "if") then (only ws >>= λ word. option_map (λ c. Some c) (lookup (map (λ row. (row.0.now, row.1)) CONDITIONS) word)) else None

-- the clause that these words are
abbrev pub clause_of : List (List ℕ) → Option Clause
clause_of ws = action_in ws >>= λ a. option_map (λ c. record { action = a.0; condition = c }) (condition_in a.1)

-- ---- arms

-- what an arm asks of a GOOD reply
abbrev pub good_of : List (List ℕ) → Option Test
good_of [] = Some test.Good
good_of (w ∷ ws) =
    if bytes_eq w (codes "has") then (only ws >>= λ word. option_map (λ key. test.GoodHas key) (key_of word)) else (
    if bytes_eq w (codes "held") then (only ws >>= λ word. option_map (λ key. test.GoodHeld key) (key_or_zero word)) else (
    if bytes_eq w (codes "unheld") then if_alone test.GoodUnheld ws else None))

-- what an arm asks of a reply
abbrev pub test_of : List (List ℕ) → Option Test
test_of [] = None
test_of (w ∷ ws) =
    if bytes_eq w (codes "good") then good_of ws else (
    if bytes_eq w (codes "conflict") then if_alone test.Conflict ws else (
    if bytes_eq w (codes "busy") then if_alone test.Busy ws else (
    if bytes_eq w (codes "full") then if_alone test.Full ws else (
    if bytes_eq w (codes "attention") then if_alone test.Attention ws else (
    if bytes_eq w (codes "sense") then (only ws >>= λ word. option_map (λ sense. test.Sense sense) (sense_of word)) else None)))))
