-- Agrees with docs/FORMATS.md, 'Replaying'.
-- The steps of a replay: the nexuses that their words name, and how the commands of these are answered; or a reset, or a fetch.
use Rattle.std.specs.Prelude.{ℕ, ◌-◌, ◌==◌, ◌&&◌, ◌||◌, Bool, nat_lt, nat_le, if◌then◌else◌, List, length, take, drop, codes, bytes_eq, Option, Some, map, option_map}
use Rattle.std.specs.Borrow.{Bor}
use Rattle.pr_roles.specs.declared.how.How.{How}
use Rattle.pr_roles.specs.declared.how.How.TheVariants as how
use Rattle.pr_roles.specs.declared.step.Step.{Step}
use Rattle.pr_roles.specs.declared.step.Step.TheVariants.{Of, Reset, Fetched}
use Rattle.pr_trace.specs.TraceReadings.{number_of}
use Rattle.pr_commands.specs.EachWord.{each_of}
use Rattle.pr_commands.specs.declared.replays.TheConstants.{MOST_STEPS}

-- the words as a call has them
abbrev pub texts_of : List (Bor (List ℕ)) → List (List ℕ)
texts_of words = map (λ w. w.now) words

-- where this ending would begin in the word
abbrev pub front_of : List ℕ → List ℕ → ℕ
front_of ending word = length word - length ending

-- from the first of these versions on the word may have this ending, and has it
abbrev pub has_ending : ℕ → ℕ → List ℕ → List ℕ → Bool
has_ending since version ending word = nat_le since version && bytes_eq (drop (front_of ending word) word) ending

-- what is asked for of the nexus with this name
abbrev pub asked_of : List (List ℕ) → List ℕ → How → Option Step
asked_of names name how = option_map (λ host. Of host how) (number_of names name)

-- what is asked for of the nexus that is named before this ending
abbrev pub asked_before : List (List ℕ) → List ℕ → List ℕ → How → Option Step
asked_before names ending word how = asked_of names (take (front_of ending word) word) how

-- a fetch on the path of the nexus that is named before this ending
abbrev pub fetched_before : List (List ℕ) → List ℕ → List ℕ → Option Step
fetched_before names ending word = option_map Fetched (number_of names (take (front_of ending word) word))

-- from version 2 on a word may ask for a reset of the unit
abbrev pub is_reset_step : ℕ → List ℕ → Bool
is_reset_step version word = nat_le 2 version && bytes_eq word (codes ":reset")

-- `:reset` for a reset; `a` for a command of a that the unit answers, `a:busy` for one that BUSY answers, `a:full` for one that
-- TASK SET FULL does, and `a:early` for one to which the unit reports an attention before it looks at the reservation; `a:fetched`
-- for a fetch on the path of a
unfoldable pub step_in : ℕ → List (List ℕ) → List ℕ → Option Step
step_in version names word =
    if is_reset_step version word then Some Reset else (
    if has_ending 2 version (codes ":busy") word then asked_before names (codes ":busy") word how.Busy else (
    if has_ending 2 version (codes ":full") word then asked_before names (codes ":full") word how.Full else (
    if has_ending 3 version (codes ":early") word then asked_before names (codes ":early") word how.Early else (
    if has_ending 3 version (codes ":fetched") word then fetched_before names (codes ":fetched") word else
    asked_of names word how.Plain))))

-- all of them
abbrev pub steps_of : ℕ → List (List ℕ) → List (List ℕ) → Option (List Step)
steps_of version names words = each_of (step_in version names) words

-- no step, or more than there may be
abbrev pub has_wrong_count : List (List ℕ) → Bool
has_wrong_count steps = length steps == 0 || nat_lt MOST_STEPS (length steps)
