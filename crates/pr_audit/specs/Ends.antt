-- Agrees with docs/FORMATS.md, 'Trace text'.
-- How nexuses stand at the end of a run, and how many commands of each its history has.
use Rattle.std.specs.Prelude.{◌≡◌, ℕ, Bool, true, false, List, [], ◌∷◌, length, Option, Some, None, map}
use Rattle.std.specs.List.{range_with_len}
use Rattle.pr_cdb.specs.declared.command.Command.{Command}
use Rattle.pr_script.specs.Scripts.{Standing, ready, stopped, standing_of_items}
use Rattle.pr_roles.specs.declared.item.Item.{Item}
use Rattle.pr_roles.specs.Schedules.{Schedule, plan}
use Rattle.pr_roles.specs.Worlds.{Control, Going, Trapped, Free, commands_by, control}
use Rattle.pr_audit.specs.declared.end.End.{End}
use Rattle.pr_audit.specs.declared.end.End.TheVariants as end

-- stopped with a word, ready at a line, trapped at a line, or with so many planned commands left
pub data Ending : Type 0 where
  stops : List ℕ → Ending
  waits : ℕ → Ending
  traps : ℕ → Ending
  leaves : ℕ → Ending

abbrev pub ending_of : End → Ending
ending_of (end.Stopped word) = stops word.bytes
ending_of (end.Ready line) = waits line
ending_of (end.Trapped line) = traps line
ending_of (end.Left planned) = leaves planned

abbrev pub ending_by : Option Standing → Option Ending
ending_by None = None
ending_by (Some (ready line command)) = Some (waits line)
ending_by (Some (stopped word)) = Some (stops word)

-- A script that is neither ready nor stopped has no end: no machine stands so.
abbrev pub ending : Control → List Command → Option Ending
ending (Going l) plan = ending_by (standing_of_items l)
ending (Trapped line) plan = Some (traps line)
ending Free plan = Some (leaves (length plan))

-- how h stands in a schedule
abbrev pub ending_in : Schedule → ℕ → Option Ending
ending_in x h = ending (control x.world h) (plan x h)

-- what these ends say, one after another
abbrev pub endings_of : List End → List (Option Ending)
endings_of ends = map (λ e. Some (ending_of e)) ends

-- the end of one that acts so, whatever plan of this length is left to it
abbrev pub IsEndBy : Control → ℕ → End → Type 0
IsEndBy k planned e = (plan : List Command) → length plan ≡ planned → ending k plan ≡ Some (ending_of e)

-- the ends of nexuses, each with what is left of its plan
abbrev pub endings : List Control → List (List Command) → List (Option Ending)
endings [] plans = []
endings (k ∷ ks) [] = []
endings (k ∷ ks) (plan ∷ plans) = ending k plan ∷ endings ks plans

abbrev pub is_trapped_end : End → Bool
is_trapped_end (end.Trapped line) = true
is_trapped_end (end.Stopped word) = false
is_trapped_end (end.Ready line) = false
is_trapped_end (end.Left planned) = false

-- how many commands of each of so many nexuses a history has
abbrev pub counts_by : ℕ → List Item → List ℕ
counts_by n history = map (λ h. commands_by history h) (range_with_len 0 n)

-- the same of a schedule
abbrev pub counts_in : Schedule → List ℕ
counts_in y = counts_by (length y.plans) y.world.history
