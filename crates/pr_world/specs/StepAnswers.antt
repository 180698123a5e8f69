-- Agrees with docs/MODEL.md, 'Worlds, events and runs'.
-- What a step answers, and what it says.
use Rattle.std.specs.Prelude.{◌≡◌, ℕ, true, List, [], ◌∷◌, Option, Some, None, codes, slice_set}
use Rattle.pr_cdb.specs.declared.command.Command.{Command}
use Rattle.pr_script.specs.Scripts.{stopped}
use Rattle.pr_roles.specs.declared.entry.Entry.{Entry}
use Rattle.pr_roles.specs.Scenarios.{Scenario, Task, Scripted, Planned, role, task}
use Rattle.pr_roles.specs.Worlds.{control, standing_of}
use Rattle.pr_roles.specs.Schedules.{Schedule, plan, is_held_back}
use Rattle.pr_world.specs.declared.turn.Turn.{Turn}
use Rattle.pr_world.specs.declared.turn.Turn.TheVariants as turn

-- of the entry that was sent, if one was
abbrev pub IfSent : Turn → (Entry → Type 0) → Type 0
IfSent (turn.Sent e) P = P e
IfSent (turn.Stopped word) P = Unit {0}
IfSent turn.Held P = Unit {0}

-- of the word with which the nexus is stopped, if it is
abbrev pub IfStopped : Turn → (List ℕ → Type 0) → Type 0
IfStopped (turn.Sent e) P = Unit {0}
IfStopped (turn.Stopped word) P = P word.bytes
IfStopped turn.Held P = Unit {0}

-- if a command was passed over
abbrev pub IfHeld : Turn → Type 0 → Type 0
IfHeld (turn.Sent e) P = Unit {0}
IfHeld (turn.Stopped word) P = Unit {0}
IfHeld turn.Held P = P

-- The script of a host is stopped with this word; a guest has nothing left of its plan, and then the word is `end`.
abbrev pub IsStoppedBy : Option Task → Schedule → ℕ → List ℕ → Type 0
IsStoppedBy None x h word = ⊥
IsStoppedBy (Some (Scripted script budget)) x h word = standing_of (control x.world h) ≡ Some (stopped word)
IsStoppedBy (Some (Planned commands)) x h word = (plan x h ≡ []) × (word ≡ codes "end")

abbrev pub IsStopped : Scenario → Schedule → ℕ → List ℕ → Type 0
IsStopped s x h word = IsStoppedBy (task s h) x h word

-- the next command of the plan of h is held back: it is taken from the plan, and nothing else changes
pub record PassesOver (s : Scenario) (x : Schedule) (h : ℕ) (y : Schedule) : Type 0 where
  pub command : Command
  pub left : List Command
  pub next : plan x h ≡ command ∷ left
  pub held : is_held_back (role s h) x.world.unit h command ≡ true
  pub after : y ≡ record { world = x.world; plans = slice_set x.plans h left }
