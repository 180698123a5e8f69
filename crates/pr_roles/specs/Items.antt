-- Agrees with docs/MODEL.md, 'Worlds, events and runs'.
-- What stands in a history: the commands of one and of all.
use Rattle.std.specs.Prelude.{ℕ, ◌==◌, if◌then◌else◌, Option, Some, None}
use Rattle.pr_roles.specs.declared.entry.Entry.{Entry}
use Rattle.pr_roles.specs.declared.item.Item.{Item}
use Rattle.pr_roles.specs.declared.item.Item.TheVariants.{Sent, Reset}

-- the command, of whomever
abbrev pub entry_in : Item → Option Entry
entry_in (Sent e) = Some e
entry_in Reset = None

-- the command, where it is one of h
abbrev pub entry_by : ℕ → Item → Option Entry
entry_by h (Sent e) = if e.host == h then Some e else None
entry_by h Reset = None
