-- Agrees with docs/FORMATS.md, 'Running'.
-- When a seat may take a turn, and what the turn does to it.
use Rattle.std.specs.Prelude.{◌≡◌, ◌<◌, Bool, true, false, List, [], ◌∷◌, vec_len, vec_capacity}
use Rattle.std.specs.Global.{Vec}
use Rattle.pr_roles.specs.declared.entry.Entry.{Entry}
use Rattle.pr_world.specs.declared.turn.Turn.{Turn}
use Rattle.pr_world.specs.declared.turn.Turn.TheVariants as turn

-- a seat that has not ended, and has room for an entry more in its list
abbrev pub MayTurn : Bool → Vec Entry → Type 0
MayTurn ended mine = (ended ≡ false) × (vec_len mine < vec_capacity mine)

-- the entry that was sent, if one was
abbrev pub added_by : Turn → List Entry
added_by (turn.Sent e) = e ∷ []
added_by (turn.Stopped word) = []
added_by turn.Held = []

abbrev pub is_stopped : Turn → Bool
is_stopped (turn.Sent e) = false
is_stopped (turn.Stopped word) = true
is_stopped turn.Held = false
