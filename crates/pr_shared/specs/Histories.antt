-- Agrees with docs/FORMATS.md, 'Running'.
-- What was sent, by all and by one, and what ends a legal history.
use Rattle.std.specs.Prelude.{◌≡◌, ℕ, Bool, true, false, List, [], ◌∷◌, ◌++◌, Some, map}
use Rattle.std.specs.Global.{Vec}
use Rattle.std.specs.List.{count_by, filter_map, range_with_len}
use Rattle.pr_unit.specs.UnitStates.{UnitState}
use Rattle.pr_roles.specs.declared.entry.Entry.{Entry}
use Rattle.pr_roles.specs.declared.item.Item.{Item}
use Rattle.pr_roles.specs.declared.item.Item.TheVariants.{Sent, Reset}
use Rattle.pr_roles.specs.Scenarios.{Scenario}
use Rattle.pr_roles.specs.Safety.{IsSafe}
use Rattle.pr_roles.specs.LegalHistories.{IsLegal}
use Rattle.pr_roles.specs.Items.{entry_by}
use Rattle.pr_roles.specs.FirstStarts.{first_state}
use Rattle.pr_world.specs.Progress.{Progress}
use Rattle.pr_shared.specs.Guests.{guests_of}

-- a command, of whomever
abbrev pub is_sent : Item → Bool
is_sent (Sent e) = true
is_sent Reset = false

-- how many commands of a history were sent
abbrev pub sent_in : List Item → ℕ
sent_in history = count_by is_sent history

-- how many were sent in what led to this world
abbrev pub sent_so_far : Progress → ℕ
sent_so_far w = sent_in w.schedule.world.history

-- the entries of h, in order
abbrev pub entries_of : List Item → ℕ → List Entry
entries_of history h = filter_map (entry_by h) history

-- those of each of so many, by their numbers
abbrev pub entries_by : ℕ → List Item → List (List Entry)
entries_by n history = map (entries_of history) (range_with_len 0 n)

-- what these lists have
abbrev pub lists_of : List (Vec Entry) → List (List Entry)
lists_of lists = map (λ l. l.items) lists

-- The entry stands last in a history that is legal from the first start of a safe scenario with these guests.
pub record EndsLegally (guests : List Bool) (e : Entry) : Type 0 where
  pub scenario : Scenario
  pub guests_are : guests_of scenario ≡ guests
  pub safe : IsSafe scenario
  pub start : UnitState
  pub first : first_state scenario ≡ Some start
  pub before : List Item
  pub legal : IsLegal scenario start (before ++ Sent e ∷ [])
