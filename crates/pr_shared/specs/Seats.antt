-- Agrees with docs/FORMATS.md, 'Running'.
-- The seats of a run, and the entries that they keep.
use Rattle.std.specs.Prelude.{◌≡◌, ℕ, ◌+◌, List, map, vec_len, vec_capacity}
use Rattle.std.specs.List.{range_with_len, sum_by}
use Rattle.pr_roles.specs.declared.entry.Entry.{Entry}
use Rattle.pr_roles.specs.declared.item.Item.{Item}
use Rattle.pr_roles.specs.Scenarios.{Scenario}
use Rattle.pr_world.specs.Rooms.{room_of}
use Rattle.pr_shared.specs.declared.round.Round as Round
use Rattle.pr_shared.specs.declared.seat.Seat.{Seat}
use Rattle.pr_shared.specs.Histories.{entries_by}

-- there is one for each of so many nexuses, in order
abbrev pub AreInOrder : {C : Type 0} {r : Round.Ghosts C} → ℕ → List (Seat C r) → Type 0
AreInOrder n seats = map (λ s. s.host) seats ≡ range_with_len 0 n

-- each has room for one entry more than its nexus can send
abbrev pub HaveRoom : {C : Type 0} {r : Round.Ghosts C} → Scenario → List (Seat C r) → Type 0
HaveRoom s seats = map (λ s. vec_capacity s.mine) seats ≡ map (λ n. room_of n.task + 1) s.nexuses

-- the entries that each of them keeps
abbrev pub kept_by : {C : Type 0} {r : Round.Ghosts C} → List (Seat C r) → List (List Entry)
kept_by seats = map (λ s. s.mine.items) seats

-- how many entries they keep together
abbrev pub number_kept : {C : Type 0} {r : Round.Ghosts C} → List (Seat C r) → ℕ
number_kept seats = sum_by (λ s. vec_len s.mine) seats

-- what each of so many nexuses has sent in a history is what its seat keeps
abbrev pub HaveKept : {C : Type 0} {r : Round.Ghosts C} → ℕ → List (Seat C r) → List Item → Type 0
HaveKept n seats history = entries_by n history ≡ kept_by seats
