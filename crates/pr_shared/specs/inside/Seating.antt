-- Seats as they are made, and what gathers what they have.
use Rattle.std.specs.Prelude.{◌≡◌, ℕ, ◌+◌, ◌≤◌, List, map, vec_len, vec_capacity}
use Rattle.std.specs.Global.{Vec}
use Rattle.pr_roles.specs.declared.parts.Nexus.{Nexus}
use Rattle.pr_roles.specs.Scenarios.{task_of}
use Rattle.pr_world.specs.Rooms.{room_of}
use Rattle.pr_shared.specs.declared.round.Round as Round
use Rattle.pr_shared.specs.declared.seat.Seat.{Seat}

-- the numbers of their nexuses
abbrev pub hosts_of : {C : Type 0} {r : Round.Ghosts C} → List (Seat C r) → List ℕ
hosts_of seats = map (λ s. s.host) seats

-- each has room for one entry more than its nexus can send, of the nexuses as they are kept
abbrev pub HaveRoomAt : {C : Type 0} {r : Round.Ghosts C} → List Nexus → List (Seat C r) → Type 0
HaveRoomAt nexuses seats = map (λ s. vec_capacity s.mine) seats ≡ map (λ n. room_of (task_of n.task) + 1) nexuses

-- the list is empty, and has room for so many
abbrev pub HasRoomFor : {X : Type 0} → ℕ → Vec X → Type 0
HasRoomFor n xs = (vec_len xs ≡ 0) × (n ≤ vec_capacity xs)
