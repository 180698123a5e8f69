-- Agrees with docs/MODEL.md, 'The order in which a request is answered'.
-- Answers of a disk that reports an attention before it looks at the reservation.
use Rattle.std.specs.Prelude.{◌≡◌, ℕ, Bool, true, false, not, ◌&&◌, Result, Ok, Err}
use Rattle.pr_cdb.specs.declared.reply.Reply.{Reply}
use Rattle.pr_cdb.specs.declared.wire.Request.{Request}
use Rattle.pr_cdb.specs.declared.wire.Bad.{Bad}
use Rattle.pr_unit.specs.Attentions.{power_on}
use Rattle.pr_unit.specs.Conduct.{conflicts}
use Rattle.pr_unit.specs.Steps.{ReportsEarly}
use Rattle.pr_unit.specs.TakenSteps.{ReportsLowest, TakenStep}
use Rattle.pr_unit.specs.UnitStates.{UnitState, is_pending, is_any_pending}

-- true: the unit may report so, and the state is the one after it; false: it may not, and nothing changes
abbrev pub IsFollowedEarly : UnitState → ℕ → Request → Reply → Bool → UnitState → Type 0
IsFollowedEarly u h q r true v = ReportsEarly u h q r v
IsFollowedEarly u h q r false v = (v ≡ u) × ((after : UnitState) → ReportsEarly u h q r after → ⊥)

-- the same of the bytes of a command: bytes that are no request have no reply
abbrev pub FollowsEarly : UnitState → ℕ → Result Request Bad → Reply → Bool → UnitState → Type 0
FollowsEarly u h (Ok q) r follows v = IsFollowedEarly u h q r follows v
FollowsEarly u h (Err bad) r true v = ⊥
FollowsEarly u h (Err bad) r false v = v ≡ u

-- ---- which of its answers this unit gives

-- it may report before it looks at the reservation: no power on is pending, but something else, and the request conflicts
abbrev pub is_early : UnitState → ℕ → Request → Bool
is_early u h q = not (is_pending u h power_on) && (conflicts u.registry h q && is_any_pending u h)

-- It reports the lowest code where it may report so (true), and else it answers as always.
abbrev pub EarlyStep : Bool → UnitState → ℕ → Request → Reply → UnitState → Type 0
EarlyStep true u h q r v = ReportsEarly u h q r v × ReportsLowest u h q r
EarlyStep false u h q r v = TakenStep u h q r v

abbrev pub TakenEarly : UnitState → ℕ → Request → Reply → UnitState → Type 0
TakenEarly u h q r v = EarlyStep (is_early u h q) u h q r v

-- the same of the bytes of a command: bytes that are no request change nothing
abbrev pub ExecutesEarly : UnitState → ℕ → Result Request Bad → Result Reply Bad → UnitState → Type 0
ExecutesEarly u h (Ok q) (Ok r) v = TakenEarly u h q r v
ExecutesEarly u h (Err bad) (Err b) v = (b ≡ bad) × (v ≡ u)
ExecutesEarly u h (Ok q) (Err bad) v = ⊥
ExecutesEarly u h (Err bad) (Ok r) v = ⊥
