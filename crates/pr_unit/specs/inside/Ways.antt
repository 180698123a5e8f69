-- What has to be gone for an answer.
use Rattle.std.specs.Prelude.{◌≡◌, ◌⊎◌, ℕ, true, false}
use Rattle.pr_cdb.specs.declared.reply.Reply.{Reply}
use Rattle.pr_cdb.specs.declared.wire.Request.{Request}
use Rattle.pr_unit.specs.Attentions.{power_on}
use Rattle.pr_unit.specs.Conduct.{conflicts}
use Rattle.pr_unit.specs.Replies.{report}
use Rattle.pr_unit.specs.UnitStates.{UnitState, is_pending, after_report}
use Rattle.pr_unit.specs.SharedPaths.{silenced}

-- the attention is pending for the host, and the reply reports it
abbrev pub Tells : UnitState → ℕ → Request → Reply → ℕ → Type 0
Tells u h q r code = (is_pending u h code ≡ true) × (r ≡ report q code)

abbrev pub TellsAny : UnitState → ℕ → Request → Reply → Type 0
TellsAny u h q r = (code : ℕ) × Tells u h q r code

-- The state with most pending from which the request may be answered so, if it may: a power on comes before a conflict, and that
-- before what else is pending.
abbrev pub IsWayFor : UnitState → ℕ → Request → Reply → UnitState → Type 0
IsWayFor u h q r way =
    (Tells u h q r power_on × (way ≡ u))
    ⊎ ((Tells u h q r power_on → ⊥)
    × ((((conflicts u.registry h q ≡ true) ⊎ TellsAny u h q r) × (way ≡ after_report u h power_on))
    ⊎ ((conflicts u.registry h q ≡ false) × (TellsAny u h q r → ⊥) × (way ≡ silenced u h))))
