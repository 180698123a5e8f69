-- Agrees with docs/FORMATS.md, 'Auditing'.
-- Whether the unit may answer a request with a given reply, and the state that it is in then.
use Rattle.std.specs.Prelude.{◌≡◌, ℕ, Bool, true, false, Result, Ok, Err}
use Rattle.pr_cdb.specs.declared.reply.Reply.{Reply}
use Rattle.pr_cdb.specs.declared.wire.Request.{Request}
use Rattle.pr_cdb.specs.declared.wire.Bad.{Bad}
use Rattle.pr_unit.specs.UnitStates.{UnitState}
use Rattle.pr_unit.specs.Steps.{Step}

-- True: the unit may answer so, and the state is the one after it. False: it may not, whatever the state
-- after it, and nothing changes.
abbrev pub IsFollowed : UnitState → ℕ → Request → Reply → Bool → UnitState → Type 0
IsFollowed u h q r true u' = Step u h q r u'
IsFollowed u h q r false u' = (u' ≡ u) × ((after : UnitState) → Step u h q r after → ⊥)

-- the same of the bytes of a command: bytes that are no request have no reply
abbrev pub Follows : UnitState → ℕ → Result Request Bad → Reply → Bool → UnitState → Type 0
Follows u h (Ok q) r follows u' = IsFollowed u h q r follows u'
Follows u h (Err bad) r true u' = ⊥
Follows u h (Err bad) r false u' = u' ≡ u
