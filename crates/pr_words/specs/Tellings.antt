-- Agrees with docs/FORMATS.md, 'Explaining'.
-- What is told of a history: just where an audit finds it legal.
use Rattle.std.specs.Prelude.{ℕ, List, Option, Some, None}
use Rattle.pr_roles.specs.declared.item.Item.{Item}
use Rattle.pr_roles.specs.Scenarios.{Scenario}
use Rattle.pr_audit.specs.Audits.{IsLegalFromFirst, IsFirstIllegal}

-- the whole history is legal from the first start, or the item at this place is the first that isn't
abbrev pub IsTold : Scenario → List Item → Option ℕ → Type 0
IsTold s history None = IsLegalFromFirst s history
IsTold s history (Some place) = IsFirstIllegal s history place
