-- Agrees with docs/MODEL.md, 'Roles'.
-- Whether the condition of a clause holds of a sender, by the reservation and whether the sender is registered.
use Rattle.std.specs.Prelude.{ℕ, Bool, true, false, ◌==◌, Option, Some, None, is_some}
use Rattle.pr_registry.specs.declared.held.Held.{Held}
use Rattle.pr_registry.specs.declared.held.Held.TheVariants.{One, All}
use Rattle.pr_roles.specs.declared.role.Condition.{Condition}
use Rattle.pr_roles.specs.declared.role.Condition.TheVariants as condition

-- the sender holds the reservation: the single holder, or each registrant (SPC-4, 'Persistent reservation holder')
abbrev pub is_holder_as : Option Held → ℕ → Bool → Bool
is_holder_as None sender registered = false
is_holder_as (Some (One kind h)) sender registered = h == sender
is_holder_as (Some (All kind)) sender registered = registered

abbrev pub holds_as : Option Condition → Option Held → ℕ → Bool → Bool
holds_as None held sender registered = true
holds_as (Some condition.Registered) held sender registered = registered
holds_as (Some condition.Holder) held sender registered = is_holder_as held sender registered
holds_as (Some condition.Reserved) held sender registered = is_some held
