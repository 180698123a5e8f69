-- Agrees with SPC-4, 'Releasing', 'Preempting'; docs/MODEL.md, 'PREEMPT'.
-- What is so of a RELEASE and of a PREEMPT that end GOOD, and is asked of who calls for their effect.
use Rattle.std.specs.Prelude.{ℕ, Bool, not, ◌==◌, IsTrue, if◌then◌else◌, Option, is_some}
use Rattle.pr_cdb.specs.declared.command.Kind.{Kind}
use Rattle.pr_registry.specs.declared.held.Held.{Held}
use Rattle.pr_registry.specs.Hosts.{Keys, has_no_registrant}
use Rattle.pr_registry.specs.Registrations.{State, is_holder}
use Rattle.pr_registry.specs.Changes.{Case, is_held_by_all, is_replacing}

-- h holds the reservation
abbrev pub Holds : State → ℕ → Type 0
Holds u h = IsTrue (is_holder u h)

-- The key picks out registrations: it is some host's, or zero where all registrants hold. A PREEMPT with
-- any other key does not end GOOD.
abbrev pub picks_registrations : Keys → Option Held → ℕ → Bool
picks_registrations keys held sark = if sark == 0 then is_held_by_all held else not (has_no_registrant keys sark)

-- A PREEMPT that replaces a reservation has a type: without one it is at fault.
abbrev pub HasKindIfReplacing : Option Kind → Case → Type 0
HasKindIfReplacing kind case = IsTrue (is_replacing case) → IsTrue (is_some kind)
