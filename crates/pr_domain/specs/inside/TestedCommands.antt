-- What is added to the tally of a command with the tests of its send.
use Rattle.std.specs.Prelude.{◌≡◌, ℕ, ◌+◌, ◌||◌, true, Some}
use Rattle.pr_script.specs.Grammar.{is_read_keys, is_read_reservation}
use Rattle.pr_sets.specs.declared.bit_set.BitSet.{BitSet}
use Rattle.pr_sets.specs.BitSets.{has}
use Rattle.pr_views.specs.declared.possibilities.Possibilities.{Possibilities}
use Rattle.pr_roles.specs.Keys.{key_at}
use Rattle.pr_views.specs.Possibilities.{Scope}
use Rattle.pr_views.specs.Portions.{view_in}
use Rattle.pr_regions.specs.declared.place.Place.{Place}
use Rattle.pr_regions.specs.Purposes.{Purpose, purpose_of}
use Rattle.pr_regions.specs.Gathering.{IsUniform}
use Rattle.pr_unit.specs.Demands.{is_not_admitted}
use Rattle.pr_regions.specs.Regions.{standing_of}
use Rattle.pr_domain.specs.declared.tally.Tally.{Tally}
use Rattle.pr_domain.specs.declared.tested.TestedCommand.{TestedCommand}
use Rattle.pr_domain.specs.inside.Tallies.{Grows, HasOneOf, IsReserved, IsOwners, IsOfScope, IsNothing, IsTally}

-- The registrations are alike to this one, which is one of them: the command is refused of each or of none, and each stands as this
-- one does to what it is for. A command that reads tells each from the others.
pub record AreAlike (q : TestedCommand) (registration : ℕ) (alike : BitSet) : Type 0 where
  pub itself : has alike registration ≡ true
  pub refused : (r : ℕ) → has alike r ≡ true → is_not_admitted (key_at q.keys.now r) q.command ≡ is_not_admitted (key_at q.keys.now registration) q.command
  pub stands : (purpose : Purpose) → purpose_of q.keys.now q.command ≡ Some purpose → (r : ℕ) → has alike r ≡ true → standing_of purpose r ≡ standing_of purpose registration
  pub uniform : IsUniform alike
  pub read : (is_read_keys q.command || is_read_reservation q.command) ≡ true → (r : ℕ) → has alike r ≡ true → r ≡ registration

-- where the command is of the place's sender, what the shown states leave in which the sender has one of these registrations
abbrev pub AddsSenders : Possibilities → Place → TestedCommand → BitSet → Tally → Tally → Type 0
AddsSenders view place q senders old new =
    (s : Scope) → IsOwners s q.keys.now view place → Grows (view_in s view) q.command q.tests.now old new (HasOneOf s place senders)

-- the old tally is of the reservations before that of the place, and the new one is of that one too
abbrev pub AddsReservation : Possibilities → Place → TestedCommand → Tally → Tally → Type 0
AddsReservation view place q old new =
    (s : Scope) (none : Tally) → IsOwners s q.keys.now view place → IsNothing none
    → Grows (view_in s view) q.command q.tests.now none old (IsReserved s place.reservation)
    → Grows (view_in s view) q.command q.tests.now none new (IsReserved s (place.reservation + 1))

-- the tally is of all states that the view shows, where it is one of so many nexuses and of this owner, who sends the command
abbrev pub IsTallyOf : Possibilities → ℕ → ℕ → TestedCommand → Tally → Type 0
IsTallyOf view hosts own q t =
    (s : Scope) → IsOfScope s hosts own q.keys.now view → IsTally (view_in s view) q.command q.tests.now t
