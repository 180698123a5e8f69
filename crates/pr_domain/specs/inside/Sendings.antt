-- What is added to the outcomes of a command that is sent.
use Rattle.std.specs.Prelude.{◌≡◌, ◌↔◌, ◌⊎◌, ℕ, Bool, true, IsTrue, List}
use Rattle.pr_sets.specs.declared.bit_set.BitSet.{BitSet}
use Rattle.pr_attention.specs.declared.attention.Attention.TheVariants.{ReservationsPreempted, ReservationsReleased, RegistrationsPreempted}
use Rattle.pr_script.specs.declared.landing.Landing.{Landing}
use Rattle.pr_views.specs.declared.possibilities.Possibilities.{Possibilities}
use Rattle.pr_views.specs.Possibilities.{Scope, Item}
use Rattle.pr_views.specs.Views.{View}
use Rattle.pr_views.specs.Portions.{view_in}
use Rattle.pr_domain.specs.declared.reporting.Unserved.{Unserved}
use Rattle.pr_domain.specs.declared.reporting.Sending.{Sending}
use Rattle.pr_domain.specs.inside.Tallies.{IsTally, scope_at}
use Rattle.pr_domain.specs.inside.Reporting.{HasOutcome, AreMore, IsOfWay, Ending, Reports, Refuses, LandsBy, LandsSomehow, LandsGood}

abbrev pub scope_of_sending : Sending → Scope
scope_of_sending q = scope_at q.asked.keys.now q.hosts q.sender

-- the view of the states from which it is sent
abbrev pub view_of_sending : Sending → View
view_of_sending q = view_in (scope_of_sending q) q.known

-- the landing is this one, and the possibility is one of this way to end, beside these attentions
abbrev pub IsOfWayAt : Sending → Landing → Possibilities → BitSet → Landing → Item → Type 0
IsOfWayAt q landing way pending l i = (l ≡ landing) × IsOfWay (scope_of_sending q) way pending i

-- the tally is of the states from which the command is sent
abbrev pub IsTallied : Sending → Type 0
IsTallied q = IsTally (view_of_sending q) q.asked.command q.asked.tests.now q.tally.now

-- where such an end of the command lands, and what is possible after it
abbrev pub LandsOf : Sending → Ending → Landing → Item → Type 0
LandsOf q ending = LandsBy (view_of_sending q) q.asked.command q.asked.tests.now ending

-- If the tally is of the states from which the command is sent, the new outcomes have what the old ones have, and this.
abbrev pub AddsThis : Sending → (Landing → Item → Type 0) → List (Landing × Possibilities) → List (Landing × Possibilities) → Type 0
AddsThis q This old new = IsTallied q → AreMore (scope_of_sending q) old This new

-- so they have where such an end of the command lands
abbrev pub Adds : Sending → Ending → List (Landing × Possibilities) → List (Landing × Possibilities) → Type 0
Adds q ending old new = AddsThis q (LandsOf q ending) old new

-- so they have where GOOD lands whose data this arm takes
abbrev pub AddsGood : Sending → ℕ → List (Landing × Possibilities) → List (Landing × Possibilities) → Type 0
AddsGood q arm old new = AddsThis q (LandsGood (view_of_sending q) q.asked.command q.asked.tests.now arm) old new

-- so they have where the refusal lands, if the sender may meet it
abbrev pub AddsIf : Sending → Bool → Unserved → List (Landing × Possibilities) → List (Landing × Possibilities) → Type 0
AddsIf q declared refused old new = AddsThis q (λ l i. IsTrue declared × LandsOf q (Refuses refused) l i) old new

-- where a report lands that comes though the command conflicts
abbrev pub LandsEarly : Sending → Landing → Item → Type 0
LandsEarly q l i =
    (LandsOf q (Reports true ReservationsPreempted) l i ⊎ LandsOf q (Reports true ReservationsReleased) l i) ⊎ LandsOf q (Reports true RegistrationsPreempted) l i

-- so they have where such reports land, if the unit may report so
abbrev pub AddsEarly : Sending → List (Landing × Possibilities) → List (Landing × Possibilities) → Type 0
AddsEarly q old new = AddsThis q (λ l i. IsTrue q.refusals.early × LandsEarly q l i) old new

-- if the tally is of the states from which the command is sent, the outcomes have what it may come to there
abbrev pub AreOutcomesOf : Sending → List (Landing × Possibilities) → Type 0
AreOutcomesOf q outcomes =
    IsTallied q
    → (l : Landing) (i : Item) → HasOutcome (scope_of_sending q) outcomes l i ↔ LandsSomehow (view_of_sending q) q.refusals q.asked.command q.asked.tests.now l i
