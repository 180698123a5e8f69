-- What is found of each landing, and where the possibilities of a landing come from.
use Rattle.std.specs.Prelude.{◌≡◌, ◌≢◌, ◌↔◌, ◌⊎◌, ℕ, zero, suc, ◌<◌, Bool, true, false, ◌==◌, ◌&&◌, not, nat_lt, IsTrue, List, [], Some, None}
use Rattle.std.specs.FinSet as set
use Rattle.std.specs.List.{All, slice_get}
use Rattle.pr_cdb.specs.declared.command.Command.{Command}
use Rattle.pr_cdb.specs.declared.reply.Reply.{Reply}
use Rattle.pr_cdb.specs.declared.reply.Status.TheVariants as status
use Rattle.pr_cdb.specs.declared.reply.Sense.{Sense}
use Rattle.pr_cdb.specs.declared.wire.Request.TheVariants.{Plain}
use Rattle.pr_attention.specs.declared.attention.Attention.{Attention}
use Rattle.pr_attention.specs.Attentions.{power_on, code_of}
use Rattle.pr_attention.specs.Flagged.{codes_of}
use Rattle.pr_unit.specs.UnitStates.{UnitState, is_pending, is_any_pending, effect, after_report}
use Rattle.pr_unit.specs.Conduct.{command_conflicts, command_fault}
use Rattle.pr_unit.specs.Replies.{good, check, conflict, refused_with, report, data_of}
use Rattle.pr_script.specs.declared.script.Test.{Test}
use Rattle.pr_script.specs.Takes.{matches}
use Rattle.pr_script.specs.declared.landing.Landing.{Landing}
use Rattle.pr_script.specs.declared.landing.Landing.TheVariants.{Arm, NoArm}
use Rattle.pr_script.specs.declared.landing.Class.{Class}
use Rattle.pr_script.specs.declared.landing.Class.TheVariants.{Good, Conflict, Busy, Full, Sense as WithSense}
use Rattle.pr_roles.specs.declared.how.Refusals.{Refusals}
use Rattle.pr_sets.specs.declared.bit_set.BitSet.{BitSet}
use Rattle.pr_sets.specs.BitSets.{has}
use Rattle.pr_sets.specs.Wides.{has_wide}
use Rattle.pr_views.specs.declared.possibilities.Possibilities.{Possibilities}
use Rattle.pr_sets.specs.declared.view_set.ViewSet.{Ghosts as ViewSet}
use Rattle.pr_views.specs.declared.view.ViewOf.{ViewOf}
use Rattle.pr_views.specs.Possibilities.{Scope, Item, IsSo, count_of_attentions}
use Rattle.pr_views.specs.Views.{View, IsPossible, Shows}
use Rattle.pr_views.specs.Portions.{view_in}
use Rattle.pr_views.specs.Rooms.{scope_of, view_of, AreAlike}
use Rattle.pr_domain.specs.declared.reporting.Unserved.{Unserved}
use Rattle.pr_domain.specs.declared.reporting.Unserved.TheVariants as refused
use Rattle.pr_domain.specs.Landings.{IsLanding}

-- ---- the arm for a reply whose data no test looks at

-- the test does not look at the data of a reply
abbrev pub IsBlind : Test → Type 0
IsBlind t = (r : Reply) (bytes : List ℕ) → matches t (record r { bytes = record { items = bytes } }) ≡ matches t r

-- a reply of the class, without data
abbrev pub reply_in : Class → Reply
reply_in Good = good []
reply_in Conflict = conflict
reply_in Busy = refused_with status.Busy
reply_in Full = refused_with status.TaskFull
reply_in (WithSense sense) = check sense

-- whether the test matches the replies of the class, where it does not look at their data
abbrev pub takes : Test → Class → Bool
takes t class = matches t (reply_in class)

-- none of the tests looks at the data of a reply of the class
abbrev pub AreBlind : List Test → Class → Type 0
AreBlind tests Good = All IsBlind tests
AreBlind tests Conflict = Unit {0}
AreBlind tests Busy = Unit {0}
AreBlind tests Full = Unit {0}
AreBlind tests (WithSense sense) = Unit {0}

-- ---- attentions after a report

-- once this attention of them was reported, those are left
abbrev pub IsAfter : ℕ → Attention → ℕ → Type 0
IsAfter q a n = (n < count_of_attentions) × (set.contains (codes_of q) (code_of a) ≡ true) × (codes_of n ≡ set.remove (codes_of q) (code_of a))

-- what is left of those below the bound of which it is one
pub record AreReported (bound : ℕ) (pending : BitSet) (a : Attention) (left : BitSet) : Type 0 where
  pub all : (q n : ℕ) → q < bound → has pending q ≡ true → IsAfter q a n → has left n ≡ true
  pub only : (n : ℕ) → has left n ≡ true → (q : ℕ) × (q < bound) × (has pending q ≡ true) × IsAfter q a n

-- the possible attentions among which there is no power on
abbrev pub AreCalm : Possibilities → BitSet → Type 0
AreCalm known calm = (q : ℕ) → has calm q ≡ ((has known.pending q && not (set.contains (codes_of q) power_on)) && nat_lt q count_of_attentions)

-- nothing, if that is possible
abbrev pub AreQuiet : Possibilities → BitSet → Type 0
AreQuiet known quiet = (q : ℕ) → has quiet q ≡ (has known.pending q && q == 0)

-- ---- outcomes

-- some outcome has this landing and this possibility
abbrev pub HasOutcome : Scope → List (Landing × Possibilities) → Landing → Item → Type 0
HasOutcome s outcomes l i = (k : ℕ) × (p : Possibilities) × (slice_get outcomes k ≡ Some (l, p)) × IsPossible (view_in s p) i

-- each outcome has some reservation, and each landing stands once
pub record AreKept (outcomes : List (Landing × Possibilities)) : Type 0 where
  pub reserved : (k : ℕ) (l : Landing) (p : Possibilities) → slice_get outcomes k ≡ Some (l, p) → (x : ℕ) × (has_wide p.reservations x ≡ true)
  pub once : (j k : ℕ) (l : Landing) (p q : Possibilities) → slice_get outcomes j ≡ Some (l, p) → slice_get outcomes k ≡ Some (l, q) → j ≡ k

-- the new outcomes have what the old ones have, and this
abbrev pub AreMore : Scope → List (Landing × Possibilities) → (Landing → Item → Type 0) → List (Landing × Possibilities) → Type 0
AreMore s old This new =
    (l : Landing) (i : Item) → HasOutcome s new l i ↔ (HasOutcome s old l i ⊎ This l i)

-- the outcome has the landing of the one that was found and, in a view like this one, its possibilities
pub record HasWords {S : Type 0} {sets : ViewSet S} (view : ViewOf S sets) (found : Landing × Possibilities) (outcome : Landing × ViewOf S sets) : Type 0 where
  pub landing : outcome.0 ≡ found.0
  pub alike : AreAlike view outcome.1
  pub same : (own : ℕ) (i : Item) → IsPossible (view_of own outcome.1) i ↔ IsPossible (view_in (scope_of own outcome.1) found.1) i

-- ---- where they come from

-- How a command ends: by the report of an attention, where it conflicts or does not; in a conflict, at fault, or GOOD with its
-- effect; or it is refused, by BUSY or by TASK SET FULL.
pub data Ending : Type 0 where
  Reports : Bool → Attention → Ending
  Conflicts : Ending
  Fails : Ending
  EndsGood : Ending
  Refuses : Unserved → Ending

-- the attention is reported, and is pending no more
abbrev pub IsReport : Command → ℕ → UnitState → Attention → Reply → UnitState → Type 0
IsReport c h u a r w = (is_pending u h (code_of a) ≡ true) × (r ≡ report (Plain c) (code_of a)) × (w ≡ after_report u h (code_of a))

-- it is not that of power on
abbrev pub IsLater : Attention → Type 0
IsLater a = code_of a ≢ power_on

-- a later one comes after power on, and where there is a conflict or not
abbrev pub MayReport : Command → ℕ → UnitState → Bool → Attention → Type 0
MayReport c h u conflicting a = IsLater a → (is_pending u h power_on ≡ false) × (command_conflicts u.registry h c ≡ conflicting)

abbrev pub refusal : Unserved → Reply
refusal refused.Busy = refused_with status.Busy
refusal refused.Full = refused_with status.TaskFull

-- such an end may come where the sender may meet these refusals, and the unit may report before a conflict or not
abbrev pub comes : Refusals → Ending → Bool
comes d (Reports false a) = true
comes d (Reports true a) = d.early
comes d Conflicts = true
comes d Fails = true
comes d EndsGood = true
comes d (Refuses refused.Busy) = d.busy
comes d (Refuses refused.Full) = d.full

-- in state u the command of h ends so, with this reply, and then the state is w
abbrev pub Ends : Ending → Command → ℕ → UnitState → Reply → UnitState → Type 0
Ends (Reports conflicting a) c h u r w = MayReport c h u conflicting a × IsReport c h u a r w
Ends Conflicts c h u r w = (is_pending u h power_on ≡ false) × (command_conflicts u.registry h c ≡ true) × (r ≡ conflict) × (w ≡ u)
Ends Fails c h u r w = (is_any_pending u h ≡ false) × (command_conflicts u.registry h c ≡ false) × (s : Sense) × (command_fault u.registry h c ≡ Some s) × (r ≡ check s) × (w ≡ u)
Ends EndsGood c h u r w = (is_any_pending u h ≡ false) × (command_conflicts u.registry h c ≡ false) × (command_fault u.registry h c ≡ None) × (r ≡ good (data_of u.registry c)) × (w ≡ effect u h c)
Ends (Refuses k) c h u r w = (r ≡ refusal k) × (w ≡ u)

-- where GOOD lands by the arm that takes the data, from 1, if one does
abbrev pub landing_at : ℕ → Landing
landing_at zero = NoArm Good
landing_at (suc n) = Arm n

-- from a shown state the owner's command ends so, with this landing, and this is so after it
pub record LandsBy (v : View) (c : Command) (tests : List Test) (ending : Ending) (l : Landing) (i : Item) : Type 0 where
  pub from : UnitState
  pub shown : Shows v from
  pub reply : Reply
  pub after : UnitState
  pub ends : Ends ending c v.scope.own from reply after
  pub landing : IsLanding tests reply l
  pub is : IsSo v.scope after i

-- so it lands by an end that may come where the owner may meet these refusals
abbrev pub LandsSomehow : View → Refusals → Command → List Test → Landing → Item → Type 0
LandsSomehow v d c tests l i = (ending : Ending) × IsTrue (comes d ending) × LandsBy v c tests ending l i

-- GOOD with the data taken by this arm
abbrev pub LandsGood : View → Command → List Test → ℕ → Landing → Item → Type 0
LandsGood v c tests arm l i = (l ≡ landing_at arm) × LandsBy v c tests EndsGood l i

-- a possibility of registrations and reservation as one way to end leaves them, and of these attentions, where
-- there is some of each
pub record IsOfWay (s : Scope) (way : Possibilities) (pending : BitSet) (i : Item) : Type 0 where
  pub reserved : (x : ℕ) × (has_wide way.reservations x ≡ true)
  pub pends : (q : ℕ) × (has pending q ≡ true)
  pub possible : IsPossible (view_in s (record way { pending = pending })) i
