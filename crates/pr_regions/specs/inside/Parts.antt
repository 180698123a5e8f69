-- What the functions that make branches say of their parts.
use Rattle.std.specs.Prelude.{◌≡◌, ℕ, Bool, true, false, not, ◌==◌, ◌&&◌, ◌||◌, if◌then◌else◌, List, Option, Some, None}
use Rattle.std.specs.List.{All}
use Rattle.pr_cdb.specs.declared.command.Kind.{Kind}
use Rattle.pr_cdb.specs.declared.command.Kind.TheVariants.{WriteExclusive, ExclusiveAccess, WriteExclusiveRegistrantsOnly, ExclusiveAccessRegistrantsOnly, WriteExclusiveAllRegistrants, ExclusiveAccessAllRegistrants}
use Rattle.pr_cdb.specs.declared.command.Command.{Command}
use Rattle.pr_registry.specs.declared.held.Held.{Held}
use Rattle.pr_registry.specs.declared.held.Held.TheVariants.{One, All as Everybody}
use Rattle.pr_registry.specs.Registrations.{kind_of}
use Rattle.pr_unit.specs.UnitStates.{UnitState}
use Rattle.pr_sets.specs.declared.bit_set.BitSet.{BitSet}
use Rattle.pr_views.specs.Possibilities.{Scope}
use Rattle.pr_regions.specs.declared.region.Region.{Region}
use Rattle.pr_regions.specs.declared.region.Ending.{Ending}
use Rattle.pr_regions.specs.declared.region.Branch.{Branch}
use Rattle.pr_regions.specs.Purposes.{Purpose}
use Rattle.pr_unit.specs.declared.demand.Demand.TheVariants.{Preempt}
use Rattle.pr_regions.specs.declared.purpose.Standing.{Standing}
use Rattle.pr_regions.specs.declared.purpose.Standing.TheVariants.{Unregistered, Named, Other}
use Rattle.pr_regions.specs.declared.initiator.Initiator.{Initiator}
use Rattle.pr_regions.specs.declared.initiator.Preemption.{Preemption}
use Rattle.pr_regions.specs.Conditions.{is_holder_as}
use Rattle.pr_regions.specs.Transitions.{HasThose, never, Audience, audience}
use Rattle.pr_regions.specs.Regions.{Meets, IsInRegion, Ends, AreBranches, IsProper, HasRoom}

-- ---- words

abbrev pub any : ℕ → Bool
any r = true

abbrev pub is_of_registrant : ℕ → Bool
is_of_registrant r = not (r == 0)

-- the registrants, if this holds
abbrev pub told_if : Bool → ℕ → Bool
told_if b r = b && is_of_registrant r

-- each but this one
abbrev pub but : ℕ → ℕ → Bool
but j r = not (r == j)

-- each key but the one of this number
abbrev pub another : ℕ → ℕ → Bool
another j r = not (r == 0) && not (r == j)

-- this one
abbrev pub only : ℕ → ℕ → Bool
only j r = r == j

-- none, or the key of this number
abbrev pub free_or : ℕ → ℕ → Bool
free_or j r = r == j || r == 0

-- those who are told that the reservation was released, if it is replaced by one of another type
abbrev pub told_but : Bool → ℕ → ℕ → Bool
told_but b j r = b && another j r

-- CLEAR tells these that reservations were preempted
abbrev pub tells_of_clearing : (ℕ → Bool) → Audience
tells_of_clearing those = audience those never never

-- whoever loses one tells these that it was released
abbrev pub tells_of_loss : (ℕ → Bool) → Audience
tells_of_loss those = audience never those never

-- whoever removes registrations tells these that theirs was preempted
abbrev pub tells_of_removal : (ℕ → Bool) → Audience
tells_of_removal those = audience never never those

-- so does whoever replaces a reservation, and tells the rest that the old one was released
abbrev pub tells_of_replacement : (ℕ → Bool) → (ℕ → Bool) → Audience
tells_of_replacement rest those = audience never rest those

-- the sender's registration once its key is removed, if it has that key
abbrev pub lost_if : Bool → Option ℕ
lost_if own = if own then Some 0 else None

-- ---- regions and changes

-- a region's test passes these registrations, if it has one
abbrev pub IsTest : Option BitSet → Option (ℕ → Bool) → Type 0
IsTest None None = Unit {0}
IsTest None (Some passes) = ⊥
IsTest (Some w) None = ⊥
IsTest (Some w) (Some passes) = HasThose w passes

-- the region leaves these registrations to a holder and to the others, and has this test, if any
pub record Leaves (region : Region) (holder others : ℕ → Bool) (test : Option (ℕ → Bool)) : Type 0 where
  pub to_holder : HasThose region.holder holder
  pub to_others : HasThose region.others others
  pub tested : IsTest region.somebody test

-- ---- what is known of the sender

abbrev pub is_unregistered : Standing → Bool
is_unregistered Unregistered = true
is_unregistered Named = false
is_unregistered Other = false

abbrev pub is_named : Standing → Bool
is_named Unregistered = false
is_named Named = true
is_named Other = false

-- no single holder but the sender holds it
abbrev pub IsNotAnothers : Option Held → ℕ → Type 0
IsNotAnothers None sender = Unit {0}
IsNotAnothers (Some (One kind h)) sender = h ≡ sender
IsNotAnothers (Some (Everybody kind)) sender = Unit {0}

-- a sender that stands so holds the reservation
abbrev pub holds : Held → ℕ → Standing → Bool
holds held sender standing = is_holder_as (Some held) sender (not (is_unregistered standing))

-- under this type the sender may not read
abbrev pub keeps_from_reading : Kind → Held → ℕ → Standing → Bool
keeps_from_reading WriteExclusive held sender standing = false
keeps_from_reading ExclusiveAccess held sender standing = not (holds held sender standing)
keeps_from_reading WriteExclusiveRegistrantsOnly held sender standing = false
keeps_from_reading ExclusiveAccessRegistrantsOnly held sender standing = is_unregistered standing
keeps_from_reading WriteExclusiveAllRegistrants held sender standing = false
keeps_from_reading ExclusiveAccessAllRegistrants held sender standing = is_unregistered standing

-- under this type the sender may not write
abbrev pub keeps_from_writing : Kind → Held → ℕ → Standing → Bool
keeps_from_writing WriteExclusive held sender standing = not (holds held sender standing)
keeps_from_writing ExclusiveAccess held sender standing = not (holds held sender standing)
keeps_from_writing WriteExclusiveRegistrantsOnly held sender standing = is_unregistered standing
keeps_from_writing ExclusiveAccessRegistrantsOnly held sender standing = is_unregistered standing
keeps_from_writing WriteExclusiveAllRegistrants held sender standing = is_unregistered standing
keeps_from_writing ExclusiveAccessAllRegistrants held sender standing = is_unregistered standing

-- the reservation, if there is one, keeps the sender from it
abbrev pub is_kept_from : (Kind → Held → ℕ → Standing → Bool) → Option Held → ℕ → Standing → Bool
is_kept_from keeps None sender standing = false
is_kept_from keeps (Some v) sender standing = keeps (kind_of v) v sender standing

-- ---- how it ends

-- in every state that meets what is known it ends so
pub record AlwaysEnds (hosts : ℕ) (purpose : Purpose) (held : Option Held) (sender : ℕ) (standing : Standing) (ending : Ending) : Type 0 where
  pub ends : (s : Scope) (u : UnitState) (c : Command) → s.hosts ≡ hosts → Meets s purpose held sender standing u c → Ends s sender ending u c
  pub fits : HasRoom hosts ending

-- in a state of its region that meets what is known it ends as the branch says
pub record EndsIn (hosts : ℕ) (purpose : Purpose) (held : Option Held) (sender : ℕ) (standing : Standing) (branch : Branch) : Type 0 where
  pub ends : (s : Scope) (u : UnitState) (c : Command) → s.hosts ≡ hosts → Meets s purpose held sender standing u c → IsInRegion s sender branch.region u → Ends s sender branch.ending u c
  pub proper : IsProper branch
  pub fits : HasRoom hosts branch.ending

-- the branches tell how it ends, and their numbers fit
pub record Tell (hosts : ℕ) (purpose : Purpose) (held : Option Held) (sender : ℕ) (standing : Standing) (branches : List Branch) : Type 0 where
  pub right : AreBranches hosts purpose held sender standing branches
  pub proper : All IsProper branches
  pub fits : All (λ b. HasRoom hosts b.ending) branches

-- so it ends for this sender
abbrev pub EndsFor : Initiator → Purpose → Ending → Type 0
EndsFor s purpose ending = AlwaysEnds s.hosts purpose s.held s.number s.standing ending

-- the branches tell how it ends for this sender
abbrev pub TellFor : Initiator → Purpose → List Branch → Type 0
TellFor s purpose branches = Tell s.hosts purpose s.held s.number s.standing branches

-- the branches tell how this preemption ends
abbrev pub TellPreempted : Preemption → List Branch → Type 0
TellPreempted p branches = TellFor p.sender (Preempt p.key p.kind) branches
