-- What the functions that say which arm takes data keep.
use Rattle.std.specs.Prelude.{◌≡◌, ◌≢◌, ◌⊎◌, ℕ, ◌<◌, ◌≤◌, Bool, true, false, List, [], ◌∷◌, Option, Some, None, is_none, slice_index_or}
use Rattle.std.specs.List.{All, Contains}
use Rattle.pr_cdb.specs.declared.command.Kind.{Kind}
use Rattle.pr_cdb.specs.declared.command.Command.{Command}
use Rattle.pr_cdb.specs.declared.command.Command.TheVariants.{ReadKeys, ReadReservation}
use Rattle.pr_cdb.specs.declared.reply.Reply.{Reply}
use Rattle.pr_registry.specs.declared.held.Held.{Held}
use Rattle.pr_registry.specs.declared.held.Held.TheVariants.{One}
use Rattle.pr_registry.specs.Hosts.{is_key}
use Rattle.pr_unit.specs.UnitStates.{UnitState, IsWellFormed}
use Rattle.pr_unit.specs.Replies.{good, data_of}
use Rattle.pr_script.specs.declared.script.Test.{Test}
use Rattle.pr_script.specs.declared.script.Test.TheVariants as test
use Rattle.pr_script.specs.Takes.{matches}
use Rattle.pr_script.specs.Grammar.{test_fits}
use Rattle.pr_script.specs.declared.grammar.TheConstants.{WRITTEN_LENGTH}
use Rattle.pr_roles.specs.declared.limits.TheConstants.{MOST_KEYS}
use Rattle.pr_sets.specs.declared.bit_set.BitSet.{BitSet}
use Rattle.pr_views.specs.Possibilities.{Scope, IsScope, Registration, IsSo}
use Rattle.pr_views.specs.Portions.{HasSomebody}
use Rattle.pr_regions.specs.declared.region.Region.{Region}
use Rattle.pr_regions.specs.declared.region.Reading.{Reading}
use Rattle.pr_regions.specs.declared.key_reads.Ask.{Ask}
use Rattle.pr_regions.specs.declared.key_reads.Ask.TheVariants.{Always, Never, Somebody}
use Rattle.pr_regions.specs.Regions.{IsInRegion}
use Rattle.pr_regions.specs.Readings.{first_test, IsRead, AreReadings}
use Rattle.pr_regions.specs.inside.Parts.{any, only, Leaves}

-- what is known of the states whose data is read
pub record IsKnown (declared : List ℕ) (count : ℕ) (reserved : Option Held) (from own : ℕ) (s : Scope) (u : UnitState) : Type 0 where
  pub keys : s.keys ≡ declared
  pub hosts : s.hosts ≡ count
  pub scope : IsScope s
  pub formed : IsWellFormed u
  pub registry : u.registry.hosts ≡ s.hosts
  pub numbered : (g : ℕ) → g < s.hosts → (r : ℕ) × IsSo s u (Registration g r)
  pub held : u.registry.held ≡ reserved
  pub sender : IsSo s u (Registration from own)

-- READ KEYS and READ RESERVATION, with as much room for data as a text gives them
abbrev pub read_keys : Command
read_keys = ReadKeys WRITTEN_LENGTH

abbrev pub read_reservation : Command
read_reservation = ReadReservation WRITTEN_LENGTH

-- each test can stand with the command in a text with these keys
abbrev pub TestsFit : List ℕ → Command → List Test → Type 0
TestsFit keys c tests = All (λ t. test_fits keys c t ≡ true) tests

-- the reply that has the data
abbrev pub answer : UnitState → Command → Reply
answer u c = good (data_of u.registry c)

-- they are those under a reservation that another nexus holds alone, whoever holds and whoever sends
abbrev pub AreReadingsByHolder : List ℕ → List Test → List Reading → Type 0
AreReadingsByHolder keys tests readings =
    (hosts : ℕ) (kind : Kind) (holder sender own : ℕ) → holder ≢ sender → AreReadings keys hosts tests read_reservation (Some (One kind holder)) sender own readings

-- nobody but the sender has a registration that passes
abbrev pub HasNobody : Scope → UnitState → ℕ → (ℕ → Bool) → Type 0
HasNobody s u sender passes = (g r : ℕ) → g ≢ sender → IsSo s u (Registration g r) → passes r ≡ false

-- ---- READ KEYS

-- it matches in every known state; in none; or in those in which another has the key of this number
abbrev pub IsAsked : List ℕ → ℕ → Option Held → ℕ → ℕ → Command → Test → Ask → Type 0
IsAsked keys hosts held sender own c t Always = (s : Scope) (u : UnitState) → IsKnown keys hosts held sender own s u → matches t (answer u c) ≡ true
IsAsked keys hosts held sender own c t Never = (s : Scope) (u : UnitState) → IsKnown keys hosts held sender own s u → matches t (answer u c) ≡ false
IsAsked keys hosts held sender own c t (Somebody j) =
    ((s : Scope) (u : UnitState) → IsKnown keys hosts held sender own s u → HasSomebody s u sender (Some (only j)) → matches t (answer u c) ≡ true)
    × ((s : Scope) (u : UnitState) → IsKnown keys hosts held sender own s u → HasNobody s u sender (only j) → matches t (answer u c) ≡ false)

-- the number that it asks for is one of a key
abbrev pub HasFewer : Ask → Type 0
HasFewer Always = Unit {0}
HasFewer Never = Unit {0}
HasFewer (Somebody j) = (1 ≤ j) × (j ≤ MOST_KEYS)

-- the region in which all others have one of these registrations
abbrev pub open_to : BitSet → Region
open_to left = record { holder = left; others = left; somebody = None }

-- Of the first tests each reading names the one that takes the data, and in the states that are left none of them
-- does.
pub record AreReadSoFar (keys : List ℕ) (hosts : ℕ) (held : Option Held) (sender own : ℕ) (c : Command) (tests : List Test) (count : ℕ) (readings : List Reading) (left : BitSet) : Type 0 where
  pub covered : (s : Scope) (u : UnitState) → IsKnown keys hosts held sender own s u → IsRead s sender readings u ⊎ IsInRegion s sender (open_to left) u
  pub right : (s : Scope) (u : UnitState) (b : Reading) → IsKnown keys hosts held sender own s u → Contains readings b → IsInRegion s sender b.region u → first_test tests (answer u c) ≡ b.arm
  pub fails : (s : Scope) (u : UnitState) → IsKnown keys hosts held sender own s u → IsInRegion s sender (open_to left) u
      → (k : ℕ) (d : Test) → k < count → matches (slice_index_or tests k d) (answer u c) ≡ false

-- ---- READ RESERVATION

-- the test matches data with a reservation of this key, or with none
abbrev pub passes_held : Option ℕ → Test → Bool
passes_held key test.Good = true
passes_held key (test.GoodHas k) = false
passes_held key (test.GoodHeld k) = is_key key k
passes_held key test.GoodUnheld = is_none key
passes_held key test.Conflict = false
passes_held key test.Busy = false
passes_held key test.Full = false
passes_held key test.Attention = false
passes_held key (test.Sense sense) = false

-- Of the first keys each reading is of the states in which the holder has one, and names the arm that takes the
-- data.
pub record AreHeldSoFar (keys : List ℕ) (hosts : ℕ) (kind : Kind) (holder sender own : ℕ) (c : Command) (tests : List Test) (count : ℕ) (readings : List Reading) : Type 0 where
  pub covered : (s : Scope) (u : UnitState) (n : ℕ) → IsKnown keys hosts (Some (One kind holder)) sender own s u → IsSo s u (Registration holder n) → 1 ≤ n → n ≤ count
      → IsRead s sender readings u
  pub right : (s : Scope) (u : UnitState) (b : Reading) → IsKnown keys hosts (Some (One kind holder)) sender own s u → Contains readings b → IsInRegion s sender b.region u
      → first_test tests (answer u c) ≡ b.arm

-- the only reading is of all states, and has this arm
pub record IsEverywhere (taken : Option ℕ) (readings : List Reading) : Type 0 where
  pub reading : Reading
  pub alone : readings ≡ reading ∷ []
  pub whole : Leaves reading.region any any None
  pub arm : reading.arm ≡ taken
