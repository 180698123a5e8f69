-- Agrees with docs/MODEL.md, 'Taking a reply'.
-- Which arm takes the data that READ KEYS and READ RESERVATION return, region by region.
use Rattle.std.specs.Prelude.{◌≡◌, ℕ, ◌<◌, List, Option, position}
use Rattle.std.specs.List.{Contains}
use Rattle.pr_cdb.specs.declared.command.Command.{Command}
use Rattle.pr_cdb.specs.declared.reply.Reply.{Reply}
use Rattle.pr_registry.specs.declared.held.Held.{Held}
use Rattle.pr_unit.specs.UnitStates.{UnitState, IsWellFormed}
use Rattle.pr_unit.specs.Replies.{good, data_of}
use Rattle.pr_script.specs.declared.script.Test.{Test}
use Rattle.pr_script.specs.Takes.{matches}
use Rattle.pr_views.specs.Possibilities.{Scope, IsScope, Registration, IsSo}
use Rattle.pr_regions.specs.declared.region.Reading.{Reading}
use Rattle.pr_regions.specs.Regions.{IsInRegion, IsUntestedOrRegistered}

-- the first of the tests that the reply passes
abbrev pub first_test : List Test → Reply → Option ℕ
first_test tests reply = position (λ test. matches test reply) tests

-- the state is in the region of one of the readings
pub record IsRead (s : Scope) (sender : ℕ) (readings : List Reading) (u : UnitState) : Type 0 where
  pub reading : Reading
  pub listed : Contains readings reading
  pub inside : IsInRegion s sender reading.region u

-- The states with this reservation in which the sender has this registration: each is in some reading's region,
-- and each reading names the arm that takes the data in the states of its region.
pub record AreReadings (keys : List ℕ) (hosts : ℕ) (tests : List Test) (c : Command) (held : Option Held) (sender registration : ℕ) (readings : List Reading) : Type 0 where
  pub covered : (s : Scope) (u : UnitState) → s.keys ≡ keys → s.hosts ≡ hosts → IsScope s → IsWellFormed u → u.registry.hosts ≡ s.hosts
      → ((g : ℕ) → g < s.hosts → (r : ℕ) × IsSo s u (Registration g r)) → u.registry.held ≡ held
      → IsSo s u (Registration sender registration) → IsRead s sender readings u
  pub right : (s : Scope) (u : UnitState) (b : Reading) → s.keys ≡ keys → s.hosts ≡ hosts → IsScope s → IsWellFormed u → u.registry.hosts ≡ s.hosts
      → ((g : ℕ) → g < s.hosts → (r : ℕ) × IsSo s u (Registration g r)) → u.registry.held ≡ held
      → IsSo s u (Registration sender registration) → Contains readings b → IsInRegion s sender b.region u
      → first_test tests (good (data_of u.registry c)) ≡ b.arm

-- so it is whatever the number of nexuses
abbrev pub AreReadingsOfAny : List ℕ → List Test → Command → Option Held → ℕ → ℕ → List Reading → Type 0
AreReadingsOfAny keys tests c held sender registration readings = (hosts : ℕ) → AreReadings keys hosts tests c held sender registration readings

-- that a nexus is not registered passes no test
abbrev pub IsProperReading : Reading → Type 0
IsProperReading b = IsUntestedOrRegistered b.region.somebody
